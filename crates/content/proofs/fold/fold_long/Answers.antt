-- `content::fold::fold_long` meets its contract.
use mathlib.Core.Path.{refl, sym, ap, ◌∙◌}
use Prim.Native.Nat.{◌+◌}
use mathlib.Core.List.{◌∷◌}
use lib.ListN.{drop}
use mathlib.Core.Bool.{not}
use lib.Dec.{eqb}
use native.Mathlib.Omega.{arith}
use Rattle.octets.proofs.Positions.{here, ended, part-rest, part_length}
use Rattle.octets.proofs.Limits.{most-columns}
use Rattle.content.specs.Folding.{cased}
use Rattle.content.proofs.Folding.{leads-start, leads-on, leads-end, cased-append, cased-one, cased-none}
use Rattle.content.proofs.fold.fold_long.Goals as goal

pub loop-i-init : goal.loop-i-init
loop-i-init g c = (omega arith, refl, leads-start)

pub fitting_end-end-requires : goal.fitting_end-end-requires
fitting_end-end-requires g c = omega (arith, most-columns)

pub fold_run-q-requires : goal.fold_run-q-requires
fold_run-q-requires g c = rw (part_length c.args.s.now c.loop-i.i c.fitting_end-end.result (omega arith) (omega arith)) c.fitting_end-end.ensures.2

pub loop-i-preserved-then-q-lt-SAFE_COLUMNS : goal.loop-i-preserved-then-q-lt-SAFE_COLUMNS
loop-i-preserved-then-q-lt-SAFE_COLUMNS g c = (omega arith, omega arith, leads-on c.loop-i.invariant.2 c.fold_run-q.ensures (ap (cased (not (eqb g.row.UPPER 0))) (part-rest _ c.loop-i.i c.fitting_end-end.result (omega arith)) ∙ cased-append (not (eqb g.row.UPPER 0)) _ _))

pub loop-i-preserved : goal.loop-i-preserved
loop-i-preserved g c = (omega arith, omega arith, leads-on c.loop-i.invariant.2 c.fold_octet-q.ensures (ap (cased (not (eqb g.row.UPPER 0))) (here _ _ c.loop-i-test.true) ∙ cased-one (not (eqb g.row.UPPER 0)) _ _ ∙ ap (λ x. x ∷ cased (not (eqb g.row.UPPER 0)) (drop (c.loop-i.i + 1) c.args.s.now)) (sym c.cased.ensures)))

pub returns : goal.returns
returns g c = leads-end c.loop-i.invariant.2 (ap (cased (not (eqb g.row.UPPER 0))) (ended _ _ c.loop-i-test.false) ∙ cased-none (not (eqb g.row.UPPER 0)))
