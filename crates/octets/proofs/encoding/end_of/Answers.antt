-- `octets::end_of` meets its contract.
use mathlib.Core.Path.{sym, ap, ◌∙◌}
use native.Mathlib.Omega.{arith}
use Rattle.octets.specs.Classes.{between}
use Rattle.octets.proofs.Characters.{awaited-not, inside-range, onward-first, onward-more, onward-not, onward-end}
use Rattle.octets.proofs.encoding.end_of.Goals as goal

pub returns-then-not-within : goal.returns-then-not-within
returns-then-not-within g c = λ d a. awaited-not d _ _ _ a c.args.s.now c.args.i (ap (between _ _) (sym c.peek.ensures) ∙ sym c.within.ensures ∙ c.if-not-within.true)

pub loop-k-init : goal.loop-k-init
loop-k-init g c = let e = ap (between _ _) (sym c.peek.ensures) ∙ sym c.within.ensures ∙ c.if-not-within.false in
    (omega (arith, inside-range _ _ c.args.s.now c.args.i c.requires.low e), λ d a. onward-first d c.args.s.now c.args.i g.row.MORE _ _ a e _ _ (omega arith) (omega arith))

pub returns-then-not-within-2 : goal.returns-then-not-within-2
returns-then-not-within-2 g c = λ d a. onward-not d c.args.s.now c.args.i _ _ (c.loop-k.invariant.1 d a) (omega arith) (omega arith)
    (ap (between _ _) (sym c.peek-in-loop-k.ensures) ∙ sym c.within-in-loop-k.ensures ∙ c.if-not-within-2.true)

pub loop-k-preserved : goal.loop-k-preserved
loop-k-preserved g c = let e = ap (between _ _) (sym c.peek-in-loop-k.ensures) ∙ sym c.within-in-loop-k.ensures ∙ c.if-not-within-2.false in (
  omega (arith, inside-range 128 191 c.args.s.now _ (omega arith) e),
  λ d a. onward-more d c.args.s.now c.args.i _ _ (c.loop-k.invariant.1 d a) (omega arith) (omega arith) _ _ (omega arith) (omega arith) e,
)

pub returns : goal.returns
returns g c = λ d a. onward-end d c.args.s.now c.args.i _ _ (c.loop-k.invariant.1 d a) _ (omega arith) (omega arith) (omega arith) (omega arith)
