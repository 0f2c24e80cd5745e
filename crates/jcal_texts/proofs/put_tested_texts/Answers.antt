-- `jcal_texts::put_tested_texts` meets its contract.
use Rattle.std.proofs.Common.{inl, inr}
use mathlib.Core.Bool.{true}
use mathlib.Core.Path.{◌≡◌, refl}
use borrow.Author.Tests.{eq-eqb, ne_eqb}
use lib.Dec.{eqb}
use Rattle.octets.specs.Basics.{◌or◌}
use Rattle.octets.proofs.Cases.{or-first, or-second, or-false}
use Rattle.octets.specs.Groups.{text_bare, text_as_is}
use Rattle.jcal_texts.proofs.Counts.{texts-stand, texts-differ, no-texts}
use Rattle.jcal_texts.proofs.put_tested_texts.Goals as goal

pub put_between-requires : goal.put_between-requires
put_between-requires c = unfold text_as_is text_bare in (refl, refl)

pub returns-in_err-q : goal.returns-in_err-q
returns-in_err-q c = rw c.from_residual.ensures (no-texts c.args.many _ _ c.in_err-q.ensures c.put_all-first.ensures)

pub returns-then-n-eq1 : goal.returns-then-n-eq1
returns-then-n-eq1 c = let h : (c.args.many or eqb c.in_ok-q.n 1) ≡ true = elim c.if-n-eq1.either [ inl e ↦ or-first _ e | inr e ↦ or-second c.args.many (eq-eqb _ 1 e.1) ] in
    texts-stand c.args.many _ _ _ _ c.in_ok-q.ensures c.put_all-first.ensures h

pub returns-else-n-eq1 : goal.returns-else-n-eq1
returns-else-n-eq1 c = texts-differ c.args.many _ _ _ _ c.in_ok-q.ensures c.put_all-first.ensures (or-false c.if-n-eq1.false.0 (ne_eqb _ 1 c.if-n-eq1.false.1))
