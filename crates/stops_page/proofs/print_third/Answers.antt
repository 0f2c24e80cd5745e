-- `stops_page::print_third` meets its contract: by the third line's end.
use Prim.Native.Nat.{ℕ}
use mathlib.Core.Path.{◌≡◌, refl, sym, ap}
use native.Mathlib.Omega.{arith}
use borrow.Author.Tests.{eqb-true, eqb-false}
use lib.ListN.{length, length-drop}
use Rattle.octets.proofs.Pen.{as-text}
use Rattle.stops_page.proofs.InputLines.{third-open, third-ended, third-more}
use Rattle.stops_page.proofs.print_third.Goals as goal

pub returns-in_default : goal.returns-in_default
returns-in_default c = as-text c.print_for.ensures (rw (c.chopped-start.ensures, c.chopped-rule.ensures) (third-open _ _ _ _ refl c.in_default.ensures))

pub returns-then-is_empty : goal.returns-then-is_empty
returns-then-is_empty c =
    let w = c.in-Some.ensures in
    let z : length c.in-Some.rest.now ≡ 0 = eqb-true _ 0 (sym c.if-is_empty.ensures) in
    as-text c.print_for-then-is_empty.ensures
    (rw (c.chopped-start.ensures, c.chopped-rule.ensures, c.chopped.ensures, w.0)
    (third-ended _ _ _ _ refl (let h = w.2 in omega (arith, ap length w.1, length-drop {A = ℕ}))))

pub returns : goal.returns
returns c =
    let w = c.in-Some.ensures in
    as-text c.put_bad.ensures
    (third-more _ _ _ _ refl w.2 (λ k. eqb-false _ 0 (sym c.if-is_empty.ensures) (let h = w.2 in omega (arith, ap length w.1, length-drop {A = ℕ}))))
