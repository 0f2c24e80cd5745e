-- `calendar::dates::leap_day` meets its contract: a year that 4 does not divide is divided by neither 100 nor 400, so the tests may begin with 4.
use Prim.Native.Nat.{◌%◌}
use mathlib.Core.Path.{◌≡◌}
use native.Mathlib.Omega.{arith}
use borrow.Author.Tests.{eq-eqb, ne_eqb}
use Rattle.calendar.specs.Gregorian.{leap_day}
use Rattle.calendar.proofs.Days.{by_4, by-100}
use Rattle.calendar.proofs.dates.leap_day.Goals as goal

pub returns-then-y-ne0 : goal.returns-then-y-ne0
unfolding leap_day
returns-then-y-ne0 c = let y = c.args.y in
    let h : y % 100 ≡ 0 → ⊥ = λ e. c.if-y-ne0.true (by_4 y e) in
    simp (ne_eqb _ _ (λ e. h (by-100 y e)), ne_eqb _ _ h, ne_eqb _ _ c.if-y-ne0.true)

pub returns-then-y-ne0-2 : goal.returns-then-y-ne0-2
unfolding leap_day
returns-then-y-ne0-2 c = let y = c.args.y in
    let h : y % 100 ≡ 0 → ⊥ = λ e. c.if-y-ne0-2.true (omega (arith, e)) in
    simp (ne_eqb _ _ (λ e. h (by-100 y e)), ne_eqb _ _ h, eq-eqb _ _ c.if-y-ne0.false)

pub returns-then-y-eq0 : goal.returns-then-y-eq0
returns-then-y-eq0 c = unfold leap_day in simp (eq-eqb _ _ c.if-y-eq0.true)

pub returns : goal.returns
unfolding leap_day
returns c = let h : c.args.y % 100 ≡ 0 = omega arith in simp (ne_eqb _ _ c.if-y-eq0.false, eq-eqb _ _ h)
