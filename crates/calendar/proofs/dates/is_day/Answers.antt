-- `calendar::dates::is_day` meets its contract: its tests are the definition's, and a day up to the 28th stands in every month.
use Prim.Native.Nat.{◌≤◌}
use native.Mathlib.Nat.{le_trans}
use native.Mathlib.Omega.{arith}
use borrow.Author.Tests.{le-leb, lt-leb}
use Rattle.octets.specs.Classes.{between}
use Rattle.octets.proofs.Limits.{last-year}
use Rattle.calendar.specs.Gregorian.{is_day}
use Rattle.calendar.proofs.Days.{month-bounds}
use Rattle.calendar.proofs.dates.is_day.Goals as goal

pub returns-then-last-y : goal.returns-then-last-y
returns-then-last-y c = unfold is_day between in simp (last-year, lt-leb _ _ c.if-last-y.true)

pub returns-then-m-lt1 : goal.returns-then-m-lt1
returns-then-m-lt1 c = unfold is_day between in simp (last-year, le-leb _ _ c.if-last-y.false, lt-leb _ _ c.if-m-lt1.true)

pub returns-then-m-gt12 : goal.returns-then-m-gt12
returns-then-m-gt12 c = unfold is_day between in simp (last-year, le-leb _ _ c.if-last-y.false, le-leb _ _ c.if-m-lt1.false, lt-leb _ _ c.if-m-gt12.true)

pub returns-then-d-lt1 : goal.returns-then-d-lt1
unfolding is_day between
returns-then-d-lt1 c = simp
    (last-year, le-leb _ _ c.if-last-y.false, le-leb _ _ c.if-m-lt1.false, le-leb _ _ c.if-m-gt12.false, lt-leb _ _ c.if-d-lt1.true)

pub returns-then-d-le28 : goal.returns-then-d-le28
unfolding is_day between
returns-then-d-le28 c = let h : c.args.d ≤ 28 = omega arith in simp (
  last-year,
  le-leb _ _ c.if-last-y.false,
  le-leb _ _ c.if-m-lt1.false,
  le-leb _ _ c.if-m-gt12.false,
  le-leb _ _ c.if-d-lt1.false,
  le-leb _ _ (le_trans h (month-bounds c.args.y c.args.m c.if-m-lt1.false c.if-m-gt12.false).0),
)

pub returns : goal.returns
unfolding is_day between
returns c = simp (
  last-year,
  le-leb _ _ c.if-last-y.false,
  le-leb _ _ c.if-m-lt1.false,
  le-leb _ _ c.if-m-gt12.false,
  le-leb _ _ c.if-d-lt1.false,
  c.month_days.ensures,
)
