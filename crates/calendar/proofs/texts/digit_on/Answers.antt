-- `calendar::texts::digit_on` meets its contract: one digit more, or none at the text's end.
use Prim.Native.Nat.{ℕ, ◌+◌, ◌-◌, ◌*◌, ◌<◌}
use native.Mathlib.Omega.{arith}
use mathlib.Core.Path.{◌≡◌, ◌∙◌}
use lib.ListN.{get_or}
use Rattle.calendar.proofs.Numbers.{no_digit, one-digit}
use Rattle.calendar.proofs.texts.digit_on.Goals as goal

-- low
low_digit : (a c : ℕ) → c < 48 → a * 10 ≡ a * 10 + (c - 48)
low_digit a c h = omega arith

pub returns-then-t-at : goal.returns-then-t-at
returns-then-t-at c = (no_digit c.args.t.now c.args.at c.args.a c.if-t-at.true, omega arith)

pub returns-then-c-lt48 : goal.returns-then-c-lt48
returns-then-c-lt48 c = (low_digit c.args.a (get_or c.args.t.now c.args.at 0) c.if-c-lt48.true ∙ one-digit c.args.t.now c.args.at c.args.a c.if-t-at.false, omega arith)

pub overflow_cast-result : goal.overflow_cast-result
overflow_cast-result c = omega (arith, c.shared_slice_known-1.given c.args.at)

pub overflow_add-result : goal.overflow_add-result
overflow_add-result c = omega (arith, c.shared_slice_known-1.given c.args.at)

pub returns : goal.returns
returns c = (one-digit c.args.t.now c.args.at c.args.a c.if-t-at.false, omega (arith, c.shared_slice_known-1.given c.args.at))
