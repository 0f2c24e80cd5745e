-- `recurrence_set::places_up_to` meets its contract.
use Rattle.recurrence_set.proofs.Places.{places-few}
use Rattle.recurrence_set.specs.Searches.{places_up_to}
use borrow.Author.Tests.{lt-ltb, le-ltb}
use native.Mathlib.Omega.{arith}
use Rattle.recurrence_set.proofs.places_up_to.Goals as goal

pub returns-then-u-t : goal.returns-then-u-t
returns-then-u-t c = unfold places_up_to in rw (lt-ltb _ _ c.if-u-t.true)

pub overflow_add-result : goal.overflow_add-result
overflow_add-result c = let w = places-few c.args.unit c.args.t c.args.u c.requires.0 c.requires.1 in omega arith

pub overflow_cast-result : goal.overflow_cast-result
overflow_cast-result c = let w = places-few c.args.unit c.args.t c.args.u c.requires.0 c.requires.1 in omega arith

pub returns : goal.returns
returns c = unfold places_up_to in rw (le-ltb _ _ c.if-u-t.false)
