-- `calendar::parts::first_part` meets its contract.
use native.Mathlib.Omega.{arith}
use Rattle.calendar.specs.Walk.{key_said}
use Rattle.calendar.proofs.Pieces.{before-le}
use Rattle.calendar.proofs.Keys.{first-keyed, first-bare}
use Rattle.calendar.proofs.parts.first_part.Goals as goal

pub slice_bounds-find-end : goal.slice_bounds-find-end
slice_bounds-find-end c = omega (arith, c.find-to.ensures, before-le 59 c.args.s.now)

pub slice_bounds-key_named-end : goal.slice_bounds-key_named-end
slice_bounds-key_named-end c = omega (arith, c.find-to.ensures, before-le 59 c.args.s.now)

pub overflow_add-result : goal.overflow_add-result
overflow_add-result c = omega (arith, c.find-to.ensures, before-le 59 c.args.s.now)

pub returns-then-name-to : goal.returns-then-name-to
returns-then-name-to c = first-keyed c.args.s.now c.find-to.result c.find-name.result (key_said c.key_named.result) c.find-to.ensures c.find-name.ensures c.if-name-to.true c.key_named.ensures

pub returns-else-name-to : goal.returns-else-name-to
returns-else-name-to c = first-bare c.args.s.now c.find-to.result c.find-name.result 14 c.find-to.ensures c.find-name.ensures c.if-name-to.false
