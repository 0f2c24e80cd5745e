-- `ical::property::holds_decoded` meets its contract.
use mathlib.Core.Path.{◌∙◌}
use native.Mathlib.Omega.{arith}
use borrow.Author.Tests.{le-leb}
use Rattle.values.specs.Coded.{sort_said}
use Rattle.values.proofs.Decoded.{told-some}
use Rattle.ical.proofs.PropertyTests.{decoded-taken, none-taken}
use Rattle.ical.proofs.property.holds_decoded.Goals as goal

pub slice_bounds-holds_values-end : goal.slice_bounds-holds_values-end
slice_bounds-holds_values-end c = omega (arith, (told-some _ _ _ _ c.decode-d.ensures _ c.in-Some.is).0)

pub returns-in-Some : goal.returns-in-Some
returns-in-Some c = c.holds_values.ensures ∙ decoded-taken _ _ _ _ c.decode-d.ensures (sort_said c.args.sort) c.args.many c.in-Some.is

pub returns-in-None : goal.returns-in-None
returns-in-None c = none-taken _ _ _ _ c.decode-d.ensures (sort_said c.args.sort) c.args.many (le-leb _ _ c.requires) c.in-None.is
