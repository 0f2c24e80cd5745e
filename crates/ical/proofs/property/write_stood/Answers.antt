-- `ical::property::write_stood` meets its contract.
use native.Mathlib.Omega.{arith}
use Rattle.octets.proofs.Pen.{front_same}
use Rattle.ical.proofs.PropertyTests.{not_taken, stood}
use Rattle.ical.proofs.property.write_stood.Goals as goal

pub returns-then-not-is_taken : goal.returns-then-not-is_taken
returns-then-not-is_taken c = (not_taken _ _ _ _ c.is_taken.ensures c.if-not-is_taken.true, front_same)

pub returns : goal.returns
returns c = stood c.args.k _ _ c.args.t.now _ _ _ _ c.write_tested.result c.is_taken.ensures c.if-not-is_taken.false (omega (arith, c.requires)) c.write_tested.ensures
