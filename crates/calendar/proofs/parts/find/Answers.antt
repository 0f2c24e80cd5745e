-- `calendar::parts::find` meets its contract: what is passed has no separator.
use native.Mathlib.Omega.{arith}
use Rattle.calendar.proofs.Pieces.{before-until}
use Rattle.calendar.proofs.parts.find.Goals as goal

pub returns : goal.returns
returns c = rw (before-until c.args.sep c.args.s.now) (omega (arith, c.find.ensures))
