-- `calendar::texts::strip` meets its contract: the loop keeps the octets of the basic text (`Writing`).
use native.Mathlib.Omega.{arith}
use mathlib.Core.Path.{sym, ◌∙◌}
use Rattle.std.proofs.lemmas.Slice.Zip.{either_empty_from_Zip}
use Rattle.calendar.proofs.Slots.{has-room, skips, keeps-one, one-ends}
use Rattle.calendar.proofs.texts.strip.Goals as goal

pub bounds-octets-len : goal.bounds-octets-len
bounds-octets-len c = let w = has-room _ _ _ _ _ _ c.loop-f.invariant _ _ _ _ c.in-Some.ensures.steps.0 c.in-Some.ensures.steps.1 in omega arith

pub loop-f-preserved-then-not-is_added : goal.loop-f-preserved-then-not-is_added
loop-f-preserved-then-not-is_added c =
    keeps-one _ _ _ _ _ _ c.loop-f.invariant _ _ _ _ c.in-Some.ensures.steps.0 c.in-Some.ensures.steps.1 _ (sym c.is_added.ensures ∙ c.if-not-is_added.true) c.upper_octet.ensures

pub loop-f-preserved : goal.loop-f-preserved
loop-f-preserved c = skips _ _ _ _ _ _ c.loop-f.invariant _ _ _ _ c.in-Some.ensures.steps.0 c.in-Some.ensures.steps.1 (sym c.is_added.ensures ∙ c.if-not-is_added.false)

pub returns : goal.returns
returns c = one-ends _ _ _ _ _ _ c.loop-f.invariant (either_empty_from_Zip c.loop-f.f-iterator c.next.new.self c.next.result c.in-None.is c.next.ensures.steps)
