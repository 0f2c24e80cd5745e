-- `ical::property::is_taken` meets its contract.
use mathlib.Core.Path.{◌∙◌}
use borrow.Author.Tests.{not-false}
use Rattle.ical.proofs.PropertyTests.{first-octets, taken-by-sort, taken-by-decoding}
use Rattle.ical.proofs.property.is_taken.Goals as goal

pub returns-then-is_decoded : goal.returns-then-is_decoded
returns-then-is_decoded c = rw (not-false c.args.k.taken c.if-not-k.false) (c.holds_decoded.ensures ∙ taken-by-decoding _ _ _ _ c.args.encoded c.sort_of-sort.ensures (c.text_at-x.ensures.part ∙ first-octets _ _) c.is_decoded.ensures c.if-is_decoded.true)

pub returns : goal.returns
returns c = rw (not-false c.args.k.taken c.if-not-k.false) (c.holds_values.ensures ∙ taken-by-sort _ _ _ _ c.args.encoded c.sort_of-sort.ensures (c.text_at-x.ensures.part ∙ first-octets _ _) c.is_decoded.ensures c.if-is_decoded.false)
