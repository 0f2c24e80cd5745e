-- `ical::converting::to_ical` meets its contract.
use mathlib.Core.Path.{sym, ap, ◌∙◌}
use native.Mathlib.Omega.{arith}
use Rattle.octets.specs.Answers.{answer}
use Rattle.octets.proofs.Limits.{most-text}
use Rattle.types.proofs.Reading.{room-is}
use Rattle.ical.proofs.Stages.{too_long}
use Rattle.ical.proofs.converting.to_ical.Goals as goal

pub returns-then-text-gt-MOST_TEXT : goal.returns-then-text-gt-MOST_TEXT
returns-then-text-gt-MOST_TEXT c = c.refuse.ensures ∙ ap (λ a. answer a c.args.out.now) (sym (too_long _ _ (omega (arith, most-text, c.if-text-gt-MOST_TEXT.true))))

pub convert-requires : goal.convert-requires
convert-requires c = (omega (arith, most-text, c.if-text-gt-MOST_TEXT.false), omega (arith, room-is))

pub returns : goal.returns
returns c = c.convert.ensures
