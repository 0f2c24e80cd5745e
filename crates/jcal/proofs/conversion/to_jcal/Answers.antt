-- `jcal::conversion::to_jcal` meets its contract.
use Prim.Native.Nat.{ℕ}
use mathlib.Core.List.{List}
use mathlib.Core.Path.{ap, ◌∙◌}
use native.Mathlib.Omega.{arith}
use Rattle.octets.specs.Answers.{Answer, answer}
use Rattle.octets.proofs.Limits.{most-text}
use Rattle.jcal.proofs.Stages.{text-long}
use Rattle.jcal.proofs.conversion.to_jcal.Goals as goal

pub returns-then-text-gt-MOST_TEXT : goal.returns-then-text-gt-MOST_TEXT
returns-then-text-gt-MOST_TEXT c = c.refuse.ensures ∙ ap (λ (a : Answer (List ℕ)). answer a c.args.out.now) (text-long _ _ (omega (arith, most-text, c.if-text-gt-MOST_TEXT.true)))

pub convert_in-requires : goal.convert_in-requires
convert_in-requires c = record { text_in_bounds = omega (arith, c.if-text-le-SHORT_TEXT.true); room_bound = omega (arith, most-text); text_len_bound = omega (arith, most-text, c.if-text-gt-MOST_TEXT.false) }

pub returns-then-text-le-SHORT_TEXT : goal.returns-then-text-le-SHORT_TEXT
returns-then-text-le-SHORT_TEXT c = c.convert_in.ensures

pub convert_in-requires-2 : goal.convert_in-requires-2
convert_in-requires-2 c = record { text_in_bounds = omega (arith, most-text, c.if-text-gt-MOST_TEXT.false); room_bound = omega (arith, most-text); text_len_bound = omega (arith, most-text, c.if-text-gt-MOST_TEXT.false) }

pub returns : goal.returns
returns c = c.convert_in-2.ensures
