-- `ical::converting::convert_text` meets its contract.
use mathlib.Core.Path.{sym, ap, ◌∙◌}
use native.Mathlib.Omega.{arith}
use Rattle.std.specs.Prelude.{Err}
use Rattle.octets.specs.Answers.{answer}
use Rattle.ical.proofs.ParseAnswers.{tape-told, deep-told, bad-told, not_short}
use Rattle.ical.proofs.Stages.{parsed-text, parsed-deep, parsed-bad, laid-within}
use Rattle.ical.proofs.converting.convert_text.Goals as goal

pub slice_bounds-convert_tape-end : goal.slice_bounds-convert_tape-end
slice_bounds-convert_tape-end c = omega (arith, (tape-told _ _ c.parse-p.ensures c.in-Ok.is).room)

pub convert_tape-requires : goal.convert_tape-requires
convert_tape-requires c = laid-within (tape-told _ _ c.parse-p.ensures c.in-Ok.is) c.requires.2

pub returns-in-Ok : goal.returns-in-Ok
returns-in-Ok c = c.convert_tape.ensures ∙ ap (λ a. answer a c.args.out.now) (parsed-text _ _ _ _ _ c.requires.0 (tape-told _ _ c.parse-p.ensures c.in-Ok.is))

pub returns-in-TooDeep : goal.returns-in-TooDeep
returns-in-TooDeep c = c.refuse.ensures ∙ ap (λ a. answer a c.args.out.now) (sym (parsed-deep _ _ (deep-told _ _ c.parse-p.ensures (c.in-Err.is ∙ ap Err c.in-TooDeep.is))))

pub returns-in-NotJson : goal.returns-in-NotJson
returns-in-NotJson c = c.refuse-in-NotJson.ensures ∙ ap (λ a. answer a c.args.out.now) (sym (parsed-bad _ _ (bad-told _ _ c.parse-p.ensures (c.in-Err.is ∙ ap Err c.in-NotJson.is))))

pub returns-in-NoRoom : goal.returns-in-NoRoom
returns-in-NoRoom c = absurd (not_short _ _ c.requires.1 c.parse-p.ensures (c.in-Err.is ∙ ap Err c.in-NoRoom.is))
