-- `ical::converting::convert_tape` meets its contract.
use mathlib.Core.Path.{sym, ap, ◌∙◌}
use Rattle.octets.specs.Answers.{answer}
use Rattle.octets.proofs.Answers.{finished-answer, refused-alike}
use Rattle.ical.proofs.Stages.{text-refused, text-accepted}
use Rattle.ical.proofs.converting.convert_tape.Goals as goal

pub convert_sound-requires : goal.convert_sound-requires
convert_sound-requires c = c.requires

pub returns-in-Err : goal.returns-in-Err
returns-in-Err c = c.refuse.ensures ∙ refused-alike _ _ _ c.convert_sound.auto.out ∙ ap (λ a. answer a c.args.out.now) (sym (text-refused _ _ (rw c.in-Err.is at c.convert_sound.ensures).0))

pub returns-in-Ok : goal.returns-in-Ok
returns-in-Ok c = let y = rw c.in-Ok.is at c.convert_sound.ensures in
    c.finish.ensures ∙ finished-answer _ _ _ _ y.wrote ∙ ap (λ a. answer a c.args.out.now) (sym (text-accepted _ _ y.faultless))
