-- `jcal::conversion::convert_text` meets its contract.
use Prim.Native.Nat.{ℕ}
use mathlib.Core.List.{List}
use mathlib.Core.Path.{ap, ◌∙◌}
use native.Mathlib.Omega.{arith}
use Rattle.octets.specs.Answers.{Answer, answer, number}
use Rattle.content.specs.Reading.{lines_told}
use Rattle.jcal.proofs.Stages.{laid-within, lines-laid, lines-failed}
use Rattle.jcal.proofs.conversion.convert_text.Goals as goal

pub slice_bounds-convert_lines-end : goal.slice_bounds-convert_lines-end
slice_bounds-convert_lines-end c = laid-within _ _ _ c.read_lines.ensures.within c.in-Ok.is

pub convert_lines-requires : goal.convert_lines-requires
convert_lines-requires c = omega (arith, laid-within _ _ _ c.read_lines.ensures.within c.in-Ok.is, c.requires.buf_len_bound)

pub returns-in-Ok : goal.returns-in-Ok
returns-in-Ok c = c.convert_lines.ensures ∙ ap (λ (a : Answer (List ℕ)). answer a c.args.out.now) (lines-laid _ _ _ _ _ c.requires.text_in_bounds c.read_lines.ensures _ c.in-Ok.is)

pub returns-in-Err : goal.returns-in-Err
returns-in-Err c = c.refuse.ensures ∙ ap (λ (a : Answer (List ℕ)). answer a c.args.out.now) (lines-failed _ _ _ _ _ c.requires.text_in_bounds c.read_lines.ensures (number c.in-Err.why) (unfold lines_told in rw c.in-Err.is))
