-- `jcal::conversion::convert` meets its contract.
use Prim.Native.Nat.{ℕ}
use mathlib.Core.List.{List}
use mathlib.Core.Path.{ap, ◌∙◌}
use Rattle.octets.specs.Answers.{Answer, answer}
use Rattle.jcal.proofs.Stages.{rows-read, rows-laid, rows-malformed}
use Rattle.jcal.proofs.conversion.convert.Goals as goal

pub slice_bounds-convert_text-end : goal.slice_bounds-convert_text-end
slice_bounds-convert_text-end c = (rows-read _ _ _ _ c.requires.room_for_rows_in_bounds c.read_rows.ensures _ c.in-Ok.is).within

pub convert_text-requires : goal.convert_text-requires
convert_text-requires c = record { text_in_bounds = c.requires.text_in_bounds; buf_len_bound = c.requires.buf_len_bound }

pub returns-in-Ok : goal.returns-in-Ok
returns-in-Ok c = c.convert_text.ensures ∙ ap (λ (a : Answer (List ℕ)). answer a c.args.out.now) (rows-laid _ _ _ _ c.requires.room_for_rows_in_bounds c.read_rows.ensures _ c.requires.text_len_bound _ c.in-Ok.is)

pub returns-in-Err : goal.returns-in-Err
returns-in-Err c = c.refuse.ensures ∙ ap (λ (a : Answer (List ℕ)). answer a c.args.out.now) (rows-malformed _ _ _ _ c.requires.room_for_rows_in_bounds c.read_rows.ensures _ c.requires.text_len_bound _ c.in-Err.is)
