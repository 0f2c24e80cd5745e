-- `jcal::conversion::convert_in` meets its contract.
use native.Mathlib.Omega.{arith}
use Rattle.octets.proofs.Limits.{most-text}
use Rattle.types.proofs.Reading.{room-is}
use Rattle.jcal.proofs.conversion.convert_in.Goals as goal

pub whole_as_slice-convert : goal.whole_as_slice-convert
whole_as_slice-convert g c = omega (arith, most-text, c.requires.room_bound)

pub convert-requires : goal.convert-requires
convert-requires g c = record { room_for_rows_in_bounds = omega (arith, room-is); text_in_bounds = omega (arith, c.requires.text_in_bounds); buf_len_bound = omega (arith, c.requires.room_bound); text_len_bound = c.requires.text_len_bound }

pub returns : goal.returns
returns g c = c.convert.ensures
