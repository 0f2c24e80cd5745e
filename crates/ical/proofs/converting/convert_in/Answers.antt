-- `ical::converting::convert_in` meets its contract.
use native.Mathlib.Omega.{arith}
use Rattle.ical.proofs.converting.convert_in.Goals as goal

pub whole_as_slice-convert_text : goal.whole_as_slice-convert_text
whole_as_slice-convert_text g c = omega (arith, c.requires.2)

pub whole_as_slice-convert_text-2 : goal.whole_as_slice-convert_text-2
whole_as_slice-convert_text-2 g c = omega (arith, c.requires.2)

pub convert_text-requires : goal.convert_text-requires
convert_text-requires g c = (c.requires.0, omega (arith, c.requires.1), omega arith)

pub returns : goal.returns
returns g c = c.convert_text.ensures
