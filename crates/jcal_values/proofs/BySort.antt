-- Values by their sort: texts together, others one by one.
use Prim.Native.Nat.{ℕ}
use mathlib.Core.Path.{◌≡◌, refl}
use mathlib.Core.List.{List, map}
use Rattle.octets.specs.Basics.{pick}
use Rattle.octets.specs.Optional.{map?, each}
use Rattle.octets.specs.Classes.{between}
use Rattle.types.specs.Codes as typed
use Rattle.values.specs.TextWalk.{texts}
use Rattle.json_text.specs.Tree.{str}
use Rattle.values.specs.Sorts.{Sort, plain, binary, boolean, date, date_time, duration, float, geo, integer, period, recur, text, status, time, utc_offset, sort_splits, is_text}
use Rattle.values.specs.Read.{read_one, values_in, read_values}
use Rattle.values.proofs.TextWalk.{texts-read}
use Rattle.jcal_values.specs.Parts.{read_alone, value_pieces}

pub sorted : (sort : Sort) (s : List ℕ) → read_values sort s ≡ pick (is_text sort) (map? (map str) (texts s)) (each (read_alone sort) (value_pieces (sort_splits sort) s))
unfolding read_values values_in read_alone read_one is_text sort_splits typed.type_splits between value_pieces
sorted plain s = refl
sorted binary s = refl
sorted boolean s = refl
sorted date s = refl
sorted date_time s = refl
sorted duration s = refl
sorted float s = refl
sorted geo s = refl
sorted integer s = refl
sorted period s = refl
sorted recur s = refl
sorted text s = texts-read s
sorted status s = refl
sorted time s = refl
sorted utc_offset s = refl
