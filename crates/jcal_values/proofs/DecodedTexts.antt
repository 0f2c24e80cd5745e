-- The text of a value that is sent as base64, by whether a buffer of lines has room for the value.
use Prim.Native.Nat.{ℕ, ◌≤◌, ◌<◌}
use mathlib.Core.Path.{◌≡◌}
use mathlib.Core.Bool.{true}
use mathlib.Core.List.{List}
use mathlib.Core.Option.{none}
use borrow.Author.Tests.{le-leb, lt-leb}
use lib.ListN.{length}
use Rattle.content.specs.Reading.{room_for_lines}
use Rattle.values.specs.Base64.{text_sent}
use Rattle.jcal_values.specs.Attempts.{text_decoded}

module _ (raw : List ℕ) where
  pub text-fits : length raw ≤ room_for_lines → text_decoded raw ≡ text_sent true raw
  unfolding text_decoded
  text-fits h = rw (le-leb (length raw) room_for_lines h)

  pub text-long : room_for_lines < length raw → text_decoded raw ≡ none
  unfolding text_decoded
  text-long h = rw (lt-leb (length raw) room_for_lines h)
