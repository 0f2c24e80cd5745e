-- Room is there if the lent memory is as long as the tape.
use Prim.Native.Nat.{ℕ, ◌≤◌, ◌<◌}
use mathlib.Core.Path.{◌≡◌}
use mathlib.Core.Bool.{Bool, true, false}
use mathlib.Core.List.{List}
use borrow.Author.Tests.{le-leb, lt-leb}
use lib.ListN.{length}
use Rattle.octets.specs.Basics.{◌and◌}
use Rattle.ical_recur.specs.Room.{has_room}

module _ (t s : List ℕ) where
  pub room : length t ≤ length s → has_room t s ≡ true
  unfolding has_room
  room h = le-leb (length t) (length s) h

  pub no_room : length s < length t → has_room t s ≡ false
  unfolding has_room
  no_room h = lt-leb (length t) (length s) h

  -- what is told where it is asked for
  module _ (b : Bool) where
    pub too_short : length s < length t → (has_room t s and b) ≡ false
    too_short h = rw (no_room h)

    pub long-enough : length t ≤ length s → (has_room t s and b) ≡ b
    long-enough h = rw (room h)
