-- Stops as they are printed, one after the other as a run has them, and a moment by the front of its text.
use Prim.Native.Nat.{ℕ, suc, ◌^◌, ◌+◌, ◌≤◌, ◌<◌}
use mathlib.Core.Path.{◌≡◌, refl, ap}
use mathlib.Core.List.{List, [], ◌∷◌, ◌++◌}
use native.Mathlib.Omega.{arith}
use native.Mathlib.Numerals.{add-one}
use lib.ListN.{length, get_or, take, drop, drop_of_length-le}
use lib.Seq.{drop-cons}
use Rattle.octets.specs.Decimal.{figures}
use Rattle.calendar.specs.declared.moments.Kind.{Kind}
use Rattle.calendar.specs.declared.moments.Kind.TheVariants.{Day, Local, Utc}
use Rattle.calendar.specs.declared.moments.Moment.{Moment}
use Rattle.stop_list.specs.declared.Stop.{Stop}
use Rattle.stop_list.specs.declared.runs.Run.{Run}
use Rattle.stop_list.specs.Runs.{stops_of}
use Rattle.stop_list.proofs.RunStops.{few_stops}
use Rattle.stops_page.specs.Printing.{three_shown, date_shown, clock_shown, time_shown, stop_shown, stops_shown}
use Rattle.stops_page.specs.Pages.{shown_length}

-- a kind's moment is the front of that in UTC
front-shown : (k : Kind) (m : Moment) → take (shown_length k) (date_shown m.date ++ time_shown Utc m) ≡ date_shown m.date ++ time_shown k m
unfolding shown_length date_shown time_shown clock_shown three_shown figures
front-shown Day m = refl
front-shown Local m = refl
front-shown Utc m = refl

pub shown-front : (k : Kind) (m : Moment) (n : ℕ) (t : List ℕ) → n ≡ shown_length k → t ≡ date_shown m.date ++ time_shown Utc m
    → take n t ≡ date_shown m.date ++ time_shown k m
shown-front k m n t e q = rw (e, q) (front-shown k m)

pub shown-short : (k : Kind) (n : ℕ) → n ≡ shown_length k → n ≤ 20
unfolding shown_length
shown-short Day n e = omega arith
shown-short Local n e = omega arith
shown-short Utc n e = omega arith

-- for a walk that counts the stops of a run: it begins with all of them
module _ (q r : Run) (n : ℕ) (e : q ≡ r) (z : n ≡ 0) where
  pub all-fit : r.room < 2 ^ 64 → n + length (stops_of q) < 2 ^ 64
  all-fit h = rw (e, z) (let w = few_stops r in omega arith)

  pub all-shown : stops_shown 1 (stops_of r) ≡ stops_shown (n + 1) (stops_of q)
  all-shown = rw (e, z)

-- for a turn: a run with a stop, and the run behind it
module _ (q r : Run) (x : Stop) (n i m : ℕ) (e : stops_of q ≡ x ∷ stops_of r) (j : i ≡ n) (k : m ≡ n + 1) where
  pub on-fit : n + length (stops_of q) < 2 ^ 64 → m + length (stops_of r) < 2 ^ 64
  on-fit h = let w : length (stops_of q) ≡ suc (length (stops_of r)) = ap length e in omega arith

  pub on-shown : stops_shown (n + 1) (stops_of q) ≡ stop_shown (i + 1) x ++ stops_shown (m + 1) (stops_of r)
  unfolding stops_shown
  on-shown = rw (e, j, k, add-one (n + 1))

-- a run that has no stop
pub end-shown : (r : Run) (i : ℕ) → stops_of r ≡ [] → stops_shown i (stops_of r) ≡ []
unfolding stops_shown
end-shown r i b = rw b

-- for a turn over a list: the next of its stops, and their end
pub stops-on : (d : Stop) (l : List Stop) (i : ℕ) → i < length l
    → stops_shown (i + 1) (drop i l) ≡ stop_shown (i + 1) (get_or l i d) ++ stops_shown (i + 1 + 1) (drop (i + 1) l)
unfolding stops_shown
stops-on d l i h = rw (drop-cons l i d h, add-one, add-one)

pub stops_end : (l : List Stop) (i j : ℕ) → length l ≤ i → stops_shown j (drop i l) ≡ []
unfolding stops_shown
stops_end l i j h = rw (drop_of_length-le l {i = i} h)
