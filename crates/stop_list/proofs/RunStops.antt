-- The stops of a run, one at a time: a search from a place on finds the first of them, and behind its place are the others.
use Prim.Native.Nat.{ℕ, zero, suc, ◌+◌, ◌-◌, ◌≤◌, ◌<◌, min}
use mathlib.Core.Path.{◌≡◌, refl}
use mathlib.Core.List.{[], ◌∷◌}
use native.Mathlib.Omega.{arith}
use lib.ListN.{take, length, length-map, length-take}
use Rattle.octets.proofs.Cases.{cases}
use Rattle.calendar.specs.declared.moments.Moment.{Moment}
use Rattle.calendar.specs.declared.rules.Frequency.{Frequency}
use Rattle.recurrence_set.specs.Lists.{due}
use Rattle.recurrence_set.specs.Meets.{is_hourly, places_of, moment_at}
use Rattle.recurrence_set.specs.Searches.{First, meets_at}
use Rattle.recurrence_set.proofs.Due.{passes-first}
use Rattle.recurrence_set.proofs.Places.{all-hours, all-days}
use Rattle.stop_list.specs.declared.runs.Run.{Run}
use Rattle.stop_list.specs.Runs.{stop_in, stops_from, stops_of, Live, StopBefore}
use Rattle.recurrence_set.specs.declared.Series.{Series}

take_none : {A : Type 0} (n : ℕ) → take {A = A} n [] ≡ []
take_none zero = refl
take_none (suc n) = refl

-- no room, or nothing found
pub no_room : (r : Run) → r.room ≡ 0 → stops_of r ≡ []
unfolding stops_of stops_from
no_room r z = rw z

pub none_there : (r : Run) → due (meets_at r.series) r.series.places r.from ≡ [] → stops_of r ≡ []
unfolding stops_of stops_from
none_there r z = rw (z, take_none {A = ℕ} r.room)

-- at a place that meets the rule the stops are its stop, and those from the next place on
pub some_there : (q r : Run) (h : ℕ) (m : Moment) → First (meets_at q.series) q.series.places q.from h → h < q.series.places → m ≡ moment_at q.series.rule.frequency q.series.start h
    → r.series ≡ q.series → r.from ≡ h + 1 → q.room ≡ suc r.room → stops_of q ≡ record { moment = m } ∷ stops_of r
unfolding stops_of stops_from stop_in
some_there q r h m f w e s b k = rw (k, f.same, passes-first (meets_at q.series) q.series.places h w (f.passes w), e, s, b)

-- and what is left is live; the place behind one of a series is a number of 32 bits
few_places : (f : Frequency) → places_of f ≤ 87658200
few_places f = cases (is_hourly f) (λ e. let k = all-hours f e in omega arith) (λ e. let k = all-days f e in omega arith)

pub behind_it : (q : Run) (h n : ℕ) → Live q → h < q.series.places → n ≡ min (h + 1) 4294967295 → n ≡ h + 1
behind_it q h n v w e = let p = v.founded.places in let k = few_places q.series.rule.frequency in omega arith

pub on_live : (q r : Run) (h : ℕ) → Live q → First (meets_at q.series) q.series.places q.from h → r.series ≡ q.series → r.from ≡ h + 1 → Live r
on_live q r h v f e b = record { founded = rw e v.founded; from = rw (e, b) (let a = v.from in let g = f.from in omega arith) }

-- where the stop stands
pub stands : (q : Run) (b h : ℕ) (m : Moment) → First (meets_at q.series) q.series.places q.from h → h < q.series.places → m ≡ moment_at q.series.rule.frequency q.series.start h
    → b ≡ h + 1 → StopBefore q.series q.from b (record { moment = m })
unfolding stop_in
stands q b h m f w e n =
    let z : b - 1 ≡ h = omega arith in
    record { from = (let g = f.from in omega arith); within = omega arith; meets = rw z (f.passes w); stop = rw (z, e) }

-- there are not more than there is room for
pub few_stops : (r : Run) → length (stops_of r) ≤ r.room
unfolding stops_of stops_from
few_stops r = rw (length-map, length-take) (omega arith)

module _ (s : Series) (a h : ℕ) (f : First (meets_at s) s.places a h) where
  from_first : (n : ℕ) → stops_from s n h ≡ stops_from s n a
  unfolding stops_from
  from_first n = rw f.same
