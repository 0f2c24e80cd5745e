-- The values of BYDAY and BYMONTHDAY name the same days as they are received and as the parts of a rule keep them, and in either order of the two parts.
use Prim.Native.Nat.{ℕ, ◌+◌, ◌-◌, ◌*◌, ◌≤◌, min}
use Prim.Native.Char.{code}
use mathlib.Core.Path.{◌≡◌, refl, sym, ap, ◌∙◌}
use mathlib.Core.Bool.{Bool, true, false, not}
use mathlib.Core.List.{List, [], ◌∷◌, ◌++◌, map}
use mathlib.Core.Option.{some}
use native.Mathlib.Omega.{arith}
use borrow.Author.Tests.{ne_eqb, eqb-false}
use lib.Dec.{eqb, leb}
use lib.ListN.{length, take, drop, length-append, take-append-drop}
use lib.Seq.{take-append_seam, drop-append_seam}
use Rattle.octets.specs.Basics.{pick, ◌or◌, among}
use Rattle.octets.specs.Optional.{map?, then?, each}
use Rattle.octets.specs.Classes.{between, upper}
use Rattle.octets.specs.Decimal.{digits, value_from, value_of, has_sign, minus, unsigned, integer_text}
use Rattle.octets.specs.Pieces.{split}
use Rattle.octets.proofs.Cases.{cases, same?, never, both, and-true-right}
use Rattle.octets.proofs.Classes.{between-true, upper-length, upper-twice}
use Rattle.octets.proofs.Decimal.{digits-first, integer-value, integer-minus}
use Rattle.octets.proofs.Optional.{when-is, each_none, each-is}
use Rattle.calendar.specs.Recurrence.{PartSort, ordinal, numbers, weekdays, word_of, number_of, ordinal_of, day_of, item_of}
use Rattle.calendar.specs.Rules.{weekday_of, weekday_place, with_weekday, with_ordinal, with_last_ordinal, with_day, with_month_day, gathered}
use Rattle.calendar.specs.Sets.{with}
use Rattle.calendar.specs.declared.by_days.ByDays.{ByDays}
use Rattle.calendar.proofs.Options.{map_is, then_is}
use Rattle.calendar.proofs.Pieces.{comma-uncased, split-upper, upper-take, upper-drop}
use Rattle.calendar.proofs.ItemTests.{weekday-length}
use Rattle.calendar.proofs.WrittenItems.{number-raised}
use Rattle.calendar.proofs.Gathering.{gathered-first}

-- a number keeps its value and its minus
number-kept : (signed : Bool) (most lo hi : ℕ) (s v : List ℕ) → 1 ≤ lo → number_of signed most lo hi (upper s) ≡ some v
    → (value_of (unsigned v) ≡ value_of (unsigned s)) × (minus v ≡ minus s)
unfolding number_of
number-kept signed most lo hi s v l e =
    let w = when-is _ (integer_text (upper s)) v e in
    let t = both (signed or not (has_sign (upper s))) _ w.0 in
    let d = both (digits (unsigned (upper s))) _ t.1 in
    let q = both (leb (length (unsigned (upper s))) most) (between lo hi (value_of (unsigned (upper s)))) d.1 in
    let r = number-raised s d.0 in
    let f = digits-first (unsigned s) (rw r at d.0) in
    let b : lo ≤ value_of (unsigned s) = rw r at (between-true lo hi (value_of (unsigned (upper s))) q.1).0 in
    let z : eqb (value_of (unsigned s)) 0 ≡ false = ne_eqb (value_of (unsigned s)) 0 (λ y. omega arith) in
    let i : integer_text s ≡ v = ap integer_text (sym r) ∙ w.1 in
    rw (← i) (integer-value s f, integer-minus s f ∙ rw z (and-true-right (minus s)))

-- a day of the month
pub month-day-kept : (b : ByDays) (s v : List ℕ) → number_of true 2 1 31 (upper s) ≡ some v → with_month_day b v ≡ with_month_day b s
unfolding with_month_day
month-day-kept b s v e = let k = number-kept true 2 1 31 s v (omega arith) e in rw (k.0, k.1)

-- the number in front of a weekday, if there is one
ordinal-kept : (s v : List ℕ) → ordinal_of (upper s) ≡ some v
    → (value_of (unsigned v) ≡ value_of (unsigned s)) × ((eqb (value_of (unsigned s)) 0 ≡ false) → minus v ≡ minus s)
unfolding upper ordinal_of
ordinal-kept [] v e = let q : [] ≡ v = cc in rw (← q) (refl, λ z. refl)
ordinal-kept (c ∷ s) v e = let k = number-kept true 2 1 53 (c ∷ s) v (omega arith) (unfold upper in e) in (k.0, λ z. k.1)

minus-front : (n d : List ℕ) → eqb (value_of (unsigned n)) 0 ≡ false → minus (n ++ d) ≡ minus n
unfolding value_from value_of unsigned minus
minus-front [] d z = never refl z
minus-front (c ∷ n) d z = refl

-- a weekday w with the number n in front, and whether there is a minus
abbrev day_by : ByDays → ℕ → ℕ → Bool → ByDays
day_by b w n m = pick (eqb n 0) (with_weekday b w) (pick m (with_last_ordinal b (w + 7 * pick (leb n 5) (5 - n) 5)) (with_ordinal b (w + 7 * (min n 6 - 1))))

day-by : (b : ByDays) (n d : List ℕ) → length d ≡ 2 → with_day b (n ++ d) ≡ day_by b (weekday_place (weekday_of (upper d))) (value_of (unsigned n)) (minus (n ++ d))
unfolding with_day
day-by b n d h =
    let l : length (n ++ d) - 2 ≡ length n = rw (length-append, h) (omega arith) in
    rw (l, take-append_seam n d, drop-append_seam n d)

pub day-kept : (b : ByDays) (s v : List ℕ) → day_of (upper s) ≡ some v → with_day b v ≡ with_day b s
unfolding day_of word_of
day-kept b s v e =
    let k = length s - 2 in
    let f = take k s in
    let g = drop k s in
    let u : then? (word_of weekdays (upper g)) (λ d. map? (λ n. n ++ d) (ordinal_of (upper f))) ≡ some v
    = rw (upper-drop k s, upper-take k s) (rw (upper-length s) at e) in
    let t = then_is (word_of weekdays (upper g)) (λ d. map? (λ n. n ++ d) (ordinal_of (upper f))) v u in
    let m = map_is (λ n. n ++ t.0) (ordinal_of (upper f)) v t.2 in
    let w = when-is (among (upper g) weekdays) (upper g) t.0 t.1 in
    let l : length (upper g) ≡ 2 = two (upper g) w.0 in
    let o = ordinal-kept f m.0 m.1 in
    let x : m.0 ++ upper g ≡ v = ap (λ (d : List ℕ). m.0 ++ d) w.1 ∙ m.2 in
    ap (with_day b) (sym x) ∙ day-by b m.0 (upper g) l
    ∙ alike m.0 f g o.0 o.1
    ∙ sym (day-by b f g (sym (upper-length g) ∙ l)) ∙ ap (with_day b) (take-append-drop k s)
  where
    two : (d : List ℕ) → among d weekdays ≡ true → length d ≡ 2
    two d h = same? (length d) 2 (λ e. e) (λ n. never h (weekday-length d (eqb-false (length d) 2 n)))

    alike : (n f g : List ℕ) → value_of (unsigned n) ≡ value_of (unsigned f) → (eqb (value_of (unsigned f)) 0 ≡ false → minus n ≡ minus f)
        → day_by b (weekday_place (weekday_of (upper (upper g)))) (value_of (unsigned n)) (minus (n ++ upper g))
        ≡ day_by b (weekday_place (weekday_of (upper g))) (value_of (unsigned f)) (minus (f ++ g))
    alike n f g p q = cases (eqb (value_of (unsigned f)) 0)
        (λ z. rw (upper-twice g, p, z))
        (λ z. rw (upper-twice g, p, z, minus-front n (upper g) (rw p z), minus-front f g z, q z))

-- all values of a part
module _ (sort : PartSort) (f : ByDays → List ℕ → ByDays) (one : (b : ByDays) (s v : List ℕ) → item_of sort (upper s) ≡ some v → f b v ≡ f b s) where
  all-kept : (b : ByDays) (ls vs : List (List ℕ)) → each (item_of sort) (map upper ls) ≡ some vs → gathered f b vs ≡ gathered f b ls
  all-kept b [] vs e = rw (each_none (item_of sort) vs e)
  all-kept b (l ∷ ls) vs e = each-is (item_of sort) (upper l) (map upper ls) vs e
      (λ c cs p q w. rw (← w) (gathered-first f b c cs ∙ ap (λ (x : ByDays). gathered f x cs) (one b l c p) ∙ all-kept (f b l) ls cs q ∙ sym (gathered-first f b l ls)))

  values-kept : (b : ByDays) (v : List ℕ) (vs : List (List ℕ)) → each (item_of sort) (split (code ",") (upper v)) ≡ some vs → gathered f b vs ≡ gathered f b (split (code ",") v)
  values-kept b v vs e = all-kept b (split (code ",") v) vs (rw (split-upper (code ",") comma-uncased v) at e)

pub days-kept : (b : ByDays) (v : List ℕ) (vs : List (List ℕ)) → each (item_of ordinal) (split (code ",") (upper v)) ≡ some vs → gathered with_day b vs ≡ gathered with_day b (split (code ",") v)
unfolding item_of
days-kept b v vs e = values-kept ordinal with_day day-kept b v vs e

pub month-days-kept : (b : ByDays) (v : List ℕ) (vs : List (List ℕ)) → each (item_of (numbers true 2 1 31)) (split (code ",") (upper v)) ≡ some vs
    → gathered with_month_day b vs ≡ gathered with_month_day b (split (code ",") v)
unfolding item_of
month-days-kept b v vs e = values-kept (numbers true 2 1 31) with_month_day month-day-kept b v vs e

-- weekdays and days of the month are gathered apart, so in either order
abbrev day_picked : Bool → Bool → ℕ → ℕ → ℕ → ByDays → ByDays
day_picked z m w k l b = pick z (with_weekday b w) (pick m (with_last_ordinal b k) (with_ordinal b l))

abbrev month_day_picked : Bool → Bool → ℕ → ℕ → ByDays → ByDays
month_day_picked i n k l b =
    pick i
    (pick n
    (record { weekdays = b.weekdays; ordinals = b.ordinals; lastordinals = b.lastordinals; monthdays = b.monthdays; lastmonthdays = with b.lastmonthdays k })
    (record { weekdays = b.weekdays; ordinals = b.ordinals; lastordinals = b.lastordinals; monthdays = with b.monthdays l; lastmonthdays = b.lastmonthdays }))
    b

picked-turned : (b : ByDays) (z m i n : Bool) (w k l p q : ℕ) → month_day_picked i n p q (day_picked z m w k l b) ≡ day_picked z m w k l (month_day_picked i n p q b)
picked-turned b z m false n w k l p q = refl
picked-turned b true m true true w k l p q = refl
picked-turned b true m true false w k l p q = refl
picked-turned b false true true true w k l p q = refl
picked-turned b false true true false w k l p q = refl
picked-turned b false false true true w k l p q = refl
picked-turned b false false true false w k l p q = refl

days-turned : (b : ByDays) (x y : List ℕ) → with_month_day (with_day b x) y ≡ with_day (with_month_day b y) x
unfolding with_day with_month_day
days-turned b x y = picked-turned b (eqb (value_of (unsigned (take (length x - 2) x))) 0) (minus x) (between 1 31 (value_of (unsigned y))) (minus y) _ _ _ _ _

-- values gathered by f and by g, which can be turned
module _ (f g : ByDays → List ℕ → ByDays) (turned : (b : ByDays) (x y : List ℕ) → g (f b x) y ≡ f (g b y) x) where
  one-turned : (b : ByDays) (y : List ℕ) (xs : List (List ℕ)) → g (gathered f b xs) y ≡ gathered f (g b y) xs
  unfolding gathered
  one-turned b y [] = refl
  one-turned b y (x ∷ xs) = one-turned (f b x) y xs ∙ ap (λ (c : ByDays). gathered f c xs) (turned b x y)

  all-turned : (b : ByDays) (xs ys : List (List ℕ)) → gathered g (gathered f b xs) ys ≡ gathered f (gathered g b ys) xs
  unfolding gathered
  all-turned b xs [] = refl
  all-turned b xs (y ∷ ys) = ap (λ (c : ByDays). gathered g c ys) (one-turned b y xs) ∙ all-turned (g b y) xs ys

pub gathered-turned : (b : ByDays) (xs ys : List (List ℕ)) → gathered with_month_day (gathered with_day b xs) ys ≡ gathered with_day (gathered with_month_day b ys) xs
gathered-turned b xs ys = all-turned with_day with_month_day days-turned b xs ys
