-- Values that are arrays: periods, GEO and REQUEST-STATUS.
use Prim.Native.Nat.{ℕ, min, ◌<◌, ◌≤◌}
use Prim.Native.Char.{code}
use mathlib.Core.Path.{◌≡◌, refl, ap, fun_ext, ◌∙◌}
use mathlib.Core.Bool.{Bool, true, false}
use mathlib.Core.List.{List, [], ◌∷◌, ◌++◌, map}
use native.Mathlib.Omega.{arith}
use borrow.Author.Tests.{lt-ltb, le-ltb, ltb-true}
use lib.Dec.{ltb}
use lib.ListN.{length, get_or}
use Rattle.octets.specs.Basics.{◌and◌, all}
use Rattle.octets.specs.Optional.{holds}
use Rattle.octets.specs.Classes.{upper}
use Rattle.octets.specs.Pieces.{joined}
use Rattle.octets.proofs.Cases.{cases, and-true-right, and-false-right}
use Rattle.calendar.specs.Dates.{date_time_is, date_time_text}
use Rattle.calendar.specs.Durations.{period_end_is, period_end_text, forward_is}
use Rattle.json_text.specs.Tree.{Json, null, octets_of, array?}
use Rattle.json_text.specs.Tape.{tag_array, tag_end}
use Rattle.tape.specs.Decode.{tag_at, value_at, list_at}
use Rattle.tape.specs.Promise.{After, Next}
use Rattle.tape.proofs.Values.{no-array, list-head, list-tail, list-end, list-first, list-next}
use Rattle.tape.proofs.Walks.{array-some, elements-inside}
use Rattle.values.specs.Sorts.{Sort, date_time, float, geo, period, status, text}
use Rattle.values.specs.Write.{is_lettered, is_two, is_two_or_three, is_array, value_is, elements_text, period_text, value_text}
use Rattle.ical_values.specs.Parts.{parts_are, fields_text}
use Rattle.ical_values.specs.Valued.{all_taken}

-- the elements of an array
module _ (p : List Json → Bool) (t : List ℕ) (i : ℕ) where
  no-array-is : ((tag_at t i ≡ tag_array) → ⊥) → is_array p (value_at t i) ≡ false
  unfolding is_array holds
  no-array-is n = rw (no-array t i n)

  array-is : {a : ℕ} → After t i a → tag_at t i ≡ tag_array → is_array p (value_at t i) ≡ p (list_at t a)
  unfolding is_array holds list_at
  array-is x q = rw (array-some x q)

-- exactly two
module _ (p q : Json → Bool) where
  head-off : (js : List Json) → p (get_or js 0 null) ≡ false → is_two p q js ≡ false
  unfolding is_two
  head-off [] h = refl
  head-off (a ∷ []) h = refl
  head-off (a ∷ b ∷ []) h = rw h
  head-off (a ∷ b ∷ c ∷ js) h = refl

  next-off : (js : List Json) → q (get_or js 1 null) ≡ false → is_two p q js ≡ false
  unfolding is_two
  next-off [] h = refl
  next-off (a ∷ []) h = refl
  next-off (a ∷ b ∷ []) h = rw h (and-false-right (p a))
  next-off (a ∷ b ∷ c ∷ js) h = refl

-- a period
abbrev is_start : Json → Bool
is_start = value_is date_time

abbrev is_end : Json → Bool
is_end = is_lettered period_end_is

module _ (t : List ℕ) (i : ℕ) where
  pub no-period : ((tag_at t i ≡ tag_array) → ⊥) → value_is period (value_at t i) ≡ false
  unfolding value_is
  no-period n = no-array-is (is_two is_start is_end) t i n

  module _ {a : ℕ} (x : After t i a) (q : tag_at t i ≡ tag_array) where
    period-is : value_is period (value_at t i) ≡ is_two is_start is_end (list_at t a)
    unfolding value_is
    period-is = array-is (is_two is_start is_end) t i x q

    pub no_start : is_start (value_at t a) ≡ false → value_is period (value_at t i) ≡ false
    no_start h = period-is ∙ head-off is_start is_end (list_at t a) (ap is_start (list-head t a) ∙ h)

    module _ {b : ℕ} (y : Next t a b) where
      pub no_end : is_end (value_at t b) ≡ false → value_is period (value_at t i) ≡ false
      no_end h = period-is ∙ next-off is_start is_end (list_at t a) (ap is_end (list-tail y 0 ∙ list-head t b) ∙ h)

      module _ (n : (tag_at t a ≡ tag_end) → ⊥) (m : (tag_at t b ≡ tag_end) → ⊥) {c : ℕ} (z : Next t b c) where
        pub more-than-two : ((tag_at t c ≡ tag_end) → ⊥) → value_is period (value_at t i) ≡ false
        unfolding is_two
        more-than-two k = period-is ∙ rw (list-next y n, list-next z m, list-first t c k)

        module _ (k : tag_at t c ≡ tag_end) where
          pub period-whole : is_start (value_at t a) ≡ true → is_end (value_at t b) ≡ true → value_is period (value_at t i) ≡ true
          unfolding is_two
          period-whole h l = period-is ∙ rw (list-next y n, list-next z m, list-end t c k, h, l)

          pub period-text : value_text date_time (value_at t a) ++ code "/" ∷ period_end_text (upper (octets_of (value_at t b))) ≡ value_text period (value_at t i)
          unfolding value_text period_text joined
          period-text = rw (elements-inside x q, list-next y n, list-next z m, list-end t c k)

-- its end
module _ (s : List ℕ) where
  pub end-moment : date_time_is s ≡ true → (period_end_is s ≡ true) × (date_time_text s ≡ period_end_text s)
  unfolding period_end_is period_end_text
  end-moment e = (rw e, rw e)

  module _ (e : date_time_is s ≡ false) where
    pub end-forward : forward_is s ≡ true → (period_end_is s ≡ true) × (s ≡ period_end_text s)
    unfolding period_end_is period_end_text
    end-forward h = (rw (e, h), rw e)

    pub end-other : forward_is s ≡ false → period_end_is s ≡ false
    unfolding period_end_is
    end-other h = rw (e, h)

-- GEO and REQUEST-STATUS as arrays of parts
abbrev few : ℕ → Sort → List Json → Bool
few limit s vs = ltb 1 (length vs) and ltb (length vs) limit and all (value_is s) vs

two-parts : (vs : List Json) → few 3 float vs ≡ is_two (value_is float) (value_is float) vs
unfolding is_two all
two-parts [] = refl
two-parts (a ∷ []) = refl
two-parts (a ∷ b ∷ []) = rw (and-true-right (value_is float b))
two-parts (a ∷ b ∷ c ∷ vs) = let n = length (a ∷ b ∷ c ∷ vs) in rw (le-ltb n 3 (omega arith)) (and-false-right (ltb 1 n))

three-parts : (vs : List Json) → few 4 text vs ≡ is_two_or_three (value_is text) vs
unfolding is_two_or_three all
three-parts [] = refl
three-parts (a ∷ []) = refl
three-parts (a ∷ b ∷ []) = rw (and-true-right (value_is text b))
three-parts (a ∷ b ∷ c ∷ []) = rw (and-true-right (value_is text c))
three-parts (a ∷ b ∷ c ∷ d ∷ vs) = let n = length (a ∷ b ∷ c ∷ d ∷ vs) in rw (le-ltb n 4 (omega arith)) (and-false-right (ltb 1 n))

pub geo-is : (j : Json) → parts_are 3 float j ≡ value_is geo j
unfolding parts_are value_is
geo-is j = rw (fun_ext two-parts)

pub geo-text : (j : Json) → fields_text float j ≡ value_text geo j
unfolding fields_text value_text elements_text
geo-text j = refl

pub status-is : (j : Json) → parts_are 4 text j ≡ value_is status j
unfolding parts_are value_is
status-is j = rw (fun_ext three-parts)

pub status-text : (j : Json) → fields_text text j ≡ value_text status j
unfolding fields_text value_text elements_text
status-text j = refl

-- the parts at a place
module _ (s : Sort) (t : List ℕ) (i : ℕ) {a : ℕ} (x : After t i a) (q : tag_at t i ≡ tag_array) where
  pub parts-text : joined (code ";") (map (value_text s) (list_at t a)) ≡ fields_text s (value_at t i)
  unfolding fields_text
  parts-text = rw (elements-inside x q)

pub parts-there : (limit n : ℕ) (t : List ℕ) (a : ℕ) → n ≡ min limit (length (list_at t a)) → 2 ≤ n → (tag_at t a ≡ tag_end) → ⊥
parts-there limit n t a k h z = omega (arith, ap length (list-end t a z))

module _ (limit : ℕ) (s : Sort) where
  pub no-null : parts_are limit s null ≡ false
  unfolding parts_are is_array holds array?
  no-null = refl

  module _ (t : List ℕ) (i : ℕ) where
    pub no-parts : ((tag_at t i ≡ tag_array) → ⊥) → parts_are limit s (value_at t i) ≡ false
    unfolding parts_are
    no-parts n = no-array-is (few limit s) t i n

    module _ {a : ℕ} (x : After t i a) (q : tag_at t i ≡ tag_array) where
      parts_are_lem : parts_are limit s (value_at t i) ≡ few limit s (list_at t a)
      unfolding parts_are
      parts_are_lem = array-is (few limit s) t i x q

      too_many : limit ≤ length (list_at t a) → parts_are limit s (value_at t i) ≡ false
      too_many h = parts_are_lem ∙ rw (le-ltb (length (list_at t a)) limit h) (and-false-right (ltb 1 (length (list_at t a))))

      module _ (n : ℕ) (k : n ≡ min limit (length (list_at t a))) where
        pub too_few : n < 2 → parts_are limit s (value_at t i) ≡ false
        too_few h = cases (ltb 1 (length (list_at t a))) (λ e. too_many (omega (arith, ltb-true 1 (length (list_at t a)) e))) (λ e. parts_are_lem ∙ rw e)

        pub too-full : n ≡ limit → parts_are limit s (value_at t i) ≡ false
        too-full e = too_many (omega arith)

        pub parts-taken : 2 ≤ n → ((n ≡ limit) → ⊥) → parts_are limit s (value_at t i) ≡ all_taken true (value_is s) (list_at t a)
        unfolding all_taken
        parts-taken h l = parts_are_lem ∙ rw (lt-ltb 1 (length (list_at t a)) (omega arith), lt-ltb (length (list_at t a)) limit (omega arith))
