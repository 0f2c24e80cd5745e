-- Which values of a recurrence rule stand, as the code tests them: on the octets as received, not in uppercase.
use Prim.Native.Nat.{ℕ, ◌+◌, ◌-◌, ◌≤◌, ◌<◌, min}
use Prim.Native.Char.{code}
use mathlib.Core.Path.{◌≡◌, refl, sym, ap, ◌∙◌}
use mathlib.Core.Bool.{Bool, true, false, not}
use mathlib.Core.List.{List, [], ◌∷◌, ◌++◌}
use native.Mathlib.Omega.{arith}
use borrow.Author.Tests.{le-leb, lt-leb, leb-true, leb-false, eqb-true}
use lib.Dec.{eqb, leb, ltb}
use lib.ListN.{length, get_or, take, drop}
use Rattle.octets.specs.Basics.{octets, pick, ◌and◌, ◌or◌, all, any, filled, among, same}
use Rattle.octets.specs.Optional.{is_some}
use Rattle.octets.specs.Classes.{between, is_digit, is_upper, is_lower, upper_octet, upper}
use Rattle.octets.specs.Decimal.{digits, value_of, is_sign, has_sign, unsigned}
use Rattle.octets.proofs.Cases.{cases, both, either, and-false-right}
use Rattle.octets.proofs.Classes.{between-true, below-between, above-between, same_length, upper-length}
use Rattle.octets.proofs.Decimal.{digits-all}
use Rattle.octets.proofs.Limits.{most-integer}
use Rattle.octets.proofs.Positions.{from, upto, part_length}
use Rattle.octets.proofs.Optional.{some-when}
use Rattle.calendar.specs.Recurrence.{weekdays, word_of, until_of, count_of, number_of, ordinal_of, day_of, frequencies}
use Rattle.calendar.specs.Dates.{moment_of}
use Rattle.calendar.specs.Moments.{moment_from, read_moment}
use Rattle.calendar.proofs.Options.{some_then, some-map, some-both}
use Rattle.calendar.proofs.Pieces.{uncased, upper-take, upper-drop}
use Rattle.calendar.specs.Walk.{word_place}
use Rattle.calendar.proofs.Words.{place-among}

-- uppercase changes neither digits nor signs
digit-bounds : (c : ℕ) → is_digit c ≡ true → (48 ≤ c) × (c ≤ 57)
unfolding is_digit
digit-bounds c e = between-true (code "0") (code "9") c e

digit-raised : (c : ℕ) → is_digit c ≡ true → upper_octet c ≡ c
unfolding upper_octet is_lower
digit-raised c e = rw (below-between (code "a") (code "z") c (let b = digit-bounds c e in omega arith))

pub digit-upper : (c : ℕ) → is_digit (upper_octet c) ≡ is_digit c
unfolding upper_octet
digit-upper c = cases (is_lower c)
    (λ e. rw e (unfold is_lower is_digit in
    (let b = between-true (code "a") (code "z") c e in
    above-between (code "0") (code "9") (c - 32) (omega arith) ∙ sym (above-between (code "0") (code "9") c (omega arith)))))
    (λ e. rw e)

pub digits-raised : (s : List ℕ) → all is_digit s ≡ true → upper s ≡ s
unfolding upper all
digits-raised [] h = refl
digits-raised (c ∷ s) h = let b = both (is_digit c) (all is_digit s) h in rw (digit-raised c b.0) (ap (λ (l : List ℕ). c ∷ l) (digits-raised s b.1))

all_upper : (s : List ℕ) → all is_digit (upper s) ≡ all is_digit s
unfolding upper all
all_upper [] = refl
all_upper (c ∷ s) = rw (digit-upper c, all_upper s)

pub digits-upper : (s : List ℕ) → digits (upper s) ≡ digits s
unfolding digits
digits-upper s = rw (all_upper s) (ap (λ (b : Bool). b and all is_digit s) (filled-upper s))
  where
    filled-upper : (s : List ℕ) → filled (upper s) ≡ filled s
    filled-upper [] = unfold upper filled in refl
    filled-upper (c ∷ s) = unfold upper filled in refl

pub sign-upper : (c : ℕ) → is_sign (upper_octet c) ≡ is_sign c
unfolding is_sign is_lower is_upper between
sign-upper c = rw (uncased (code "+") refl refl c, uncased (code "-") refl refl c)

pub sign-raised : (c : ℕ) → is_sign c ≡ true → upper_octet c ≡ c
unfolding is_sign upper_octet is_lower
sign-raised c e = either (eqb c (code "+")) (eqb c (code "-")) e
    (λ h. rw (eqb-true c (code "+") h) (unfold between in refl))
    (λ h. rw (eqb-true c (code "-") h) (unfold between in refl))

pub has_sign-upper : (s : List ℕ) → has_sign (upper s) ≡ has_sign s
unfolding has_sign upper
has_sign-upper [] = refl
has_sign-upper (c ∷ s) = sign-upper c

pub unsigned-upper : (s : List ℕ) → unsigned (upper s) ≡ upper (unsigned s)
unfolding unsigned upper
unsigned-upper [] = refl
unsigned-upper (c ∷ s) = rw (sign-upper c) (by (is_sign c))
  where
    by : (b : Bool) → pick b (upper s) (upper_octet c ∷ upper s) ≡ upper (pick b s (c ∷ s))
    by true = refl
    by false = unfold upper in refl

-- a number within bounds, which is capped above them
pub capped-bounds : (lo hi v : ℕ) → between lo hi (min v (hi + 1)) ≡ between lo hi v
capped-bounds lo hi v = cases (leb v hi)
    (λ e. let h : min v (hi + 1) ≡ v = omega (arith, leb-true v hi e) in rw h)
    (λ e. above-between lo hi (min v (hi + 1)) (omega (arith, leb-false v hi e)) ∙ sym (above-between lo hi v (leb-false v hi e)))

raised-bounds : (lo hi : ℕ) (s : List ℕ) → (digits (upper s) and between lo hi (value_of (upper s))) ≡ (digits s and between lo hi (value_of s))
raised-bounds lo hi s = rw (digits-upper s) (cases (digits s)
    (λ e. rw (digits-raised s (digits-all s e)))
    (λ e. rw e))

-- as the code tests it: the lower bound, then the upper one
pub high-enough : (lo hi n : ℕ) → lo ≤ n → between lo hi n ≡ leb n hi
unfolding between
high-enough lo hi n h = rw (le-leb lo n h)

pub count-stands : (s : List ℕ) → is_some (count_of (upper s)) ≡ (digits s and between 1 2147483647 (value_of s))
unfolding count_of
count-stands s = some-when _ _ ∙ rw most-integer (raised-bounds 1 2147483647 s)

-- a number with its sign; its digits begin at `at`
module _ (signed : Bool) (most lo hi : ℕ) (s : List ℕ) where
  number-stands : is_some (number_of signed most lo hi (upper s))
      ≡ ((signed or not (has_sign s)) and (leb (length (unsigned s)) most and (digits (unsigned s) and between lo hi (value_of (unsigned s)))))
  unfolding number_of
  number-stands =
      some-when _ _ ∙ rw (has_sign-upper s, unsigned-upper s, upper-length (unsigned s), ← (raised-bounds lo hi (unsigned s)))
      (ap (λ (b : Bool). (signed or not (has_sign s)) and b) (swap (digits (upper (unsigned s))) (leb (length (unsigned s)) most) (between lo hi (value_of (upper (unsigned s))))))
    where
      swap : (a b c : Bool) → (a and (b and c)) ≡ (b and (a and c))
      swap true b c = refl
      swap false b c = sym (and-false-right b)

  pub sign-wrong : (signed or not (has_sign s)) ≡ false → is_some (number_of signed most lo hi (upper s)) ≡ false
  sign-wrong e = number-stands ∙ rw e

  module _ (at : ℕ) (is : unsigned s ≡ drop at s) where
    figures : unsigned s ≡ take (length s - at) (drop at s)
    figures = is ∙ sym (from s at)

    pub figures-many : most < length (take (length s - at) (drop at s)) → is_some (number_of signed most lo hi (upper s)) ≡ false
    figures-many h = number-stands ∙ rw (figures, lt-leb (length (take (length s - at) (drop at s))) most h, and-false-right)

    pub figures-judged : (signed or not (has_sign s)) ≡ true → length (take (length s - at) (drop at s)) ≤ most
        → is_some (number_of signed most lo hi (upper s)) ≡ (digits (take (length s - at) (drop at s)) and between lo hi (value_of (take (length s - at) (drop at s))))
    figures-judged e h = number-stands ∙ rw (e, figures, le-leb (length (take (length s - at) (drop at s))) most h)

-- a date or a date-time
pub until-stands : (s : List ℕ) → is_some (until_of (upper s)) ≡ is_some (read_moment s)
unfolding until_of read_moment
until-stands s = some-when (is_some (moment_of (upper s))) (upper s) ∙ sym (some-map moment_from (moment_of (upper s)))

-- a weekday's two letters
pub weekday-length : (n : List ℕ) → (length n ≡ 2 → ⊥) → among n weekdays ≡ false
unfolding among any weekdays
weekday-length n h =
    rw (same_length n (octets "SU") h, same_length n (octets "MO") h, same_length n (octets "TU") h, same_length n (octets "WE") h, same_length n (octets "TH") h, same_length n (octets "FR") h, same_length n (octets "SA") h)

pub two-letters : (s : List ℕ) → length s ≡ 2 → upper s ≡ upper_octet (get_or s 0 0) ∷ upper_octet (get_or s 1 0) ∷ []
unfolding upper
two-letters [] e = absurd (omega arith)
two-letters (a ∷ []) e = absurd (omega arith)
two-letters (a ∷ b ∷ []) e = refl
two-letters (a ∷ b ∷ c ∷ s) e = absurd (omega arith)

-- a weekday with a number
module _ (s : List ℕ) (at : ℕ) (is : at ≡ length s - 2) where
  tail : drop (length (upper s) - 2) (upper s) ≡ upper (take (length s - at) (drop at s))
  tail = rw (upper-length s, ← is, from s at) (sym (upper-drop at s))

  front : take (length (upper s) - 2) (upper s) ≡ upper (take (at - 0) (drop 0 s))
  front = rw (upper-length s, ← is, upto s at) (sym (upper-take at s))

  abbrev weekday-there : Bool
  weekday-there = is_some (word_of weekdays (upper (take (length s - at) (drop at s))))

  pub day-wrong : weekday-there ≡ false → is_some (day_of (upper s)) ≡ false
  unfolding day_of
  day-wrong e = some_then (word_of weekdays (drop (length (upper s) - 2) (upper s))) _ (rw tail e)

  day-there : weekday-there ≡ true → is_some (day_of (upper s)) ≡ is_some (ordinal_of (upper (take (at - 0) (drop 0 s))))
  unfolding day_of
  day-there e = rw front (some-both (word_of weekdays (drop (length (upper s) - 2) (upper s))) (λ d n. n ++ d) (ordinal_of (upper (take (at - 0) (drop 0 s)))) (rw tail e))

  pub day-bare : weekday-there ≡ true → at ≡ 0 → is_some (day_of (upper s)) ≡ true
  unfolding upper ordinal_of is_some
  day-bare e z = day-there e ∙ rw z

  pub day-numbered : weekday-there ≡ true → (at ≡ 0 → ⊥) → at ≤ length s → is_some (day_of (upper s)) ≡ is_some (number_of true 2 1 53 (upper (take (at - 0) (drop 0 s))))
  day-numbered e n h = day-there e ∙ numbered (take (at - 0) (drop 0 s)) (λ z. n (omega (arith, part_length s 0 at (omega arith) h)))
    where
      numbered : (t : List ℕ) → (length t ≡ 0 → ⊥) → is_some (ordinal_of (upper t)) ≡ is_some (number_of true 2 1 53 (upper t))
      numbered [] n = absurd (n refl)
      numbered (c ∷ t) n = unfold upper ordinal_of in refl

-- words
pub word_stands : (ws : List (List ℕ)) (n : List ℕ) → is_some (word_of ws n) ≡ ltb (word_place ws n) (length ws)
unfolding word_of
word_stands ws n = some-when (among n ws) n ∙ sym (place-among n ws)

pub frequency-stands : (n : List ℕ) → is_some (word_of frequencies n) ≡ ltb (word_place frequencies n) 7
frequency-stands n = word_stands frequencies n ∙ ap (ltb (word_place frequencies n)) (unfold frequencies in refl)

module _ (s : List ℕ) where
  pub no-weekday : (length s ≡ 2 → ⊥) → is_some (word_of weekdays (upper s)) ≡ false
  unfolding word_of
  no-weekday h = some-when _ _ ∙ weekday-length (upper s) (λ e. h (sym (upper-length s) ∙ e))

  pub weekday-stands : (a b : ℕ) (r : Bool) → length s ≡ 2 → a ≡ upper_octet (get_or s 0 0) → b ≡ upper_octet (get_or s 1 0) → r ≡ among (a ∷ b ∷ []) weekdays
      → r ≡ is_some (word_of weekdays (upper s))
  unfolding word_of
  weekday-stands a b r e f g h = rw (some-when (among (upper s) weekdays) (upper s), two-letters s e, ← f, ← g) h

-- the second letters behind each first one
module _ (b : ℕ) where
  abbrev day-behind : ℕ → Bool
  day-behind a = among (a ∷ b ∷ []) weekdays

  pub behind-s : day-behind (code "S") ≡ (eqb b (code "U") or eqb b (code "A"))
  unfolding among any same weekdays
  behind-s = cases (eqb b (code "U")) (λ e. rw e) (λ e. rw e (cases (eqb b (code "A")) (λ f. rw f) (λ f. rw f)))

  pub behind-t : day-behind (code "T") ≡ (eqb b (code "U") or eqb b (code "H"))
  unfolding among any same weekdays
  behind-t = cases (eqb b (code "U")) (λ e. rw e) (λ e. rw e (cases (eqb b (code "H")) (λ f. rw f) (λ f. rw f)))

  pub behind-m : day-behind (code "M") ≡ eqb b (code "O")
  unfolding among any same weekdays
  behind-m = cases (eqb b (code "O")) (λ e. rw e) (λ e. rw e)

  pub behind-w : day-behind (code "W") ≡ eqb b (code "E")
  unfolding among any same weekdays
  behind-w = cases (eqb b (code "E")) (λ e. rw e) (λ e. rw e)

  pub behind-f : day-behind (code "F") ≡ eqb b (code "R")
  unfolding among any same weekdays
  behind-f = cases (eqb b (code "R")) (λ e. rw e) (λ e. rw e)

  pub behind-other : (a : ℕ) → eqb a (code "S") ≡ false → eqb a (code "M") ≡ false → eqb a (code "T") ≡ false → eqb a (code "W") ≡ false → eqb a (code "F") ≡ false → day-behind a ≡ false
  unfolding among any same weekdays
  behind-other a s m t w f = rw (s, m, t, w, f)
