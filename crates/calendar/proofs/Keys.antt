-- The table of keys.
use Prim.Native.Nat.{ℕ, suc, ◌+◌, ◌-◌, ◌≤◌, ◌<◌, zero}
use Prim.Native.Char.{code}
use mathlib.Core.Path.{◌≡◌, refl, sym, ap, ◌∙◌}
use mathlib.Core.Bool.{Bool, true, false}
use mathlib.Core.List.{List, [], ◌∷◌}
use native.Mathlib.Nat.{zero-add}
use native.Mathlib.Omega.{arith}
use borrow.Author.Tests.{lt-ltb, le-ltb, eq-eqb, ne_eqb}
use lib.Dec.{eqb}
use lib.ListN.{length, take, drop, get_or, get_or-eq_default}
use lib.Seq.{take-take}
use Rattle.octets.specs.Basics.{pick, same}
use Rattle.octets.specs.Classes.{upper}
use Rattle.std.specs.Prelude.{Some}
use Rattle.std.specs.declared.option.Option as option
use Rattle.octets.proofs.Cases.{cases, never}
use Rattle.octets.proofs.Classes.{same_length, upper-length}
use Rattle.octets.proofs.Positions.{upto}
use Rattle.calendar.specs.Recurrence.{keys, frequency, Key, key}
use Rattle.calendar.specs.Walk.{before_first, word_place, word_place_from, key_names, key_place, key_number, key_said, part_at, keyed, part_in, first_part, key_at}
use Rattle.calendar.specs.declared.parts.Key.{Key as KeyInCode}
use Rattle.calendar.specs.declared.parts.Key.TheVariants.{Freq, Until, Count as CountKey, Interval, BySecond, ByMinute, ByHour, ByDay, ByMonthDay, ByYearDay, ByWeekNo, ByMonth, BySetPos, Wkst}
use Rattle.calendar.proofs.Pieces.{before-take}

pub key-count : length keys ≡ 14
unfolding keys
key-count = refl

-- the key at a number
abbrev key_from : ℕ → KeyInCode
key_from k = get_or (Freq ∷ Until ∷ CountKey ∷ Interval ∷ BySecond ∷ ByMinute ∷ ByHour ∷ ByDay ∷ ByMonthDay ∷ ByYearDay ∷ ByWeekNo ∷ ByMonth ∷ BySetPos ∷ Wkst ∷ []) k Freq

key_back : (k : KeyInCode) → key_from (key_number k) ≡ k
key_back Freq = refl
key_back Until = refl
key_back CountKey = refl
key_back Interval = refl
key_back BySecond = refl
key_back ByMinute = refl
key_back ByHour = refl
key_back ByDay = refl
key_back ByMonthDay = refl
key_back ByYearDay = refl
key_back ByWeekNo = refl
key_back ByMonth = refl
key_back BySetPos = refl
key_back Wkst = refl

-- keys that differ have places that differ
pub keys_apart : (k j : KeyInCode) → (k ≡ j → ⊥) → eqb (key_number k) (key_number j) ≡ false
keys_apart k j n = ne_eqb (key_number k) (key_number j) (λ e. n (sym (key_back k) ∙ ap key_from e ∙ key_back j))

pub key-small : (k : KeyInCode) → key_number k < 14
key-small Freq = omega arith
key-small Until = omega arith
key-small CountKey = omega arith
key-small Interval = omega arith
key-small BySecond = omega arith
key-small ByMinute = omega arith
key-small ByHour = omega arith
key-small ByDay = omega arith
key-small ByMonthDay = omega arith
key-small ByYearDay = omega arith
key-small ByWeekNo = omega arith
key-small ByMonth = omega arith
key-small BySetPos = omega arith
key-small Wkst = omega arith

-- the place of what is chosen
pub key-chosen : (b : Bool) (k : KeyInCode) (o : option.Option KeyInCode) → key_said (pick b (Some k) o) ≡ pick b (key_number k) (key_said o)
key-chosen true k o = refl
key-chosen false k o = refl

-- a text is among the words that are as long as it, or nowhere
other_length : (w n : List ℕ) (k : ℕ) → length n ≡ k → eqb k (length w) ≡ false → same w n ≡ false
other_length w n k l q = same_length w n (λ e. never (eq-eqb k (length w) (sym l ∙ sym e)) q)

later : (i k : ℕ) → suc i + k ≡ i + suc k
later i k = omega arith

place-from : (i k : ℕ) (ws : List (List ℕ)) (n : List ℕ) → length n ≡ k → word_place_from i k ws n ≡ i + word_place ws n
unfolding word_place_from word_place
place-from i k [] n l = omega arith
place-from i k (w ∷ ws) n l = cases (eqb k (length w))
    (λ q. cases (same w n)
    (λ e. rw (q, e) (omega arith))
    (λ e. rw (q, e) (place-from (suc i) k ws n l ∙ later i (word_place ws n))))
    (λ q. rw (q, other_length w n k l q) (place-from (suc i) k ws n l ∙ later i (word_place ws n)))

pub word-by : (ws : List (List ℕ)) (k : ℕ) (n : List ℕ) → length n ≡ k → word_place_from 0 k ws (upper n) ≡ word_place ws (upper n)
word-by ws k n l = place-from 0 k ws (upper n) (upper-length n ∙ l) ∙ zero-add (word_place ws (upper n))

pub place-by : (k : ℕ) (n : List ℕ) → length n ≡ k → word_place_from 0 k key_names (upper n) ≡ key_place (upper n)
unfolding key_place
place-by k n l = word-by key_names k n l

-- the part that a text begins with: `to` and n are where the scans ended, and k is the name's place
module _ (s : List ℕ) (to n k : ℕ) (ends : to ≡ length (before_first (code ";") s)) (named : n ≡ length (before_first (code "=") (take (to - 0) (drop 0 s)))) where
  whole : before_first (code ";") s ≡ take to s
  whole = rw ends (before-take (code ";") s)

  name-length : length (before_first (code "=") (before_first (code ";") s)) ≡ n
  name-length = rw (whole, ← (upto s to)) (sym named)

  pub first-keyed : n < to → k ≡ key_place (upper (take (n - 0) (drop 0 s))) → part_at k n (n + 1) to ≡ first_part s
  unfolding first_part part_in keyed
  first-keyed h e = rw (name-length, ← ends, lt-ltb n to h, whole, take-take n to s (omega arith), e, upto s n)

  pub first-bare : to ≤ n → part_at (length keys) n n to ≡ first_part s
  unfolding first_part part_in keyed
  first-bare h = rw (name-length, ← ends, le-ltb n to h)

-- k is none of the n numbers from m on, as a `match` tells in its last arm
abbrev pub Away : ℕ → ℕ → ℕ → Type 0
Away k m zero = Unit {0}
Away k m (suc n) = Away k m n × (k ≡ m + n → ⊥)

pub away : (k m n : ℕ) → Away k m n → m ≤ k → m + n ≤ k
away k m zero a h = omega arith
away k m (suc n) a h = let l = away k m n a.0 h in omega (arith, a.1)

-- FREQ has words as values, and so has what is no key
pub other-sort : (k : ℕ) → Away k 1 13 → (key_at k).sort ≡ frequency
unfolding key_at
other-sort zero a = unfold keys in refl
other-sort (suc k) a = ap (λ (j : Key). j.sort) (get_or-eq_default keys (key [] frequency) (rw key-count (away (suc k) 1 13 a (omega arith))))
