-- A frequency by its place among the words, and a weekday by its letters.
use Prim.Native.Nat.{ℕ, ◌≤◌, ◌<◌}
use Prim.Native.Char.{code}
use mathlib.Core.Path.{◌≡◌, refl, sym, ap, ◌∙◌}
use mathlib.Core.Bool.{Bool, true, false}
use mathlib.Core.Option.{none, some}
use mathlib.Core.List.{List, [], ◌∷◌}
use native.Mathlib.Omega.{arith}
use borrow.Author.Tests.{lt-ltb, le-ltb}
use lib.Dec.{eqb}
use lib.ListN.{length, get_or}
use Rattle.std.specs.Prelude.{Some, None}
use Rattle.std.specs.Option.{unwrap_or}
use Rattle.std.specs.declared.option.Option as option
use Rattle.octets.specs.Basics.{octets, pick, any, same, among}
use Rattle.octets.specs.Optional.{said, when}
use Rattle.octets.specs.Classes.{upper_octet, upper}
use Rattle.octets.proofs.Cases.{cases, neither}
use Rattle.octets.proofs.Classes.{upper-length}
use Rattle.octets.proofs.Optional.{when-is}
use Rattle.calendar.specs.Recurrence.{frequencies, weekdays}
use Rattle.calendar.specs.Walk.{word_place}
use Rattle.calendar.specs.Rules.{frequency_of, weekday_of}
use Rattle.calendar.specs.declared.rules.Frequency.{Frequency}
use Rattle.calendar.specs.declared.rules.Frequency.TheVariants.{Secondly, Minutely, Hourly, Daily, Weekly, Monthly, Yearly}
use Rattle.calendar.specs.declared.rules.Weekday.{Weekday}
use Rattle.calendar.specs.declared.rules.Weekday.TheVariants.{Sunday, Monday, Tuesday, Wednesday, Thursday, Friday, Saturday}
use Rattle.calendar.proofs.Words.{same-turned, place-missing, place-among}
use Rattle.calendar.proofs.Hours.{none-when}
use Rattle.calendar.proofs.ItemTests.{two-letters, weekday-length}

-- the first choice whose word it is, or else d
abbrev chosen : {A : Type 0} → List (List ℕ) → List A → A → List ℕ → A
chosen [] xs d v = d
chosen (w ∷ ws) [] d v = d
chosen (w ∷ ws) (x ∷ xs) d v = pick (same v w) x (chosen ws xs d v)

chosen_at : {A : Type 0} (ws : List (List ℕ)) (xs : List A) (d : A) (v : List ℕ) → length xs ≤ length ws → chosen ws xs d v ≡ get_or xs (word_place ws v) d
unfolding word_place
chosen_at [] [] d v h = refl
chosen_at [] (x ∷ xs) d v h = absurd (omega arith)
chosen_at (w ∷ ws) [] d v h = refl
chosen_at (w ∷ ws) (x ∷ xs) d v h = rw (same-turned v w) (cases (same w v)
    (λ e. rw e)
    (λ e. rw e (chosen_at ws xs d v (omega arith))))

abbrev pub frequency_choices : List Frequency
frequency_choices = Secondly ∷ Minutely ∷ Hourly ∷ Daily ∷ Weekly ∷ Monthly ∷ []

pub frequency-at : (v : List ℕ) (r : ℕ) → r ≡ word_place frequencies v → get_or frequency_choices r Yearly ≡ frequency_of v
unfolding frequencies frequency_of
frequency-at v r e = ap (λ (i : ℕ). get_or frequency_choices i Yearly) e ∙ sym (chosen_at frequencies frequency_choices Yearly v (omega arith))

-- the place of a frequency among the words, and of what is none behind them
abbrev frequency_number : Frequency → ℕ
frequency_number Secondly = 0
frequency_number Minutely = 1
frequency_number Hourly = 2
frequency_number Daily = 3
frequency_number Weekly = 4
frequency_number Monthly = 5
frequency_number Yearly = 6

abbrev frequency_place : option.Option Frequency → ℕ
frequency_place None = 7
frequency_place (Some f) = frequency_number f

frequency_back : (f : Frequency) → get_or frequency_choices (frequency_number f) Yearly ≡ f
frequency_back Secondly = refl
frequency_back Minutely = refl
frequency_back Hourly = refl
frequency_back Daily = refl
frequency_back Weekly = refl
frequency_back Monthly = refl
frequency_back Yearly = refl

frequency-small : (f : Frequency) → frequency_number f < 7
frequency-small Secondly = omega arith
frequency-small Minutely = omega arith
frequency-small Hourly = omega arith
frequency-small Daily = omega arith
frequency-small Weekly = omega arith
frequency-small Monthly = omega arith
frequency-small Yearly = omega arith

pub frequency-chosen : (b : Bool) (f : Frequency) (o : option.Option Frequency) → frequency_place (pick b (Some f) o) ≡ pick b (frequency_number f) (frequency_place o)
frequency-chosen true f o = refl
frequency-chosen false f o = refl

-- what is at the place of a text is the frequency that it names
pub frequency-told : (o : option.Option Frequency) (v : List ℕ) → frequency_place o ≡ word_place frequencies v → said o ≡ when (among v frequencies) (frequency_of v)
unfolding when
frequency-told None v e = rw (sym (place-among v frequencies) ∙ le-ltb _ _ (rw (← e) (unfold frequencies in omega arith)))
frequency-told (Some f) v e =
    rw (sym (place-among v frequencies) ∙ lt-ltb _ _ (rw (← e) (unfold frequencies in frequency-small f)))
    (ap some (sym (frequency_back f) ∙ frequency-at v (frequency_number f) e))

-- a text that names none is read as the last of them
pub frequency-or : (o : option.Option Frequency) (v : List ℕ) → said o ≡ when (among v frequencies) (frequency_of v) → unwrap_or o Yearly ≡ frequency_of v
frequency-or None v e = frequency-at v 7 (sym (place-missing v frequencies (none-when (among v frequencies) (frequency_of v) e) ∙ unfold frequencies in refl))
frequency-or (Some f) v e = sym (when-is (among v frequencies) (frequency_of v) f (sym e)).1

-- a weekday by its two letters: the second ones behind each first one
module _ (b : ℕ) where
  abbrev Named : ℕ → option.Option Weekday → Type 0
  Named a o = said o ≡ when (among (a ∷ b ∷ []) weekdays) (weekday_of (a ∷ b ∷ []))

  pub day-s : Named (code "S") (pick (eqb b (code "U")) (Some Sunday) (pick (eqb b (code "A")) (Some Saturday) None))
  unfolding weekday_of same when among any weekdays
  day-s = cases (eqb b (code "U")) (λ e. rw e) (λ e. rw e (cases (eqb b (code "A")) (λ f. rw f) (λ f. rw f)))

  pub day-m : Named (code "M") (pick (eqb b (code "O")) (Some Monday) None)
  unfolding weekday_of same when among any weekdays
  day-m = cases (eqb b (code "O")) (λ e. rw e) (λ e. rw e)

  pub day-t : Named (code "T") (pick (eqb b (code "U")) (Some Tuesday) (pick (eqb b (code "H")) (Some Thursday) None))
  unfolding weekday_of same when among any weekdays
  day-t = cases (eqb b (code "U")) (λ e. rw e) (λ e. rw e (cases (eqb b (code "H")) (λ f. rw f) (λ f. rw f)))

  pub day-w : Named (code "W") (pick (eqb b (code "E")) (Some Wednesday) None)
  unfolding weekday_of same when among any weekdays
  day-w = cases (eqb b (code "E")) (λ e. rw e) (λ e. rw e)

  pub day-f : Named (code "F") (pick (eqb b (code "R")) (Some Friday) None)
  unfolding weekday_of same when among any weekdays
  day-f = cases (eqb b (code "R")) (λ e. rw e) (λ e. rw e)

  pub day-other : (a : ℕ) → eqb a (code "S") ≡ false → eqb a (code "M") ≡ false → eqb a (code "T") ≡ false → eqb a (code "W") ≡ false → eqb a (code "F") ≡ false → Named a None
  unfolding weekday_of same when among any weekdays
  day-other a s m t w f = rw (s, m, t, w, f)

module _ (s : List ℕ) where
  pub day-missing : (length s ≡ 2 → ⊥) → none ≡ when (among (upper s) weekdays) (weekday_of (upper s))
  unfolding when
  day-missing h = rw (weekday-length (upper s) (λ e. h (sym (upper-length s) ∙ e)))

  pub day-there : (a b : ℕ) (o : option.Option Weekday) → length s ≡ 2 → a ≡ upper_octet (get_or s 0 0) → b ≡ upper_octet (get_or s 1 0)
      → said o ≡ when (among (a ∷ b ∷ []) weekdays) (weekday_of (a ∷ b ∷ [])) → said o ≡ when (among (upper s) weekdays) (weekday_of (upper s))
  day-there a b o e f g h = rw (two-letters s e, ← f, ← g) h

-- a text that names no weekday is read as Saturday
saturday : (v : List ℕ) → among v weekdays ≡ false → weekday_of v ≡ Saturday
unfolding weekday_of among any weekdays
saturday v e =
    let a = neither (same v (octets "SU")) _ e in
    let b = neither (same v (octets "MO")) _ a.1 in
    let c = neither (same v (octets "TU")) _ b.1 in
    let d = neither (same v (octets "WE")) _ c.1 in
    let f = neither (same v (octets "TH")) _ d.1 in
    let g = neither (same v (octets "FR")) _ f.1 in
    rw (a.0, b.0, c.0, d.0, f.0, g.0)

pub weekday-or : (o : option.Option Weekday) (v : List ℕ) → said o ≡ when (among v weekdays) (weekday_of v) → unwrap_or o Saturday ≡ weekday_of v
weekday-or None v e = sym (saturday v (none-when (among v weekdays) (weekday_of v) e))
weekday-or (Some d) v e = sym (when-is (among v weekdays) (weekday_of v) d (sym e)).1
