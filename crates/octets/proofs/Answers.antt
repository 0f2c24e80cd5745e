-- What an accepted answer tells of its stages; and the end of a conversion: what the pen wrote from the front of the buffer is the answer.
use Prim.Native.Nat.{ℕ, ◌+◌, ◌≤◌, ◌<◌}
use mathlib.Core.Path.{◌≡◌, refl, ap, ◌∙◌}
use mathlib.Core.Bool.{Bool, true, false}
use mathlib.Core.Option.{Option, none, some}
use mathlib.Core.List.{List}
use native.Mathlib.Omega.{arith}
use borrow.Author.Tests.{le-leb, lt-leb, leb-true, leb-false}
use lib.Dec.{leb}
use lib.ListN.{length}
use Rattle.octets.specs.Pen.{Pen, pen, Wrote}
use Rattle.octets.specs.declared.Refusal.{Refusal}
use Rattle.octets.specs.declared.Refusal.TheVariants.{TextTooLong, RowsMalformed, NotClean, NotContentLine, NotPaired, TooDeep, BadParameter, BadEncoding, BadValue, NoRoom, NotJson, NotJcal, BadStart, BadRule, NotServed}
use Rattle.octets.specs.Answers.{number, Answer, refused, accepted, then, or_else, unless, zeroed, answer, finished}
use Rattle.octets.proofs.Cases.{cases}
use Rattle.octets.proofs.Pen.{kept, landed, full}

pub not-accepted {ℓ} : {P : Type ℓ} {A : Type 0} {n : ℕ} {a : A} → ◌≡◌ {A = Answer A} (refused n) (accepted a) → P
not-accepted e = let z : ◌≡◌ {A = ℕ} 0 1 = cc in absurd (omega arith)

-- a refusal has a number, and leaves what the buffer's length says
pub numbered : (r : Refusal) → number r ≡ 0 → ⊥
numbered TextTooLong e = omega arith
numbered RowsMalformed e = omega arith
numbered NotClean e = omega arith
numbered NotContentLine e = omega arith
numbered NotPaired e = omega arith
numbered TooDeep e = omega arith
numbered BadParameter e = omega arith
numbered BadEncoding e = omega arith
numbered BadValue e = omega arith
numbered NoRoom e = omega arith
numbered NotJson e = omega arith
numbered NotJcal e = omega arith
numbered BadStart e = omega arith
numbered BadRule e = omega arith
numbered NotServed e = omega arith

pub refused-alike : (n : ℕ) (a b : List ℕ) → length a ≡ length b → answer (refused n) a ≡ answer (refused n) b
unfolding answer zeroed
refused-alike n a b e = rw e

pub accepted-same : {A : Type 0} {a b : A} → ◌≡◌ {A = Answer A} (accepted a) (accepted b) → a ≡ b
accepted-same e = cc

pub then-accepted {ℓ} : {P : Type ℓ} {A B : Type 0} (x : Answer A) (f : A → Answer B) (b : B) → then x f ≡ accepted b
    → ((a : A) → x ≡ accepted a → f a ≡ accepted b → P) → P
unfolding then
then-accepted (refused n) f b e k = not-accepted e
then-accepted (accepted a) f b e k = k a refl e

pub or_else-accepted : {A : Type 0} (n : ℕ) (o : Option A) (a : A) → or_else n o ≡ accepted a → o ≡ some a
unfolding or_else
or_else-accepted n none a e = not-accepted e
or_else-accepted n (some b) a e = ap some (accepted-same e)

pub unless-accepted : {A : Type 0} (n : ℕ) (t : Bool) (f : Unit {0} → Answer A) (a : A) → unless n t f ≡ accepted a → (t ≡ true) × (f tt ≡ accepted a)
unfolding unless
unless-accepted n true f a e = (refl, e)
unless-accepted n false f a e = not-accepted e

module _ (o t b : List ℕ) (at : ℕ) (w : Wrote (pen o 0) t (pen b at)) where
  fitted : length t ≤ length o → finished at b ≡ answer (accepted t) o
  unfolding finished answer
  fitted h =
      let l = landed o t b at h w in
      let k : at ≤ length b = omega (arith, l.count, kept w) in
      rw (le-leb at (length b) k, le-leb (length t) (length o) h, l.count, l.buffer)

  too_long : length o < length t → finished at b ≡ answer (accepted t) o
  unfolding finished answer zeroed
  too_long h =
      let e : at ≡ length o + 1 = ap (λ (p : Pen). p.at) w.is ∙ full o t 0 (omega arith) (omega arith) in
      let k : length b ≡ length o = kept w in
      rw (lt-leb at (length b) (omega arith), lt-leb (length t) (length o) h, k)

  pub finished-answer : finished at b ≡ answer (accepted t) o
  finished-answer = cases (leb (length t) (length o))
      (λ e. fitted (leb-true (length t) (length o) e))
      (λ e. too_long (leb-false (length t) (length o) e))
