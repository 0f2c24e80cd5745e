-- Runs of octets of a class: what the search for a run's end tells of it, and a reading over it.
use Prim.Native.Nat.{ℕ, suc, ◌+◌, ◌-◌, ◌≤◌, ◌<◌}
use mathlib.Core.Path.{◌≡◌, refl, ap, ◌∙◌}
use mathlib.Core.Bool.{Bool, true, false, not}
use mathlib.Core.List.{List, [], ◌∷◌, ◌++◌}
use native.Mathlib.Omega.{arith}
use lib.ListN.{length, take, drop, get_or}
use Rattle.octets.specs.Basics.{all}
use Rattle.octets.specs.Search.{until, ClassRun}
use lib.Dec.{eqb, ltb}
use borrow.Author.Tests.{ltb-true, ltb-false, eq-eqb, ne_eqb, not-true, not-false}
use Rattle.octets.proofs.Cases.{cases, never, both, All-weaker, All-all}
use Rattle.octets.proofs.Positions.{here, ended, part-rest, past_end}
use Rattle.octets.proofs.Search.{until-free, scan-low, scan-high, scan-is, scan-stop}

-- what the search for a run's end answers
pub run-found : {class : ℕ → Bool} (text : List ℕ) (at r : ℕ) → at ≤ length text → r ≡ at + length (until (λ c. not (class c)) (drop at text)) → ClassRun class text at r
run-found {class} text at r h q =
    let off : ℕ → Bool = λ c. not (class c) in
    record {
      above = scan-low off text at r q;
      below = scan-high off text at r q h;
      inside = rw (scan-is off text at r q) (All-all class (until off (drop at text)) (All-weaker (λ c e. not-false (class c) e) (until off (drop at text)) (until-free off (drop at text))));
      over = λ l. not-true _ (scan-stop off text at r q l);
    }

-- a place of the text: an octet stands there, or it is the end
pub at_place : {P : Type 0} (text : List ℕ) (i : ℕ) → i ≤ length text → (i < length text → P) → (drop i text ≡ [] → P) → P
at_place text i h f g = cases (ltb i (length text)) (λ e. f (ltb-true i (length text) e)) (λ e. g (ended text i (ltb-false i (length text) e)))

-- a reading that passes over each octet of the class passes over a run
through : {X : Type 0} {class : ℕ → Bool} (R : List ℕ → X) → ((b : ℕ) (s : List ℕ) → class b ≡ true → R (b ∷ s) ≡ R s) → (xs ys : List ℕ) → all class xs ≡ true → R (xs ++ ys) ≡ R ys
unfolding all
through R f [] ys h = refl
through {class = class} R f (x ∷ xs) ys h = let b = both (class x) (all class xs) h in f x (xs ++ ys) b.0 ∙ through R f xs ys b.1

pub run-passes : {X : Type 0} {class : ℕ → Bool} {text : List ℕ} {at r : ℕ} (R : List ℕ → X) → ((b : ℕ) (s : List ℕ) → class b ≡ true → R (b ∷ s) ≡ R s) → ClassRun class text at r → R (drop at text) ≡ R (drop r text)
run-passes {text = text} {at} {r} R f w = ap R (part-rest text at r w.above) ∙ through R f (take (r - at) (drop at text)) (drop r text) w.inside

-- a writing that leaves each octet of the class as it is leaves a run as it is
pub all_left : {class : ℕ → Bool} (R : List ℕ → List ℕ) → ((b : ℕ) (s : List ℕ) → class b ≡ true → R (b ∷ s) ≡ b ∷ R s) → (xs ys : List ℕ) → all class xs ≡ true → R (xs ++ ys) ≡ xs ++ R ys
unfolding all
all_left R f [] ys h = refl
all_left {class} R f (x ∷ xs) ys h = let b = both (class x) (all class xs) h in f x (xs ++ ys) b.0 ∙ ap (λ (l : List ℕ). x ∷ l) (all_left R f xs ys b.1)

pub run-left : {class : ℕ → Bool} {text : List ℕ} {at r : ℕ} (R : List ℕ → List ℕ) → ((b : ℕ) (s : List ℕ) → class b ≡ true → R (b ∷ s) ≡ b ∷ R s) → ClassRun class text at r
    → R (drop at text) ≡ take (r - at) (drop at text) ++ R (drop r text)
run-left {text = text} {at} {r} R f w = ap R (part-rest text at r w.above) ∙ all_left R f (take (r - at) (drop at text)) (drop r text) w.inside

module _ {class : ℕ → Bool} {text : List ℕ} {at r : ℕ} where
  -- behind the end stands 0
  pub run-next : class 0 ≡ false → ClassRun class text at r → class (get_or text r 0) ≡ false
  run-next z w = cases (ltb r (length text)) (λ e. w.over (ltb-true r (length text) e)) (λ e. ap class (past_end text r (ltb-false r (length text) e)) ∙ z)

  run-split : ClassRun class text at r → at < r → (class (get_or text at 0) ≡ true) × (all class (take (r - (at + 1)) (drop (at + 1) text)) ≡ true)
  unfolding all
  run-split w h =
      let e : r - at ≡ suc (r - (at + 1)) = omega arith in
      let l : at < length text = omega arith in
      let s : take (r - at) (drop at text) ≡ get_or text at 0 ∷ take (r - (at + 1)) (drop (at + 1) text) = rw (e, here text at l) in
      both (class (get_or text at 0)) (all class (take (r - (at + 1)) (drop (at + 1) text))) (rw s at w.inside)

  pub run-first : ClassRun class text at r → at < r → class (get_or text at 0) ≡ true
  run-first w h = (run-split w h).0

  pub run-rest : ClassRun class text at r → at < r → ClassRun class text (at + 1) r
  run-rest w h = record { above = omega arith; below = w.below; inside = (run-split w h).1; over = w.over }

-- an octet that the end is not taken for stands inside the text
pub inside : (text : List ℕ) (i : ℕ) (class : ℕ → Bool) → class 0 ≡ false → class (get_or text i 0) ≡ true → i < length text
inside text i class z e = cases (ltb i (length text))
    (λ k. ltb-true i (length text) k)
    (λ k. never e (ap class (past_end text i (ltb-false i (length text) k)) ∙ z))

pub inside_is : (text : List ℕ) (i n : ℕ) → get_or text i 0 ≡ n → 0 < n → i < length text
inside_is text i n e h = inside text i (λ b. eqb b n) (ne_eqb 0 n (λ z. omega arith)) (eq-eqb (get_or text i 0) n e)
