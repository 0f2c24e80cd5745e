-- The search for the first octet of a kind, by places: a loop at one, where it ends, and what it passed.
use Prim.Native.Nat.{ℕ, zero, suc, ◌+◌, ◌-◌, ◌≤◌, ◌<◌}
use mathlib.Core.Path.{◌≡◌, refl, sym, ap, ◌∙◌}
use mathlib.Core.Bool.{Bool, true, false, false≢true, not, not-not}
use mathlib.Core.List.{List, [], ◌∷◌, ◌++◌}
use mathlib.Core.Logic.{◌⊎◌, inl, inr}
use native.Mathlib.Omega.{arith}
use lib.Dec.{eqb}
use lib.ListN.{length, get_or, take, drop, length-drop}
use lib.Seq.{take_all, drop-drop, get_or-drop}
use Rattle.std.proofs.lemmas.List.{drop-take}
use Rattle.octets.specs.Basics.{pick, all, All}
use Rattle.octets.proofs.Cases.{cases, both, all_weaker}
use Rattle.octets.proofs.Positions.{here, ended}
use Rattle.octets.specs.Search.{until}

-- a choice between nothing and an octet with more
pub le-by : (b : Bool) (c : ℕ) (l s : List ℕ) → length l ≤ length s → length (pick b [] (c ∷ l)) ≤ suc (length s)
le-by true c l s h = omega arith
le-by false c l s h = omega arith

pub take_by : (b : Bool) (c : ℕ) (l s : List ℕ) → l ≡ take (length l) s → pick b [] (c ∷ l) ≡ take (length (pick b [] (c ∷ l))) (c ∷ s)
take_by true c l s h = refl
take_by false c l s h = ap (λ (t : List ℕ). c ∷ t) h

module _ (stop : ℕ → Bool) where
  pub until-le : (s : List ℕ) → length (until stop s) ≤ length s
  unfolding until
  until-le [] = omega arith
  until-le (c ∷ s) = le-by (stop c) c (until stop s) s (until-le s)

  pub until-take : (s : List ℕ) → until stop s ≡ take (length (until stop s)) s
  unfolding until
  until-take [] = refl
  until-take (c ∷ s) = take_by (stop c) c (until stop s) s (until-take s)

  -- no octet that was passed is of the kind
  free-by : (b : Bool) (c : ℕ) (l : List ℕ) → stop c ≡ b → All (λ x. stop x ≡ false) l → All (λ x. stop x ≡ false) (pick b [] (c ∷ l))
  free-by true c l e h = tt
  free-by false c l e h = (e, h)

  pub until-free : (s : List ℕ) → All (λ x. stop x ≡ false) (until stop s)
  unfolding until
  until-free [] = tt
  until-free (c ∷ s) = free-by (stop c) c (until stop s) refl (until-free s)

  -- an octet of the kind stands behind, or there is none
  split_by : (b : Bool) (c : ℕ) (l s : List ℕ) → stop c ≡ b
      → (length l < length s → (s ≡ l ++ get_or s (length l) 0 ∷ drop (suc (length l)) s) × (stop (get_or s (length l) 0) ≡ true))
      → length (pick b [] (c ∷ l)) < suc (length s)
      → (c ∷ s ≡ pick b [] (c ∷ l) ++ get_or (c ∷ s) (length (pick b [] (c ∷ l))) 0 ∷ drop (length (pick b [] (c ∷ l))) s) × (stop (get_or (c ∷ s) (length (pick b [] (c ∷ l))) 0) ≡ true)
  split_by true c l s e f h = (refl, e)
  split_by false c l s e f h = let g = f (omega arith) in (ap (λ (t : List ℕ). c ∷ t) g.0, g.1)

  pub until-split : (s : List ℕ) → length (until stop s) < length s
      → (s ≡ until stop s ++ get_or s (length (until stop s)) 0 ∷ drop (suc (length (until stop s))) s) × (stop (get_or s (length (until stop s)) 0) ≡ true)
  unfolding until
  until-split [] h = absurd (omega arith)
  until-split (c ∷ s) h = split_by (stop c) c (until stop s) s refl (until-split s) h

  pub until-whole : (s : List ℕ) → length s ≤ length (until stop s) → until stop s ≡ s
  until-whole s h = until-take s ∙ take_all (length (until stop s)) s h

  passed : (b : Bool) → not b ≡ true → b ≡ false
  passed true h = absurd (false≢true h)
  passed false h = refl

  -- octets that are not of the kind are passed together
  past : (k : ℕ) (s : List ℕ) → k ≤ length s → all (λ c. not (stop c)) (take k s) ≡ true → length (until stop s) ≡ k + length (until stop (drop k s))
  unfolding until all
  past zero s l h = omega arith
  past (suc k) [] l h = absurd (omega arith)
  past (suc k) (c ∷ s) l h =
      let b = both (not (stop c)) (all (λ x. not (stop x)) (take k s)) h in
      rw (passed (stop c) b.0) (omega (arith, past k s (omega arith) b.1))

  -- a loop at i
  module _ (s : List ℕ) (i : ℕ) where
    pub until-past : (e : ℕ) → i ≤ e → e ≤ length s → all (λ c. not (stop c)) (take (e - i) (drop i s)) ≡ true
        → e + length (until stop (drop e s)) ≡ i + length (until stop (drop i s))
    until-past e l m h =
        let q : i + (e - i) ≡ e = omega arith in
        let k : drop (e - i) (drop i s) ≡ drop e s = drop-drop (e - i) i s ∙ ap (λ (n : ℕ). drop n s) q in
        omega (arith, past (e - i) (drop i s) (omega (arith, length-drop i s)) h, ap (λ (r : List ℕ). length (until stop r)) k)

    pub until_none : length s ≤ i → length (until stop (drop i s)) ≡ 0
    unfolding until
    until_none h = rw (ended s i h)

    pub until-here : i < length s → stop (get_or s i 0) ≡ true → length (until stop (drop i s)) ≡ 0
    unfolding until
    until-here h e = rw (here s i h, e)

    pub until-on : i < length s → stop (get_or s i 0) ≡ false → length (until stop (drop i s)) ≡ suc (length (until stop (drop (i + 1) s)))
    unfolding until
    until-on h e = rw (here s i h, e)

  -- the scan from i ends at e
  module _ (s : List ℕ) (i e : ℕ) (q : e ≡ i + length (until stop (drop i s))) where
    pub scan-low : i ≤ e
    scan-low = omega arith

    pub scan-high : i ≤ length s → e ≤ length s
    scan-high h = omega (arith, until-le (drop i s), length-drop i s)

    pub scan-is : take (e - i) (drop i s) ≡ until stop (drop i s)
    scan-is =
        let w : e - i ≡ length (until stop (drop i s)) = omega arith in
        rw w (sym (until-take (drop i s)))

    scan-octet : get_or (drop i s) (length (until stop (drop i s))) 0 ≡ get_or s e 0
    scan-octet = get_or-drop i s (length (until stop (drop i s))) 0 ∙ rw (← q)

    pub scan-rest : drop (suc (length (until stop (drop i s)))) (drop i s) ≡ drop (e + 1) s
    scan-rest =
        let n : i + suc (length (until stop (drop i s))) ≡ e + 1 = omega arith in
        drop-drop (suc (length (until stop (drop i s)))) i s ∙ rw n

    scan-inner : e < length s → length (until stop (drop i s)) < length (drop i s)
    scan-inner h = rw (length-drop i s) (omega arith)

    pub scan-stop : e < length s → stop (get_or s e 0) ≡ true
    scan-stop h = rw scan-octet at (until-split (drop i s) (scan-inner h)).1

    pub scan-split : e < length s → drop i s ≡ until stop (drop i s) ++ get_or s e 0 ∷ drop (e + 1) s
    scan-split h = rw (scan-octet, scan-rest) at (until-split (drop i s) (scan-inner h)).0

    pub scan-whole : length s ≤ e → until stop (drop i s) ≡ drop i s
    scan-whole h = until-whole (drop i s) (rw (length-drop i s) (omega arith))

-- octets that pass a test are passed together, where the search stops at one that fails it
pub block-on : (p stop : ℕ → Bool) → ((c : ℕ) → stop c ≡ not (p c)) → (k : ℕ) (s : List ℕ) → k ≤ length s → all p (take k s) ≡ true → length (until stop s) ≡ k + length (until stop (drop k s))
block-on p stop e k s h a = past stop k s h (all_weaker p (λ c. not (stop c)) (λ x t. rw (e x, t)) (take k s) a)

-- behind the end there is nothing to pass
pub beyond : (stop : ℕ → Bool) (s : List ℕ) (at : ℕ) → (length s < at) ⊎ (length s < length s) → at ≡ at + length (until stop (drop at s))
beyond stop s at (inl h) = omega (arith, until_none stop s at (omega arith))
beyond stop s at (inr h) = absurd (omega arith)

-- the search for b passes the octets that are not b
pub until-other : (b : ℕ) (s : List ℕ) → until (λ c. not (not (eqb c b))) s ≡ until (λ c. eqb c b) s
unfolding until
until-other b [] = refl
until-other b (c ∷ s) = rw (not-not (eqb c b), until-other b s)

pub passed_by : (b : ℕ) (s : List ℕ) → length (until (λ c. not (not (eqb c b))) s) ≡ length (until (λ c. eqb c b) s)
passed_by b s = ap length (until-other b s)

-- the search among the first k octets finds one, or goes on behind them
module _ (stop : ℕ → Bool) where
  near : (k : ℕ) (s : List ℕ) → length (until stop (take k s)) < k → length (until stop s) ≡ length (until stop (take k s))
  unfolding until
  near zero s h = absurd (omega arith)
  near (suc k) [] h = refl
  near (suc k) (c ∷ s) h = cases (stop c) (λ e. rw e) (λ e. rw e (ap suc (near k s (omega (arith, rw e at h)))))

  far : (k : ℕ) (s : List ℕ) → k ≤ length (until stop (take k s)) → length (until stop s) ≡ k + length (until stop (drop k s))
  unfolding until
  far zero s h = omega arith
  far (suc k) [] h = absurd (omega arith)
  far (suc k) (c ∷ s) h = cases (stop c) (λ e. absurd (omega (arith, rw e at h))) (λ e. rw e (omega (arith, far k s (omega (arith, rw e at h)))))

module _ (b : ℕ) (s : List ℕ) (at k : ℕ) {e : ℕ} (q : e ≡ at + length (until (λ c. not (not (eqb c b))) (drop at (take (at + k) s)))) where
  cut : e ≡ at + length (until (λ c. eqb c b) (take k (drop at s)))
  cut = q ∙ rw (until-other b (drop at (take (at + k) s)), drop-take at k s)

  pub near-place : e < at + k → e ≡ at + length (until (λ c. eqb c b) (drop at s))
  near-place h = omega (arith, cut, near (λ c. eqb c b) k (drop at s) (omega (arith, cut)))

  pub far-place : at + k ≤ e → at + k + length (until (λ c. eqb c b) (drop (at + k) s)) ≡ at + length (until (λ c. eqb c b) (drop at s))
  far-place h =
      let d = ap (λ (r : List ℕ). length (until (λ c. eqb c b) r)) (drop-drop k at s) in
      omega (arith, d, far (λ c. eqb c b) k (drop at s) (omega (arith, cut)))

-- octets of a class are passed together
pub run_past : (p : ℕ → Bool) (s : List ℕ) (i e : ℕ) → i ≤ e → e ≤ length s → all p (take (e - i) (drop i s)) ≡ true
    → e + length (until (λ c. not (p c)) (drop e s)) ≡ i + length (until (λ c. not (p c)) (drop i s))
run_past p s i e l m h = until-past (λ c. not (p c)) s i e l m (all_weaker p (λ c. not (not (p c))) (λ x k. rw k) (take (e - i) (drop i s)) h)
