-- The values of a part: each stands, and there is one only where there may not be several.
use Prim.Native.Nat.{ℕ, ◌+◌, ◌-◌, ◌≤◌, ◌<◌}
use Prim.Native.Char.{code}
use mathlib.Core.Path.{◌≡◌, refl, ◌∙◌, sym}
use mathlib.Core.Bool.{Bool, true, false, not}
use mathlib.Core.Logic.{◌⊎◌, inl, inr}
use mathlib.Core.List.{List, [], ◌∷◌, map}
use mathlib.Core.Option.{Option, none, some}
use lib.Dec.{eqb, ltb}
use Rattle.std.specs.List.{slice_split, list_all, list_any}
use Rattle.octets.specs.Basics.{◌and◌, ◌or◌, filled, single}
use Rattle.octets.specs.Pieces.{split, onto, cut}
use Rattle.octets.specs.Optional.{both?, is_some, when, guard, each}
use Rattle.octets.specs.Classes.{upper}
use Rattle.octets.proofs.Cases.{cases, never}
use Rattle.octets.proofs.Pieces.{split-filled}
use Rattle.calendar.specs.Recurrence.{PartSort, item_of, several}
use Rattle.calendar.specs.Reading.{values_stand}
use Rattle.calendar.proofs.Pieces.{comma-uncased, split-upper, pieces-are, scanned}
use native.Mathlib.Omega.{arith}
use borrow.Author.Tests.{ltb-true, ltb-false}
use lib.ListN.{length, take, drop}
use lib.Seq.{drop-drop}
use Rattle.octets.proofs.Positions.{from, upto}
use Rattle.calendar.specs.Walk.{before_first}
use Rattle.calendar.proofs.RuleParts.{each_more, each_last, both_is}

module _ (f : List ℕ → Option (List ℕ)) where
  each-upper : (ls : List (List ℕ)) → each f (map upper ls) ≡ each (λ l. f (upper l)) ls
  unfolding each
  each-upper [] = refl
  each-upper (l ∷ ls) = rw (each-upper ls)

  both-there : (o : Option (List ℕ)) (r : Option (List (List ℕ))) → is_some (both? ◌∷◌ o r) ≡ (is_some o and is_some r)
  unfolding is_some both?
  both-there none r = refl
  both-there (some a) none = refl
  both-there (some a) (some ls) = refl

  each-there : (ls : List (List ℕ)) → is_some (each f ls) ≡ list_all (λ l. is_some (f l)) ls
  unfolding each
  each-there [] = unfold is_some in refl
  each-there (l ∷ ls) = rw (← (each-there ls)) (both-there (f l) (each f ls))

  -- where there may be several, or one only
  fit-several : (r : Option (List (List ℕ))) → is_some (guard (λ vs. true or single vs) r) ≡ is_some r
  unfolding is_some guard when
  fit-several none = refl
  fit-several (some vs) = refl

  two-left : (o q : Option (List ℕ)) (r : Option (List (List ℕ))) → is_some (guard (λ vs. false or single vs) (both? ◌∷◌ o (both? ◌∷◌ q r))) ≡ false
  unfolding is_some guard when both? single filled
  two-left none q r = refl
  two-left (some a) none r = refl
  two-left (some a) (some b) none = refl
  two-left (some a) (some b) (some vs) = refl

  one-left : (o : Option (List ℕ)) → is_some (guard (λ vs. false or single vs) (both? ◌∷◌ o (some []))) ≡ (is_some o and true)
  unfolding is_some guard when both? single filled
  one-left none = refl
  one-left (some a) = refl

  fit-alone : (ls : List (List ℕ)) → is_some (guard (λ vs. false or single vs) (each f ls)) ≡ (single ls and list_all (λ l. is_some (f l)) ls)
  unfolding each single filled
  fit-alone [] = unfold guard when is_some in refl
  fit-alone (l ∷ []) = one-left (f l)
  fit-alone (l ∷ m ∷ ls) = two-left (f l) (f m) (each f ls)

  fitted : (many : Bool) (ls : List (List ℕ)) → is_some (guard (λ vs. many or single vs) (each f ls)) ≡ ((many or single ls) and list_all (λ l. is_some (f l)) ls)
  fitted true ls = fit-several (each f ls) ∙ each-there ls
  fitted false ls = fit-alone ls

-- there is one value where there is no separator
single-onto : (x : ℕ) (ls : List (List ℕ)) → (ls ≡ [] → ⊥) → single (onto x ls) ≡ single ls
unfolding onto single
single-onto x [] n = absurd (n refl)
single-onto x (l ∷ ls) n = refl

not-single : (ls : List (List ℕ)) → (ls ≡ [] → ⊥) → single ([] ∷ ls) ≡ false
unfolding single filled
not-single [] n = absurd (n refl)
not-single (l ∷ ls) n = refl

single-split : (sep : ℕ) (v : List ℕ) → single (split sep v) ≡ not (list_any (λ y. eqb y sep) v)
unfolding split cut
single-split sep [] = unfold single filled in refl
single-split sep (x ∷ v) = cases (eqb x sep)
    (λ e. rw e (not-single (split sep v) (split-filled sep v)))
    (λ e. rw e (single-onto x (split sep v) (split-filled sep v) ∙ single-split sep v))

-- as the code tests them
pub values-tested : (sort : PartSort) (v : List ℕ)
    → values_stand sort v ≡ ((several sort or not (list_any (λ y. eqb y 44) v)) and list_all (λ l. is_some (item_of sort (upper l))) (slice_split (λ x. eqb x 44) v))
unfolding values_stand
values-tested sort v = rw (pieces-are 44 v, split-upper (code ",") comma-uncased v, each-upper (item_of sort) (split (code ",") v), ← (single-split 44 v))
    (fitted (λ l. item_of sort (upper l)) (several sort) (split (code ",") v))

pub may-be : (many commas : Bool) → (many ≡ true) ⊎ ((many ≡ false) × (commas ≡ false)) → (many or not commas) ≡ true
may-be many commas (inl e) = rw e
may-be many commas (inr e) = rw (e.0, e.1)

-- the first value, and those behind it; `many` tells whether there may be several
module _ (many : Bool) where
  abbrev fit : Option (List (List ℕ)) → Bool
  fit r = is_some (guard (λ vs. many or single vs) r)

  first-wrong : (o : Option (List ℕ)) (r : Option (List (List ℕ))) → is_some o ≡ false → fit (both? ◌∷◌ o r) ≡ false
  unfolding is_some both? guard
  first-wrong none r e = refl
  first-wrong (some a) r e = never refl e

  or-true : many or true ≡ true
  or-true = cases many (λ e. rw e) (λ e. rw e)

  only_one : (o : Option (List ℕ)) → is_some o ≡ true → fit (both? ◌∷◌ o (some [])) ≡ true
  unfolding is_some both? guard single filled
  only_one none e = never e refl
  only_one (some a) e = rw or-true (unfold when is_some in refl)

  not-alone : (o : Option (List ℕ)) (r : Option (List (List ℕ))) → (r ≡ some [] → ⊥) → many ≡ false → fit (both? ◌∷◌ o r) ≡ false
  unfolding both? guard single filled
  not-alone none r n m = unfold is_some in refl
  not-alone (some a) none n m = unfold is_some in refl
  not-alone (some a) (some []) n m = absurd (n refl)
  not-alone (some a) (some (x ∷ xs)) n m = rw m (unfold when is_some in refl)

  others-left : (o : Option (List ℕ)) (r : Option (List (List ℕ))) → is_some o ≡ true → many ≡ true → fit (both? ◌∷◌ o r) ≡ fit r
  unfolding is_some both? guard
  others-left none r e m = never e refl
  others-left (some a) none e m = refl
  others-left (some a) (some xs) e m = rw m (unfold when is_some in refl)

each-filled : (f : List ℕ → Option (List ℕ)) (ls : List (List ℕ)) → (ls ≡ [] → ⊥) → each f ls ≡ some [] → ⊥
each-filled f [] n e = n refl
each-filled f (l ∷ ls) n e = let b = both_is (f l) (each f ls) [] (unfold each in e) in let z : ◌≡◌ {A = ℕ} 0 1 = cc b.whole in omega arith

-- a turn, which tests the value at `at`
module _ (sort : PartSort) (v : List ℕ) (at e : ℕ) (b : Bool) (is : e ≡ length (before_first (code ",") (take (length v - at) (drop at v))))
    (told : b ≡ is_some (item_of sort (upper (take (e - 0) (drop 0 (take (length v - at) (drop at v))))))) where
  abbrev rest : List ℕ
  rest = drop at v

  value : is_some (item_of sort (upper (take e rest))) ≡ b
  value = sym (rw (from v at, upto rest e) at told)

  last : length (take (length v - at) rest) ≤ e → each (item_of sort) (split (code ",") (upper rest)) ≡ both? ◌∷◌ (item_of sort (upper (take e rest))) (some [])
  last h = each_last (code ",") comma-uncased (item_of sort) rest e (scanned (code ",") v at e is) (rw (from v at) at h)

  more : e < length (take (length v - at) rest)
      → each (item_of sort) (split (code ",") (upper rest)) ≡ both? ◌∷◌ (item_of sort (upper (take e rest))) (each (item_of sort) (split (code ",") (upper (drop (e + 1) rest))))
  more h = each_more (code ",") comma-uncased (item_of sort) rest e (scanned (code ",") v at e is) (rw (from v at) at h)

  pub item-wrong : b ≡ false → values_stand sort rest ≡ false
  unfolding values_stand
  item-wrong f = cases (ltb e (length (take (length v - at) rest)))
      (λ h. rw (more (ltb-true e _ h)) (first-wrong (several sort) _ _ (value ∙ f)))
      (λ h. rw (last (ltb-false e _ h)) (first-wrong (several sort) _ _ (value ∙ f)))

  pub item-last : b ≡ true → length (take (length v - at) rest) ≤ e → values_stand sort rest ≡ true
  unfolding values_stand
  item-last t h = rw (last h) (only_one (several sort) _ (value ∙ t))

  pub item-alone : e < length (take (length v - at) rest) → several sort ≡ false → values_stand sort rest ≡ false
  unfolding values_stand
  item-alone h m = rw (more h) (not-alone (several sort) _ _ (each-filled (item_of sort) _ (split-filled (code ",") _)) m)

  pub item_on : b ≡ true → e < length (take (length v - at) rest) → several sort ≡ true → values_stand sort rest ≡ values_stand sort (drop (at + e + 1) v)
  unfolding values_stand
  item_on t h m =
      let n : at + (e + 1) ≡ at + e + 1 = omega arith in
      rw (more h, ← n, ← (drop-drop (e + 1) at v)) (others-left (several sort) _ _ (value ∙ t) m)
