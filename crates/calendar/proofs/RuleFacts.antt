-- What is told of the values in a rule that is read: each is a value of its key's sort, and so an interval is 1 or more.
use Prim.Native.Nat.{ℕ, ◌≤◌}
use Prim.Native.Char.{code}
use mathlib.Core.Path.{◌≡◌, refl, sym, ap, ◌∙◌}
use mathlib.Core.Bool.{true}
use mathlib.Core.List.{List, [], ◌∷◌}
use mathlib.Core.Option.{Option, none, some}
use native.Mathlib.Omega.{arith}
use Rattle.octets.specs.Basics.{octets, ◌and◌, ◌or◌, single, same, All}
use Rattle.octets.specs.Pieces.{split}
use Rattle.octets.specs.Optional.{guard, given, each}
use Rattle.octets.specs.Classes.{between, upper}
use Rattle.octets.specs.Limits.{most_integer}
use Rattle.octets.specs.Decimal.{digits, value_of, trim}
use Rattle.octets.proofs.Cases.{cases, both}
use Rattle.octets.proofs.Classes.{between-true, same-is}
use Rattle.octets.proofs.Decimal.{trim-value}
use Rattle.octets.proofs.Optional.{missing, some_same, when-is, guard-is, map_is, then_is, each_none, each-is}
use Rattle.octets.proofs.Pieces.{split-filled}
use Rattle.calendar.specs.Recurrence.{PartSort, count, Key, keys, key_in, key_named, item_of, count_of, several, Part, part, keyed_part, part_of, is_rule, parts_of}
use Rattle.calendar.specs.Rules.{first_of, value_named, rule_from, read_rule}
use Rattle.calendar.specs.declared.rules.Rule.{Rule}
use Rattle.calendar.proofs.RuleParts.{named-found}

-- what `each` makes has what each of its values has
each-has : {A B : Type 0} (f : A → Option B) (P : B → Type 0) → ((x : A) (y : B) → f x ≡ some y → P y) → (xs : List A) (ys : List B) → each f xs ≡ some ys → All P ys
each-has f P h [] ys e = rw (each_none f ys e) tt
each-has f P h (x ∷ xs) ys e = each-is f x xs ys e (λ c cs p q w. rw (← w) (h x c p, each-has f P h xs cs q))

-- the key of the name n has values of a sort, of which each has P
module _ (n : List ℕ) (sort : PartSort) (P : List ℕ → Type 0) (named : (k : Key) → key_named n ≡ some k → k.sort ≡ sort)
    (item : (x y : List ℕ) → item_of sort x ≡ some y → P y) where
  abbrev Holds : Part → Type 0
  Holds p = same n p.name ≡ true → P (first_of p.values)

  first_holds : (xs ys : List (List ℕ)) → (xs ≡ [] → ⊥) → each (item_of sort) xs ≡ some ys → P (first_of ys)
  unfolding first_of
  first_holds [] ys f e = absurd (f refl)
  first_holds (x ∷ xs) ys f e = each-is (item_of sort) x xs ys e (λ c cs p q w. rw (← w) (item x c p))

  keyed-holds : (m v : List ℕ) (k : Key) (p : Part) → key_named m ≡ some k → keyed_part v k ≡ some p → Holds p
  unfolding keyed_part key_named
  keyed-holds m v k p f e =
      map_is (part k) (guard (λ vs. several k.sort or single vs) (each (item_of k.sort) (split (code ",") v))) p e
      (λ vs q w. rw (← w) (λ u.
      let z : m ≡ n = sym (same-is n k.name u ∙ named-found keys m k f) in
      first_holds (split (code ",") v) vs (split-filled (code ",") v) (rw (named k (rw z at f)) at (guard-is (λ ws. several k.sort or single ws) _ vs q).0)))

  part-holds : (ls : List (List ℕ)) (p : Part) → part_of ls ≡ some p → Holds p
  unfolding part_of
  part-holds [] p e = missing e
  part-holds (m ∷ []) p e = missing e
  part-holds (m ∷ v ∷ []) p e = then_is (key_named m) (keyed_part v) p e (λ k q w. keyed-holds m v k p q w)
  part-holds (m ∷ v ∷ w ∷ ls) p e = missing e

  value-holds : (ps : List Part) (v : List ℕ) → All Holds ps → value_named n ps ≡ some v → P v
  unfolding value_named
  value-holds [] v h e = missing e
  value-holds (p ∷ ps) v h e = cases (same n p.name)
      (λ b. let w : first_of p.values ≡ v = (let d = rw b at e in cc) in rw w at (h.0 b))
      (λ b. value-holds ps v h.1 (rw b at e))

  pub value-has : (s : List ℕ) (ps : List Part) (v : List ℕ) → parts_of s ≡ some ps → value_named n ps ≡ some v → P v
  unfolding parts_of
  value-has s ps v e =
      value-holds ps v (each-has (λ p. part_of (split (code "=") p)) Holds (λ x. part-holds (split (code "=") x)) (split (code ";") s) ps (guard-is is_rule _ ps e).0)

-- a count is 1 or more
count-item : (x y : List ℕ) → item_of count x ≡ some y → 1 ≤ value_of y
unfolding item_of count_of
count-item x y e =
    let w = when-is (digits x and between 1 most_integer (value_of x)) (trim x) y e in
    let b = both (digits x) (between 1 most_integer (value_of x)) w.0 in
    rw (← w.1, trim-value x) (between-true 1 most_integer (value_of x) b.1).0

interval-named : (k : Key) → key_named (octets "INTERVAL") ≡ some k → k.sort ≡ count
unfolding key_named key_in keys same
interval-named k e = ap (λ (j : Key). j.sort) (sym (some_same e))

pub rule-interval : (s : List ℕ) (r : Rule) → read_rule s ≡ some r → 1 ≤ r.interval
unfolding read_rule rule_from
rule-interval s r e = map_is rule_from (parts_of (upper s)) r e (λ ps q w. rw (← w) (go ps q (value_named (octets "INTERVAL") ps) refl))
  where
    go : (ps : List Part) → parts_of (upper s) ≡ some ps → (o : Option (List ℕ)) → value_named (octets "INTERVAL") ps ≡ o → 1 ≤ given 1 value_of o
    go ps q none f = unfold given in omega arith
    go ps q (some v) f = unfold given in value-has (octets "INTERVAL") count (λ t. 1 ≤ value_of t) interval-named count-item (upper s) ps v q f
