-- The turns of the loop that reads a recurrence rule: each reads a part, and refuses the text or goes on.
use Prim.Native.Nat.{ℕ, zero, suc, ◌+◌, ◌-◌, ◌≤◌, ◌<◌}
use Prim.Native.Char.{code}
use mathlib.Core.Path.{◌≡◌, refl, sym, ap, ◌∙◌}
use mathlib.Core.Bool.{Bool, true, false, not}
use mathlib.Core.List.{List, [], ◌∷◌, map}
use mathlib.Core.Option.{Option, none, some}
use native.Mathlib.Omega.{arith}
use borrow.Author.Tests.{ltb-true, ltb-false, lt-ltb, le-ltb, ne_eqb, not-true}
use lib.Dec.{eqb, ltb}
use lib.ListN.{length, get_or, take, drop, set, length-drop}
use Rattle.std.specs.List.{slice_split}
use Rattle.std.proofs.lemmas.List.{drop_more, drop_all}
use Rattle.octets.specs.Basics.{All}
use Rattle.octets.specs.Pieces.{split}
use Rattle.octets.specs.Optional.{map?, both?, is_some, guard, each}
use Rattle.octets.specs.Classes.{upper}
use Rattle.octets.proofs.Cases.{cases, never, both, or-false-right}
use Rattle.octets.proofs.Pieces.{Free, split-free}
use Rattle.octets.proofs.Positions.{from}
use Rattle.octets.proofs.Optional.{none_is}
use Rattle.calendar.specs.Recurrence.{Key, keys, Part, part, keyed_part, is_rule, parts_of}
use Rattle.calendar.specs.Walk.{Places, key_at, part_in, first_part}
use Rattle.calendar.specs.Rules.{rule_from, read_rule}
use Rattle.calendar.specs.Reading.{values_stand, with_part, kept, barred, may_follow, rule_read}
use Rattle.calendar.specs.declared.rules.RuleHead.{RuleHead}
use Rattle.calendar.specs.declared.rules.Rule.{Rule}
use Rattle.calendar.proofs.Options.{map_is, some-map}
use Rattle.calendar.proofs.Keys.{key-count}
use Rattle.calendar.proofs.Pieces.{pieces-are, semicolon-uncased, split-upper}
use Rattle.calendar.proofs.RuleParts.{before-free, read_part, read_parts, part_found, read-part, first-from, first_to}
use Rattle.calendar.proofs.PartsRead.{Gathered, gathered-more, gathered-lost, gathered-barred, gathered-all}

-- the values of a part stand where the part can be read
keyed-stands : (v : List ℕ) (k : Key) → is_some (keyed_part (upper v) k) ≡ values_stand k.sort v
unfolding keyed_part values_stand
keyed-stands v k = some-map (part k) _

some_is : {A : Type 0} (o : Option A) → is_some o ≡ true → (a : A) × (o ≡ some a)
unfolding is_some
some_is none e = never e refl
some_is (some a) e = (a, refl)

keyed-name : (v : List ℕ) (k : Key) (p : Part) → keyed_part (upper v) k ≡ some p → p.name ≡ k.name
unfolding keyed_part
keyed-name v k p e = let m = map_is (part k) _ p e in rw (← m.2)

no-rule : (s : List ℕ) → guard is_rule (read_parts (upper s)) ≡ none → none ≡ read_rule s
unfolding read_rule parts_of read_parts
no-rule s e = rw e (unfold map? in refl)

the-rule : (s : List ℕ) → map? rule_from (guard is_rule (read_parts (upper s))) ≡ read_rule s
unfolding read_rule parts_of read_parts
the-rule s = refl

-- there is a rule, with its days or without them, where there are its parts
pub rule-stands : (gather : Bool) (s : List ℕ) → is_some (map? (kept gather) (read_rule s)) ≡ is_some (parts_of (upper s))
unfolding read_rule
rule-stands gather s = some-map (kept gather) (read_rule s) ∙ some-map rule_from (parts_of (upper s))

-- with its days it is the whole rule
pub rule-whole : (s : List ℕ) → map? (kept true) (read_rule s) ≡ read_rule s
unfolding map? kept
rule-whole s = by (read_rule s)
  where
    by : (o : Option Rule) → map? (kept true) o ≡ o
    by none = refl
    by (some r) = refl

-- as the code tests whether a part may follow
module _ (seen : List Bool) (k : ℕ) (v : List ℕ) where
  pub follow-unknown : 14 ≤ k → false ≡ may_follow seen k v
  unfolding may_follow
  follow-unknown h = rw (key-count, le-ltb k 14 h)

  pub follow-barred : k < 14 → barred seen k ≡ true → false ≡ may_follow seen k v
  unfolding may_follow
  follow-barred h e = rw (key-count, lt-ltb k 14 h, e)

  pub follow-free : k < 14 → barred seen k ≡ false → values_stand (key_at k).sort v ≡ may_follow seen k v
  unfolding may_follow
  follow-free h e = rw (key-count, lt-ltb k 14 h, e)

  pub follows : may_follow seen k v ≡ true → (k < 14) × (barred seen k ≡ false) × (values_stand (key_at k).sort v ≡ true)
  unfolding may_follow
  follows e =
      let a = both (ltb k (length keys)) _ e in
      let b = both (not (barred seen k)) _ a.1 in
      (ltb-true k 14 (rw key-count at a.0), not-true (barred seen k) b.0, b.1)

-- a scan of `&s[at..]`
module _ (s : List ℕ) (at : ℕ) (q : Places) (is : q ≡ first_part (take (length s - at) (drop at s))) where
  pub part-inside : q.to < length (take (length s - at) (drop at s)) → q.to < length s - at
  part-inside h = rw (from s at, length-drop at s) at h

-- what is read of the parts from the n-th on
abbrev pub parts_from : List ℕ → ℕ → Option (List Part)
parts_from s n = each read_part (map upper (drop n (split (code ";") s)))

pub parts-all : (s : List ℕ) → read_parts (upper s) ≡ parts_from s 0
unfolding read_parts
parts-all s = ap (each read_part) (split-upper (code ";") semicolon-uncased s)

pub parts_end : (s : List ℕ) (n : ℕ) → n ≡ length (slice_split (λ x. eqb x 59) s) → parts_from s n ≡ some []
unfolding each
parts_end s n h = let e : n ≡ length (split 59 s) = rw (pieces-are 59 s) at h in rw (drop_all n (split 59 s) (omega (arith, e)))

all_at : (P : List ℕ → Type 0) (ls : List (List ℕ)) (i : ℕ) (d : List ℕ) → All P ls → i < length ls → P (get_or ls i d)
all_at P [] i d a h = absurd (omega arith)
all_at P (l ∷ ls) zero d a h = a.0
all_at P (l ∷ ls) (suc i) d a h = all_at P ls i d a.1 (omega arith)

-- the part p is the n-th, and its places are q
module _ (s : List ℕ) (n : ℕ) (p : List ℕ) (t : (n < length (slice_split (λ x. eqb x 59) s)) × (p ≡ get_or (slice_split (λ x. eqb x 59) s) n p)) where
  within : n < length (split 59 s)
  within = rw (pieces-are 59 s) at t.0

  this : p ≡ get_or (split 59 s) n p
  this = rw (pieces-are 59 s) at t.1

  free : Free 59 p
  free = rw (← this) at (all_at (Free 59) (split 59 s) n p (split-free 59 s) within)

  ahead : parts_from s n ≡ both? ◌∷◌ (read_part (upper p)) (parts_from s (n + 1))
  unfolding each
  ahead = rw (drop_more (split 59 s) n p within, ← this)

  module _ (q : Places) (is : q ≡ first_part p) where
    here : part_in p ≡ q
    unfolding first_part
    here = sym (rw (before-free 59 p free) at is)

    pub part-ends : q.to ≤ length p
    part-ends = rw (← is) at (first_to p)

    pub part-begins : q.from ≤ q.to
    part-begins = rw (← is) at (first-from p)

    abbrev value : List ℕ
    value = take (q.to - q.from) (drop q.from p)

    read : read_part (upper p) ≡ part_found p q
    read = rw here at (read-part p)

    module _ (gather : Bool) (seen : List Bool) (head : RuleHead) (g : Gathered gather (read_parts (upper s)) (parts_from s n) seen head) where
      g-ahead : Gathered gather (read_parts (upper s)) (both? ◌∷◌ (part_found p q) (parts_from s (n + 1))) seen head
      g-ahead = rw (ahead, read) at g

      lost : part_found p q ≡ none → none ≡ read_rule s
      unfolding both?
      lost e = no-rule s (gathered-lost (rw e at g-ahead))

      turn-unknown : 14 ≤ q.key → none ≡ read_rule s
      turn-unknown h = lost (rw (le-ltb q.key 14 h))

      module _ (h : q.key < 14) where
        found : part_found p q ≡ keyed_part (upper value) (key_at q.key)
        found = rw (lt-ltb q.key 14 h)

        named : (r : Part) → part_found p q ≡ some r → r.name ≡ (key_at q.key).name
        named r e = keyed-name _ (key_at q.key) r (sym found ∙ e)

        turn-barred : barred seen q.key ≡ true → none ≡ read_rule s
        turn-barred stop = no-rule s (gathered-barred (part_found p q) _ q.key h g-ahead named stop)

        turn-wrong : values_stand (key_at q.key).sort value ≡ false → none ≡ read_rule s
        turn-wrong e = lost (found ∙ none_is _ (keyed-stands _ (key_at q.key) ∙ e))

      turn-refused : may_follow seen q.key value ≡ false → none ≡ read_rule s
      turn-refused e = cases (ltb q.key 14)
          (λ k. let h = ltb-true q.key 14 k in
          cases (barred seen q.key) (turn-barred h) (λ b. turn-wrong h (follow-free seen q.key value h b ∙ e)))
          (λ k. turn-unknown (ltb-false q.key 14 k))

      turn-on : may_follow seen q.key value ≡ true → Gathered gather (read_parts (upper s)) (parts_from s (n + 1)) (set seen q.key true) (with_part gather head q.key value)
      turn-on ok =
          let f = follows seen q.key value ok in
          let r = some_is (keyed_part (upper value) (key_at q.key)) (keyed-stands value (key_at q.key) ∙ f.2) in
          gathered-more _ r.0 q.key value f.0 (rw (found f.0, r.1) at g-ahead) r.1 f.1

      -- k is the place of its key
      module _ (k : ℕ) (at-k : q.key ≡ k) where
        pub key-unknown : 14 ≤ k → none ≡ read_rule s
        key-unknown h = turn-unknown (rw at-k h)

        pub key-refused : may_follow seen k value ≡ false → none ≡ read_rule s
        key-refused e = turn-refused (rw at-k e)

        pub key-on : may_follow seen k value ≡ true → Gathered gather (read_parts (upper s)) (parts_from s (n + 1)) (set seen k true) (with_part gather head k value)
        key-on ok = rw at-k at (turn-on (rw at-k ok))

-- all parts are read
pub rule_end : (gather : Bool) (s : List ℕ) (seen : List Bool) (head : RuleHead) → Gathered gather (read_parts (upper s)) (some []) seen head
    → rule_read head seen ≡ map? (kept gather) (read_rule s)
rule_end gather s seen head g = sym (gathered-all g) ∙ ap (map? (kept gather)) (the-rule s)

-- as the code tests what may follow
module _ (seen : List Bool) (k : ℕ) where
  pub barred-seen : get_or seen k false ≡ true → true ≡ barred seen k
  unfolding barred
  barred-seen e = rw e

  module _ (e : get_or seen k false ≡ false) where
    pub barred-until : k ≡ 1 → get_or seen 2 false ≡ barred seen k
    unfolding barred
    barred-until z = rw (e, z) (sym (or-false-right (get_or seen 2 false)))

    pub barred-count : k ≡ 2 → get_or seen 1 false ≡ barred seen k
    unfolding barred
    barred-count z = rw (e, z)

    pub barred-not : (k ≡ 1 → ⊥) → (k ≡ 2 → ⊥) → false ≡ barred seen k
    unfolding barred
    barred-not m n = rw (e, ne_eqb k 1 m, ne_eqb k 2 n)
