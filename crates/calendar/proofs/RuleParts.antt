-- The walk over a recurrence rule: its parts are those that `first_part` finds one after another.
use Prim.Native.Nat.{ℕ, zero, suc, ◌+◌, ◌-◌, ◌≤◌, ◌<◌}
use Prim.Native.Char.{code}
use mathlib.Core.Path.{◌≡◌, refl, sym, ap, ◌∙◌}
use mathlib.Core.Bool.{Bool, true, false}
use mathlib.Core.List.{List, [], ◌∷◌, map}
use mathlib.Core.Option.{Option, none, some}
use native.Mathlib.Omega.{arith}
use borrow.Author.Tests.{ltb-true, ltb-false, lt-ltb, le-ltb}
use lib.Dec.{eqb, ltb}
use lib.ListN.{length, get_or, take, drop}
use lib.Seq.{take-nil, take-take}
use Rattle.octets.specs.Basics.{pick, ◌or◌, single, same, All}
use Rattle.octets.specs.Optional.{both?, then?, each}
use Rattle.octets.specs.Classes.{between, is_digit, is_upper, upper}
use Rattle.octets.specs.Decimal.{is_sign}
use Rattle.octets.specs.Pieces.{split, joined}
use Rattle.octets.proofs.Cases.{cases, apart, All-append, All-weaker, all-All}
use Rattle.octets.proofs.Classes.{same-is}
use Rattle.octets.proofs.Pieces.{Free, split-filled, joined-split}
use Rattle.octets.proofs.Positions.{from}
use Rattle.calendar.specs.Recurrence.{PartSort, frequency, Key, key, keys, key_in, key_named, item_of, several, Part, part, keyed_part, part_of, is_rule, parts_of}
use Rattle.calendar.specs.Walk.{Places, before_first, word_place, key_place, key_at, keyed, part_in, first_part}
use Rattle.octets.proofs.Optional.{guard-is}
use Rattle.calendar.proofs.Options.{map_is}
use Rattle.calendar.proofs.Pieces.{before-le, before-take, before-all, split-more, split-last, Uncased, semicolon-uncased, equals-uncased, split-upper}
use Rattle.calendar.proofs.Keys.{key-count}
use Rattle.calendar.proofs.Octets.{item_octet, item-octets}

-- Lists of pieces, read one after another: e is where the first piece ends.
module _ {B : Type 0} (sep : ℕ) (u : Uncased sep) (f : List ℕ → Option B) (s : List ℕ) (e : ℕ) (is : e ≡ length (before_first sep s)) where
  pub each_more : e < length s → each f (split sep (upper s)) ≡ both? ◌∷◌ (f (upper (take e s))) (each f (split sep (upper (drop (e + 1) s))))
  unfolding each
  each_more h =
      let first : before_first sep s ≡ take e s = rw is (before-take sep s) in
      rw (split-upper sep u s, split-upper sep u (drop (e + 1) s), split-more sep s (rw (← is) h), ← is, first)

  pub each_last : length s ≤ e → each f (split sep (upper s)) ≡ both? ◌∷◌ (f (upper (take e s))) (some [])
  unfolding each
  each_last h =
      let first : before_first sep s ≡ take e s = rw is (before-take sep s) in
      rw (split-upper sep u s, split-last sep s (rw (← is) h), first)

-- what a list that was read tells
pub record Both {A : Type 0} (o : Option A) (r : Option (List A)) (xs : List A) : Type 0 where
  pub head : A
  pub tail : List A
  pub first : o ≡ some head
  pub rest : r ≡ some tail
  pub whole : xs ≡ head ∷ tail

pub both_is : {A : Type 0} (o : Option A) (r : Option (List A)) (xs : List A) → both? ◌∷◌ o r ≡ some xs → Both o r xs
unfolding both?
both_is none r xs e = let z : ◌≡◌ {A = ℕ} 0 1 = cc in absurd (omega arith)
both_is (some a) none xs e = let z : ◌≡◌ {A = ℕ} 0 1 = cc in absurd (omega arith)
both_is (some a) (some l) xs e = record { head = a; tail = l; first = refl; rest = refl; whole = cc }

pub each-All : {A B : Type 0} (f : A → Option B) (P : A → Type 0) → ((a : A) (b : B) → f a ≡ some b → P a) → (xs : List A) (ys : List B) → each f xs ≡ some ys → All P xs
unfolding each
each-All f P h [] ys e = tt
each-All f P h (x ∷ xs) ys e = let b = both_is (f x) (each f xs) ys e in (h x b.head b.first, each-All f P h xs b.tail b.rest)

-- Octets of a part's values: what holds of those of each value and of the comma holds of all.
pub All-joined : (P : ℕ → Type 0) (sep : ℕ) → P sep → (ls : List (List ℕ)) → All (All P) ls → All P (joined sep ls)
unfolding joined
All-joined P sep p [] h = tt
All-joined P sep p (l ∷ []) h = h.0
All-joined P sep p (l ∷ m ∷ ls) h = All-append P l (sep ∷ joined sep (m ∷ ls)) h.0 (p, All-joined P sep p (m ∷ ls) h.1)

pub items-All : (P : ℕ → Type 0) → ((c : ℕ) → item_octet c ≡ true → P c) → P (code ",") → (sort : PartSort) (v : List ℕ) (vs : List (List ℕ))
    → each (item_of sort) (split (code ",") v) ≡ some vs → All P v
items-All P h k sort v vs e =
    let a = each-All (item_of sort) (All P) (λ l w d. All-weaker h l (all-All item_octet l (item-octets sort l w d))) (split (code ",") v) vs e in
    rw (joined-split (code ",") v) at (All-joined P (code ",") k (split (code ",") v) a)

pub before-free : (sep : ℕ) (s : List ℕ) → Free sep s → before_first sep s ≡ s
unfolding before_first
before-free sep [] h = refl
before-free sep (c ∷ s) h = rw h.0 (ap (λ (l : List ℕ). c ∷ l) (before-free sep s h.1))

-- an equals sign among the values makes none of them stand
values-free : (k : Key) (v : List ℕ) (p : Part) → keyed_part v k ≡ some p → Free (code "=") v
unfolding keyed_part
values-free k v p e =
    let m = map_is (part k) _ p e in
    let g = guard-is _ (each (item_of k.sort) (split (code ",") v)) m.0 m.1 in
    items-All (λ c. eqb c (code "=") ≡ false) (λ c h. apart item_octet c (code "=") h (unfold item_octet is_upper is_digit is_sign between in refl)) refl k.sort v m.0 g.0

no-values : (v : List ℕ) → length (before_first (code "=") v) < length v → (k : Key) → keyed_part v k ≡ none
no-values v h k = by (keyed_part v k) refl
  where
    by : (o : Option Part) → keyed_part v k ≡ o → o ≡ none
    by none e = refl
    by (some p) e = absurd (omega (arith, ap length (before-free (code "=") v (values-free k v p e))))

then-none : {A B : Type 0} (o : Option A) (f : A → Option B) → ((a : A) → f a ≡ none) → then? o f ≡ none
unfolding then?
then-none none f h = refl
then-none (some a) f h = h a

named-values : (n v : List ℕ) → part_of (n ∷ split (code "=") v) ≡ then? (key_named n) (keyed_part v)
named-values n v = cases (ltb (length (before_first (code "=") v)) (length v))
    (λ h. let l = ltb-true (length (before_first (code "=") v)) (length v) h in
    rw (split-more (code "=") v l) (several-signs (split (code "=") (drop (length (before_first (code "=") v) + 1) v)) (split-filled (code "=") _)
    ∙ sym (then-none (key_named n) (keyed_part v) (no-values v l))))
    (λ h. let l = ltb-false (length (before_first (code "=") v)) (length v) h in
    rw (split-last (code "=") v l, before-all (code "=") v l) (unfold part_of in refl))
  where
    several-signs : (ls : List (List ℕ)) → (ls ≡ [] → ⊥) → part_of (n ∷ before_first (code "=") v ∷ ls) ≡ none
    several-signs [] f = absurd (f refl)
    several-signs (l ∷ ls) f = unfold part_of in refl

-- A key by its place.
module _ (n : List ℕ) (d : Key) where
  key-found : (ks : List Key) → word_place (map (λ (k : Key). k.name) ks) n < length ks → key_in ks n ≡ some (get_or ks (word_place (map (λ (k : Key). k.name) ks) n) d)
  unfolding key_in word_place
  key-found [] h = absurd (omega arith)
  key-found (k ∷ ks) h = by (same k.name n) h (key-found ks)
    where
      by : (b : Bool) → pick b 0 (suc (word_place (map (λ (k : Key). k.name) ks) n)) < suc (length ks)
          → (word_place (map (λ (k : Key). k.name) ks) n < length ks → key_in ks n ≡ some (get_or ks (word_place (map (λ (k : Key). k.name) ks) n) d))
          → pick b (some k) (key_in ks n) ≡ some (get_or (k ∷ ks) (pick b 0 (suc (word_place (map (λ (k : Key). k.name) ks) n))) d)
      by true l ih = refl
      by false l ih = ih (omega arith)

  key-missing : (ks : List Key) → length ks ≤ word_place (map (λ (k : Key). k.name) ks) n → key_in ks n ≡ none
  unfolding key_in word_place
  key-missing [] h = refl
  key-missing (k ∷ ks) h = by (same k.name n) h (key-missing ks)
    where
      by : (b : Bool) → suc (length ks) ≤ pick b 0 (suc (word_place (map (λ (k : Key). k.name) ks) n))
          → (length ks ≤ word_place (map (λ (k : Key). k.name) ks) n → key_in ks n ≡ none)
          → pick b (some k) (key_in ks n) ≡ none
      by true l ih = absurd (omega arith)
      by false l ih = ih (omega arith)

pub key-known : (n : List ℕ) → key_place n < 14 → key_named n ≡ some (key_at (key_place n))
unfolding key_named key_place key_at
key-known n h = key-found n (key [] frequency) keys (rw key-count h)

pub key-unknown : (n : List ℕ) → 14 ≤ key_place n → key_named n ≡ none
unfolding key_named key_place
key-unknown n h = key-missing n (key [] frequency) keys (rw key-count h)

-- a key that is found has the name
pub named-found : (ks : List Key) (n : List ℕ) (k : Key) → key_in ks n ≡ some k → k.name ≡ n
unfolding key_in
named-found [] n k e = let z : ◌≡◌ {A = ℕ} 0 1 = cc in absurd (omega arith)
named-found (j ∷ ks) n k e = cases (same j.name n)
    (λ a. let d = rw a at e in let q : j ≡ k = cc in ap (λ (x : Key). x.name) (sym q) ∙ same-is j.name n a)
    (λ a. named-found ks n k (rw a at e))

pub key-name : (n : List ℕ) → key_place n < 14 → (key_at (key_place n)).name ≡ n
key-name n h = named-found keys n (key_at (key_place n)) (unfold key_named in key-known n h)

-- A part, and the parts of a text in uppercase.
abbrev pub read_part : List ℕ → Option Part
read_part p = part_of (split (code "=") p)

unfoldable pub read_parts : List ℕ → Option (List Part)
read_parts s = each read_part (split (code ";") s)

-- what is read of the part at q in a text
abbrev pub part_found : List ℕ → Places → Option Part
part_found s q = pick (ltb q.key 14) (keyed_part (upper (take (q.to - q.from) (drop q.from s))) (key_at q.key)) none

module _ (p : List ℕ) (n : ℕ) (is : n ≡ length (before_first (code "=") p)) where
  name : before_first (code "=") p ≡ take n p
  name = rw is (before-take (code "=") p)

  keyed-part : n < length p → read_part (upper p) ≡ part_found p (part_in p)
  unfolding part_in keyed
  keyed-part h =
      rw (split-upper (code "=") equals-uncased p, split-more (code "=") p (rw (← is) h), ← is, ← (split-upper (code "=") equals-uncased (drop (n + 1) p)), named-values, lt-ltb n (length p) h, name, from p (n + 1))
      (cases (ltb (key_place (upper (take n p))) 14)
      (λ e. rw (e, key-known (upper (take n p)) (ltb-true _ 14 e)) (unfold then? in refl))
      (λ e. rw (e, key-unknown (upper (take n p)) (ltb-false _ 14 e)) (unfold then? in refl)))

  bare-part : length p ≤ n → read_part (upper p) ≡ part_found p (part_in p)
  unfolding part_in keyed part_of
  bare-part h = rw (split-upper (code "=") equals-uncased p, split-last (code "=") p (rw (← is) h), ← is, le-ltb n (length p) h, key-count)

pub read-part : (p : List ℕ) → read_part (upper p) ≡ part_found p (part_in p)
read-part p = cases (ltb (length (before_first (code "=") p)) (length p))
    (λ e. keyed-part p _ refl (ltb-true _ (length p) e))
    (λ e. bare-part p _ refl (ltb-false _ (length p) e))

part-to : (p : List ℕ) → (part_in p).to ≡ length p
unfolding part_in keyed
part-to p = cases (ltb (length (before_first (code "=") p)) (length p)) (λ e. rw e) (λ e. rw e)

part-from : (p : List ℕ) → (part_in p).from ≤ length p
unfolding part_in keyed
part-from p = cases (ltb (length (before_first (code "=") p)) (length p))
    (λ e. rw e (omega (arith, ltb-true (length (before_first (code "=") p)) (length p) e)))
    (λ e. rw e (before-le (code "=") p))

drop-take : (n m : ℕ) (s : List ℕ) → drop n (take m s) ≡ take (m - n) (drop n s)
drop-take zero m s = let e : m - 0 ≡ m = omega arith in rw e
drop-take (suc n) zero s = let e : 0 - suc n ≡ 0 = omega arith in rw e
drop-take (suc n) (suc m) [] = sym (take-nil (suc m - suc n))
drop-take (suc n) (suc m) (c ∷ s) = let e : suc m - suc n ≡ m - n = omega arith in rw e (drop-take n m s)

pub within : (n m : ℕ) (s : List ℕ) → take (m - n) (drop n (take m s)) ≡ take (m - n) (drop n s)
within n m s = rw (drop-take n m s) (take-take (m - n) (m - n) (drop n s) (omega arith))

-- the part that a text begins with, and the parts behind it
module _ (s : List ℕ) where
  pub first_ends : (first_part s).to ≡ length (before_first (code ";") s)
  unfolding first_part
  first_ends = part-to (before_first (code ";") s)

  pub first_piece_lem : before_first (code ";") s ≡ take (first_part s).to s
  first_piece_lem = rw first_ends (before-take (code ";") s)

  pub first_to : (first_part s).to ≤ length s
  first_to = rw first_ends (before-le (code ";") s)

  pub first-from : (first_part s).from ≤ (first_part s).to
  first-from = rw first_ends (unfold first_part in part-from (before_first (code ";") s))

  value : take ((first_part s).to - (first_part s).from) (drop (first_part s).from (before_first (code ";") s))
      ≡ take ((first_part s).to - (first_part s).from) (drop (first_part s).from s)
  value = rw first_piece_lem (within (first_part s).from (first_part s).to s)

  found : read_part (upper (before_first (code ";") s)) ≡ part_found (before_first (code ";") s) (first_part s)
  unfolding first_part
  found = read-part (before_first (code ";") s)

  first_read : read_part (upper (take (first_part s).to s)) ≡ part_found s (first_part s)
  first_read =
      let q = first_part s in
      ap (λ (l : List ℕ). read_part (upper l)) (sym first_piece_lem) ∙ found
      ∙ ap (λ (v : List ℕ). pick (ltb q.key 14) (keyed_part (upper v) (key_at q.key)) none) value

  pub first_more : (first_part s).to < length s
      → read_parts (upper s) ≡ both? ◌∷◌ (part_found s (first_part s)) (read_parts (upper (drop ((first_part s).to + 1) s)))
  unfolding read_parts
  first_more h = each_more (code ";") semicolon-uncased read_part s (first_part s).to first_ends h ∙ ap (λ (o : Option Part). both? ◌∷◌ o (read_parts (upper (drop ((first_part s).to + 1) s)))) first_read

  pub first-last : length s ≤ (first_part s).to → read_parts (upper s) ≡ both? ◌∷◌ (part_found s (first_part s)) (some [])
  unfolding read_parts
  first-last h = each_last (code ";") semicolon-uncased read_part s (first_part s).to first_ends h ∙ ap (λ (o : Option Part). both? ◌∷◌ o (some [])) first_read

-- For a caller that walks over the parts of a rule: `read_parts` of a rule gives its parts, and of what lies behind a part the parts behind it.
pub rule-parts : (s : List ℕ) (ps : List Part) → parts_of s ≡ some ps → (read_parts s ≡ some ps) × (is_rule ps ≡ true)
unfolding parts_of read_parts
rule-parts s ps e = guard-is is_rule (each read_part (split (code ";") s)) ps e

pub record Walked (s : List ℕ) (q : Places) (ps : List Part) : Type 0 where
  -- the part at q, and those behind it
  pub this : Part
  pub others : List Part
  pub whole : ps ≡ this ∷ others
  pub known : q.key < 14
  pub name : this.name ≡ (key_at q.key).name
  pub sort : this.sort ≡ (key_at q.key).sort
  pub values : each (item_of this.sort) (split (code ",") (upper (take (q.to - q.from) (drop q.from s)))) ≡ some this.values
  pub many : (several this.sort or single this.values) ≡ true
  -- where it stands, and what follows
  pub written : upper (take q.name s) ≡ this.name
  pub begin : q.from ≡ q.name + 1
  pub from : q.from ≤ q.to
  pub to : q.to ≤ length s
  pub more : q.to < length s → read_parts (upper (drop (q.to + 1) s)) ≡ some others
  pub last : length s ≤ q.to → others ≡ []

pub found-is : (b : Bool) (o : Option Part) (p : Part) → pick b o none ≡ some p → (b ≡ true) × (o ≡ some p)
found-is true o p e = (refl, e)
found-is false o p e = let z : ◌≡◌ {A = ℕ} 0 1 = cc in absurd (omega arith)

-- a part that has a key has an equals sign behind its name
pub keyed-name : (p : List ℕ) → (part_in p).key < 14 → ((part_in p).from ≡ (part_in p).name + 1) × ((part_in p).key ≡ key_place (upper (take (part_in p).name p)))
unfolding part_in keyed
keyed-name p h = cases (ltb (length (before_first (code "=") p)) (length p))
    (λ e. rw e (refl, refl))
    (λ e. absurd (let l : length keys < 14 = rw e at h in omega (arith, key-count)))

first-keyed : (s : List ℕ) → (first_part s).key < 14
    → ((first_part s).from ≡ (first_part s).name + 1) × ((first_part s).key ≡ key_place (upper (take (first_part s).name (before_first (code ";") s))))
unfolding first_part
first-keyed s h = keyed-name (before_first (code ";") s) h

first-name : (s : List ℕ) → (first_part s).key < 14 → ((first_part s).from ≡ (first_part s).name + 1) × (upper (take (first_part s).name s) ≡ (key_at (first_part s).key).name)
first-name s h =
    let q = first_part s in
    let k = first-keyed s h in
    let t : take q.name (take q.to s) ≡ take q.name s = take-take q.name q.to s (omega (arith, first-from s, k.0)) in
    let e : q.key ≡ key_place (upper (take q.name s)) = k.1 ∙ ap (λ (l : List ℕ). key_place (upper (take q.name l))) (first_piece_lem s) ∙ ap (λ (l : List ℕ). key_place (upper l)) t in
    (k.0, sym (ap (λ (i : ℕ). (key_at i).name) e ∙ key-name (upper (take q.name s)) (rw (← e) h)))

module _ (s : List ℕ) (ps : List Part) where
  built : (r : Option (List Part)) → Both (part_found s (first_part s)) r ps
      → ((first_part s).to < length s → r ≡ read_parts (upper (drop ((first_part s).to + 1) s)))
      → (length s ≤ (first_part s).to → r ≡ some [])
      → Walked s (first_part s) ps
  unfolding keyed_part
  built r b more last =
      let q = first_part s in
      let k = key_at q.key in
      let v = upper (take (q.to - q.from) (drop q.from s)) in
      let f = found-is (ltb q.key 14) (keyed_part v k) b.head b.first in
      let h = ltb-true q.key 14 f.0 in
      let m = map_is (part k) _ b.head f.1 in
      let g = guard-is (λ vs. several k.sort or single vs) (each (item_of k.sort) (split (code ",") v)) m.0 m.1 in
      let n = first-name s h in
      record {
        this = b.head;
        others = b.tail;
        whole = b.whole;
        known = h;
        name = rw (← m.2);
        sort = rw (← m.2);
        values = rw (← m.2) g.0;
        many = rw (← m.2) g.1;
        written = rw (← m.2) n.1;
        begin = n.0;
        from = first-from s;
        to = first_to s;
        more = λ l. sym (more l) ∙ b.rest;
        last = λ l. nothing b.tail (sym (last l) ∙ b.rest);
      }
    where
      nothing : (l : List Part) → some [] ≡ some l → l ≡ []
      nothing l e = cc

  pub walked : read_parts (upper s) ≡ some ps → Walked s (first_part s) ps
  walked e = cases (ltb (first_part s).to (length s))
      (λ t. let h = ltb-true (first_part s).to (length s) t in
      built _ (both_is _ _ ps (sym (first_more s h) ∙ e)) (λ l. refl) (λ l. absurd (omega arith)))
      (λ t. let h = ltb-false (first_part s).to (length s) t in
      built _ (both_is _ _ ps (sym (first-last s h) ∙ e)) (λ l. absurd (omega arith)) (λ l. refl))
