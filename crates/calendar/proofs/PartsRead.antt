-- Reading a recurrence rule part by part: what the parts so far say, and when the parts ahead can no longer make a rule.
use Prim.Native.Nat.{ℕ, zero, suc, ◌≤◌, ◌<◌}
use Prim.Native.Char.{code}
use mathlib.Core.Path.{◌≡◌, refl, sym, ap, ◌∙◌}
use mathlib.Core.Bool.{Bool, true, false, not}
use mathlib.Core.List.{List, [], ◌∷◌, ◌++◌, map, append_assoc, append-nil}
use mathlib.Core.Option.{Option, none, some}
use native.Mathlib.Omega.{arith}
use borrow.Author.Tests.{eqb-true, eqb-false, eq-eqb, ne_eqb}
use lib.Dec.{eqb}
use lib.ListN.{length, get_or, set, replicate}
use Rattle.octets.specs.Basics.{octets, pick, ◌and◌, ◌or◌, any, filled, single, same, among, twice}
use Rattle.octets.specs.Optional.{map?, both?, or?, is_some, when, guard, given, each}
use Rattle.octets.specs.Classes.{upper}
use Rattle.octets.specs.Decimal.{digits, value_of, trim}
use Rattle.octets.specs.Limits.{most_integer}
use Rattle.octets.specs.Pieces.{split, joined}
use Rattle.octets.proofs.Cases.{cases, same?, itself, never, both, either, neither, and-true-right, and-false-right, or-false, or-first, or-second, or-false-right, or_true_right, any_append}
use Rattle.octets.proofs.Classes.{between-true, same-is, same-itself}
use Rattle.octets.proofs.Decimal.{digits-all, trim-value}
use Rattle.octets.proofs.Pieces.{split-filled, joined-split}
use Rattle.calendar.specs.Dates.{moment_of}
use Rattle.calendar.specs.Moments.{moment_from, read_moment}
use Rattle.calendar.specs.Recurrence.{frequency, Key, key, keys, frequencies, weekdays, word_of, until_of, count_of, item_of, several, Part, part, keyed_part, names, is_rule}
use Rattle.calendar.specs.Walk.{key_at}
use Rattle.calendar.specs.Rules.{first_of, value_named, frequency_of, weekday_of, until_moment, end_of, by_parts, values_named, no_days, with_day, with_month_day, gathered, days_of, rule_from}
use Rattle.calendar.specs.Reading.{head_from, counted, last_of, with_part, kept, barred, by_seen, rule_read}
use Rattle.calendar.specs.declared.rules.Frequency.TheVariants.{Yearly}
use Rattle.calendar.specs.declared.rules.Weekday.TheVariants.{Monday}
use Rattle.calendar.specs.declared.rules.End.{End}
use Rattle.calendar.specs.declared.rules.End.TheVariants.{Count, Until, Open}
use Rattle.calendar.specs.declared.rules.RuleHead.{RuleHead}
use Rattle.octets.proofs.Optional.{when-is, guard-is}
use Rattle.calendar.proofs.Options.{map_is, or-none}
use Rattle.calendar.proofs.Words.{same-turned}
use Rattle.calendar.proofs.Keys.{key-count}
use Rattle.calendar.proofs.ItemTests.{digits-raised, digits-upper}
use Rattle.calendar.proofs.RuleParts.{both_is}
use Rattle.calendar.proofs.DaysKept.{days-kept, month-days-kept, gathered-turned}

-- names, with one more behind
names_more : (ps : List Part) (p : Part) (qs : List Part) → names (ps ++ p ∷ qs) ≡ names ps ++ p.name ∷ names qs
unfolding names
names_more [] p qs = refl
names_more (q ∷ ps) p qs = ap (λ (ns : List (List ℕ)). q.name ∷ ns) (names_more ps p qs)

names-one : (ps : List Part) (p : Part) → names (ps ++ p ∷ []) ≡ names ps ++ p.name ∷ []
names-one ps p = names_more ps p [] ∙ ap (λ (ns : List (List ℕ)). names ps ++ p.name ∷ ns) (unfold names in refl)

among-more : (n : List ℕ) (ns : List (List ℕ)) (m : List ℕ) → among n (ns ++ m ∷ []) ≡ (among n ns or same n m)
unfolding among any
among-more n ns m = any_append (same n) ns (m ∷ []) ∙ ap (λ (b : Bool). any (same n) ns or b) (or-false-right (same n m))

swap : (a b c d : Bool) → ((a or b) or (c or d)) ≡ ((a or c) or (b or d))
swap true b c d = refl
swap false true true d = refl
swap false true false d = refl
swap false false c d = refl

among_none : (n : List ℕ) → among n [] ≡ false
unfolding among any
among_none n = refl

among-cons : (n m : List ℕ) (ns : List (List ℕ)) → among n (m ∷ ns) ≡ (same n m or among n ns)
unfolding among any
among-cons n m ns = refl

twice-more : (ns : List (List ℕ)) (m : List ℕ) → twice (ns ++ m ∷ []) ≡ (twice ns or among m ns)
unfolding twice
twice-more [] m = or-false-right (among m [])
twice-more (n ∷ ns) m =
    rw (among-more n ns m, twice-more ns m, among-cons m n ns, same-turned n m) (swap (among n ns) (same m n) (twice ns) (among m ns))

among_there : (n : List ℕ) (ns : List (List ℕ)) (m : List ℕ) (ms : List (List ℕ)) → n ≡ m → among n (ns ++ m ∷ ms) ≡ true
among_there n [] m ms e = among-cons n m ms ∙ or-first {a = same n m} (among n ms) (rw e (same-itself m))
among_there n (x ∷ ns) m ms e = among-cons n x (ns ++ m ∷ ms) ∙ or-second (same n x) (among_there n ns m ms e)

among-append : (n : List ℕ) (ns ms : List (List ℕ)) → among n ns ≡ true → among n (ns ++ ms) ≡ true
unfolding among
among-append n ns ms h = any_append (same n) ns ms ∙ or-first (any (same n) ms) h

-- a name that stands before stands twice
twice-again : (ns : List (List ℕ)) (m : List ℕ) (ms : List (List ℕ)) → among m ns ≡ true → twice (ns ++ m ∷ ms) ≡ true
unfolding twice
twice-again [] m ms h = never h (among_none m)
twice-again (n ∷ ns) m ms h = either (same m n) (among m ns) (sym (among-cons m n ns) ∙ h)
    (λ e. or-first (twice (ns ++ m ∷ ms)) (among_there n ns m ms (sym (same-is m n e))))
    (λ e. or-second (among n (ns ++ m ∷ ms)) (twice-again ns m ms e))

-- The table's names are all different.
keys-once : twice (map (λ (k : Key). k.name) keys) ≡ false
unfolding twice among any same keys
keys-once = refl

among-at : (ks : List Key) (d : Key) (n : List ℕ) (i : ℕ) → i < length ks → among n (map (λ (k : Key). k.name) ks) ≡ false → same n (get_or ks i d).name ≡ false
among-at [] d n i h e = absurd (omega arith)
among-at (k ∷ ks) d n zero h e = (neither (same n k.name) _ (sym (among-cons n k.name _) ∙ e)).0
among-at (k ∷ ks) d n (suc i) h e = among-at ks d n i (omega arith) (neither (same n k.name) _ (sym (among-cons n k.name _) ∙ e)).1

eqb-next : (i j : ℕ) → eqb i j ≡ eqb (suc i) (suc j)
eqb-next i j = same? i j
    (λ e. rw e (itself j ∙ sym (itself (suc j))))
    (λ n. n ∙ sym (ne_eqb (suc i) (suc j) (λ e. eqb-false i j n (omega arith))))

same_at : (ks : List Key) (d : Key) → twice (map (λ (k : Key). k.name) ks) ≡ false → (i j : ℕ) → i < length ks → j < length ks
    → same (get_or ks j d).name (get_or ks i d).name ≡ eqb i j
unfolding twice
same_at [] d o i j h l = absurd (omega arith)
same_at (k ∷ ks) d o zero zero h l = same-itself k.name
same_at (k ∷ ks) d o zero (suc j) h l = same-turned _ k.name ∙ among-at ks d k.name j (omega arith) (neither (among k.name _) _ o).0 ∙ sym (ne_eqb 0 (suc j) (λ e. omega arith))
same_at (k ∷ ks) d o (suc i) zero h l = among-at ks d k.name i (omega arith) (neither (among k.name _) _ o).0 ∙ sym (ne_eqb (suc i) 0 (λ e. omega arith))
same_at (k ∷ ks) d o (suc i) (suc j) h l = same_at ks d (neither (among k.name _) _ o).1 i j (omega arith) (omega arith) ∙ eqb-next i j

abbrev name_at : ℕ → List ℕ
name_at i = (key_at i).name

names_apart : (i j : ℕ) → i < 14 → j < 14 → same (name_at j) (name_at i) ≡ eqb i j
unfolding key_at
names_apart i j h l = same_at keys (key [] frequency) keys-once i j (rw key-count h) (rw key-count l)

-- Which keys there are, in the order of the table.
unfoldable pub present : List Part → List Bool
present ps = map (λ (k : Key). among k.name (names ps)) keys

present-at : (ps : List Part) (i : ℕ) → i < 14 → get_or (present ps) i false ≡ among (name_at i) (names ps)
unfolding present key_at
present-at ps i h = get_d_map (λ (k : Key). among k.name (names ps)) keys (key [] frequency) i (rw key-count h)
  where
    get_d_map : (f : Key → Bool) (ks : List Key) (d : Key) (i : ℕ) → i < length ks → get_or (map f ks) i false ≡ f (get_or ks i d)
    get_d_map f [] d i h = absurd (omega arith)
    get_d_map f (k ∷ ks) d zero h = refl
    get_d_map f (k ∷ ks) d (suc i) h = get_d_map f ks d i (omega arith)

mark : (f g : Key → Bool) (ks : List Key) (d : Key) (i : ℕ) → i < length ks
    → ((j : ℕ) → j < length ks → g (get_or ks j d) ≡ (f (get_or ks j d) or eqb i j)) → map g ks ≡ set (map f ks) i true
mark f g [] d i h e = absurd (omega arith)
mark f g (k ∷ ks) d zero h e =
    rw (e 0 (omega arith), or_true_right (f k)) (ap (λ (l : List Bool). true ∷ l) (alike-map ks (λ j l. e (suc j) (omega arith) ∙ rw (ne_eqb 0 (suc j) (λ z. omega arith)) (or-false-right (f (get_or ks j d))))))
  where
    alike-map : (ks : List Key) → ((j : ℕ) → j < length ks → g (get_or ks j d) ≡ f (get_or ks j d)) → map g ks ≡ map f ks
    alike-map [] e = refl
    alike-map (k ∷ ks) e = rw (e 0 (omega arith)) (ap (λ (l : List Bool). f k ∷ l) (alike-map ks (λ j l. e (suc j) (omega arith))))
mark f g (k ∷ ks) d (suc i) h e =
    rw (e 0 (omega arith), ne_eqb (suc i) 0 (λ z. omega arith), or-false-right (f k))
    (ap (λ (l : List Bool). f k ∷ l) (mark f g ks d i (omega arith) (λ j l. e (suc j) (omega arith) ∙ ap (λ (b : Bool). f (get_or ks j d) or b) (sym (eqb-next i j)))))

among-part : (n : List ℕ) (ps : List Part) (p : Part) → among n (names (ps ++ p ∷ [])) ≡ (among n (names ps) or same n p.name)
among-part n ps p = ap (among n) (names-one ps p) ∙ among-more n (names ps) p.name

present-more : (ps : List Part) (p : Part) (i : ℕ) → i < 14 → p.name ≡ name_at i → present (ps ++ p ∷ []) ≡ set (present ps) i true
unfolding present key_at
present-more ps p i h e =
    mark (λ (k : Key). among k.name (names ps)) (λ (k : Key). among k.name (names (ps ++ p ∷ []))) keys (key [] frequency) i (rw key-count h)
    (λ j l. among-part (name_at j) ps p ∙ ap (λ (n : List ℕ). among (name_at j) (names ps) or same (name_at j) n) e
    ∙ ap (λ (b : Bool). among (name_at j) (names ps) or b) (names_apart i j h (rw key-count at l)))

-- The first value of a part with a name, with one part more.
value-more : (n : List ℕ) (ps : List Part) (p : Part) → value_named n (ps ++ p ∷ []) ≡ or? (value_named n ps) (pick (same n p.name) (some (first_of p.values)) none)
unfolding value_named or?
value-more n [] p = refl
value-more n (q ∷ ps) p = by (same n q.name) (value-more n ps p)
  where
    by : (b : Bool) → value_named n (ps ++ p ∷ []) ≡ or? (value_named n ps) (pick (same n p.name) (some (first_of p.values)) none)
        → pick b (some (first_of q.values)) (value_named n (ps ++ p ∷ [])) ≡ or? (pick b (some (first_of q.values)) (value_named n ps)) (pick (same n p.name) (some (first_of p.values)) none)
    by true e = unfold or? in refl
    by false e = e

value_none : (n : List ℕ) (ps : List Part) → among n (names ps) ≡ false → value_named n ps ≡ none
unfolding value_named
value_none n [] h = refl
value_none n (p ∷ ps) h =
    let b = neither (same n p.name) (among n (names ps)) (sym (among-cons n p.name (names ps)) ∙ unfold names in h) in
    rw b.0 (value_none n ps b.1)

-- the key of the new part stands at i, and was not there before
module _ (ps : List Part) (p : Part) (i : ℕ) (h : i < 14) (named : p.name ≡ name_at i) (unseen : among (name_at i) (names ps) ≡ false) where
  value-step : (j : ℕ) → j < 14 → value_named (name_at j) (ps ++ p ∷ []) ≡ pick (eqb i j) (some (first_of p.values)) (value_named (name_at j) ps)
  value-step j l = value-more (name_at j) ps p ∙ rw (named, names_apart i j h l) (same? i j
      (λ e. rw (← e, itself i, value_none (name_at i) ps unseen) (unfold or? in refl))
      (λ n. rw n (or-none (value_named (name_at j) ps))))

  given-step : {B : Type 0} (e : B) (f : List ℕ → B) (j : ℕ) → j < 14
      → given e f (value_named (name_at j) (ps ++ p ∷ [])) ≡ pick (eqb i j) (f (first_of p.values)) (given e f (value_named (name_at j) ps))
  unfolding given
  given-step e f j l = rw (value-step j l) (by (eqb i j))
    where
      by : (b : Bool) → given e f (pick b (some (first_of p.values)) (value_named (name_at j) ps)) ≡ pick b (f (first_of p.values)) (given e f (value_named (name_at j) ps))
      by true = unfold given in refl
      by false = refl

-- The values of a part with a name, with one part more.
values-behind : (n : List ℕ) (ps : List Part) (p : Part) → among n (names ps) ≡ false → values_named n (ps ++ p ∷ []) ≡ pick (same n p.name) p.values []
unfolding values_named
values-behind n [] p h = refl
values-behind n (q ∷ ps) p h =
    let b = neither (same n q.name) (among n (names ps)) (sym (among-cons n q.name (names ps)) ∙ unfold names in h) in
    rw b.0 (values-behind n ps p b.1)

values_other : (n : List ℕ) (ps : List Part) (p : Part) → same n p.name ≡ false → values_named n (ps ++ p ∷ []) ≡ values_named n ps
unfolding values_named
values_other n [] p h = rw h
values_other n (q ∷ ps) p h = ap (λ (vs : List (List ℕ)). pick (same n q.name) q.values vs) (values_other n ps p h)

values-none : (n : List ℕ) (ps : List Part) → among n (names ps) ≡ false → values_named n ps ≡ []
unfolding values_named
values-none n [] h = refl
values-none n (p ∷ ps) h =
    let b = neither (same n p.name) (among n (names ps)) (sym (among-cons n p.name (names ps)) ∙ unfold names in h) in
    rw b.0 (values-none n ps b.1)

values-of : (u : List ℕ) (k : Key) (p : Part) → keyed_part u k ≡ some p → each (item_of k.sort) (split (code ",") u) ≡ some p.values
unfolding keyed_part
values-of u k p e =
    let a = map_is (part k) _ p e in
    let g = guard-is (λ vs. several k.sort or single vs) (each (item_of k.sort) (split (code ",") u)) a.0 a.1 in
    rw (← a.2) g.0

-- The value of a part that has one only.
one_value : (u : List ℕ) (k : Key) (p : Part) → several k.sort ≡ false → keyed_part u k ≡ some p → item_of k.sort u ≡ some (first_of p.values)
unfolding keyed_part
one_value u k p m e =
    let a = map_is (part k) _ p e in
    let g = guard-is (λ vs. several k.sort or single vs) (each (item_of k.sort) (split (code ",") u)) a.0 a.1 in
    let t : single a.0 ≡ true = either (several k.sort) (single a.0) g.1 (λ d. never d m) (λ d. d) in
    rw (← a.2) (by (split (code ",") u) refl a.0 g.0 t)
  where
    by : (ls : List (List ℕ)) → split (code ",") u ≡ ls → (vs : List (List ℕ)) → each (item_of k.sort) ls ≡ some vs → single vs ≡ true → item_of k.sort u ≡ some (first_of vs)
    by [] s vs d t = absurd (split-filled (code ",") u s)
    by (l ∷ []) s vs d t =
        let b = both_is (item_of k.sort l) (each (item_of k.sort) []) vs (unfold each in d) in
        let w : l ≡ u = unfold joined in (rw s at (joined-split (code ",") u)) in
        let f : first_of vs ≡ b.head = ap first_of b.whole ∙ (unfold first_of in refl) in
        ap (item_of k.sort) (sym w) ∙ b.first ∙ ap some (sym f)
    by (l ∷ m ∷ ls) s vs d t =
        let b = both_is (item_of k.sort l) (each (item_of k.sort) (m ∷ ls)) vs (unfold each in d) in
        let c = both_is (item_of k.sort m) (each (item_of k.sort) ls) b.tail (unfold each in b.rest) in
        never t (rw (b.whole, c.whole) (unfold single filled in refl))

kept-is : (b : Bool) (s v : List ℕ) → when b s ≡ some v → v ≡ s
kept-is b s v e = sym (when-is b s v e).1

word_value : (ws : List (List ℕ)) (s v : List ℕ) → word_of ws s ≡ some v → v ≡ s
unfolding word_of
word_value ws s v e = kept-is (among s ws) s v e

count-value : (s v : List ℕ) → count_of (upper s) ≡ some v → value_of v ≡ counted s
unfolding count_of counted
count-value s v e =
    let w = when-is _ (trim (upper s)) v e in
    let d = both (digits (upper s)) _ w.0 in
    let r : upper s ≡ s = digits-raised s (digits-all s (sym (digits-upper s) ∙ d.0)) in
    let b = between-true 1 most_integer (value_of (upper s)) d.1 in
    let m : value_of s ≤ most_integer = rw r at b.1 in
    rw (← w.1, trim-value (upper s), r) (omega arith)

until-value : (s v : List ℕ) → until_of (upper s) ≡ some v → Until (until_moment v) ≡ last_of s
unfolding until_of until_moment last_of read_moment
until-value s v e = let w = when-is _ (upper s) v e in rw (← w.1) (by (moment_of (upper s)) w.0)
  where
    by : (o : Option (List ℕ)) → is_some o ≡ true → Until (moment_from (given (upper s) (λ t. t) o)) ≡ given Open Until (map? moment_from o)
    by none h = unfold is_some in never h refl
    by (some t) h = unfold given map? in refl

-- What the parts say, with one part more: the part at i has the value v.
module _ (ps : List Part) (p : Part) (i : ℕ) (v : List ℕ) (h : i < 14) (named : p.name ≡ name_at i) (unseen : among (name_at i) (names ps) ≡ false)
    (read : keyed_part (upper v) (key_at i) ≡ some p) where
  value-at : (j : ℕ) → several (key_at j).sort ≡ false → eqb i j ≡ true → item_of (key_at j).sort (upper v) ≡ some (first_of p.values)
  value-at j m e = one_value (upper v) (key_at j) p m (rw (eqb-true i j e) at read)

  frequency-step : frequency_of (given [] (λ w. w) (value_named (octets "FREQ") (ps ++ p ∷ [])))
      ≡ pick (eqb i 0) (frequency_of (upper v)) (frequency_of (given [] (λ w. w) (value_named (octets "FREQ") ps)))
  unfolding key_at keys
  frequency-step =
      ap frequency_of (given-step ps p i h named unseen [] (λ w. w) 0 (omega arith)) ∙ cases (eqb i 0)
      (λ e. rw e (ap frequency_of (word_value frequencies (upper v) (first_of p.values) (unfold item_of in value-at 0 (unfold several in refl) e))))
      (λ e. rw e)

  interval-step : given 1 value_of (value_named (octets "INTERVAL") (ps ++ p ∷ [])) ≡ pick (eqb i 3) (counted v) (given 1 value_of (value_named (octets "INTERVAL") ps))
  unfolding key_at keys
  interval-step =
      given-step ps p i h named unseen 1 value_of 3 (omega arith) ∙ cases (eqb i 3)
      (λ e. rw e (count-value v (first_of p.values) (unfold item_of in value-at 3 (unfold several in refl) e)))
      (λ e. rw e)

  wkst-step : given Monday weekday_of (value_named (octets "WKST") (ps ++ p ∷ [])) ≡ pick (eqb i 13) (weekday_of (upper v)) (given Monday weekday_of (value_named (octets "WKST") ps))
  unfolding key_at keys
  wkst-step =
      given-step ps p i h named unseen Monday weekday_of 13 (omega arith) ∙ cases (eqb i 13)
      (λ e. rw e (ap weekday_of (word_value weekdays (upper v) (first_of p.values) (unfold item_of in value-at 13 (unfold several in refl) e))))
      (λ e. rw e)

  end_step : (eqb i 1 ≡ true → among (octets "COUNT") (names ps) ≡ false) → end_of (ps ++ p ∷ []) ≡ pick (eqb i 1) (last_of v) (pick (eqb i 2) (Count (counted v)) (end_of ps))
  unfolding end_of key_at keys
  end_step clash =
      given-step ps p i h named unseen _ (λ w. Count (value_of w)) 2 (omega arith)
      ∙ ap (λ (e : End). pick (eqb i 2) (Count (value_of (first_of p.values))) (given e (λ w. Count (value_of w)) (value_named (octets "COUNT") ps)))
      (given-step ps p i h named unseen Open (λ w. Until (until_moment w)) 1 (omega arith))
      ∙ cases (eqb i 1)
      (λ e. rw (e, ne_eqb i 2 (λ z. let o = eqb-true i 1 e in omega arith), value_none (octets "COUNT") ps (clash e))
      (unfold given in until-value v (first_of p.values) (unfold item_of in value-at 1 (unfold several in refl) e)))
      (λ e. rw e (cases (eqb i 2)
      (λ d. rw d (ap Count (count-value v (first_of p.values) (unfold item_of in value-at 2 (unfold several in refl) d))))
      (λ d. rw d)))

  values-step : (j : ℕ) → j < 14 → (i ≡ j → ⊥) → values_named (name_at j) (ps ++ p ∷ []) ≡ values_named (name_at j) ps
  values-step j l n = values_other (name_at j) ps p (rw (named, names_apart i j h l) (ne_eqb i j n))

  values-here : (j : ℕ) → i ≡ j → (values_named (name_at j) ps ≡ []) × (values_named (name_at j) (ps ++ p ∷ []) ≡ p.values)
  values-here j e = rw (← e) (values-none (name_at i) ps unseen, values-behind (name_at i) ps p unseen ∙ rw (named, same-itself (name_at i)))

  days-step : days_of (ps ++ p ∷ []) ≡ pick (eqb i 7) (gathered with_day (days_of ps) (split (code ",") v)) (pick (eqb i 8) (gathered with_month_day (days_of ps) (split (code ",") v)) (days_of ps))
  unfolding days_of gathered key_at keys
  days-step = same? i 7
      (λ e. let a = values-here 7 e in
      rw (a.1, a.0, values-step 8 (omega arith) (λ z. omega arith), eq-eqb i 7 e)
      (gathered-turned no_days p.values (values_named (octets "BYMONTHDAY") ps) ∙ days-kept _ v p.values (values-of (upper v) (key_at 7) p (rw e at read))))
      (λ n. same? i 8
      (λ e. let a = values-here 8 e in
      rw (a.1, a.0, values-step 7 (omega arith) (eqb-false i 7 n), n, eq-eqb i 8 e)
      (month-days-kept _ v p.values (values-of (upper v) (key_at 8) p (rw e at read))))
      (λ m. rw (n, m, values-step 7 (omega arith) (eqb-false i 7 n), values-step 8 (omega arith) (eqb-false i 8 m))))

  head_step : (gather : Bool) → (eqb i 1 ≡ true → among (octets "COUNT") (names ps) ≡ false) → head_from gather (ps ++ p ∷ []) ≡ with_part gather (head_from gather ps) i v
  unfolding head_from with_part
  head_step true clash = rw (frequency-step, interval-step, end_step clash, wkst-step, days-step)
  head_step false clash = rw (frequency-step, interval-step, end_step clash, wkst-step)

-- The parts that were read of `all`, what is left of it, which keys there were, and what they say, with their days or without them.
pub record Gathered (gather : Bool) (all left : Option (List Part)) (seen : List Bool) (head : RuleHead) : Type 0 where
  pub parts : List Part
  pub whole : all ≡ map? (λ qs. parts ++ qs) left
  pub once : twice (names parts) ≡ false
  pub alone : (among (octets "COUNT") (names parts) and among (octets "UNTIL") (names parts)) ≡ false
  pub marks : seen ≡ present parts
  pub says : head ≡ head_from gather parts

abbrev at_first : RuleHead
at_first = record { frequency = Yearly; interval = 1; end = Open; wkst = Monday; days = no_days }

pub gathered_none : (gather : Bool) (all : Option (List Part)) → Gathered gather all all (replicate 14 false) at_first
gathered_none gather all = record {
  parts = [];
  whole = by all;
  once = unfold twice names in refl;
  alone = unfold among any names in refl;
  marks = unfold present among any names keys in refl;
  says = nothing gather;
}
  where
    by : (o : Option (List Part)) → o ≡ map? (λ qs. [] ++ qs) o
    by none = unfold map? in refl
    by (some qs) = unfold map? in refl

    nothing : (gather : Bool) → at_first ≡ head_from gather []
    nothing true = unfold head_from frequency_of end_of given value_named same days_of values_named gathered in refl
    nothing false = unfold head_from frequency_of end_of given value_named same in refl

-- what a key's place tells of the parts so far
module _ {gather : Bool} {all left : Option (List Part)} {seen : List Bool} {head : RuleHead} (g : Gathered gather all left seen head) where
  marked : (i : ℕ) → i < 14 → get_or seen i false ≡ among (name_at i) (names g.parts)
  marked i h = rw g.marks (present-at g.parts i h)

  count-marked : get_or seen 2 false ≡ among (octets "COUNT") (names g.parts)
  unfolding key_at keys
  count-marked = marked 2 (omega arith)

  until-marked : get_or seen 1 false ≡ among (octets "UNTIL") (names g.parts)
  unfolding key_at keys
  until-marked = marked 1 (omega arith)

alone-by : (c u a b : Bool) → (c and u) ≡ false → (b ≡ true → c ≡ false) → (a ≡ true → u ≡ false) → (a ≡ true → b ≡ false) → ((c or a) and (u or b)) ≡ false
alone-by true true a b e f g h = e
alone-by true false a true e f g h = f refl
alone-by true false a false e f g h = refl
alone-by false true true b e f g h = g refl
alone-by false true false b e f g h = refl
alone-by false false true b e f g h = h refl
alone-by false false false b e f g h = refl

-- a part more, with the key at i
module _ {gather : Bool} {all : Option (List Part)} {seen : List Bool} {head : RuleHead} (left : Option (List Part)) (p : Part) (i : ℕ) (v : List ℕ) (h : i < 14)
    (g : Gathered gather all (both? ◌∷◌ (some p) left) seen head) (read : keyed_part (upper v) (key_at i) ≡ some p) (free : barred seen i ≡ false) where
  named : p.name ≡ name_at i
  unfolding keyed_part
  named = let m = map_is (part (key_at i)) _ p read in rw (← m.2)

  tests : (get_or seen i false ≡ false) × ((eqb i 1 and get_or seen 2 false) ≡ false) × ((eqb i 2 and get_or seen 1 false) ≡ false)
  unfolding barred
  tests = let a = neither (get_or seen i false) _ free in let b = neither (eqb i 1 and get_or seen 2 false) _ a.1 in (a.0, b.0, b.1)

  unseen : among (name_at i) (names g.parts) ≡ false
  unseen = sym (marked g i h) ∙ tests.0

  no-count : eqb i 1 ≡ true → among (octets "COUNT") (names g.parts) ≡ false
  no-count e = sym (count-marked g) ∙ (rw e at tests.1)

  no-until : eqb i 2 ≡ true → among (octets "UNTIL") (names g.parts) ≡ false
  no-until e = sym (until-marked g) ∙ (rw e at tests.2)

  longer : (l : Option (List Part)) → map? (λ qs. g.parts ++ qs) (both? ◌∷◌ (some p) l) ≡ map? (λ qs. (g.parts ++ p ∷ []) ++ qs) l
  unfolding map? both?
  longer none = refl
  longer (some qs) = ap some (sym (append_assoc g.parts (p ∷ []) qs))

  alone-still : (among (octets "COUNT") (names (g.parts ++ p ∷ [])) and among (octets "UNTIL") (names (g.parts ++ p ∷ []))) ≡ false
  unfolding key_at keys
  alone-still =
      rw (among-part (octets "COUNT") g.parts p, among-part (octets "UNTIL") g.parts p, named, names_apart i 2 h (omega arith), names_apart i 1 h (omega arith))
      (alone-by _ _ (eqb i 2) (eqb i 1) g.alone no-count no-until (λ e. ne_eqb i 1 (λ z. let o = eqb-true i 2 e in omega arith)))

  pub gathered-more : Gathered gather all left (set seen i true) (with_part gather head i v)
  gathered-more = record {
    parts = g.parts ++ p ∷ [];
    whole = g.whole ∙ longer left;
    once = ap twice (names-one g.parts p) ∙ twice-more (names g.parts) p.name ∙ or-false g.once (ap (λ (n : List ℕ). among n (names g.parts)) named ∙ unseen);
    alone = alone-still;
    marks = ap (λ (l : List Bool). set l i true) g.marks ∙ sym (present-more g.parts p i h named);
    says = ap (λ (x : RuleHead). with_part gather x i v) g.says ∙ sym (head_step g.parts p i v h named unseen read gather no-count);
  }

-- nothing can be read behind the parts so far
pub gathered-lost : {gather : Bool} {all : Option (List Part)} {seen : List Bool} {head : RuleHead} → Gathered gather all none seen head → guard is_rule all ≡ none
unfolding map? guard
gathered-lost g = rw g.whole

-- the part ahead may not follow
repeated : (ps : List Part) (p : Part) (qs : List Part) → among p.name (names ps) ≡ true → is_rule (ps ++ p ∷ qs) ≡ false
unfolding is_rule
repeated ps p qs e =
    rw (names_more ps p qs, twice-again (names ps) p.name (names qs) e) (and-false-right (among (octets "FREQ") (names ps ++ p.name ∷ names qs)))

clashing : (ps : List Part) (p : Part) (qs : List Part) → among (octets "COUNT") (names (ps ++ p ∷ qs)) ≡ true → among (octets "UNTIL") (names (ps ++ p ∷ qs)) ≡ true → is_rule (ps ++ p ∷ qs) ≡ false
unfolding is_rule
clashing ps p qs c u = rw (c, u) (cases (among (octets "FREQ") (names (ps ++ p ∷ qs)))
    (λ e. rw e (and-false-right (not (twice (names (ps ++ p ∷ qs))))))
    (λ e. rw e))

seen-before : (n : List ℕ) (ps : List Part) (p : Part) (qs : List Part) → among n (names ps) ≡ true → among n (names (ps ++ p ∷ qs)) ≡ true
seen-before n ps p qs e = ap (among n) (names_more ps p qs) ∙ among-append n (names ps) (p.name ∷ names qs) e

seen-now : (n : List ℕ) (ps : List Part) (p : Part) (qs : List Part) → p.name ≡ n → among n (names (ps ++ p ∷ qs)) ≡ true
seen-now n ps p qs e = ap (among n) (names_more ps p qs) ∙ among_there n (names ps) p.name (names qs) (sym e)

module _ {gather : Bool} {all : Option (List Part)} {seen : List Bool} {head : RuleHead} (o : Option Part) (left : Option (List Part)) (i : ℕ) (h : i < 14)
    (g : Gathered gather all (both? ◌∷◌ o left) seen head) (named : (p : Part) → o ≡ some p → p.name ≡ name_at i) (stop : barred seen i ≡ true) where
  no-rule : (p : Part) (qs : List Part) → p.name ≡ name_at i → is_rule (g.parts ++ p ∷ qs) ≡ false
  unfolding barred key_at keys
  no-rule p qs n = either (get_or seen i false) _ stop
      (λ e. repeated g.parts p qs (ap (λ (m : List ℕ). among m (names g.parts)) n ∙ sym (marked g i h) ∙ e))
      (λ d. either (eqb i 1 and get_or seen 2 false) _ d
      (λ e. let b = both (eqb i 1) (get_or seen 2 false) e in
      clashing g.parts p qs (seen-before (octets "COUNT") g.parts p qs (sym (count-marked g) ∙ b.1)) (seen-now (octets "UNTIL") g.parts p qs (n ∙ ap name_at (eqb-true i 1 b.0))))
      (λ e. let b = both (eqb i 2) (get_or seen 1 false) e in
      clashing g.parts p qs (seen-now (octets "COUNT") g.parts p qs (n ∙ ap name_at (eqb-true i 2 b.0))) (seen-before (octets "UNTIL") g.parts p qs (sym (until-marked g) ∙ b.1))))

  pub gathered-barred : guard is_rule all ≡ none
  gathered-barred = ap (guard is_rule) g.whole ∙ by o left named
    where
      by : (o : Option Part) (l : Option (List Part)) → ((p : Part) → o ≡ some p → p.name ≡ name_at i) → guard is_rule (map? (λ qs. g.parts ++ qs) (both? ◌∷◌ o l)) ≡ none
      by none l n = unfold both? map? guard in refl
      by (some p) none n = unfold both? map? guard in refl
      by (some p) (some qs) n = unfold both? map? guard when in (rw (no-rule p qs (n p refl)))

-- all parts are read
module _ {gather : Bool} {all : Option (List Part)} {seen : List Bool} {head : RuleHead} (g : Gathered gather all (some []) seen head) where
  every : all ≡ some g.parts
  unfolding map?
  every = g.whole ∙ ap some (append-nil g.parts)

  frequency-marked : is_rule g.parts ≡ get_or seen 0 false
  unfolding is_rule key_at keys
  frequency-marked = rw (g.once, g.alone) (and-true-right (among (octets "FREQ") (names g.parts)) ∙ sym (marked g 0 (omega arith)))

  by-marked : by_parts g.parts ≡ by_seen seen
  unfolding by_parts by_seen present keys
  by-marked = rw g.marks

  pub gathered-all : map? (kept gather) (map? rule_from (guard is_rule all)) ≡ rule_read head seen
  unfolding guard rule_read rule_from
  gathered-all = rw (every, frequency-marked, ← by-marked, g.says) (by (get_or seen 0 false))
    where
      by : (b : Bool) → map? (kept gather) (map? rule_from (when b g.parts)) ≡ when b (record {
        frequency = (head_from gather g.parts).frequency;
        interval = (head_from gather g.parts).interval;
        end = (head_from gather g.parts).end;
        wkst = (head_from gather g.parts).wkst;
        by = by_parts g.parts;
        days = (head_from gather g.parts).days;
      })
      by true = unfold map? when head_from rule_from kept in refl
      by false = unfold map? when in refl
