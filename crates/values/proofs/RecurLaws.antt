-- The law of recurrence rules: the object of a rule has the kinds that jCal takes, is written as the rule in its normal form, and is read again.
use Prim.Native.Nat.{ℕ, ◌≤◌}
use Prim.Native.Char.{code}
use mathlib.Core.Path.{◌≡◌, refl, sym, ap, ◌∙◌}
use mathlib.Core.Bool.{Bool, true, false, not}
use mathlib.Core.List.{List, [], ◌∷◌, map}
use mathlib.Core.Option.{none, some}
use native.Mathlib.Omega.{arith}
use borrow.Author.Tests.{le-leb, leb-true, eqb-true}
use lib.Dec.{eqb, leb}
use lib.ListN.{length}
use Rattle.octets.specs.Basics.{octets, ◌and◌, ◌or◌, all, any, filled, single, same, among, twice, All}
use Rattle.octets.specs.Pieces.{split}
use Rattle.octets.specs.Optional.{map?, is_some, when, guard, holds, given, each}
use Rattle.octets.specs.Classes.{between, is_digit, is_upper, is_lower, is_letter, lower_name_octet, is_lower_name, upper_octet, lower_octet, upper, lower}
use Rattle.octets.specs.Decimal.{digits, value_of, is_sign, has_sign, minus, unsigned, trim, minus_if, integer_text}
use Rattle.octets.specs.Limits.{most_integer}
use Rattle.octets.proofs.Cases.{cases, never, both, and-true, either, or-second, alike, all_weaker}
use Rattle.octets.proofs.Classes.{between-true, within-between, same-is, same-itself}
use Rattle.octets.proofs.Optional.{missing, some_same, when-is, guard-is, map_is, then_is, some_is}
use Rattle.octets.proofs.Pieces.{split-filled}
use Rattle.octets.proofs.Utf8.{printable-clean}
use Rattle.octets.proofs.Decimal.{digits-first, minus-minus_if, unsigned-digits}
use Rattle.calendar.specs.Dates.{moment_of, moment_is, moment_text}
use Rattle.calendar.specs.Recurrence.{PartSort, frequency, moment, count, weekday, ordinal, numbers, Key, keys, key_in, key_named, until_of, count_of, number_of, item_of, several, Part, part, keyed_part, part_of, names, is_rule, parts_of, part_text, parts_text}
use Rattle.calendar.proofs.Octets.{item_octet}
use Rattle.calendar.proofs.Readback.{capital-upper, moment-returned}
use Rattle.calendar.proofs.RuleParts.{read_part, read_parts, rule-parts, named-found}
use Rattle.calendar.proofs.WrittenRules.{item-again, value-octets, parts_again, text-upper, text-clean}
use Rattle.json_text.specs.Tree.{Json, num, str, obj, string?, number?, array?, object?, items_of}
use Rattle.tape.specs.Sound.{has_key, distinct_keys}
use Rattle.content.specs.Parameters.{plain_or}
use Rattle.values.specs.Sorts.{recur}
use Rattle.values.specs.Simple.{in_range, integer_of}
use Rattle.values.specs.Recur.{item_json, part_members, recur_of, word_octet, is_word, is_integer, is_until, all_items, some_items, one_or_more, kind_is, kinds_are, string_text, item_text, item_texts, value_texts, member_text, member_texts, rule_parts, recur_is, recur_text}
use Rattle.values.specs.Write.{value_is, value_text}
use Rattle.values.proofs.Neat.{Textual, clean-textual, Neat, n-str, n-arr, n-obj, NeatMembers, n-empty, n-member, neat-items}
use Rattle.values.proofs.ListLaws.{Item, ItemLaw, each-All, each-filled}
use Rattle.values.proofs.FixedLaws.{capital-neat}
use Rattle.values.proofs.NumberLaws.{integer-numeral, numeral-neat}

-- The keys: their names come back from lowercase, are names in jCal, and no bound of a number is beyond an integer's.
unfoldable small : PartSort → Bool
small frequency = true
small moment = true
small count = true
small weekday = true
small ordinal = true
small (numbers signed most lo hi) = leb hi most_integer

unfoldable fits : Key → Bool
fits k = same (upper (lower k.name)) k.name and is_lower_name (lower k.name) and all (between 32 126) (lower k.name) and small k.sort

keys-fit : all fits keys ≡ true
unfolding all keys fits small same upper lower upper_octet lower_octet is_upper is_lower is_digit is_lower_name lower_name_octet filled between most_integer
keys-fit = refl

key_fits : (ks : List Key) (n : List ℕ) (k : Key) → all fits ks ≡ true → key_in ks n ≡ some k → fits k ≡ true
unfolding all key_in
key_fits [] n k h e = missing e
key_fits (j ∷ ks) n k h e =
    let b = both (fits j) (all fits ks) h in
    cases (same j.name n) (λ a. rw (← (some_same (rw a at e))) b.0) (λ a. key_fits ks n k b.1 (rw a at e))

-- a name of a key
record Named (n : List ℕ) : Type 0 where
  back : upper (lower n) ≡ n
  lowered : is_lower_name (lower n) ≡ true
  textual : Textual (lower n)

fits-named : (k : Key) → fits k ≡ true → Named k.name × (small k.sort ≡ true)
unfolding fits
fits-named k h =
    let a = both (same (upper (lower k.name)) k.name) _ h in
    let b = both (is_lower_name (lower k.name)) _ a.1 in
    let c = both (all (between 32 126) (lower k.name)) (small k.sort) b.1 in
    (record { back = same-is (upper (lower k.name)) k.name a.0; lowered = b.0; textual = clean-textual (lower k.name) (printable-clean (lower k.name) c.0) }, c.1)

-- A value of a part.
unfoldable item_kind : PartSort → Json → Bool
item_kind frequency j = is_word j
item_kind moment j = is_until j
item_kind count j = is_integer j
item_kind weekday j = is_word j
item_kind ordinal j = is_word j
item_kind (numbers signed most lo hi) j = is_integer j

record Fitting (sort : PartSort) (v : List ℕ) : Type 0 where
  text : item_text sort (item_json sort v) ≡ v
  kind : item_kind sort (item_json sort v) ≡ true
  plain : array? (item_json sort v) ≡ none
  neat : (d : ℕ) → Neat d (item_json sort v)

word-octet : (c : ℕ) → item_octet c ≡ true → word_octet c ≡ true
unfolding item_octet word_octet is_letter
word-octet c h = either (is_upper c) (is_digit c or is_sign c) h (λ e. rw e) (λ e. or-second (is_upper c or is_lower c) e)

octets-word : (v : List ℕ) → all item_octet v ≡ true → is_word (str v) ≡ true
unfolding is_word holds string?
octets-word v h = all_weaker item_octet word_octet word-octet v h

octet-printable : (c : ℕ) → item_octet c ≡ true → between 32 126 c ≡ true
unfolding item_octet is_upper is_digit is_sign
octet-printable c h = either (between (code "A") (code "Z") c) _ h
    (λ e. let b = between-true (code "A") (code "Z") c e in within-between 32 126 c (omega arith) (omega arith))
    (λ k. either (between (code "0") (code "9") c) _ k
    (λ e. let b = between-true (code "0") (code "9") c e in within-between 32 126 c (omega arith) (omega arith))
    (λ s. either (eqb c (code "+")) (eqb c (code "-")) s
    (λ e. rw (eqb-true c (code "+") e) (unfold between in refl))
    (λ e. rw (eqb-true c (code "-") e) (unfold between in refl))))

word-neat : (d : ℕ) (v : List ℕ) → all item_octet v ≡ true → Neat d (str v)
word-neat d v h = n-str (clean-textual v (printable-clean v (all_weaker item_octet (between 32 126) octet-printable v h)))

-- integers
range_small : (m : Bool) (n : ℕ) → n ≤ most_integer → in_range m n ≡ true
unfolding in_range most_integer
range_small true n h = le-leb n _ (omega arith)
range_small false n h = le-leb n _ (omega arith)

integer-kind : (v : List ℕ) → digits (unsigned v) ≡ true → value_of (unsigned v) ≤ most_integer → is_integer (num v) ≡ true
unfolding is_integer holds number? integer_of
integer-kind v d h = rw (d, range_small (minus v) (value_of (unsigned v)) h) (unfold when is_some in refl)

integer-neat : (d : ℕ) (v : List ℕ) → digits (unsigned v) ≡ true → integer_text v ≡ v → Neat d (num v)
integer-neat d v h e = numeral-neat (rw e at (integer-numeral v h))

count-text : (v : List ℕ) → digits v ≡ true → trim v ≡ v → integer_text v ≡ v
unfolding integer_text
count-text v d e =
    let f = digits-first v d in
    let m : minus v ≡ false = unfold minus_if in minus-minus_if false v f in
    rw (m, unsigned-digits v f) (unfold minus_if in e)

module _ (sort : PartSort) (v : List ℕ) (j : item_json sort v ≡ num v) (k : item_kind sort (num v) ≡ is_integer (num v)) where
  integer-text : item_text sort (num v) ≡ integer_text v
  unfolding item_text number? given
  integer-text = refl

  integer-fitting : digits (unsigned v) ≡ true → value_of (unsigned v) ≤ most_integer → integer_text v ≡ v → Fitting sort v
  integer-fitting h l t = record {
    text = rw j (integer-text ∙ t);
    kind = rw j (k ∙ integer-kind v h l);
    plain = rw j (unfold array? in refl);
    neat = λ d. rw j (integer-neat d v h t);
  }

count-fitting : (v : List ℕ) → count_of v ≡ some v → Fitting count v
unfolding count_of
count-fitting v e =
    let w = when-is (digits v and between 1 most_integer (value_of v)) (trim v) v e in
    let b = both (digits v) (between 1 most_integer (value_of v)) w.0 in
    let u : unsigned v ≡ v = unsigned-digits v (digits-first v b.0) in
    integer-fitting count v (unfold item_json in refl) (unfold item_kind in refl) (rw u b.0) (rw u (between-true 1 most_integer (value_of v) b.1).1) (count-text v b.0 w.1)

numbers-fitting : (signed : Bool) (most lo hi : ℕ) (v : List ℕ) → leb hi most_integer ≡ true → number_of signed most lo hi v ≡ some v → Fitting (numbers signed most lo hi) v
unfolding number_of
numbers-fitting signed most lo hi v l e =
    let w = when-is ((signed or not (has_sign v)) and digits (unsigned v) and leb (length (unsigned v)) most and between lo hi (value_of (unsigned v))) (integer_text v) v e in
    let a = both (signed or not (has_sign v)) _ w.0 in
    let b = both (digits (unsigned v)) _ a.1 in
    let c = both (leb (length (unsigned v)) most) (between lo hi (value_of (unsigned v))) b.1 in
    integer-fitting (numbers signed most lo hi) v (unfold item_json in refl) (unfold item_kind in refl) b.0
    (omega (arith, (between-true lo hi (value_of (unsigned v)) c.1).1, leb-true hi most_integer l)) w.1

-- UNTIL
until-fitting : (v t : List ℕ) → moment_of v ≡ some t → Fitting moment v
until-fitting v t e =
    let r = moment-returned v t e in
    let c = capital-upper t r.plain in
    let j : item_json moment v ≡ str t = unfold item_json in rw e (unfold given in refl) in
    record {
      text = rw j (written t ∙ rw c r.back);
      kind = rw j (tested t ∙ rw c r.again);
      plain = rw j (unfold array? in refl);
      neat = λ d. rw j (capital-neat t r.plain);
    }
  where
    written : (t : List ℕ) → item_text moment (str t) ≡ moment_text (upper t)
    written t = unfold item_text number? string? given string_text in refl

    tested : (t : List ℕ) → item_kind moment (str t) ≡ moment_is (upper t)
    tested t = unfold item_kind is_until holds string? in refl

module _ (sort : PartSort) (v : List ℕ) (e : item_of sort v ≡ some v) (j : item_json sort v ≡ str v) (t : item_text sort (str v) ≡ v) (k : item_kind sort (str v) ≡ is_word (str v)) where
  word-fitting : Fitting sort v
  word-fitting =
      let o = value-octets sort v v e in
      record {
        text = rw j t;
        kind = rw j (k ∙ octets-word v o);
        plain = rw j (unfold array? in refl);
        neat = λ d. rw j (word-neat d v o);
      }

word-text : (sort : PartSort) (v : List ℕ) → string_text sort v ≡ v → item_text sort (str v) ≡ v
unfolding item_text number? string? given
word-text sort v e = e

item-fitting : (sort : PartSort) (v : List ℕ) → small sort ≡ true → item_of sort v ≡ some v → Fitting sort v
item-fitting frequency v l e = word-fitting frequency v e (unfold item_json in refl) (word-text frequency v (unfold string_text in refl)) (unfold item_kind in refl)
item-fitting moment v l e = some_is (moment_of v) (when-is (is_some (moment_of v)) v v (unfold item_of until_of in e)).0 (λ t q. until-fitting v t q)
item-fitting count v l e = count-fitting v (unfold item_of in e)
item-fitting weekday v l e = word-fitting weekday v e (unfold item_json in refl) (word-text weekday v (unfold string_text in refl)) (unfold item_kind in refl)
item-fitting ordinal v l e = word-fitting ordinal v e (unfold item_json in refl) (word-text ordinal v (unfold string_text in refl)) (unfold item_kind in refl)
item-fitting (numbers signed most lo hi) v l e = numbers-fitting signed most lo hi v (unfold small in l) (unfold item_of in e)

-- The values of a part: one plain, several an array.
module _ (sort : PartSort) where
  items-text : (vs : List (List ℕ)) → All (Fitting sort) vs → item_texts sort (items_of (map (item_json sort) vs)) ≡ vs
  unfolding item_texts items_of
  items-text [] h = refl
  items-text (v ∷ vs) h = rw h.0.text (ap (λ (ls : List (List ℕ)). v ∷ ls) (items-text vs h.1))

  values-text : (vs : List (List ℕ)) → filled vs ≡ true → All (Fitting sort) vs → value_texts sort (plain_or (map (item_json sort) vs)) ≡ vs
  unfolding plain_or value_texts
  values-text [] f h = never f (unfold filled in refl)
  values-text (v ∷ []) f h = rw h.0.plain (unfold given in rw h.0.text)
  values-text (v ∷ w ∷ vs) f h = unfold array? given in items-text (v ∷ w ∷ vs) h

  items-kind : (vs : List (List ℕ)) → All (Fitting sort) vs → all_items (item_kind sort) (items_of (map (item_json sort) vs)) ≡ true
  unfolding all_items items_of
  items-kind [] h = refl
  items-kind (v ∷ vs) h = and-true h.0.kind (items-kind vs h.1)

  values-kind : (vs : List (List ℕ)) → filled vs ≡ true → All (Fitting sort) vs → one_or_more (item_kind sort) (plain_or (map (item_json sort) vs)) ≡ true
  unfolding plain_or one_or_more
  values-kind [] f h = never f (unfold filled in refl)
  values-kind (v ∷ []) f h = rw h.0.plain (unfold given in h.0.kind)
  values-kind (v ∷ w ∷ vs) f h = unfold array? given some_items items_of in and-true h.0.kind (items-kind (w ∷ vs) h.1)

  value-kind : (vs : List (List ℕ)) → single vs ≡ true → All (Fitting sort) vs → item_kind sort (plain_or (map (item_json sort) vs)) ≡ true
  unfolding plain_or single filled
  value-kind [] f h = never f refl
  value-kind (v ∷ []) f h = h.0.kind
  value-kind (v ∷ w ∷ vs) f h = never f refl

  items-neat : (d : ℕ) (vs : List (List ℕ)) → All (Fitting sort) vs → All (Neat d) (map (item_json sort) vs)
  items-neat d [] h = tt
  items-neat d (v ∷ vs) h = (h.0.neat d, items-neat d vs h.1)

  values-neat : (vs : List (List ℕ)) → All (Fitting sort) vs → Neat 1 (plain_or (map (item_json sort) vs))
  unfolding plain_or
  values-neat [] h = n-arr (neat-items 0 [] tt)
  values-neat (v ∷ []) h = h.0.neat 1
  values-neat (v ∷ w ∷ vs) h = n-arr (neat-items 0 (map (item_json sort) (v ∷ w ∷ vs)) (items-neat 0 (v ∷ w ∷ vs) h))

kind-of : (sort : PartSort) (vs : List (List ℕ)) → filled vs ≡ true → (several sort or single vs) ≡ true → All (Fitting sort) vs → kind_is sort (plain_or (map (item_json sort) vs)) ≡ true
unfolding kind_is several
kind-of frequency vs f m h = unfold item_kind in value-kind frequency vs m h
kind-of moment vs f m h = unfold item_kind in value-kind moment vs m h
kind-of count vs f m h = unfold item_kind in value-kind count vs m h
kind-of weekday vs f m h = unfold item_kind in value-kind weekday vs m h
kind-of ordinal vs f m h = unfold item_kind in values-kind ordinal vs f h
kind-of (numbers signed most lo hi) vs f m h = unfold item_kind in values-kind (numbers signed most lo hi) vs f h

-- A part that was read.
record PartRead (p : Part) : Type 0 where
  key : Key
  found : key_named p.name ≡ some key
  sorted : key.sort ≡ p.sort
  named : Named p.name
  values : All (Fitting p.sort) p.values
  one-or-more : filled p.values ≡ true
  many : (several p.sort or single p.values) ≡ true

units : {A : Type 0} (xs : List A) → All (λ x. Unit {0}) xs
units [] = tt
units (x ∷ xs) = (tt, units xs)

keyed-read : (n v : List ℕ) (k : Key) (p : Part) → key_named n ≡ some k → keyed_part v k ≡ some p → PartRead p
unfolding keyed_part
keyed-read n v k p q e =
    map_is (part k) (guard (λ vs. several k.sort or single vs) (each (item_of k.sort) (split (code ",") v))) p e (λ vs g w.
    let m = guard-is (λ vs. several k.sort or single vs) (each (item_of k.sort) (split (code ",") v)) vs g in
    let f = fits-named k (key_fits keys n k keys-fit (unfold key_named in q)) in
    let i : k.name ≡ n = named-found keys n k (unfold key_named in q) in
    rw (← w) (record {
      key = k;
      found = ap key_named i ∙ q;
      sorted = refl;
      named = f.0;
      values = each-All (item_of k.sort) (λ l. Unit {0}) (Fitting k.sort) (λ l u t d. item-fitting k.sort u f.1 (item-again k.sort l u d))
          (split (code ",") v) vs (units (split (code ",") v)) m.0;
      one-or-more = each-filled (item_of k.sort) (split (code ",") v) vs (split-filled (code ",") v) m.0;
      many = m.1;
    }))

part-read : (ls : List (List ℕ)) (p : Part) → part_of ls ≡ some p → PartRead p
unfolding part_of
part-read [] p e = missing e
part-read (n ∷ []) p e = missing e
part-read (n ∷ v ∷ []) p e = then_is (key_named n) (keyed_part v) p e (λ k q d. keyed-read n v k p q d)
part-read (n ∷ v ∷ w ∷ ls) p e = missing e

-- The object of a rule's parts.
part-text : (p : Part) → PartRead p → member_text (lower p.name) (plain_or (map (item_json p.sort) p.values)) ≡ part_text p
unfolding member_text part_text
part-text p h = rw (h.named.back, h.found) (unfold given in rw (h.sorted, values-text p.sort p.values h.one-or-more h.values))

members-text : (ps : List Part) → All PartRead ps → member_texts (part_members ps) ≡ map part_text ps
unfolding member_texts part_members
members-text [] h = refl
members-text (p ∷ ps) h = rw (part-text p h.0) (ap (λ (ls : List (List ℕ)). part_text p ∷ ls) (members-text ps h.1))

part-kind : (p : Part) → PartRead p → holds (λ (k : Key). kind_is k.sort (plain_or (map (item_json p.sort) p.values))) (key_named (upper (lower p.name))) ≡ true
part-kind p h = rw (h.named.back, h.found) (unfold holds in rw h.sorted (kind-of p.sort p.values h.one-or-more h.many h.values))

members-kinds : (ps : List Part) → All PartRead ps → kinds_are (part_members ps) ≡ true
unfolding kinds_are part_members
members-kinds [] h = refl
members-kinds (p ∷ ps) h = and-true h.0.named.lowered (and-true (part-kind p h.0) (members-kinds ps h.1))

members-neat : (ps : List Part) → All PartRead ps → NeatMembers 1 (part_members ps)
unfolding part_members
members-neat [] h = n-empty
members-neat (p ∷ ps) h = n-member h.0.named.textual (values-neat p.sort p.values h.0.values) (members-neat ps h.1)

-- no name twice
same-lower : (m n : List ℕ) → Named m → Named n → same (lower m) (lower n) ≡ same m n
same-lower m n a b = alike (same (lower m) (lower n)) (same m n)
    (λ e. let q : m ≡ n = sym a.back ∙ ap upper (same-is (lower m) (lower n) e) ∙ b.back in rw q (same-itself n))
    (λ e. rw (same-is m n e) (same-itself (lower n)))

key-among : (n : List ℕ) (ps : List Part) → Named n → All PartRead ps → has_key (lower n) (part_members ps) ≡ among n (names ps)
unfolding has_key part_members among names any
key-among n [] a h = refl
key-among n (p ∷ ps) a h = rw (same-lower n p.name a h.0.named) (ap (λ (b : Bool). same n p.name or b) (key-among n ps a h.1))

keys-distinct : (ps : List Part) → All PartRead ps → distinct_keys (part_members ps) ≡ not (twice (names ps))
unfolding distinct_keys part_members twice names
keys-distinct [] h = refl
keys-distinct (p ∷ ps) h = rw (key-among p.name ps h.0.named h.1, keys-distinct ps h.1) (morgan (among p.name (names ps)) (twice (names ps)))
  where
    morgan : (a b : Bool) → (not a and not b) ≡ not (a or b)
    morgan true b = refl
    morgan false b = refl

rule-once : (ps : List Part) → is_rule ps ≡ true → not (twice (names ps)) ≡ true
unfolding is_rule
rule-once ps h = (both (not (twice (names ps))) _ (both (among (octets "FREQ") (names ps)) _ h).1).0

-- The law.
module _ (s : List ℕ) (ps : List Part) (e : parts_of (upper s) ≡ some ps) where
  abbrev rule : Json
  rule = obj (part_members ps)

  reads : All PartRead ps
  unfolding read_parts
  reads = each-All read_part (λ l. Unit {0}) PartRead (λ l p u d. part-read (split (code "=") l) p d) (split (code ";") (upper s)) ps (units (split (code ";") (upper s))) (rule-parts (upper s) ps e).0

  parts-back : rule_parts (part_members ps) ≡ some ps
  unfolding rule_parts parts_text
  parts-back = rw (members-text ps reads) (rw (text-upper (upper s) ps e) (parts_again (upper s) ps e))

  rule-text : value_text recur rule ≡ parts_text ps
  unfolding value_text object? given recur_text
  rule-text = rw parts-back

  rule-again : recur_of (upper (parts_text ps)) ≡ some rule
  unfolding recur_of map?
  rule-again = rw (text-upper (upper s) ps e, parts_again (upper s) ps e)

  rule-is : value_is recur rule ≡ true
  unfolding value_is holds object? recur_is is_some
  rule-is = rw (members-kinds ps reads, parts-back)

  rule-item : Item recur (λ s. recur_of (upper s)) s rule
  rule-item = record {
    again = rw rule-text rule-again;
    is = rule-is;
    line = λ c. rw rule-text (text-clean (upper s) ps e);
    neat = λ c. n-obj (keys-distinct ps reads ∙ rule-once ps (rule-parts (upper s) ps e).1) (members-neat ps reads);
  }

pub recur-law : ItemLaw recur (λ s. recur_of (upper s))
unfolding recur_of
recur-law s j e = map_is (λ ps. obj (part_members ps)) (parts_of (upper s)) j e (λ ps q w. rw (← w) (rule-item s ps q))
