-- A recurrence rule that is written from its parts is read as these parts again, and its text is printable ASCII in uppercase.
use Prim.Native.Nat.{ℕ, ◌-◌}
use Prim.Native.Char.{code}
use mathlib.Core.Path.{◌≡◌, refl, sym, ap, ◌∙◌}
use mathlib.Core.Bool.{Bool, true, false, not}
use mathlib.Core.List.{List, [], ◌∷◌, ◌++◌, map}
use mathlib.Core.Option.{some}
use native.Mathlib.Omega.{arith}
use borrow.Author.Tests.{eqb-true, le-leb, leb-true, not-true}
use lib.Dec.{eqb, leb}
use lib.ListN.{length, take, drop, length-append, get_or}
use lib.Seq.{take_at, drop_at}
use Rattle.octets.specs.Basics.{◌and◌, ◌or◌, all, any, same, among, single, All}
use Rattle.octets.specs.Optional.{map?, then?, is_some, when, guard, each}
use Rattle.octets.specs.Classes.{between, is_digit, is_upper, upper}
use Rattle.octets.specs.Decimal.{digits, value_of, is_sign, has_sign, minus, unsigned, trim, minus_if, integer_text}
use Rattle.octets.specs.Limits.{most_integer}
use Rattle.octets.specs.Pieces.{split, joined}
use Rattle.octets.specs.Utf8.{clean}
use Rattle.octets.proofs.Cases.{cases, both, either, never, apart, All-append, All-weaker, all-All, All-all}
use Rattle.octets.proofs.Classes.{between-true, within-between, same-is}
use Rattle.octets.proofs.Decimal.{DigitFirst, digits-first, trim-first, trim-twice, trim-value, trim_digits, integer-unsigned, integer-value, integer-twice, digit-no-sign, trim-length}
use Rattle.octets.proofs.Pieces.{Free, split-last, split-part, list-again}
use Rattle.octets.proofs.Utf8.{printable-clean}
use Rattle.calendar.specs.Dates.{moment_of}
use Rattle.calendar.specs.Recurrence.{PartSort, frequency, moment, count, weekday, ordinal, numbers, Key, keys, key_in, key_named, frequencies, weekdays, word_of, until_of, count_of, number_of, ordinal_of, day_of, item_of, several, Part, part, keyed_part, part_of, parts_of, part_text, parts_text}
use Rattle.octets.proofs.Optional.{when-is, guard-is}
use Rattle.calendar.proofs.Options.{map_is, then_is}
use Rattle.calendar.proofs.Octets.{item_octet, item-octets}
use Rattle.calendar.proofs.Readback.{capital, capital-upper, capital-printable}
use Rattle.calendar.proofs.RuleParts.{both_is, read_part, read_parts, rule-parts, items-All, All-joined, named-found}

-- A value that was read is read again.
kept_again : (p : List ℕ → Bool) (s v : List ℕ) → when (p s) s ≡ some v → when (p v) v ≡ some v
kept_again p s v e = let w = when-is (p s) s v e in rw w.1 at e

count-again : (s v : List ℕ) → count_of s ≡ some v → count_of v ≡ some v
unfolding count_of when
count-again s v e =
    let w = when-is (digits s and between 1 most_integer (value_of s)) (trim s) v e in
    let d = both (digits s) _ w.0 in
    rw (← w.1, trim-twice s, trim-value s, trim_digits s d.0, d.1)

trim-most : (s : List ℕ) (most : ℕ) → leb (length s) most ≡ true → leb (length (trim s)) most ≡ true
trim-most s most h = le-leb (length (trim s)) most (let k = trim-length s in omega (arith, leb-true (length s) most h))

-- the sign that is left may be there
no_minus : (s : List ℕ) → has_sign s ≡ false → minus s ≡ false
unfolding has_sign minus is_sign
no_minus s h = cases (eqb (get_or s 0 0) (code "-")) (λ e. cases (eqb (get_or s 0 0) (code "+")) (λ d. never (rw d) h) (λ d. never (rw (d, e)) h)) (λ e. e)

sign-again : (signed : Bool) (s : List ℕ) → DigitFirst (unsigned s) → (signed or not (has_sign s)) ≡ true → (signed or not (has_sign (integer_text s))) ≡ true
sign-again true s f h = refl
sign-again false s f h = rw (bare s f (no_minus s (not-true (has_sign s) h)))
  where
    bare : (s : List ℕ) → DigitFirst (unsigned s) → minus s ≡ false → has_sign (integer_text s) ≡ false
    bare s f m = unfold integer_text in (rw m (unfold minus_if has_sign in digit-no-sign (get_or (trim (unsigned s)) 0 0) (trim-first (unsigned s) f)))

number-again : (signed : Bool) (most lo hi : ℕ) (s v : List ℕ) → number_of signed most lo hi s ≡ some v → number_of signed most lo hi v ≡ some v
unfolding number_of when
number-again signed most lo hi s v e =
    let u = unsigned s in
    let w = when-is ((signed or not (has_sign s)) and digits u and leb (length u) most and between lo hi (value_of u)) (integer_text s) v e in
    let a = both (signed or not (has_sign s)) _ w.0 in
    let d = both (digits u) _ a.1 in
    let m = both (leb (length u) most) _ d.1 in
    let f = digits-first u d.0 in
    rw (← w.1, sign-again signed s f a.0, integer-value s f, integer-twice s f, integer-unsigned s f, trim_digits u d.0, trim-most u most m.0, m.1)

ordinal-again : (s v : List ℕ) → ordinal_of s ≡ some v → ordinal_of v ≡ some v
unfolding ordinal_of
ordinal-again [] v e = let q : [] ≡ v = cc in rw (← q)
ordinal-again (c ∷ s) v e = by v (number-again true 2 1 53 (c ∷ s) v e)
  where
    by : (v : List ℕ) → number_of true 2 1 53 v ≡ some v → ordinal_of v ≡ some v
    by [] e = unfold ordinal_of in refl
    by (d ∷ v) e = unfold ordinal_of in e

-- a weekday has two letters
two-letters : (d : List ℕ) (ws : List (List ℕ)) → All (λ w. length w ≡ 2) ws → among d ws ≡ true → length d ≡ 2
unfolding among any
two-letters d [] h e = never e refl
two-letters d (w ∷ ws) h e = either (same d w) (any (same d) ws) e (λ a. ap length (same-is d w a) ∙ h.0) (λ a. two-letters d ws h.1 a)

weekday-letters : (d e : List ℕ) → word_of weekdays d ≡ some e → length e ≡ 2
unfolding word_of
weekday-letters d e h =
    let w = when-is (among d weekdays) d e h in
    ap length (sym w.1) ∙ two-letters d weekdays (unfold weekdays in (refl, (refl, (refl, (refl, (refl, (refl, (refl, tt)))))))) w.0

put-together : (n d : List ℕ) → length d ≡ 2 → word_of weekdays d ≡ some d → ordinal_of n ≡ some n → day_of (n ++ d) ≡ some (n ++ d)
unfolding day_of then? map?
put-together n d l e f =
    let k : length (n ++ d) - 2 ≡ length n = rw (length-append n d) (omega arith) in
    rw (k, drop_at n d (length n) refl, take_at n d (length n) refl, e, f)

day-again : (s v : List ℕ) → day_of s ≡ some v → day_of v ≡ some v
unfolding day_of
day-again s v e =
    let k = length s - 2 in
    let t = then_is (word_of weekdays (drop k s)) (λ d. map? (λ n. n ++ d) (ordinal_of (take k s))) v e in
    let m = map_is (λ n. n ++ t.0) (ordinal_of (take k s)) v t.2 in
    rw m.2 at (put-together m.0 t.0 (weekday-letters (drop k s) t.0 t.1) (word-again weekdays (drop k s) t.0 t.1) (ordinal-again (take k s) m.0 m.1))
  where
    word-again : (ws : List (List ℕ)) (s v : List ℕ) → word_of ws s ≡ some v → word_of ws v ≡ some v
    word-again ws s v e = unfold word_of in kept_again (λ x. among x ws) s v (unfold word_of in e)

pub item-again : (sort : PartSort) (s v : List ℕ) → item_of sort s ≡ some v → item_of sort v ≡ some v
unfolding item_of word_of until_of
item-again frequency s v e = kept_again (λ x. among x frequencies) s v e
item-again moment s v e = kept_again (λ x. is_some (moment_of x)) s v e
item-again count s v e = count-again s v e
item-again weekday s v e = kept_again (λ x. among x weekdays) s v e
item-again ordinal s v e = day-again s v e
item-again (numbers signed most lo hi) s v e = number-again signed most lo hi s v e

-- the octets of a value as it was read
pub value-octets : (sort : PartSort) (s v : List ℕ) → item_of sort s ≡ some v → all item_octet v ≡ true
value-octets sort s v e = item-octets sort v v (item-again sort s v e)

-- The values of a part, and the part.
map_same : (ls : List (List ℕ)) → map (λ l. l) ls ≡ ls
map_same [] = refl
map_same (l ∷ ls) = ap (λ (r : List (List ℕ)). l ∷ r) (map_same ls)

free_of : (sep : ℕ) → item_octet sep ≡ false → (s : List ℕ) → all item_octet s ≡ true → Free sep s
free_of sep n s h = All-weaker (λ c e. apart item_octet c sep e n) s (all-All item_octet s h)

pub no-comma : item_octet (code ",") ≡ false
unfolding item_octet is_upper is_digit is_sign between
no-comma = refl

pub no-equals : item_octet (code "=") ≡ false
unfolding item_octet is_upper is_digit is_sign between
no-equals = refl

pub no-semicolon : item_octet (code ";") ≡ false
unfolding item_octet is_upper is_digit is_sign between
no-semicolon = refl

-- no separator stands in a value as it was read
pub value-free : (sep : ℕ) → item_octet sep ≡ false → (sort : PartSort) (s v : List ℕ) → item_of sort s ≡ some v → Free sep v
value-free sep n sort s v e = free_of sep n v (value-octets sort s v e)

items-again : (sort : PartSort) (v : List ℕ) (vs : List (List ℕ)) → each (item_of sort) (split (code ",") v) ≡ some vs → each (item_of sort) (split (code ",") (joined (code ",") vs)) ≡ some vs
items-again sort v vs e =
    rw (map_same vs) at (list-again (code ",") (item_of sort) (λ l. l)
    (λ s a f d. (item-again sort s a d, value-free (code ",") no-comma sort s a d)) v vs e)

-- the names in the table
names-octets : all (λ (k : Key). all item_octet k.name) keys ≡ true
unfolding all keys item_octet is_upper is_digit is_sign between
names-octets = refl

name-octets : (ks : List Key) (n : List ℕ) (k : Key) → all (λ (j : Key). all item_octet j.name) ks ≡ true → key_in ks n ≡ some k → all item_octet k.name ≡ true
unfolding key_in all
name-octets [] n k h e = let z : ◌≡◌ {A = ℕ} 0 1 = cc in absurd (omega arith)
name-octets (j ∷ ks) n k h e =
    let b = both (all item_octet j.name) _ h in
    cases (same j.name n)
    (λ a. let d = rw a at e in let q : j ≡ k = cc in rw (← q) b.0)
    (λ a. name-octets ks n k b.1 (rw a at e))

-- what is known of a part that was read
pub record PartAgain (p : Part) : Type 0 where
  pub read : read_part (part_text p) ≡ some p
  pub free : Free (code ";") (part_text p)
  pub capitals : All (λ c. capital c ≡ true) (part_text p)

item-capital : (c : ℕ) → item_octet c ≡ true → capital c ≡ true
unfolding item_octet is_upper is_digit is_sign
item-capital c e = either (between (code "A") (code "Z") c) _ e
    (λ h. let b = between-true (code "A") (code "Z") c h in within-between 32 95 c (omega arith) (omega arith))
    (λ d. either (between (code "0") (code "9") c) _ d
    (λ h. let b = between-true (code "0") (code "9") c h in within-between 32 95 c (omega arith) (omega arith))
    (λ h. either (eqb c (code "+")) (eqb c (code "-")) h
    (λ a. rw (eqb-true c (code "+") a) (unfold between in refl))
    (λ a. rw (eqb-true c (code "-") a) (unfold between in refl))))

part-made : (n v : List ℕ) (p : Part) → part_of (n ∷ v ∷ []) ≡ some p → PartAgain p
unfolding part_of keyed_part part_text
part-made n v p e =
    let t = then_is (key_named n) (keyed_part v) p e in
    let k = t.0 in
    let m = map_is (part k) (guard (λ vs. several k.sort or single vs) (each (item_of k.sort) (split (code ",") v))) p t.2 in
    let vs = m.0 in
    let g = guard-is (λ vs. several k.sort or single vs) (each (item_of k.sort) (split (code ",") v)) vs m.1 in
    let it = items-again k.sort v vs g.0 in
    let nm : k.name ≡ n = named-found keys n k (unfold key_named in t.1) in
    let no = name-octets keys n k names-octets (unfold key_named in t.1) in
    let known : key_named k.name ≡ some k = rw nm t.1 in
    let ve = items-All (λ c. eqb c (code "=") ≡ false) (λ c d. apart item_octet c (code "=") d no-equals) refl k.sort (joined (code ",") vs) vs it in
    let vc = items-All (λ c. eqb c (code ";") ≡ false) (λ c d. apart item_octet c (code ";") d no-semicolon) refl k.sort (joined (code ",") vs) vs it in
    let va = items-All (λ c. capital c ≡ true) item-capital (unfold between in refl) k.sort (joined (code ",") vs) vs it in
    rw (← m.2) (record {
      read = rw (split-part (code "=") k.name (joined (code ",") vs) (free_of (code "=") no-equals k.name no), split-last (code "=") (joined (code ",") vs) ve) (part-read k vs known it g.1);
      free = All-append (λ c. eqb c (code ";") ≡ false) k.name (code "=" ∷ joined (code ",") vs) (free_of (code ";") no-semicolon k.name no) (refl, vc);
      capitals = All-append (λ c. capital c ≡ true) k.name (code "=" ∷ joined (code ",") vs) (All-weaker item-capital k.name (all-All item_octet k.name no)) (unfold between in refl, va);
    })
  where
    part-read : (k : Key) (vs : List (List ℕ)) → key_named k.name ≡ some k → each (item_of k.sort) (split (code ",") (joined (code ",") vs)) ≡ some vs
        → (several k.sort or single vs) ≡ true → part_of (k.name ∷ joined (code ",") vs ∷ []) ≡ some (part k vs)
    part-read k vs known it fit = unfold part_of then? keyed_part map? guard when in (rw (known, it, fit))

part-again : (s : List ℕ) (p : Part) → read_part s ≡ some p → PartAgain p
part-again s p e = by (split (code "=") s) e
  where
    by : (ls : List (List ℕ)) → part_of ls ≡ some p → PartAgain p
    by [] d = unfold part_of in (let z : ◌≡◌ {A = ℕ} 0 1 = cc in absurd (omega arith))
    by (n ∷ []) d = unfold part_of in (let z : ◌≡◌ {A = ℕ} 0 1 = cc in absurd (omega arith))
    by (n ∷ v ∷ []) d = part-made n v p d
    by (n ∷ v ∷ w ∷ l) d = unfold part_of in (let z : ◌≡◌ {A = ℕ} 0 1 = cc in absurd (omega arith))

parts-written : (ls : List (List ℕ)) (ps : List Part) → each read_part ls ≡ some ps → All PartAgain ps
parts-written [] ps e = let q : [] ≡ ps = nothing ps (unfold each in e) in rw (← q) tt
  where
    nothing : (ps : List Part) → some [] ≡ some ps → [] ≡ ps
    nothing ps e = cc
parts-written (l ∷ ls) ps e =
    let b = both_is (read_part l) (each read_part ls) ps (unfold each in e) in
    rw b.whole (part-again l b.head b.first, parts-written ls b.tail b.rest)

texts : (P : ℕ → Type 0) → ((p : Part) → PartAgain p → All P (part_text p)) → (ps : List Part) → All PartAgain ps → All (All P) (map part_text ps)
texts P f [] h = tt
texts P f (p ∷ ps) h = (f p h.0, texts P f ps h.1)

-- The parts of a rule, written and read again.
pub parts_again : (s : List ℕ) (ps : List Part) → parts_of s ≡ some ps → parts_of (parts_text ps) ≡ some ps
unfolding parts_of parts_text guard when
parts_again s ps e =
    let r = rule-parts s ps e in
    rw (list-again (code ";") read_part part_text (λ t p f d. let a = part-again t p d in (a.read, a.free)) s ps (unfold read_parts in r.0), r.1)

-- the octets of its text
module _ (s : List ℕ) (ps : List Part) (e : parts_of s ≡ some ps) where
  pub text-capital : all capital (parts_text ps) ≡ true
  unfolding parts_text
  text-capital =
      let a = parts-written (split (code ";") s) ps (unfold read_parts in (rule-parts s ps e).0) in
      All-all capital (joined (code ";") (map part_text ps)) (All-joined (λ c. capital c ≡ true) (code ";") (unfold between in refl) (map part_text ps) (texts (λ c. capital c ≡ true) (λ p h. h.capitals) ps a))

  pub text-upper : upper (parts_text ps) ≡ parts_text ps
  text-upper = capital-upper (parts_text ps) text-capital

  pub text-clean : clean (parts_text ps) ≡ true
  text-clean = printable-clean (parts_text ps) (capital-printable (parts_text ps) text-capital)
