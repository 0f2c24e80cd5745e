-- A value as it is written is the value that was read.
use Prim.Native.Nat.{ℕ, ◌+◌, ◌-◌, ◌≤◌, ◌<◌}
use Prim.Native.Char.{code}
use mathlib.Core.Path.{◌≡◌, refl, sym, ap, ◌∙◌}
use mathlib.Core.Bool.{Bool, true, false, not}
use mathlib.Core.List.{List, [], ◌∷◌, ◌++◌, map}
use mathlib.Core.Option.{some}
use native.Mathlib.Omega.{arith}
use borrow.Author.Tests.{ltb-true}
use lib.Dec.{ltb}
use lib.ListN.{length, take, drop}
use lib.Seq.{drop-drop, take-take}
use Rattle.octets.specs.Basics.{◌or◌, single}
use Rattle.octets.specs.Optional.{map?, then?, when, guard, each}
use Rattle.octets.specs.Classes.{upper}
use Rattle.octets.specs.Decimal.{digits, is_sign, has_sign, minus, unsigned, trim, minus_if, integer_text}
use Rattle.octets.specs.Pen.{Pen, Wrote}
use Rattle.octets.specs.Pieces.{split, joined}
use Rattle.octets.proofs.Cases.{cases, both}
use Rattle.octets.proofs.Decimal.{digits-first, digits-all, unsigned-digits, minus-minus_if}
use Rattle.octets.proofs.Pen.{then}
use Rattle.octets.proofs.Pieces.{split-filled}
use Rattle.octets.proofs.Positions.{from, upto}
use Rattle.calendar.specs.Recurrence.{PartSort, frequency, moment, count, weekday, ordinal, numbers, weekdays, word_of, until_of, count_of, number_of, ordinal_of, day_of, item_of, several, Part, part, keyed_part, parts_of, part_text, parts_text}
use Rattle.calendar.specs.Walk.{Places, before_first, key_place, key_at, keyed, part_in, first_part, item_shown, values_shown, part_shown, rule_shown}
use Rattle.octets.proofs.Optional.{when-is, guard-is}
use Rattle.octets.proofs.Classes.{upper-length}
use Rattle.calendar.proofs.Options.{map_is, then_is}
use Rattle.calendar.proofs.Pieces.{before-le, before-take, split-more, split-last, comma-uncased, semicolon-uncased, split-upper, upper-take, upper-drop, scanned}
use Rattle.calendar.proofs.RuleParts.{both_is, within, first_ends, first_piece_lem, first-from, first_to, read_part, read_parts, read-part, found-is, keyed-name, key-name, rule-parts}
use Rattle.calendar.proofs.ItemTests.{digits-raised, digits-upper, sign-raised, unsigned-upper}

-- writing a weekday with its number
pub ordinal-wrote : {p q r : Pen} (s : List ℕ) (at : ℕ) → at ≡ length s - 2
    → Wrote p (integer_text (take (at - 0) (drop 0 s))) q → Wrote q (upper (take (length s - at) (drop at s))) r → Wrote p (item_shown ordinal s) r
unfolding item_shown
ordinal-wrote s at is v w = then (rw (upto s at, is) at v) (rw (from s at, is) at w)

-- a number is the same in uppercase
pub number-raised : (s : List ℕ) → digits (unsigned (upper s)) ≡ true → upper s ≡ s
number-raised s h = by s (sym (digits-upper (unsigned s)) ∙ rw (← (unsigned-upper s)) h)
  where
    by : (s : List ℕ) → digits (unsigned s) ≡ true → upper s ≡ s
    by [] h = unfold upper in refl
    by (c ∷ s) h = cases (is_sign c)
        (λ e. let d : digits s ≡ true = unfold unsigned in (rw e at h) in
        let r = digits-raised s (digits-all s d) in
        unfold upper in (rw (sign-raised c e) (ap (λ (l : List ℕ). c ∷ l) (unfold upper in r))))
        (λ e. let d : digits (c ∷ s) ≡ true = unfold unsigned in (rw e at h) in digits-raised (c ∷ s) (digits-all (c ∷ s) d))

number-shown : (signed : Bool) (most lo hi : ℕ) (s v : List ℕ) → number_of signed most lo hi (upper s) ≡ some v → integer_text s ≡ v
unfolding number_of
number-shown signed most lo hi s v e =
    let w = when-is _ (integer_text (upper s)) v e in
    let t = both (signed or not (has_sign (upper s))) _ w.0 in
    let r = number-raised s (both (digits (unsigned (upper s))) _ t.1).0 in
    ap integer_text (sym r) ∙ w.1

digits-shown : (s : List ℕ) → digits s ≡ true → integer_text s ≡ trim s
unfolding integer_text minus_if
digits-shown s h =
    let f = digits-first s h in
    let m : minus s ≡ false = unfold minus_if in minus-minus_if false s f in
    rw (m, unsigned-digits s f)

count-shown : (s v : List ℕ) → count_of (upper s) ≡ some v → integer_text s ≡ v
unfolding count_of
count-shown s v e =
    let w = when-is _ (trim (upper s)) v e in
    let d : digits s ≡ true = sym (digits-upper s) ∙ (both (digits (upper s)) _ w.0).0 in
    digits-shown s d ∙ ap trim (sym (digits-raised s (digits-all s d))) ∙ w.1

ordinal-shown : (s v : List ℕ) → ordinal_of (upper s) ≡ some v → integer_text s ≡ v
unfolding upper ordinal_of
ordinal-shown [] v e = let q : [] ≡ v = cc in nothing ∙ q
  where
    nothing : integer_text [] ≡ []
    nothing = unfold integer_text minus_if unsigned minus trim in refl
ordinal-shown (c ∷ s) v e = number-shown true 2 1 53 (c ∷ s) v (unfold upper in e)

day-shown : (s v : List ℕ) → day_of (upper s) ≡ some v → integer_text (take (length s - 2) s) ++ upper (drop (length s - 2) s) ≡ v
unfolding day_of word_of
day-shown s v e =
    let k = length s - 2 in
    let u : then? (word_of weekdays (upper (drop k s))) (λ d. map? (λ n. n ++ d) (ordinal_of (upper (take k s)))) ≡ some v
    = rw (upper-drop k s, upper-take k s) (rw (upper-length s) at e) in
    let t = then_is (word_of weekdays (upper (drop k s))) (λ d. map? (λ n. n ++ d) (ordinal_of (upper (take k s)))) v u in
    let m = map_is (λ n. n ++ t.0) (ordinal_of (upper (take k s))) v t.2 in
    ap (λ (l : List ℕ). l ++ upper (drop k s)) (ordinal-shown (take k s) m.0 m.1)
    ∙ ap (λ (l : List ℕ). m.0 ++ l) (when-is _ (upper (drop k s)) t.0 t.1).1 ∙ m.2

kept-shown : (b : Bool) (s v : List ℕ) → when b s ≡ some v → s ≡ v
kept-shown b s v e = (when-is b s v e).1

pub item-shown : (sort : PartSort) (s v : List ℕ) → item_of sort (upper s) ≡ some v → item_shown sort s ≡ v
unfolding item_of item_shown word_of until_of
item-shown frequency s v e = kept-shown _ (upper s) v e
item-shown moment s v e = kept-shown _ (upper s) v e
item-shown count s v e = count-shown s v e
item-shown weekday s v e = kept-shown _ (upper s) v e
item-shown ordinal s v e = day-shown s v e
item-shown (numbers signed most lo hi) s v e = number-shown signed most lo hi s v e

-- Pieces that are written one after another: e is where the first piece ends.
module _ (sep : ℕ) (f : List ℕ → List ℕ) (s : List ℕ) (e : ℕ) (is : e ≡ length (before_first sep s)) where
  first : before_first sep s ≡ take e s
  first = rw is (before-take sep s)

  pub joined-more : e < length s → joined sep (map f (split sep s)) ≡ f (take e s) ++ sep ∷ joined sep (map f (split sep (drop (e + 1) s)))
  joined-more h = rw (split-more sep s (rw (← is) h), ← is, first) (by (split sep (drop (e + 1) s)) (split-filled sep (drop (e + 1) s)))
    where
      by : (ls : List (List ℕ)) → (ls ≡ [] → ⊥) → joined sep (f (take e s) ∷ map f ls) ≡ f (take e s) ++ sep ∷ joined sep (map f ls)
      by [] n = absurd (n refl)
      by (l ∷ ls) n = unfold joined in refl

  pub joined-last : length s ≤ e → joined sep (map f (split sep s)) ≡ f (take e s)
  unfolding joined
  joined-last h = rw (split-last sep s (rw (← is) h), first)

-- a turn of the loops that write a list: the piece at `at` of s, and the pieces behind it
module _ (sep : ℕ) (f : List ℕ → List ℕ) (s : List ℕ) (at e : ℕ) (is : e ≡ length (before_first sep (take (length s - at) (drop at s)))) where
  pub shown-more : e < length (take (length s - at) (drop at s))
      → joined sep (map f (split sep (drop at s))) ≡ f (take e (take (length s - at) (drop at s))) ++ sep ∷ joined sep (map f (split sep (drop (at + e + 1) s)))
  shown-more h =
      let n : at + (e + 1) ≡ at + e + 1 = omega arith in
      rw (from s at, ← n, ← (drop-drop (e + 1) at s)) (joined-more sep f (drop at s) e (scanned sep s at e is) (rw (from s at) at h))

  pub shown-last : length (take (length s - at) (drop at s)) ≤ e → joined sep (map f (split sep (drop at s))) ≡ f (take e (take (length s - at) (drop at s)))
  shown-last h = rw (from s at) (joined-last sep f (drop at s) e (scanned sep s at e is) (rw (from s at) at h))

-- the part that a text begins with, as it is written
part-name : (p : List ℕ) → (part_in p).name ≤ length p
unfolding part_in keyed
part-name p = cases (ltb (length (before_first (code "=") p)) (length p)) (λ e. rw e (before-le (code "=") p)) (λ e. rw e (before-le (code "=") p))

pub first-named : (s : List ℕ) → (first_part s).name ≤ (first_part s).to
first-named s = rw (first_ends s) (unfold first_part in part-name (before_first (code ";") s))

same_text : (s : List ℕ) (q : Places) → q.name ≤ q.to → part_shown q s ≡ part_shown q (take q.to s)
unfolding part_shown
same_text s q h = rw (take-take q.name q.to s h, within q.from q.to s)

pub first-shown : (s : List ℕ) → part_shown (first_part s) s ≡ part_shown (part_in (take (first_part s).to s)) (take (first_part s).to s)
first-shown s = same_text s (first_part s) (first-named s) ∙ ap (λ (r : Places). part_shown r (take (first_part s).to s)) at_piece
  where
    at_piece : first_part s ≡ part_in (take (first_part s).to s)
    at_piece = plain ∙ ap part_in (first_piece_lem s)
      where
        plain : first_part s ≡ part_in (before_first (code ";") s)
        plain = unfold first_part in refl

-- What is written of a rule is the text of its parts.
items_shown_lem : (sort : PartSort) (ls vs : List (List ℕ)) → each (item_of sort) (map upper ls) ≡ some vs → map (item_shown sort) ls ≡ vs
items_shown_lem sort [] vs e = nothing (unfold each in e)
  where
    nothing : some [] ≡ some vs → [] ≡ vs
    nothing e = cc
items_shown_lem sort (l ∷ ls) vs e =
    let b = both_is (item_of sort (upper l)) (each (item_of sort) (map upper ls)) vs (unfold each in e) in
    ap (λ (v : List ℕ). v ∷ map (item_shown sort) ls) (item-shown sort l b.head b.first)
    ∙ ap (λ (r : List (List ℕ)). b.head ∷ r) (items_shown_lem sort ls b.tail b.rest) ∙ sym b.whole

pub values-shown : (sort : PartSort) (v : List ℕ) (vs : List (List ℕ)) → each (item_of sort) (split (code ",") (upper v)) ≡ some vs → values_shown sort v ≡ joined (code ",") vs
unfolding values_shown
values-shown sort v vs e = ap (joined (code ",")) (items_shown_lem sort (split (code ",") v) vs (rw (split-upper (code ",") comma-uncased v) at e))

part-shown : (p : List ℕ) (r : Part) → read_part (upper p) ≡ some r → part_shown (part_in p) p ≡ part_text r
unfolding part_shown part_text keyed_part
part-shown p r e =
    let q = part_in p in
    let k = key_at q.key in
    let v = take (q.to - q.from) (drop q.from p) in
    let f = found-is (ltb q.key 14) (keyed_part (upper v) k) r (sym (read-part p) ∙ e) in
    let h = ltb-true q.key 14 f.0 in
    let m = map_is (part k) (guard (λ vs. several k.sort or single vs) (each (item_of k.sort) (split (code ",") (upper v)))) r f.1 in
    let g = guard-is (λ vs. several k.sort or single vs) (each (item_of k.sort) (split (code ",") (upper v))) m.0 m.1 in
    let i : q.key ≡ key_place (upper (take q.name p)) = (keyed-name p h).1 in
    let n : k.name ≡ upper (take q.name p) = ap (λ (j : ℕ). (key_at j).name) i ∙ key-name (upper (take q.name p)) (rw (← i) h) in
    ap (λ (t : List ℕ). upper (take q.name p) ++ code "=" ∷ t) (values-shown k.sort v m.0 g.0)
    ∙ ap (λ (t : List ℕ). t ++ code "=" ∷ joined (code ",") m.0) (sym n)
    ∙ ap (λ (t : Part). t.name ++ code "=" ∷ joined (code ",") t.values) m.2

parts-shown : (ls : List (List ℕ)) (ps : List Part) → each read_part (map upper ls) ≡ some ps → map (λ p. part_shown (part_in p) p) ls ≡ map part_text ps
parts-shown [] ps e = ap (map part_text) (nothing (unfold each in e))
  where
    nothing : some [] ≡ some ps → [] ≡ ps
    nothing e = cc
parts-shown (l ∷ ls) ps e =
    let b = both_is (read_part (upper l)) (each read_part (map upper ls)) ps (unfold each in e) in
    ap (λ (t : List ℕ). t ∷ map (λ p. part_shown (part_in p) p) ls) (part-shown l b.head b.first)
    ∙ ap (λ (r : List (List ℕ)). part_text b.head ∷ r) (parts-shown ls b.tail b.rest) ∙ ap (map part_text) (sym b.whole)

pub rule-shown : (s : List ℕ) (ps : List Part) → parts_of (upper s) ≡ some ps → rule_shown s ≡ parts_text ps
unfolding rule_shown parts_text
rule-shown s ps e =
    let r : each read_part (split (code ";") (upper s)) ≡ some ps = unfold read_parts in (rule-parts (upper s) ps e).0 in
    ap (joined (code ";")) (parts-shown (split (code ";") s) ps (rw (split-upper (code ";") semicolon-uncased s) at r))

-- where the part that a text begins with stands
pub part-places : (r : List ℕ) (q : Places) → q ≡ first_part r → (q.name ≤ length r) × (q.from ≤ q.to) × (q.to ≤ length r)
part-places r q is = rw is (omega (arith, first-named r, first_to r), first-from r, first_to r)

-- a turn of the loop that writes a rule
module _ (s : List ℕ) (at : ℕ) (q : Places) (is : q ≡ first_part (take (length s - at) (drop at s))) where
  stops : q.to ≡ length (before_first (code ";") (take (length s - at) (drop at s)))
  stops = rw is (first_ends (take (length s - at) (drop at s)))

  shown : part_shown (part_in (take q.to (take (length s - at) (drop at s)))) (take q.to (take (length s - at) (drop at s))) ≡ part_shown q (take (length s - at) (drop at s))
  shown = rw is (sym (first-shown (take (length s - at) (drop at s))))

  pub rule-more : q.to < length (take (length s - at) (drop at s)) → rule_shown (drop at s) ≡ part_shown q (take (length s - at) (drop at s)) ++ code ";" ∷ rule_shown (drop (at + q.to + 1) s)
  unfolding rule_shown
  rule-more h = shown-more (code ";") (λ p. part_shown (part_in p) p) s at q.to stops h ∙ ap (λ (t : List ℕ). t ++ code ";" ∷ rule_shown (drop (at + q.to + 1) s)) shown

  pub rule-last : length (take (length s - at) (drop at s)) ≤ q.to → rule_shown (drop at s) ≡ part_shown q (take (length s - at) (drop at s))
  unfolding rule_shown
  rule-last h = shown-last (code ";") (λ p. part_shown (part_in p) p) s at q.to stops h ∙ shown
