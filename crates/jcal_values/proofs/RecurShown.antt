-- A recurrence rule that is read is written as its object.
use Prim.Native.Nat.{ℕ, zero, suc, ◌-◌}
use Prim.Native.Char.{code}
use mathlib.Core.Path.{◌≡◌, refl, sym, ap, ◌∙◌}
use mathlib.Core.Bool.{Bool, true}
use mathlib.Core.List.{List, [], ◌∷◌, ◌++◌, map, append_assoc}
use mathlib.Core.Option.{Option, some}
use native.Mathlib.Omega.{arith}
use borrow.Author.Tests.{ltb-true, ltb-false}
use lib.Dec.{ltb}
use lib.ListN.{length, get_or, take, drop}
use Rattle.octets.specs.Basics.{octets, all, All}
use Rattle.octets.specs.Pieces.{split, joined}
use Rattle.octets.specs.Optional.{both?, is_some, given, each}
use Rattle.octets.specs.Groups.{as_is_octet}
use Rattle.octets.specs.Classes.{between, is_upper, is_digit, lower_octet, upper, lower}
use Rattle.octets.specs.Decimal.{is_sign}
use Rattle.octets.proofs.Cases.{cases, both, all_weaker}
use Rattle.octets.proofs.Classes.{lower-upper}
use Rattle.octets.proofs.Optional.{when-is, map_is, each_none, each-is}
use Rattle.octets.proofs.Pieces.{Free, split-free, split-filled, split-last as split-alone}
use Rattle.calendar.specs.Dates.{moment_of}
use Rattle.calendar.specs.Recurrence.{PartSort, frequency, moment, count, weekday, ordinal, numbers, Key, key, keys, until_of, item_of, Part, parts_of}
use Rattle.calendar.specs.Walk.{before_first, key_at, first_part, item_shown}
use Rattle.calendar.proofs.WrittenRules.{value-octets}
use Rattle.calendar.proofs.Octets.{item_octet}
use Rattle.calendar.proofs.Pieces.{before-all, split-more, split-last, comma-uncased, semicolon-uncased, split-upper}
use Rattle.calendar.proofs.WrittenItems.{item-shown}
use Rattle.calendar.proofs.RuleParts.{read_part, read_parts, rule-parts, walked}
use Rattle.json_text.specs.Tree.{Json, arr, obj, items_of}
use Rattle.json_text.specs.Print.{print_string, print_key, print, first_member, more_members}
use Rattle.content.specs.Parameters.{plain_or}
use Rattle.values.specs.Recur.{item_json, part_members, recur_of}
use Rattle.values.specs.Shown.{string_shown, item_json_shown, list_shown, items_shown, key_shown, part_json_shown, recur_shown}
use Rattle.jcal_values.proofs.Quoting.{quoted-bare, bare-class, end-moment}
use Rattle.jcal_values.proofs.PiecesShown.{listed-json, array-json}

-- a value of a part
item-bare : (c : ℕ) → item_octet c ≡ true → as_is_octet c ≡ true
unfolding item_octet is_upper is_digit is_sign between
item-bare = bare-class item_octet refl refl refl refl

word-json : (k : PartSort) (s x : List ℕ) → item_of k (upper s) ≡ some x → code "\"" ∷ (item_shown k s ++ code "\"" ∷ []) ≡ print_string x
unfolding print_string
word-json k s x h = rw (item-shown k s x h, quoted-bare x (all_weaker item_octet as_is_octet item-bare x (value-octets k (upper s) x h)))

moment-json : (s x : List ℕ) → until_of (upper s) ≡ some x → string_shown (moment_of (upper s)) ≡ print_string (given x (λ t. t) (moment_of x))
unfolding until_of
moment-json s x h = let w = when-is (is_some (moment_of (upper s))) (upper s) x h in rw (← w.1) (end-moment (upper s) (moment_of (upper s)) w.0)

item-json : (k : PartSort) (s x : List ℕ) → item_of k (upper s) ≡ some x → item_json_shown k s ≡ print (item_json k x)
unfolding item_json_shown item_json print
item-json frequency s x h = word-json frequency s x h
item-json moment s x h = moment-json s x (unfold item_of in h)
item-json count s x h = item-shown count s x h
item-json weekday s x h = word-json weekday s x h
item-json ordinal s x h = word-json ordinal s x h
item-json (numbers signed most lo hi) s x h = item-shown (numbers signed most lo hi) s x h

-- the values of a part: one plain, several an array
each-upper : (f : List ℕ → Option (List ℕ)) (ls : List (List ℕ)) → each f (map upper ls) ≡ each (λ l. f (upper l)) ls
unfolding each
each-upper f [] = refl
each-upper f (l ∷ ls) = rw (each-upper f ls)

module _ (k : PartSort) where
  abbrev R : List ℕ → Option (List ℕ)
  R l = item_of k (upper l)

  several : (l m : List ℕ) (ls : List (List ℕ)) (vs : List (List ℕ)) → each R (l ∷ m ∷ ls) ≡ some vs → plain_or (map (item_json k) vs) ≡ arr (items_of (map (item_json k) vs))
  unfolding plain_or
  several l m ls vs h = each-is R l (m ∷ ls) vs h (λ c cs a b q. each-is R m ls cs b (λ d ds e f g. rw (← q, ← g)))

  some-values : (l : List ℕ) (ls : List (List ℕ)) (vs : List (List ℕ)) → each R (l ∷ ls) ≡ some vs → map (item_json k) vs ≡ [] → ⊥
  some-values l ls vs h e = each-is R l ls vs h (λ c cs a b q. let z : ◌≡◌ {A = ℕ} 0 1 = cc (rw (← q) at e) in omega arith)

  array : (l : List ℕ) (ls : List (List ℕ)) → (ls ≡ [] → ⊥) → (vs : List (List ℕ)) → each R (l ∷ ls) ≡ some vs
      → code "[" ∷ (joined (code ",") (map (item_json_shown k) (l ∷ ls)) ++ code "]" ∷ []) ≡ print (plain_or (map (item_json k) vs))
  array l [] n vs h = absurd (n refl)
  array l (m ∷ ls) n vs h =
      rw (several l m ls vs h) (array-json (map (item_json k) vs) _ (some-values l (m ∷ ls) vs h) (listed-json R (item_json_shown k) (item_json k) (λ s x e. item-json k s x e) l (m ∷ ls) vs h))

  plain : (v : List ℕ) (vs : List (List ℕ)) → each R (v ∷ []) ≡ some vs → item_json_shown k v ≡ print (plain_or (map (item_json k) vs))
  plain v vs h = each-is R v [] vs h (λ c cs a b q. rw (← q, each_none R cs b) (unfold plain_or in item-json k v c a))

  values-json : (v : List ℕ) (vs : List (List ℕ)) → each (item_of k) (split (code ",") (upper v)) ≡ some vs → items_shown k v ≡ print (plain_or (map (item_json k) vs))
  unfolding items_shown list_shown
  values-json v vs h =
      let g : each R (split (code ",") v) ≡ some vs = sym (ap (each (item_of k)) (split-upper (code ",") comma-uncased v) ∙ each-upper (item_of k) (split (code ",") v)) ∙ h in
      cases (ltb (length (before_first (code ",") v)) (length v))
      (λ t. let m = split-more (code ",") v (ltb-true _ (length v) t) in rw (t, m) (array (before_first (code ",") v) _ (split-filled (code ",") _) vs (rw m at g)))
      (λ t. let l = ltb-false (length (before_first (code ",") v)) (length v) t in
      let m : split (code ",") v ≡ v ∷ [] = split-last (code ",") v l ∙ ap (λ (x : List ℕ). x ∷ []) (before-all (code ",") v l) in
      rw t (plain v vs (rw m at g)))

-- a key
all-at : (p : Key → Bool) (ks : List Key) (d : Key) → all p ks ≡ true → p d ≡ true → (i : ℕ) → p (get_or ks i d) ≡ true
unfolding all
all-at p [] d h e i = e
all-at p (k ∷ ks) d h e zero = (both (p k) (all p ks) h).0
all-at p (k ∷ ks) d h e (suc i) = all-at p ks d (both (p k) (all p ks) h).1 e i

key-bare : (i : ℕ) → all as_is_octet (lower (key_at i).name) ≡ true
unfolding key_at keys all as_is_octet lower lower_octet is_upper between
key-bare i = all-at (λ (k : Key). all as_is_octet (lower k.name)) keys (key [] frequency) refl refl i

key-json : (n k : List ℕ) → lower n ≡ k → all as_is_octet k ≡ true → key_shown n ≡ print_key k
unfolding key_shown print_key print_string
key-json n k e h = rw (e, quoted-bare k h) (ap (λ (l : List ℕ). code "\"" ∷ l) (sym (append_assoc k (code "\"" ∷ []) (octets ":"))))

-- a part
piece-read : (p : List ℕ) (q : Part) → Free (code ";") p → read_part (upper p) ≡ some q → read_parts (upper p) ≡ some (q ∷ [])
unfolding read_parts each both?
piece-read p q f h = rw (split-upper (code ";") semicolon-uncased p, split-alone (code ";") p f, h)

part-json : (p : List ℕ) (q : Part) → Free (code ";") p → read_part (upper p) ≡ some q
    → part_json_shown p ≡ print_key (lower q.name) ++ print (plain_or (map (item_json q.sort) q.values))
unfolding part_json_shown
part-json p q f h =
    let w = walked p (q ∷ []) (piece-read p q f h) in
    let e : w.this ≡ q = cc w.whole in
    let v = take ((first_part p).to - (first_part p).from) (drop (first_part p).from p) in
    let n : lower (take (first_part p).name p) ≡ lower w.this.name = sym (lower-upper (take (first_part p).name p)) ∙ ap lower w.written in
    let b : all as_is_octet (lower w.this.name) ≡ true = ap (λ (l : List ℕ). all as_is_octet (lower l)) w.name ∙ key-bare (first_part p).key in
    rw (← e, ← w.sort, key-json _ _ n b, values-json w.this.sort v w.this.values w.values)

-- the parts
part-first : (l : List ℕ) (c : Part) (rest : List ℕ) → part_json_shown l ≡ print_key (lower c.name) ++ print (plain_or (map (item_json c.sort) c.values))
    → part_json_shown l ++ rest ≡ print_key (lower c.name) ++ (print (plain_or (map (item_json c.sort) c.values)) ++ rest)
part-first l c rest e = rw e (append_assoc (print_key (lower c.name)) (print (plain_or (map (item_json c.sort) c.values))) rest)

parts-json : (l : List ℕ) (ls : List (List ℕ)) (ps : List Part) → All (Free (code ";")) (l ∷ ls) → each read_part (map upper (l ∷ ls)) ≡ some ps
    → joined (code ",") (map part_json_shown (l ∷ ls)) ++ octets "}" ≡ first_member (part_members ps)
unfolding joined part_members first_member more_members
parts-json l [] ps f h = each-is read_part (upper l) [] ps h (λ c cs a b q. rw (← q, each_none read_part cs b) (part-first l c (octets "}") (part-json l c f.0 a)))
parts-json l (m ∷ ls) ps f h = each-is read_part (upper l) (map upper (m ∷ ls)) ps h (λ c cs a b q. rw (← q)
    (append_assoc (part_json_shown l) (code "," ∷ joined (code ",") (map part_json_shown (m ∷ ls))) (octets "}")
    ∙ part-first l c _ (part-json l c f.0 a)
    ∙ ap (λ (x : List ℕ). print_key (lower c.name) ++ (print (plain_or (map (item_json c.sort) c.values)) ++ x)) (others cs (parts-json m ls cs f.1 b) b)))
  where
    others : (cs : List Part) → joined (code ",") (map part_json_shown (m ∷ ls)) ++ octets "}" ≡ first_member (part_members cs) → each read_part (map upper (m ∷ ls)) ≡ some cs
        → code "," ∷ (joined (code ",") (map part_json_shown (m ∷ ls)) ++ octets "}") ≡ more_members (part_members cs)
    others [] e b = each-is read_part (upper m) (map upper ls) [] b (λ d ds x y q. let z : ◌≡◌ {A = ℕ} 0 1 = cc in absurd (omega arith))
    others (d ∷ ds) e b = ap (λ (x : List ℕ). code "," ∷ x) e

pieces-json : (ls : List (List ℕ)) (ps : List Part) → (ls ≡ [] → ⊥) → All (Free (code ";")) ls → each read_part (map upper ls) ≡ some ps
    → joined (code ",") (map part_json_shown ls) ++ octets "}" ≡ first_member (part_members ps)
pieces-json [] ps n f h = absurd (n refl)
pieces-json (l ∷ ls) ps n f h = parts-json l ls ps f h

-- the object of a rule
rule-read : (s : List ℕ) (ps : List Part) → parts_of (upper s) ≡ some ps → each read_part (map upper (split (code ";") s)) ≡ some ps
unfolding read_parts
rule-read s ps q = ap (each read_part) (sym (split-upper (code ";") semicolon-uncased s)) ∙ (rule-parts (upper s) ps q).0

rule-json : (s : List ℕ) (ps : List Part) → each read_part (map upper (split (code ";") s)) ≡ some ps → recur_shown s ≡ print (obj (part_members ps))
unfolding recur_shown list_shown print
rule-json s ps r = ap (λ (l : List ℕ). code "{" ∷ l) (pieces-json (split (code ";") s) ps (split-filled (code ";") s) (split-free (code ";") s) r)

pub recur-shown : (s : List ℕ) (j : Json) → recur_of (upper s) ≡ some j → recur_shown s ≡ print j
unfolding recur_of
recur-shown s j h = map_is (λ ps. obj (part_members ps)) (parts_of (upper s)) j h (λ ps q p. rule-json s ps (rule-read s ps q) ∙ ap print p)
