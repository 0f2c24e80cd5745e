-- The text of a recurrence object is no longer than the tape.
use Prim.Native.Nat.{ℕ, suc, ◌+◌, ◌≤◌}
use Prim.Native.Char.{code}
use mathlib.Core.Path.{◌≡◌, refl}
use mathlib.Core.Bool.{Bool, true, false, not}
use mathlib.Core.List.{List, [], ◌∷◌}
use mathlib.Core.Option.{Option, none, some}
use native.Mathlib.Omega.{arith}
use lib.Dec.{eqb}
use lib.ListN.{length, drop, length-append, length-drop}
use Rattle.octets.specs.Search.{until}
use Rattle.octets.specs.Optional.{given}
use Rattle.octets.specs.Classes.{upper}
use Rattle.octets.specs.Decimal.{is_sign, minus, unsigned, value_of, trim, minus_if, integer_text}
use Rattle.octets.specs.Pieces.{joined}
use Rattle.octets.proofs.Cases.{cases, same?}
use Rattle.octets.proofs.Classes.{upper-length}
use Rattle.octets.proofs.Decimal.{trim-length}
use Rattle.calendar.specs.Forms.{date_time_form, Slot, digit, sign, letter, added, keeps, basic}
use Rattle.calendar.specs.Dates.{date_time_text, moment_text}
use Rattle.calendar.specs.Recurrence.{PartSort, frequency, moment, count, weekday, ordinal, numbers, Key, key_named}
use Rattle.json_text.specs.Tree.{Json, null, falsity, truth, num, str, arr, obj, Items, no_items, item, no_members, member, string?, number?, array?, octets_of}
use Rattle.json_text.specs.Tape.{tag_false, tag_true, tag_number, tag_string, tag_array, tag_object, tag_end}
use Rattle.tape.specs.Decode.{paired, valued, Groups, last, group, top, pop, push, text_at_front, in_text, groups, view, items_at, members_at}
use Rattle.values.specs.Recur.{string_text, item_text, item_texts, value_texts, member_text, member_texts}
use Rattle.ical_recur.specs.Wording.{items_text, part_values_text, object_text}

-- what a value, and the values of a group, take of a tape at least; an object's members do not count here
abbrev mutual
  size : Json → ℕ
  size null = 1
  size falsity = 1
  size truth = 1
  size (num t) = suc (length t)
  size (str t) = suc (length t)
  size (arr js) = suc (sizes js)
  size (obj ms) = 1

  sizes : Items → ℕ
  sizes no_items = 0
  sizes (item j js) = size j + sizes js

abbrev total : Groups → ℕ
total (last js) = sizes js
total (group js g) = sizes js + total g

total-push : (j : Json) (g : Groups) → total (push j g) ≡ size j + total g
total-push j (last js) = refl
total-push j (group js g) = omega arith

total-pop : (g : Groups) → sizes (top g) + total (pop g) ≤ total g
total-pop (last js) = omega arith
total-pop (group js g) = omega arith

-- the octets of a text that is under way
abbrev ahead : Bool → List ℕ → ℕ
ahead true s = length (text_at_front s)
ahead false s = 0

sized : (s : List ℕ) (m : Bool) → ahead m s + total (groups m s) ≤ length s
unfolding groups text_at_front until in_text
sized [] true = omega arith
sized [] false = omega arith
sized (b ∷ s) true = cases (eqb b tag_end)
    (λ e. rw e (omega (arith, sized s false)))
    (λ e. rw e (omega (arith, sized s true)))
sized (b ∷ s) false =
    same? b tag_end (λ e. rw e (omega (arith, sized s false))) (λ z.
    same? b tag_array (λ e. rw e (omega (arith, sized s false, total-push (arr (top (groups false s))) (pop (groups false s)), total-pop (groups false s)))) (λ a.
    same? b tag_object (λ e. rw e (omega (arith, sized s false, total-push (obj (paired (top (groups false s)))) (pop (groups false s)), total-pop (groups false s)))) (λ o.
    same? b tag_number (λ e. rw e (omega (arith, sized s true, total-push (num (text_at_front s)) (groups true s)))) (λ n.
    same? b tag_string (λ e. rw e (omega (arith, sized s true, total-push (str (text_at_front s)) (groups true s)))) (λ m.
    rw (z, a, o, n, m) (
    cases (eqb b tag_false) (λ e. rw e (omega (arith, sized s false, total-push falsity (groups false s)))) (λ f.
    rw f (cases (eqb b tag_true) (λ e. rw e (omega (arith, sized s false, total-push truth (groups false s)))) (λ u.
    rw u (omega (arith, sized s false, total-push null (groups false s))))))))))))

-- numbers and dates are written no longer
integer-length : (s : List ℕ) → length (integer_text s) ≤ length s
unfolding integer_text minus_if minus unsigned is_sign
integer-length [] = unfold trim in omega arith
integer-length (c ∷ s) = same? c (code "-")
    (λ e. rw e (cases (not (eqb (value_of s) 0)) (λ b. rw b (omega (arith, trim-length s))) (λ b. rw b (omega (arith, trim-length s)))))
    (λ n. rw n (cases (eqb c (code "+")) (λ b. rw b (omega (arith, trim-length s))) (λ b. rw b (omega (arith, trim-length (c ∷ s))))))

kept-length : (f : Slot) (x : ℕ) → length (keeps f x) ≤ 1
unfolding keeps
kept-length digit x = omega arith
kept-length sign x = omega arith
kept-length (letter l) x = omega arith
kept-length (added a) x = omega arith

basic-length : (f : List Slot) (s : List ℕ) → length (basic f s) ≤ length s
unfolding basic
basic-length [] s = omega arith
basic-length (f ∷ fs) [] = omega arith
basic-length (f ∷ fs) (x ∷ s) = rw (length-append (keeps f x) (basic fs s)) (omega (arith, kept-length f x, basic-length fs s))

string-length : (sort : PartSort) (s : List ℕ) → length (string_text sort s) ≤ length s
unfolding string_text moment_text date_time_text
string-length frequency s = omega arith
string-length moment s = omega (arith, basic-length (date_time_form true) (upper s), upper-length s)
string-length count s = omega arith
string-length weekday s = omega arith
string-length ordinal s = omega arith
string-length (numbers signed most lo hi) s = omega arith

-- the texts of a value, of an array and of what a part has
item-length : (sort : PartSort) (j : Json) → suc (length (item_text sort j)) ≤ size j
unfolding item_text given string? number?
item-length sort null = omega arith
item-length sort falsity = omega arith
item-length sort truth = omega arith
item-length sort (num t) = omega (arith, integer-length t)
item-length sort (str t) = omega (arith, string-length sort t)
item-length sort (arr js) = omega arith
item-length sort (obj ms) = omega arith

joined_length : (sep : ℕ) (l : List ℕ) (ls : List (List ℕ)) → length (joined sep (l ∷ ls)) ≤ length l + suc (length (joined sep ls))
unfolding joined
joined_length sep l [] = omega arith
joined_length sep l (m ∷ ls) = omega (arith, length-append l (sep ∷ joined sep (m ∷ ls)))

items-length : (sort : PartSort) (js : Items) → length (items_text sort js) ≤ sizes js
unfolding item_texts
items-length sort no_items = unfold joined in omega arith
items-length sort (item j js) = omega (arith, joined_length (code ",") (item_text sort j) (item_texts sort js), item-length sort j, items-length sort js)

one-length : (l : List ℕ) → length (joined (code ",") (l ∷ [])) ≡ length l
unfolding joined
one-length l = refl

values_length : (sort : PartSort) (j : Json) → suc (length (part_values_text sort j)) ≤ size j
unfolding value_texts given array?
values_length sort null = omega (arith, one-length (item_text sort null), item-length sort null)
values_length sort falsity = omega (arith, one-length (item_text sort falsity), item-length sort falsity)
values_length sort truth = omega (arith, one-length (item_text sort truth), item-length sort truth)
values_length sort (num t) = omega (arith, one-length (item_text sort (num t)), item-length sort (num t))
values_length sort (str t) = omega (arith, one-length (item_text sort (str t)), item-length sort (str t))
values_length sort (arr js) = omega (arith, items-length sort js)
values_length sort (obj ms) = omega (arith, one-length (item_text sort (obj ms)), item-length sort (obj ms))

some_size : (j : Json) → 1 ≤ size j
some_size null = omega arith
some_size falsity = omega arith
some_size truth = omega arith
some_size (num t) = omega arith
some_size (str t) = omega arith
some_size (arr js) = omega arith
some_size (obj ms) = omega arith

key-size : (j : Json) → suc (length (octets_of j)) ≤ size j
unfolding octets_of given string? number?
key-size null = omega arith
key-size falsity = omega arith
key-size truth = omega arith
key-size (num t) = omega arith
key-size (str t) = omega arith
key-size (arr js) = omega arith
key-size (obj ms) = omega arith

-- a member, and the members of a group
keyed-length : (j : Json) (o : Option Key) → suc (length (joined (code ",") (given [] (λ (key : Key). value_texts key.sort j) o))) ≤ size j
unfolding given
keyed-length j none = unfold joined in omega (arith, some_size j)
keyed-length j (some key) = values_length key.sort j

member-length : (k : List ℕ) (j : Json) → length (member_text k j) ≤ length k + size j
unfolding member_text
member-length k j =
    let v = joined (code ",") (given [] (λ (key : Key). value_texts key.sort j) (key_named (upper k))) in
    omega (arith, length-append (upper k) (code "=" ∷ v), upper-length k, keyed-length j (key_named (upper k)))

no_length : length (object_text no_members) ≡ 0
unfolding member_texts joined
no_length = refl

alone-length : (k : List ℕ) (j : Json) → length (object_text (member k j no_members)) ≡ length (member_text k j)
unfolding member_texts joined
alone-length k j = refl

mutual
  unfolding paired member_texts

  members-length : (js : Items) → length (object_text (paired js)) ≤ sizes js
  members-length no_items = omega (arith, no_length)
  members-length (item j js) = omega (arith, valued-length js (octets_of j), key-size j)

  valued-length : (js : Items) (k : List ℕ) → length (object_text (valued js k)) ≤ suc (length k) + sizes js
  valued-length no_items k = omega (arith, alone-length k null, member-length k null)
  valued-length (item j js) k =
      omega (arith, joined_length (code ";") (member_text k j) (member_texts (paired js)), member-length k j, members-length js)

top-size : (g : Groups) → sizes (top g) ≤ total g
top-size g = omega (arith, total-pop g)

pub object-length : (t : List ℕ) (i : ℕ) → length (object_text (members_at t i)) ≤ length t
unfolding members_at items_at view
object-length t i = omega (arith, members-length (top (groups false (drop i t))), top-size (groups false (drop i t)), sized (drop i t) false, length-drop i t)
