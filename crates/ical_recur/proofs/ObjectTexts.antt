-- The text of a recurrence object, piece by piece: a value, the values of an array, a member, the members.
use Prim.Native.Nat.{ℕ, ◌<◌}
use Prim.Native.Char.{code}
use mathlib.Core.Path.{◌≡◌, refl, sym, ap, ◌∙◌}
use mathlib.Core.List.{List, [], ◌∷◌, ◌++◌, append_assoc}
use mathlib.Core.Option.{none}
use Rattle.octets.specs.Optional.{given}
use Rattle.octets.specs.Classes.{upper}
use Rattle.octets.specs.Decimal.{integer_text}
use Rattle.octets.specs.Pieces.{joined}
use Rattle.calendar.specs.Recurrence.{PartSort}
use Rattle.calendar.specs.Walk.{key_place, key_at}
use Rattle.calendar.proofs.RuleParts.{key-known}
use Rattle.json_text.specs.Tree.{Json, num, str, arr, Items, no_items, item, member, string?, number?, array?}
use Rattle.json_text.specs.Tape.{tag_array, tag_end}
use Rattle.tape.specs.Decode.{other_items, paired, tag_at, value_at, items_at, members_at}
use Rattle.tape.specs.Promise.{After, Next}
use Rattle.tape.specs.declared.Text.{Text}
use Rattle.tape.proofs.Values.{no-array, items-first, items-end, items-next, members-end}
use Rattle.tape.proofs.Walks.{array-inside}
use Rattle.tape.proofs.Scans.{part, Keyed, members-on}
use Rattle.values.specs.Recur.{string_text, item_text, item_texts, value_texts, member_text, member_texts}
use Rattle.ical_recur.specs.Wording.{items_text, part_values_text, object_text}

-- a value
pub string-wording : (sort : PartSort) (s : List ℕ) → item_text sort (str s) ≡ string_text sort s
unfolding item_text given string? number?
string-wording sort s = refl

pub number-wording : (sort : PartSort) (s : List ℕ) → item_text sort (num s) ≡ integer_text s
unfolding item_text given string? number?
number-wording sort s = refl

-- pieces with a separator between them
join_more : (sep : ℕ) (l m : List ℕ) (ls : List (List ℕ)) → joined sep (l ∷ m ∷ ls) ≡ l ++ sep ∷ joined sep (m ∷ ls)
unfolding joined
join_more sep l m ls = refl

-- the values of an array
module _ (sort : PartSort) {t : List ℕ} {i e : ℕ} (x : Next t i e) (n : (tag_at t i ≡ tag_end) → ⊥) where
  pub items-last : tag_at t e ≡ tag_end → items_text sort (items_at t i) ≡ item_text sort (value_at t i)
  unfolding item_texts joined
  items-last z = rw (items-next x n, items-end t e z)

  pub items_more : ((tag_at t e ≡ tag_end) → ⊥) → items_text sort (items_at t i) ≡ item_text sort (value_at t i) ++ code "," ∷ items_text sort (items_at t e)
  unfolding item_texts
  items_more m = rw (items-next x n, items-first t e m) (join_more (code ",") _ _ _)

-- what a part has
plain-values : (sort : PartSort) (j : Json) → array? j ≡ none → item_text sort j ≡ part_values_text sort j
unfolding value_texts given joined
plain-values sort j e = rw e

array-values : (sort : PartSort) (js : Items) → part_values_text sort (arr js) ≡ items_text sort js
unfolding value_texts given array?
array-values sort js = refl

module _ (sort : PartSort) (t : List ℕ) (i : ℕ) where
  pub values-plain : ((tag_at t i ≡ tag_array) → ⊥) → item_text sort (value_at t i) ≡ part_values_text sort (value_at t i)
  values-plain n = plain-values sort (value_at t i) (no-array t i n)

  pub values-array : {a : ℕ} → After t i a → tag_at t i ≡ tag_array → items_text sort (items_at t a) ≡ part_values_text sort (value_at t i)
  values-array {a} x q = rw (array-inside x q) (sym (array-values sort (items_at t a)))

-- a member
pub member-keyed : (k : List ℕ) (j : Json) {sort : PartSort} → sort ≡ (key_at (key_place (upper k))).sort → key_place (upper k) < 14 → (upper k ++ code "=" ∷ []) ++ part_values_text sort j ≡ member_text k j
unfolding member_text given
member-keyed k j s h = append_assoc (upper k) (code "=" ∷ []) _ ∙ rw (key-known (upper k) h, s)

-- the members
join-members : (k : List ℕ) (v j : Json) (js : Items) → object_text (member k v (paired (item j js))) ≡ member_text k v ++ code ";" ∷ object_text (paired (item j js))
unfolding member_texts joined paired
join-members k v j no_items = refl
join-members k v j (item a js) = refl

module _ {t : List ℕ} {i e : ℕ} {r : Text} (m : Keyed t i r e) where
  pub members-last : tag_at t e ≡ tag_end → object_text (members_at t i) ≡ member_text (part t r) (value_at t r.next)
  unfolding member_texts joined
  members-last z = rw (members-on m, members-end t e z)

  pub members-more : ((tag_at t e ≡ tag_end) → ⊥) → object_text (members_at t i) ≡ member_text (part t r) (value_at t r.next) ++ code ";" ∷ object_text (members_at t e)
  members-more n =
      let q : members_at t e ≡ paired (item (value_at t e) (other_items (items_at t e))) = unfold members_at in ap paired (items-first t e n) in
      rw (members-on m, q) (join-members (part t r) (value_at t r.next) (value_at t e) (other_items (items_at t e)))

pub members-none : (t : List ℕ) (i : ℕ) → tag_at t i ≡ tag_end → [] ≡ object_text (members_at t i)
unfolding member_texts joined
members-none t i z = rw (members-end t i z)
