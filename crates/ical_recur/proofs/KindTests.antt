-- The tests of a recurrence object, by what stands on the tape.
use Prim.Native.Nat.{ℕ, ◌+◌, ◌≤◌, ◌<◌}
use mathlib.Core.Path.{◌≡◌, refl, sym, ap, ◌∙◌}
use mathlib.Core.Bool.{Bool, true, false}
use mathlib.Core.List.{List, [], ◌∷◌}
use mathlib.Core.Option.{none}
use Rattle.std.specs.List.{list_all}
use Rattle.octets.specs.Basics.{◌and◌, all}
use Rattle.octets.specs.Optional.{holds, given}
use Rattle.octets.specs.Classes.{is_lower_name, upper}
use Rattle.octets.proofs.Cases.{cases, and_assoc, never}
use Rattle.calendar.specs.Recurrence.{PartSort, frequency, moment, count, weekday, ordinal, numbers, several}
use Rattle.calendar.specs.Walk.{key_place, key_at}
use Rattle.calendar.proofs.RuleParts.{key-known, key-unknown}
use Rattle.json_text.specs.Tree.{Json, num, str, arr, Items, item, Members, member, string?, number?, array?}
use Rattle.json_text.specs.Tape.{tag_number, tag_string, tag_array, tag_end}
use Rattle.tape.specs.Decode.{tag_at, value_at, items_at, members_at}
use Rattle.tape.specs.Promise.{After, Next, TextAt}
use Rattle.tape.specs.declared.Text.{Text}
use Rattle.tape.proofs.Values.{array-is, string-is, number_is, string-text, number-text, no-string, no_number, no-array, items-first, items-end, items-next, members-end, members-first}
use Rattle.tape.proofs.Walks.{array-inside}
use Rattle.tape.proofs.Scans.{part, Keyed, members-on}
use Rattle.values.specs.Recur.{is_word, is_integer, is_until, all_items, some_items, one_or_more, kind_is, kinds_are}
use Rattle.ical_recur.specs.Kinds.{item_is, member_is}

-- a test of each octet, as a chain of iterators makes it
pub of_each : (p : ℕ → Bool) (s : List ℕ) → list_all p s ≡ all p s
unfolding all
of_each p [] = refl
of_each p (x ∷ s) = cases (p x) (λ e. rw e (of_each p s)) (λ e. rw e)

-- a string and a number, whose octets were found
module _ {t : List ℕ} {i : ℕ} {r : Text} (x : TextAt t i r) where
  pub string-value : tag_at t i ≡ tag_string → value_at t i ≡ str (part t r)
  string-value e = string-is t i e ∙ ap str (sym (string-text t i e) ∙ sym x.part)

  pub number-value : tag_at t i ≡ tag_number → value_at t i ≡ num (part t r)
  number-value e = number_is t i e ∙ ap num (sym (number-text t i e) ∙ sym x.part)

-- what is neither is no value of a part
item-none : (sort : PartSort) (j : Json) → string? j ≡ none → number? j ≡ none → item_is sort j ≡ false
unfolding item_is is_word is_until is_integer holds
item-none frequency j s n = rw s
item-none moment j s n = rw s
item-none count j s n = rw n
item-none weekday j s n = rw s
item-none ordinal j s n = rw s
item-none (numbers signed most lo hi) j s n = rw n

pub no_item : (sort : PartSort) (t : List ℕ) (i : ℕ) → ((tag_at t i ≡ tag_string) → ⊥) → ((tag_at t i ≡ tag_number) → ⊥) → item_is sort (value_at t i) ≡ false
no_item sort t i s n = item-none sort (value_at t i) (no-string t i s) (no_number t i n)

-- the values of an array
module _ (p : Json → Bool) (t : List ℕ) (i : ℕ) where
  pub all_end : tag_at t i ≡ tag_end → all_items p (items_at t i) ≡ true
  unfolding all_items
  all_end e = rw (items-end t i e)

  module _ {e : ℕ} (x : Next t i e) (n : (tag_at t i ≡ tag_end) → ⊥) where
    pub all-on : p (value_at t i) ≡ true → all_items p (items_at t i) ≡ all_items p (items_at t e)
    unfolding all_items
    all-on h = rw (items-next x n, h)

  pub all-stop : ((tag_at t i ≡ tag_end) → ⊥) → p (value_at t i) ≡ false → all_items p (items_at t i) ≡ false
  unfolding all_items
  all-stop n h = rw (items-first t i n, h)

-- one or more of them
some-filled : (p : Json → Bool) (j : Json) (js : Items) → some_items p (item j js) ≡ all_items p (item j js)
unfolding some_items all_items
some-filled p j js = refl

module _ (p : Json → Bool) (t : List ℕ) (i : ℕ) where
  pub some_end : tag_at t i ≡ tag_end → some_items p (items_at t i) ≡ false
  unfolding some_items
  some_end e = rw (items-end t i e)

  pub some-all : ((tag_at t i ≡ tag_end) → ⊥) → all_items p (items_at t i) ≡ some_items p (items_at t i)
  some-all n = rw (items-first t i n) (sym (some-filled p _ _))

-- what a part has
kind-plain : (sort : PartSort) (j : Json) → array? j ≡ none → item_is sort j ≡ kind_is sort j
unfolding kind_is item_is one_or_more given
kind-plain frequency j e = refl
kind-plain moment j e = refl
kind-plain count j e = refl
kind-plain weekday j e = refl
kind-plain ordinal j e = rw e
kind-plain (numbers signed most lo hi) j e = rw e

kind-one : (sort : PartSort) (js : Items) → several sort ≡ false → kind_is sort (arr js) ≡ false
unfolding several kind_is is_word is_until is_integer holds string? number?
kind-one frequency js h = refl
kind-one moment js h = refl
kind-one count js h = refl
kind-one weekday js h = refl
kind-one ordinal js h = never refl h
kind-one (numbers signed most lo hi) js h = never refl h

kind-many : (sort : PartSort) (js : Items) → several sort ≡ true → kind_is sort (arr js) ≡ some_items (item_is sort) js
unfolding several kind_is one_or_more given array? item_is
kind-many frequency js h = never h refl
kind-many moment js h = never h refl
kind-many count js h = never h refl
kind-many weekday js h = never h refl
kind-many ordinal js h = refl
kind-many (numbers signed most lo hi) js h = refl

module _ (sort : PartSort) (t : List ℕ) (i : ℕ) where
  pub plain-kind : ((tag_at t i ≡ tag_array) → ⊥) → item_is sort (value_at t i) ≡ kind_is sort (value_at t i)
  plain-kind n = kind-plain sort (value_at t i) (no-array t i n)

  pub one-kind : tag_at t i ≡ tag_array → several sort ≡ false → kind_is sort (value_at t i) ≡ false
  one-kind q h = rw (array-is t i q) (kind-one sort (items_at t (i + 1)) h)

  pub many-kind : {a : ℕ} → After t i a → tag_at t i ≡ tag_array → several sort ≡ true → some_items (item_is sort) (items_at t a) ≡ kind_is sort (value_at t i)
  many-kind {a} x q h = rw (array-inside x q) (sym (kind-many sort (items_at t a) h))

-- a member, by the place of its name among the keys
module _ (k : List ℕ) (j : Json) where
  pub member-case : is_lower_name k ≡ false → member_is k j ≡ false
  unfolding member_is
  member-case e = rw e

  pub member-unknown : 14 ≤ key_place (upper k) → is_lower_name k ≡ true → member_is k j ≡ false
  unfolding member_is holds
  member-unknown h e = rw (e, key-unknown (upper k) h)

  pub member-known : {sort : PartSort} → sort ≡ (key_at (key_place (upper k))).sort → key_place (upper k) < 14 → is_lower_name k ≡ true → kind_is sort j ≡ member_is k j
  unfolding member_is holds
  member-known s h e = rw (e, key-known (upper k) h, s)

-- the members of the object
kinds-front : (k : List ℕ) (j : Json) (ms : Members) → kinds_are (member k j ms) ≡ (member_is k j and kinds_are ms)
unfolding kinds_are member_is
kinds-front k j ms = sym (and_assoc (is_lower_name k) _ (kinds_are ms))

pub member-stops : {t : List ℕ} {i : ℕ} {r : Text} → ((tag_at t i ≡ tag_end) → ⊥) → TextAt t i r → member_is (part t r) (value_at t r.next) ≡ false → kinds_are (members_at t i) ≡ false
member-stops n x h = rw (members-first n x.behind, ← x.part) (kinds-front _ _ _ ∙ rw h)

pub member-stands : {t : List ℕ} {i e : ℕ} {r : Text} → Keyed t i r e → member_is (part t r) (value_at t r.next) ≡ true → kinds_are (members_at t i) ≡ kinds_are (members_at t e)
member-stands m h = rw (members-on m) (kinds-front _ _ _ ∙ rw h)

pub kinds-end : (t : List ℕ) (i : ℕ) → tag_at t i ≡ tag_end → kinds_are (members_at t i) ≡ true
unfolding kinds_are
kinds-end t i z = rw (members-end t i z)
