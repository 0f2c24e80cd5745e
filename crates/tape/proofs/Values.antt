-- The value at a place, by its tag, and the values and members from a place on.
use Prim.Native.Nat.{ℕ, suc, ◌+◌}
use mathlib.Core.Path.{◌≡◌, refl, sym, ap, ◌∙◌}
use mathlib.Core.Bool.{true, false}
use mathlib.Core.Logic.{◌⊎◌, inl, inr, ⊎_elim}
use mathlib.Core.List.{List, [], ◌∷◌}
use mathlib.Core.Option.{none, some}
use native.Mathlib.Omega.{arith}
use borrow.Author.Tests.{ne_eqb}
use lib.Dec.{eqb}
use lib.ListN.{drop, get_or}
use lib.Seq.{drop-nil}
use Rattle.octets.specs.Optional.{given}
use Rattle.octets.proofs.Cases.{same?}
use Rattle.json_text.specs.Tree.{Json, null, falsity, truth, num, str, arr, obj, Items, no_items, item, no_members, member, string?, number?, boolean?, array?, object?, list_of_items, octets_of, elements, members}
use Rattle.json_text.specs.Tape.{tag_null, tag_false, tag_true, tag_number, tag_string, tag_array, tag_object, tag_end}
use Rattle.tape.specs.Decode.{Groups, last, group, head_item, other_items, paired, valued, top, pop, push, skip_value, leaf, into_groups, view, tag_at, text_at, value_at, items_at, list_at, members_at}
use Rattle.tape.specs.Promise.{Next}
use Rattle.tape.proofs.Tags.{on-or-past, on-tape, past-view, on-view, Shows, at-array, at-object, at-number, at-string, at_other, end-top}

-- groups with a value in front
module _ (j : Json) where
  pub skip-push : (s : Groups) → skip_value (push j s) ≡ s
  skip-push (last js) = refl
  skip-push (group js s) = refl

  pub pop-push : (s : Groups) → pop (push j s) ≡ pop s
  pop-push (last js) = refl
  pop-push (group js s) = refl

  pub top-push : (s : Groups) → top (push j s) ≡ item j (top s)
  top-push (last js) = refl
  top-push (group js s) = refl

pub top-skip : (s : Groups) → top (skip_value s) ≡ other_items (top s)
top-skip (last js) = refl
top-skip (group js s) = refl

pub pop-skip : (s : Groups) → pop (skip_value s) ≡ pop s
pop-skip (last js) = refl
pop-skip (group js s) = refl

-- what the value is
pub shown : {t : List ℕ} {i : ℕ} {j : Json} {s : Groups} → Shows t i j s → value_at t i ≡ j
unfolding value_at
shown {j = j} {s = s} h = rw (h.is, top-push j s)

module _ (t : List ℕ) (i : ℕ) where
  pub array-is : tag_at t i ≡ tag_array → value_at t i ≡ arr (items_at t (i + 1))
  array-is e = shown (at-array t i e)

  pub object-is : tag_at t i ≡ tag_object → value_at t i ≡ obj (members_at t (i + 1))
  object-is e = shown (at-object t i e)

  pub number_is : tag_at t i ≡ tag_number → value_at t i ≡ num (text_at t (i + 1))
  number_is e = shown (at-number t i e)

  pub string-is : tag_at t i ≡ tag_string → value_at t i ≡ str (text_at t (i + 1))
  string-is e = shown (at-string t i e)

  leaf-is : {b : ℕ} → tag_at t i ≡ b → ((b ≡ tag_end) → ⊥) → ((b ≡ tag_array) → ⊥) → ((b ≡ tag_object) → ⊥) → ((b ≡ tag_number) → ⊥) → ((b ≡ tag_string) → ⊥) → value_at t i ≡ leaf b (drop (i + 1) t)
  leaf-is e n a o m s = rw (← e) (shown (at_other t i (rw e n) (rw e a) (rw e o) (rw e m) (rw e s)))

  pub false-is : tag_at t i ≡ tag_false → value_at t i ≡ falsity
  false-is e = leaf-is e (λ x. omega arith) (λ x. omega arith) (λ x. omega arith) (λ x. omega arith) (λ x. omega arith)

  pub true-is : tag_at t i ≡ tag_true → value_at t i ≡ truth
  true-is e = leaf-is e (λ x. omega arith) (λ x. omega arith) (λ x. omega arith) (λ x. omega arith) (λ x. omega arith)

-- the octets of a number or a string, and what it holds by them
pub string-octets : (s : List ℕ) → octets_of (str s) ≡ s
unfolding octets_of given string? number?
string-octets s = refl

pub number-octets : (s : List ℕ) → octets_of (num s) ≡ s
unfolding octets_of given string? number?
number-octets s = refl

module _ (t : List ℕ) (i : ℕ) where
  pub string-text : tag_at t i ≡ tag_string → octets_of (value_at t i) ≡ text_at t (i + 1)
  string-text e = ap octets_of (string-is t i e) ∙ string-octets _

  pub number-text : tag_at t i ≡ tag_number → octets_of (value_at t i) ≡ text_at t (i + 1)
  number-text e = ap octets_of (number_is t i e) ∙ number-octets _

  pub string-some : tag_at t i ≡ tag_string → string? (value_at t i) ≡ some (octets_of (value_at t i))
  unfolding string?
  string-some e = ap string? (string-is t i e) ∙ ap some (sym (string-text e))

  pub false-some : tag_at t i ≡ tag_false → boolean? (value_at t i) ≡ some false
  unfolding boolean?
  false-some e = ap boolean? (false-is t i e)

  pub true-some : tag_at t i ≡ tag_true → boolean? (value_at t i) ≡ some true
  unfolding boolean?
  true-some e = ap boolean? (true-is t i e)

-- the tag that a value has; a value that is not null stands under its own
abbrev pub tag_of : Json → ℕ
tag_of null = tag_null
tag_of falsity = tag_false
tag_of truth = tag_true
tag_of (num t) = tag_number
tag_of (str t) = tag_string
tag_of (arr js) = tag_array
tag_of (obj ms) = tag_object

abbrev Tagged : ℕ → Json → Type 0
Tagged b j = (j ≡ null) ⊎ (tag_of j ≡ b)

leaf-tag : (b : ℕ) (s : List ℕ) → Tagged b (leaf b s)
leaf-tag b s =
    same? b tag_false (λ e. inr (rw e)) (λ f.
    same? b tag_true (λ e. inr (rw e)) (λ u.
    same? b tag_number (λ e. inr (rw e)) (λ n.
    same? b tag_string (λ e. inr (rw e)) (λ m. inl (rw (f, u, n, m))))))

first-push : (j : Json) (s : Groups) → head_item (top (push j s)) ≡ j
first-push j s = ap head_item (top-push j s)

onto-tag : (b : ℕ) (s : List ℕ) (r : Groups) → Tagged b (head_item (top (into_groups false b s r)))
onto-tag b s r =
    same? b tag_end (λ e. inl (rw e)) (λ n.
    same? b tag_array (λ e. rw (n, e, first-push (arr (top r)) (pop r)) (inr refl)) (λ a.
    same? b tag_object (λ e. rw (n, a, e, first-push (obj (paired (top r))) (pop r)) (inr refl)) (λ o.
    rw (n, a, o, first-push (leaf b s) r) (leaf-tag b s))))

pub value-tag : (t : List ℕ) (i : ℕ) → (value_at t i ≡ null) ⊎ (tag_of (value_at t i) ≡ tag_at t i)
unfolding value_at
value-tag t i = on-or-past t i (λ h. rw (on-view t i h) (onto-tag (tag_at t i) _ _)) (λ h. inl (rw (past-view t i h)))

-- where the tag of a kind does not stand, there is no value of that kind
array-none : (j : Json) → ((tag_of j ≡ tag_array) → ⊥) → array? j ≡ none
unfolding array?
array-none null n = refl
array-none falsity n = refl
array-none truth n = refl
array-none (num t) n = refl
array-none (str t) n = refl
array-none (arr js) n = absurd (n refl)
array-none (obj ms) n = refl

object-none : (j : Json) → ((tag_of j ≡ tag_object) → ⊥) → object? j ≡ none
unfolding object?
object-none null n = refl
object-none falsity n = refl
object-none truth n = refl
object-none (num t) n = refl
object-none (str t) n = refl
object-none (arr js) n = refl
object-none (obj ms) n = absurd (n refl)

string-none : (j : Json) → ((tag_of j ≡ tag_string) → ⊥) → string? j ≡ none
unfolding string?
string-none null n = refl
string-none falsity n = refl
string-none truth n = refl
string-none (num t) n = refl
string-none (str t) n = absurd (n refl)
string-none (arr js) n = refl
string-none (obj ms) n = refl

number-none : (j : Json) → ((tag_of j ≡ tag_number) → ⊥) → number? j ≡ none
unfolding number?
number-none null n = refl
number-none falsity n = refl
number-none truth n = refl
number-none (num t) n = absurd (n refl)
number-none (str t) n = refl
number-none (arr js) n = refl
number-none (obj ms) n = refl

boolean-none : (j : Json) → ((tag_of j ≡ tag_false) → ⊥) → ((tag_of j ≡ tag_true) → ⊥) → boolean? j ≡ none
unfolding boolean?
boolean-none null n m = refl
boolean-none falsity n m = absurd (n refl)
boolean-none truth n m = absurd (m refl)
boolean-none (num t) n m = refl
boolean-none (str t) n m = refl
boolean-none (arr js) n m = refl
boolean-none (obj ms) n m = refl

no-octets : (j : Json) → string? j ≡ none → number? j ≡ none → octets_of j ≡ []
unfolding octets_of given
no-octets j e f = rw (e, f)

module _ (t : List ℕ) (i : ℕ) where
  -- a tag that is not null's and does not stand here is not the value's
  other_tag : (k : ℕ) → ((tag_null ≡ k) → ⊥) → ((tag_at t i ≡ k) → ⊥) → (tag_of (value_at t i) ≡ k) → ⊥
  other_tag k z n e = ⊎_elim (λ v. z (sym (ap tag_of v) ∙ e)) (λ v. n (sym v ∙ e)) (value-tag t i)

  pub no-array : ((tag_at t i ≡ tag_array) → ⊥) → array? (value_at t i) ≡ none
  no-array n = array-none _ (other_tag tag_array (λ e. omega arith) n)

  pub no-object : ((tag_at t i ≡ tag_object) → ⊥) → object? (value_at t i) ≡ none
  no-object n = object-none _ (other_tag tag_object (λ e. omega arith) n)

  pub no-string : ((tag_at t i ≡ tag_string) → ⊥) → string? (value_at t i) ≡ none
  no-string n = string-none _ (other_tag tag_string (λ e. omega arith) n)

  pub no_number : ((tag_at t i ≡ tag_number) → ⊥) → number? (value_at t i) ≡ none
  no_number n = number-none _ (other_tag tag_number (λ e. omega arith) n)

  pub no-boolean : ((tag_at t i ≡ tag_false) → ⊥) → ((tag_at t i ≡ tag_true) → ⊥) → boolean? (value_at t i) ≡ none
  no-boolean n m = boolean-none _ (other_tag tag_false (λ e. omega arith) n) (other_tag tag_true (λ e. omega arith) m)

  pub no_text : ((tag_at t i ≡ tag_number) → ⊥) → ((tag_at t i ≡ tag_string) → ⊥) → octets_of (value_at t i) ≡ []
  no_text n m = no-octets _ (no-string m) (no_number n)

  pub no-elements : ((tag_at t i ≡ tag_array) → ⊥) → elements (value_at t i) ≡ []
  unfolding elements given
  no-elements n = rw (no-array n)

  pub no-members : ((tag_at t i ≡ tag_object) → ⊥) → members (value_at t i) ≡ no_members
  unfolding members given
  no-members n = rw (no-object n)

-- the values and the members from a place on
abbrev Filled : Groups → Type 0
Filled g = top g ≡ item (head_item (top g)) (other_items (top g))

filled-push : (j : Json) (s : Groups) → Filled (push j s)
filled-push j (last js) = refl
filled-push j (group js s) = refl

onto-filled : (b : ℕ) (s : List ℕ) (r : Groups) → eqb b tag_end ≡ false → Filled (into_groups false b s r)
onto-filled b s r n = rw n (
    same? b tag_array (λ e. rw e (filled-push (arr (top r)) (pop r))) (λ a.
    same? b tag_object (λ e. rw e (filled-push (obj (paired (top r))) (pop r))) (λ o.
    rw (a, o) (filled-push (leaf b s) r))))

module _ (t : List ℕ) (i : ℕ) where
  view-filled : ((tag_at t i ≡ tag_end) → ⊥) → Filled (view t i)
  view-filled n = rw (on-view t i (on-tape t i n)) (onto-filled (tag_at t i) _ _ (ne_eqb _ tag_end n))

  -- the value at i is the first of them
  pub items-first : ((tag_at t i ≡ tag_end) → ⊥) → items_at t i ≡ item (value_at t i) (other_items (items_at t i))
  unfolding items_at value_at
  items-first n = view-filled n

  pub items-end : tag_at t i ≡ tag_end → items_at t i ≡ no_items
  unfolding items_at
  items-end e = end-top t i e

  pub list-end : tag_at t i ≡ tag_end → list_at t i ≡ []
  unfolding list_at list_of_items
  list-end e = rw (items-end e)

  pub members-end : tag_at t i ≡ tag_end → members_at t i ≡ no_members
  unfolding members_at paired
  members-end e = rw (items-end e)

  pub list-first : ((tag_at t i ≡ tag_end) → ⊥) → list_at t i ≡ value_at t i ∷ list_of_items (other_items (items_at t i))
  unfolding list_at list_of_items
  list-first n = ap list_of_items (items-first n)

-- behind the value at i stand the others
others-next : {t : List ℕ} {i e : ℕ} → Next t i e → other_items (items_at t i) ≡ items_at t e
unfolding items_at
others-next {t} {i} x = sym (ap top x.is ∙ top-skip (view t i))

pub items-next : {t : List ℕ} {i e : ℕ} → Next t i e → ((tag_at t i ≡ tag_end) → ⊥) → items_at t i ≡ item (value_at t i) (items_at t e)
items-next {t} {i} x n = items-first t i n ∙ rw (others-next x)

pub list-next : {t : List ℕ} {i e : ℕ} → Next t i e → ((tag_at t i ≡ tag_end) → ⊥) → list_at t i ≡ value_at t i ∷ list_at t e
unfolding list_at list_of_items
list-next x n = ap list_of_items (items-next x n)

-- the values by their number, and those behind some of them, also where there are fewer
head_of : (js : Items) → get_or (list_of_items js) 0 null ≡ head_item js
unfolding list_of_items
head_of no_items = refl
head_of (item j js) = refl

tail_of : (n : ℕ) (js : Items) → get_or (list_of_items js) (suc n) null ≡ get_or (list_of_items (other_items js)) n null
unfolding list_of_items
tail_of n no_items = refl
tail_of n (item j js) = refl

behind-of : (n : ℕ) (js : Items) → drop (suc n) (list_of_items js) ≡ drop n (list_of_items (other_items js))
unfolding list_of_items
behind-of n no_items = sym (drop-nil n)
behind-of n (item j js) = refl

pub list-head : (t : List ℕ) (i : ℕ) → get_or (list_at t i) 0 null ≡ value_at t i
unfolding list_at items_at value_at
list-head t i = head_of _

module _ {t : List ℕ} {i e : ℕ} (x : Next t i e) (n : ℕ) where
  pub list-tail : get_or (list_at t i) (suc n) null ≡ get_or (list_at t e) n null
  unfolding list_at
  list-tail = tail_of n (items_at t i) ∙ rw (others-next x)

  pub list-behind : drop (suc n) (list_at t i) ≡ drop n (list_at t e)
  unfolding list_at
  list-behind = behind-of n (items_at t i) ∙ rw (others-next x)

-- a key stands at i and its value at n; where the value is passed, the other members stand from e on
valued-is : (js : Items) (k : List ℕ) → valued js k ≡ member k (head_item js) (paired (other_items js))
unfolding paired
valued-is no_items k = refl
valued-is (item j js) k = refl

pub members-first : {t : List ℕ} {i n : ℕ} → ((tag_at t i ≡ tag_end) → ⊥) → Next t i n → members_at t i ≡ member (octets_of (value_at t i)) (value_at t n) (paired (other_items (items_at t n)))
unfolding members_at paired
members-first {t} {i} {n} k x = rw (items-next x k, valued-is (items_at t n) (octets_of (value_at t i))) (unfold items_at value_at in refl)

pub members-next : {t : List ℕ} {i n e : ℕ} → ((tag_at t i ≡ tag_end) → ⊥) → Next t i n → Next t n e → members_at t i ≡ member (octets_of (value_at t i)) (value_at t n) (members_at t e)
unfolding members_at
members-next {t} {i} {n} {e} k x y = members-first k x ∙ rw (others-next y)
