-- From place to place: behind a value, along a group, and out of it.
use Prim.Native.Nat.{ℕ, zero, suc, ◌+◌, ◌-◌, min, ◌≤◌, ◌<◌}
use mathlib.Core.Path.{◌≡◌, refl, sym, ap, ◌∙◌}
use mathlib.Core.Logic.{◌⊎◌, inl, inr, ⊎_elim}
use mathlib.Core.List.{List}
use mathlib.Core.Option.{some}
use native.Mathlib.Numerals.{add-one}
use native.Mathlib.Omega.{arith}
use borrow.Author.Tests.{eqb-true, eqb-false}
use lib.Dec.{eqb}
use lib.ListN.{length, get_or}
use Rattle.octets.specs.Optional.{given}
use Rattle.octets.proofs.Cases.{cases}
use Rattle.json_text.specs.Tree.{Json, null, arr, obj, Items, no_items, array?, object?, octets_of, elements, element, members}
use Rattle.json_text.specs.Tape.{tag_number, tag_string, tag_array, tag_object, tag_end}
use Rattle.tape.specs.Decode.{Groups, last, group, other_items, top, pop, skip_value, view, tag_at, text_at, value_at, items_at, list_at, members_at}
use Rattle.tape.specs.Promise.{After, Leaf, Next, Left, TextAt}
use Rattle.tape.proofs.Tags.{on-tape, past-tag, past-view, Shows, at-array, at-object, at-number, at-string, at_other, end-pop, end-top, text-part, text-within}
use Rattle.tape.proofs.Values.{skip-push, pop-push, pop-skip, array-is, object-is, number-text, string-text, no_text, list-end, list-next}

-- the tag of a group, of a text
abbrev pub Opens : List ℕ → ℕ → Type 0
Opens t i = (tag_at t i ≡ tag_array) ⊎ (tag_at t i ≡ tag_object)

abbrev pub Begins : List ℕ → ℕ → Type 0
Begins t i = (tag_at t i ≡ tag_number) ⊎ (tag_at t i ≡ tag_string)

-- one of two neighbours, or none of them
pub one_of : {b : ℕ} (k : ℕ) → k ≤ b → b < k + 2 → (b ≡ k) ⊎ (b ≡ k + 1)
one_of {b} k l h = cases (eqb b k) (λ e. inl (eqb-true b k e)) (λ e. inr (omega (arith, eqb-false b k e)))

pub none_of : {b : ℕ} (k : ℕ) → (b < k) ⊎ (k + 2 ≤ b) → ((b ≡ k) ⊎ (b ≡ k + 1)) → ⊥
none_of k o = ⊎_elim (λ l. ⊎_elim (λ e. omega arith) (λ e. omega arith)) (λ l. ⊎_elim (λ e. omega arith) (λ e. omega arith)) o

-- one octet on
pub after_on : (t : List ℕ) (i : ℕ) → i < length t → After t i (i + 1)
after_on t i h = record { is = refl; low = λ _. omega arith; more = λ _. refl; high = omega arith }

pub after-past : (t : List ℕ) (i : ℕ) → length t ≤ i → After t i (length t)
after-past t i h = record { is = rw (past-view t (length t) (omega arith), past-view t (i + 1) (omega arith)); low = λ l. l; more = λ l. absurd (omega arith); high = omega arith }

-- behind a value
next-shown : {t : List ℕ} {i e : ℕ} {j : Json} {s : Groups} → Shows t i j s → view t e ≡ s → i < e → e ≤ length t → Next t i e
next-shown {j = j} {s = s} h v l k = record { is = v ∙ sym (ap skip_value h.is ∙ skip-push j s); low = λ _. omega arith; more = λ _. l; high = k }

skip-none : (s : Groups) → top s ≡ no_items → skip_value s ≡ s
skip-none (last js) e = ap (λ (g : Items). last (other_items g)) e ∙ ap last (sym e)
skip-none (group js s) e = ap (λ (g : Items). group (other_items g) s) e ∙ ap (λ (g : Items). group g s) (sym e)

module _ (t : List ℕ) (i : ℕ) where
  pub next-end : tag_at t i ≡ tag_end → i ≤ length t → Next t i i
  next-end e h = record { is = sym (skip-none (view t i) (end-top t i e)); low = λ _. omega arith; more = λ n. absurd (n e); high = h }

  pub next_past : length t ≤ i → Next t i (length t)
  next_past h = record { is = rw (past-view t (length t) (omega arith), past-view t i h); low = λ l. l; more = λ n. absurd (n (past-tag t i h)); high = omega arith }

  module _ (e : ℕ) where
    pub next-group : Opens t i → Left t (i + 1) e → Next t i e
    next-group o l = ⊎_elim (λ q. by (at-array t i q) (on-tape t i (λ f. omega arith))) (λ q. by (at-object t i q) (on-tape t i (λ f. omega arith))) o
      where
        by : {j : Json} → Shows t i j (pop (view t (i + 1))) → i < length t → Next t i e
        by s h = next-shown s l.is (omega (arith, l.low (omega arith))) l.high

    pub next-text : Begins t i → After t (i + 1 + length (text_at t (i + 1))) e → Next t i e
    next-text o a = ⊎_elim (λ q. by (at-number t i q) (on-tape t i (λ f. omega arith))) (λ q. by (at-string t i q) (on-tape t i (λ f. omega arith))) o
      where
        by : {j : Json} → Shows t i j (view t (i + 1 + length (text_at t (i + 1)) + 1)) → i < length t → Next t i e
        by s h = next-shown s a.is (omega (arith, a.low (text-within t (i + 1) (omega arith)))) a.high

  pub next-other : Leaf t i → ((Begins t i) → ⊥) → Next t i (i + 1)
  next-other l n = next-shown (at_other t i l.no_end l.no-array l.no-object (λ e. n (inl e)) (λ e. n (inr e))) refl (omega arith) (omega (arith, l.inside))

-- into a group: what stands there, and where it ends
module _ {t : List ℕ} {i a : ℕ} (x : After t i a) where
  items-after : items_at t a ≡ items_at t (i + 1)
  unfolding items_at
  items-after = ap top x.is

  pub array-inside : tag_at t i ≡ tag_array → value_at t i ≡ arr (items_at t a)
  array-inside q = array-is t i q ∙ rw items-after

  pub object-inside : tag_at t i ≡ tag_object → value_at t i ≡ obj (members_at t a)
  unfolding members_at
  object-inside q = object-is t i q ∙ rw items-after

  pub array-some : tag_at t i ≡ tag_array → array? (value_at t i) ≡ some (items_at t a)
  unfolding array?
  array-some q = ap array? (array-inside q)

  pub object-some : tag_at t i ≡ tag_object → object? (value_at t i) ≡ some (members_at t a)
  unfolding object?
  object-some q = ap object? (object-inside q)

  pub elements-inside : tag_at t i ≡ tag_array → elements (value_at t i) ≡ list_at t a
  unfolding elements given list_at
  elements-inside q = rw (array-some q)

  pub element-inside : tag_at t i ≡ tag_array → (n : ℕ) → element n (value_at t i) ≡ get_or (list_at t a) n null
  unfolding element
  element-inside q n = rw (elements-inside q)

  pub members-inside : tag_at t i ≡ tag_object → members (value_at t i) ≡ members_at t a
  unfolding members given
  members-inside q = rw (object-some q)

  pub next-inside : {e : ℕ} → Opens t i → Left t a e → Next t i e
  next-inside {e} o l =
      let h : i < length t = ⊎_elim (λ q. on-tape t i (λ f. omega arith)) (λ q. on-tape t i (λ f. omega arith)) o in
      next-group t i e o (rw (x.more h) at l)

-- n groups are left
unfoldable pub pops : ℕ → Groups → Groups
pops zero s = s
pops (suc n) s = pops n (pop s)

pub pops-one : (s : Groups) → pops 1 s ≡ pop s
unfolding pops
pops-one s = refl

pops-none : (n : ℕ) → pops n (last no_items) ≡ last no_items
unfolding pops
pops-none zero = refl
pops-none (suc n) = pops-none n

-- only what stands behind the innermost group counts
pops-pop : (n : ℕ) (r s : Groups) → 1 ≤ n → pop r ≡ pop s → pops n r ≡ pops n s
unfolding pops
pops-pop zero r s h e = absurd (omega arith)
pops-pop (suc n) r s h e = rw e

pops-more : (n : ℕ) (s : Groups) → pops n (pop s) ≡ pops (n + 1) s
unfolding pops
pops-more n s = rw (add-one n)

pops-less : (n : ℕ) (s : Groups) → 1 ≤ n → pops n s ≡ pops (n - 1) (pop s)
unfolding pops
pops-less zero s h = absurd (omega arith)
pops-less (suc n) s h = let e : suc n - 1 ≡ n = omega arith in rw e

-- a turn of the walk out of n groups
module _ (t : List ℕ) (i n : ℕ) where
  pub leave-past : length t ≤ i → view t (length t) ≡ pops n (view t i)
  leave-past h = rw (past-view t i h, past-view t (length t) (omega arith)) (sym (pops-none n))

  module _ (one : 1 ≤ n) where
    pub leave-end : tag_at t i ≡ tag_end → pops n (view t i) ≡ pops (n - 1) (view t (i + 1))
    leave-end e = pops-less n (view t i) one ∙ ap (pops (n - 1)) (end-pop t i e)

    pub leave-group : Opens t i → pops n (view t i) ≡ pops (n + 1) (view t (i + 1))
    leave-group o = ⊎_elim (λ q. by (at-array t i q)) (λ q. by (at-object t i q)) o
      where
        by : {j : Json} → Shows t i j (pop (view t (i + 1))) → pops n (view t i) ≡ pops (n + 1) (view t (i + 1))
        by {j} s = pops-pop n (view t i) (pop (view t (i + 1))) one (ap pop s.is ∙ pop-push j (pop (view t (i + 1)))) ∙ pops-more n (view t (i + 1))

    pub leave-next : (e : ℕ) → Next t i e → pops n (view t i) ≡ pops n (view t e)
    leave-next e x = pops-pop n (view t i) (view t e) one (sym (ap pop x.is ∙ pop-skip (view t i)))

-- i stands further on in the group that is open at a
pub record Along (t : List ℕ) (a i : ℕ) : Type 0 where
  pub is : pop (view t i) ≡ pop (view t a)
  pub low : a ≤ i
  pub high : i ≤ length t

module _ {t : List ℕ} where
  pub along-start : {a : ℕ} → a ≤ length t → Along t a a
  along-start h = record { is = refl; low = omega arith; high = h }

  module _ {a i : ℕ} (l : Along t a i) where
    pub along-next : {e : ℕ} → Next t i e → Along t a e
    along-next x = record { is = ap pop x.is ∙ pop-skip (view t i) ∙ l.is; low = omega (arith, x.low l.high); high = x.high }

    -- out of the group: where it ends, or from anywhere in it
    pub along-end : {e : ℕ} → tag_at t i ≡ tag_end → After t i e → Left t a e
    along-end z x = record { is = x.is ∙ sym (end-pop t i z) ∙ l.is; low = λ _. omega (arith, x.low l.high); high = x.high }

    pub along-left : {e : ℕ} → Left t i e → Left t a e
    along-left x = record { is = x.is ∙ l.is; low = λ _. omega (arith, x.low l.high); high = x.high }

-- the number or string at a place
module _ (t : List ℕ) (i : ℕ) where
  pub begins-in : Begins t i → i < length t
  begins-in o = on-tape t i (λ e. ⊎_elim (λ f. omega arith) (λ f. omega arith) o)

  begins-octets : Begins t i → octets_of (value_at t i) ≡ text_at t (i + 1)
  begins-octets o = ⊎_elim (number-text t i) (string-text t i) o

  pub text-found : {e n : ℕ} → Begins t i → e ≡ i + 1 + length (text_at t (i + 1)) → After t e n → TextAt t i (record { from = i + 1; to = e; next = n })
  text-found {e} {n} o q a = record {
    part = text-part t (i + 1) e q ∙ sym (begins-octets o);
    order = omega arith;
    within = omega (arith, text-within t (i + 1) (omega (arith, begins-in o)));
    behind = next-text t i n o (rw q at a);
  }

  pub text-missing : {n : ℕ} → ((Begins t i) → ⊥) → Next t i n → TextAt t i (record { from = n; to = n; next = n })
  text-missing {n} o x =
      let z : n - n ≡ 0 = omega arith in
      record { part = rw (z, no_text t i (λ e. o (inl e)) (λ e. o (inr e))); order = omega arith; within = x.high; behind = x }

-- n values were counted up to i; they and what is left make the whole
pub record Counting (t : List ℕ) (at most i n : ℕ) : Type 0 where
  pub below : n ≤ most
  pub whole : n + length (list_at t i) ≡ length (list_at t at)

pub counting-start : {t : List ℕ} {at most : ℕ} → Counting t at most at 0
counting-start = record { below = omega arith; whole = omega arith }

module _ {t : List ℕ} {at most i n : ℕ} (k : Counting t at most i n) where
  pub counting-next : {e : ℕ} → ((tag_at t i ≡ tag_end) → ⊥) → Next t i e → n < most → Counting t at most e (n + 1)
  counting-next {e} z x h = record { below = omega arith; whole = omega (arith, k.whole, ap length (list-next x z)) }

  pub counting-end : tag_at t i ≡ tag_end → n ≡ min most (length (list_at t at))
  counting-end z = omega (arith, k.below, k.whole, ap length (list-end t i z))

  pub counting-full : most ≤ n → n ≡ min most (length (list_at t at))
  counting-full h = omega (arith, k.below, k.whole)
