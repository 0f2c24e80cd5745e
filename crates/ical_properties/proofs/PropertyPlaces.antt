-- Into arrays and objects, and the parts of a property.
use Prim.Native.Nat.{ℕ}
use mathlib.Core.Path.{◌≡◌, sym, ap, ◌∙◌}
use mathlib.Core.List.{List}
use native.Mathlib.Omega.{arith}
use borrow.Author.Tests.{eq-eqb}
use lib.ListN.{length, drop, get_or}
use Rattle.octets.proofs.Cases.{same?, never}
use Rattle.json_text.specs.Tree.{Json, null, octets_of, elements, element, members}
use Rattle.json_text.specs.Tape.{tag_array, tag_object}
use Rattle.tape.specs.Decode.{pop, view, tag_at, value_at, list_at}
use Rattle.tape.specs.Promise.{After, Next, TextAt}
use Rattle.tape.specs.declared.Text.{Text}
use Rattle.tape.proofs.Tags.{on-tape, past-tag}
use Rattle.tape.proofs.Values.{pop-skip, no-elements, no-members, list-end, members-end, list-head, list-tail, list-behind}
use Rattle.tape.proofs.Walks.{elements-inside, members-inside}
use Rattle.conversion_theory.specs.Skeleton.{params_from, property_from}
use Rattle.ical_properties.specs.PartPlaces.{InGroup, Into, IntoArray, IntoObject, OctetsAre, PartsAt}

module _ (t : List ℕ) (i : ℕ) where
  pub into-array : {a : ℕ} → After t i a → tag_at t i ≡ tag_array → IntoArray t i a
  into-array {a} x q = record {
    list = sym (elements-inside x q);
    within = record { is = λ _. ap pop x.is; low = λ _. omega (arith, x.more (on-tape t i (λ e. omega arith))); high = x.high };
  }

  pub into-no-array : ((tag_at t i ≡ tag_array) → ⊥) → IntoArray t i (length t)
  into-no-array n = record {
    list = list-end t (length t) (past-tag t (length t) (omega arith)) ∙ sym (no-elements t i n);
    within = record { is = λ q. absurd (n q); low = λ q. absurd (n q); high = omega arith };
  }

  pub into-object : {a : ℕ} → After t i a → tag_at t i ≡ tag_object → IntoObject t i a
  into-object x q = sym (members-inside x q)

  pub into-no-object : ((tag_at t i ≡ tag_object) → ⊥) → IntoObject t i (length t)
  into-no-object n = members-end t (length t) (past-tag t (length t) (omega arith)) ∙ sym (no-members t i n)

module _ {t : List ℕ} {i a : ℕ} where
  pub array-in : Into tag_array t i a → IntoArray t i a
  array-in x = same? (tag_at t i) tag_array
      (λ q. into-array t i (x.there q) q)
      (λ z. let n : (tag_at t i ≡ tag_array) → ⊥ = λ q. never (eq-eqb (tag_at t i) tag_array q) z in rw (x.elsewhere n) (into-no-array t i n))

  pub object-in : Into tag_object t i a → IntoObject t i a
  object-in x = same? (tag_at t i) tag_object
      (λ q. into-object t i (x.there q) q)
      (λ z. let n : (tag_at t i ≡ tag_object) → ⊥ = λ q. never (eq-eqb (tag_at t i) tag_object q) z in rw (x.elsewhere n) (into-no-object t i n))

pub within-next : {t : List ℕ} {i a b : ℕ} → InGroup t i a → Next t a b → InGroup t i b
within-next {t} {i} {a} w n = record { is = λ q. ap pop n.is ∙ pop-skip (view t a) ∙ w.is q; low = λ q. omega (arith, w.low q, n.low w.high); high = n.high }

says : {t : List ℕ} {i : ℕ} {x : Text} {j : Json} → TextAt t i x → j ≡ value_at t i → OctetsAre t x (octets_of j)
says y e = record { part = y.part ∙ sym (ap octets_of e); order = y.order; within = y.within }

module _ {t : List ℕ} {i a c : ℕ} (m : ℕ) {n k : Text} (x : IntoArray t i a) (y : TextAt t a n) (o : IntoObject t n.next m) (z : Next t n.next c) (w : TextAt t c k) where
  nth : (l : ℕ) → element l (value_at t i) ≡ get_or (list_at t a) l null
  unfolding element
  nth l = rw x.list

  second : element 1 (value_at t i) ≡ value_at t n.next
  second = nth 1 ∙ list-tail y.behind 0 ∙ list-head t n.next

  third : element 2 (value_at t i) ≡ value_at t c
  third = nth 2 ∙ list-tail y.behind 1 ∙ list-tail z 0 ∙ list-head t c

  others : drop 3 (elements (value_at t i)) ≡ list_at t k.next
  others = ap (drop 3) (sym x.list) ∙ list-behind y.behind 2 ∙ list-behind z 1 ∙ list-behind w.behind 0

  pub parts_at : PartsAt t i (record { name = n; params = m; kind = k; values = k.next })
  unfolding property_from
  parts_at = record {
    name = says y (nth 0 ∙ list-head t a);
    params = ap params_from (o ∙ ap members (sym second));
    kind = says w third;
    values = sym others;
    within = within-next (within-next (within-next x.within y.behind) z) w.behind;
  }
