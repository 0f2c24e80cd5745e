-- A property and the head of a component, as the places of their elements tell them.
use Prim.Native.Nat.{ℕ, zero, suc, ◌+◌}
use mathlib.Core.Path.{◌≡◌, refl, ap, ◌∙◌}
use mathlib.Core.Bool.{true, false}
use mathlib.Core.Logic.{inl}
use mathlib.Core.List.{List}
use native.Mathlib.Omega.{arith}
use borrow.Author.Tests.{le-leb}
use lib.Dec.{leb}
use lib.ListN.{length}
use Rattle.octets.specs.Optional.{is_some, holds}
use Rattle.octets.specs.Classes.{is_lower_name}
use Rattle.octets.proofs.Cases.{never}
use Rattle.json_text.specs.Tree.{string?, array?, object?, elements, element}
use Rattle.json_text.specs.Tape.{tag_array, tag_end}
use Rattle.tape.specs.Decode.{tag_at, value_at, list_at}
use Rattle.tape.specs.Promise.{After, Next, Left}
use Rattle.tape.proofs.Tags.{on-tape}
use Rattle.tape.proofs.Values.{no-array, list-end, list-first, list-next, list-head, list-tail}
use Rattle.tape.proofs.Walks.{Along, along-start, along-next, along-left, array-some, elements-inside, element-inside, next-inside}
use Rattle.conversion_theory.specs.Skeleton.{are_parameters, is_property_name, is_list_of, is_property, is_component}
use Rattle.ical_skeleton.specs.Checks.{Checks, Heads}
use Rattle.std.specs.Prelude.{Option, Some, None}
use Rattle.ical_skeleton.proofs.Lists.{list-not}
use Rattle.ical_skeleton.proofs.Names.{held_on, object-on}

pub property-not : (t : List ℕ) (i : ℕ) → ((tag_at t i ≡ tag_array) → ⊥) → is_property (value_at t i) ≡ false
unfolding is_property is_some
property-not t i n = rw (no-array t i n)

pub component-not : (t : List ℕ) (i : ℕ) → ((tag_at t i ≡ tag_array) → ⊥) → (d : ℕ) → is_component d (value_at t i) ≡ false
unfolding is_component is_some
component-not t i n zero = refl
component-not t i n (suc d) = rw (no-array t i n)

-- the elements of the array at i, from the place a inside it on
module _ {t : List ℕ} {i a : ℕ} (x : After t i a) (q : tag_at t i ≡ tag_array) where
  array-there : is_some (array? (value_at t i)) ≡ true
  unfolding is_some
  array-there = rw (array-some x q)

  inside : a ≡ i + 1
  inside = x.more (on-tape t i (λ e. omega arith))

  pub first-is : element 0 (value_at t i) ≡ value_at t a
  first-is = element-inside x q 0 ∙ list-head t a

  pub property-no-name : holds is_property_name (string? (value_at t a)) ≡ false → is_property (value_at t i) ≡ false
  unfolding is_property
  property-no-name h = rw (array-there, first-is, h)

  pub component-no-name : holds is_lower_name (string? (value_at t a)) ≡ false → (d : ℕ) → is_component d (value_at t i) ≡ false
  unfolding is_component
  component-no-name h zero = refl
  component-no-name h (suc d) = rw (array-there, first-is, h)

  module _ {b : ℕ} (y : Next t a b) where
    pub second_is : element 1 (value_at t i) ≡ value_at t b
    second_is = element-inside x q 1 ∙ list-tail y 0 ∙ list-head t b

    module _ {c : ℕ} (z : Next t b c) where
      pub third-is : element 2 (value_at t i) ≡ value_at t c
      third-is = element-inside x q 2 ∙ list-tail y 1 ∙ list-tail z 0 ∙ list-head t c

      along-second : Along t a c
      along-second = along-next (along-next (along-start x.high) y) z

      two-more : ((tag_at t a ≡ tag_end) → ⊥) → ((tag_at t b ≡ tag_end) → ⊥) → length (elements (value_at t i)) ≡ suc (suc (length (list_at t c)))
      two-more n m = ap length (elements-inside x q) ∙ ap length (list-next y n) ∙ ap suc (ap length (list-next z m))

    module _ (n : holds is_property_name (string? (value_at t a)) ≡ true) where
      pub property-no-parameters : holds are_parameters (object? (value_at t b)) ≡ false → is_property (value_at t i) ≡ false
      unfolding is_property
      property-no-parameters h = rw (array-there, first-is, second_is, n, h)

      module _ {c : ℕ} (z : Next t b c) (m : holds are_parameters (object? (value_at t b)) ≡ true) where
        pub property-no-type : holds is_lower_name (string? (value_at t c)) ≡ false → is_property (value_at t i) ≡ false
        unfolding is_property
        property-no-type h = rw (array-there, first-is, second_is, third-is z, n, m, h)

        module _ {d : ℕ} (w : Next t c d) (k : holds is_lower_name (string? (value_at t c)) ≡ true) where
          property-count : is_property (value_at t i) ≡ leb 4 (suc (suc (suc (length (list_at t d)))))
          unfolding is_property
          property-count =
              let l : length (elements (value_at t i)) ≡ suc (suc (suc (length (list_at t d)))) =
              two-more z (held_on t a is_property_name n) (object-on t b m) ∙ ap suc (ap suc (ap length (list-next w (held_on t c is_lower_name k)))) in
              rw (array-there, first-is, second_is, third-is z, n, m, k, l)

          pub property-no-value : tag_at t d ≡ tag_end → is_property (value_at t i) ≡ false
          property-no-value e = property-count ∙ rw (list-end t d e)

          pub property-whole : {e : ℕ} → ((tag_at t d ≡ tag_end) → ⊥) → Left t d e → (is_property (value_at t i) ≡ true) × Next t i e
          property-whole o l = (property-count ∙ le-leb 4 (suc (suc (suc (length (list_at t d))))) (omega (arith, ap length (list-first t d o))), next-inside x (inl q) (along-left (along-next (along-second z) w) l))

    module _ (n : holds is_lower_name (string? (value_at t a)) ≡ true) where
      component-no-properties : is_list_of is_property (value_at t b) ≡ false → (d : ℕ) → is_component d (value_at t i) ≡ false
      unfolding is_component
      component-no-properties h zero = refl
      component-no-properties h (suc d) = rw (array-there, first-is, second_is, n, h)

      -- a head, by the test of its properties
      pub heads : (r : Option ℕ) → Checks t b (is_list_of is_property (value_at t b)) r → Heads t i r
      heads None h = component-no-properties h
      heads (Some c) h = record {
        array = q;
        name = rw first-is n;
        properties = rw second_is h.0;
        third = third-is h.1;
        count = two-more h.1 (held_on t a is_lower_name n) (λ e. never h.0 (list-not is_property t b (λ s. omega arith)));
        inside = rw (← inside) (along-second h.1).is;
        low = rw (← inside) (along-second h.1).low;
        high = h.1.high;
      }
