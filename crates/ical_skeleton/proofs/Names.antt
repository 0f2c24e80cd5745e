-- Strings, names and parameters of the skeleton, as the tags along the tape tell them.
use Prim.Native.Nat.{ℕ, ◌-◌}
use mathlib.Core.Path.{◌≡◌, refl, sym, ap, ◌∙◌}
use mathlib.Core.Bool.{Bool, true, false, not}
use mathlib.Core.Logic.{inr}
use mathlib.Core.List.{List}
use native.Mathlib.Omega.{arith}
use borrow.Author.Tests.{eq-eqb}
use lib.ListN.{take, drop}
use Rattle.octets.specs.Basics.{octets, filled, same}
use Rattle.octets.specs.Optional.{is_some, holds}
use Rattle.octets.specs.Classes.{is_lower_name}
use Rattle.octets.proofs.Cases.{same?, never, and-false-right, and-true-right}
use Rattle.json_text.specs.Tree.{string?, object?, octets_of, elements}
use Rattle.json_text.specs.Tape.{tag_string, tag_array, tag_object, tag_end}
use Rattle.tape.specs.Decode.{tag_at, value_at, members_at}
use Rattle.tape.specs.Promise.{After, Next, TextAt}
use Rattle.tape.specs.declared.Text.{Text}
use Rattle.tape.proofs.Values.{string-some, no-string, no-object, no-elements, list-end, list-first, members-end, members-first, members-next}
use Rattle.tape.proofs.Walks.{Along, along-start, along-next, along-end, object-some, elements-inside, next-inside}
use Rattle.conversion_theory.specs.Skeleton.{is_json_string, is_list_of, is_parameter, are_parameters, is_property_name}
use Rattle.ical_skeleton.proofs.Lists.{list-not}

module _ (t : List ℕ) (i : ℕ) where
  pub string-is : tag_at t i ≡ tag_string → is_json_string (value_at t i) ≡ true
  unfolding is_json_string is_some
  string-is e = rw (string-some t i e)

  pub string-not : ((tag_at t i ≡ tag_string) → ⊥) → is_json_string (value_at t i) ≡ false
  unfolding is_json_string is_some
  string-not n = rw (no-string t i n)

  -- a string that passes a test
  module _ (p : List ℕ → Bool) where
    pub held_by : tag_at t i ≡ tag_string → holds p (string? (value_at t i)) ≡ p (octets_of (value_at t i))
    unfolding holds
    held_by e = rw (string-some t i e)

    pub held-not : ((tag_at t i ≡ tag_string) → ⊥) → holds p (string? (value_at t i)) ≡ false
    unfolding holds
    held-not n = rw (no-string t i n)

    -- it is no end
    pub held_on : holds p (string? (value_at t i)) ≡ true → (tag_at t i ≡ tag_end) → ⊥
    held_on h e = never h (held-not (λ s. omega arith))

    -- the octets that were read are the string's
    pub held-text : {r : Text} → tag_at t i ≡ tag_string → TextAt t i r → holds p (string? (value_at t i)) ≡ p (take (r.to - r.from) (drop r.from t))
    held-text e x = held_by e ∙ ap p (sym x.part)

-- a name that a property may have
module _ (n : List ℕ) where
  pub no_name : is_lower_name n ≡ false → is_property_name n ≡ false
  unfolding is_property_name
  no_name h = rw h

  module _ (h : is_lower_name n ≡ true) where
    pub named-begin : same n (octets "begin") ≡ true → is_property_name n ≡ false
    unfolding is_property_name
    named-begin b = rw (h, b)

    pub named_other : same n (octets "begin") ≡ false → is_property_name n ≡ not (same n (octets "end"))
    unfolding is_property_name
    named_other b = rw (h, b)

-- a parameter
module _ (t : List ℕ) (i : ℕ) where
  pub parameter-string : tag_at t i ≡ tag_string → is_parameter (value_at t i) ≡ true
  unfolding is_parameter
  parameter-string e = rw (string-is t i e)

  module _ {a : ℕ} (n : (tag_at t i ≡ tag_string) → ⊥) (x : After t i a) where
    none_inside : tag_at t a ≡ tag_end → filled (elements (value_at t i)) ≡ false
    unfolding filled
    none_inside z = same? (tag_at t i) tag_array
        (λ q. rw (elements-inside x q, list-end t a z))
        (λ q. rw (no-elements t i (λ e. never (eq-eqb (tag_at t i) tag_array e) q)))

    pub parameter-empty : tag_at t a ≡ tag_end → is_parameter (value_at t i) ≡ false
    unfolding is_parameter
    parameter-empty z = rw (string-not t i n, none_inside z) (and-false-right (is_list_of is_json_string (value_at t i)))

    pub parameter-array : ((tag_at t a ≡ tag_end) → ⊥) → is_parameter (value_at t i) ≡ is_list_of is_json_string (value_at t i)
    unfolding is_parameter filled
    parameter-array z = rw (string-not t i n) (same? (tag_at t i) tag_array
        (λ q. rw (elements-inside x q, list-first t a z) (and-true-right _))
        (λ q. rw (list-not is_json_string t i (λ e. never (eq-eqb (tag_at t i) tag_array e) q))))

-- the parameters of the object at i
module _ (t : List ℕ) (i : ℕ) where
  pub object_of : {a : ℕ} → After t i a → tag_at t i ≡ tag_object → holds are_parameters (object? (value_at t i)) ≡ are_parameters (members_at t a)
  unfolding holds
  object_of x q = rw (object-some x q)

  pub object-not : ((tag_at t i ≡ tag_object) → ⊥) → holds are_parameters (object? (value_at t i)) ≡ false
  unfolding holds
  object-not n = rw (no-object t i n)

  pub object-on : holds are_parameters (object? (value_at t i)) ≡ true → (tag_at t i ≡ tag_end) → ⊥
  object-on h e = never h (object-not (λ s. omega arith))

-- the parameters from a to i pass
pub record Naming (t : List ℕ) (a i : ℕ) : Type 0 where
  pub along : Along t a i
  pub same : are_parameters (members_at t a) ≡ are_parameters (members_at t i)

pub naming-start : {t : List ℕ} {at a : ℕ} → After t at a → Naming t a a
naming-start x = record { along = along-start x.high; same = refl }

module _ {t : List ℕ} {a i : ℕ} (s : Naming t a i) where
  module _ {at : ℕ} (x : After t at a) (q : tag_at t at ≡ tag_object) where
    pub naming-end : {e : ℕ} → tag_at t i ≡ tag_end → After t i e → (holds are_parameters (object? (value_at t at)) ≡ true) × Next t at e
    unfolding are_parameters
    naming-end z y = (object_of t at x q ∙ s.same ∙ rw (members-end t i z), next-inside x (inr q) (along-end s.along z y))

    module _ {r : Text} (n : (tag_at t i ≡ tag_end) → ⊥) (k : TextAt t i r) where
      pub naming-unnamed : is_lower_name (take (r.to - r.from) (drop r.from t)) ≡ false → holds are_parameters (object? (value_at t at)) ≡ false
      unfolding are_parameters
      naming-unnamed h = object_of t at x q ∙ s.same ∙ rw (members-first n k.behind, ← k.part, h)

      pub naming-off : is_lower_name (take (r.to - r.from) (drop r.from t)) ≡ true → is_parameter (value_at t r.next) ≡ false
          → holds are_parameters (object? (value_at t at)) ≡ false
      unfolding are_parameters
      naming-off h p = object_of t at x q ∙ s.same ∙ rw (members-first n k.behind, ← k.part, h, p)

  pub naming-next : {r : Text} {e : ℕ} → ((tag_at t i ≡ tag_end) → ⊥) → TextAt t i r → is_lower_name (take (r.to - r.from) (drop r.from t)) ≡ true
      → is_parameter (value_at t r.next) ≡ true → Next t r.next e → Naming t a e
  unfolding are_parameters
  naming-next n k h p y = record { along = along-next (along-next s.along k.behind) y; same = s.same ∙ rw (members-next n k.behind y, ← k.part, h, p) }
