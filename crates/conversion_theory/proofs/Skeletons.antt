-- The jCal of a component: it is printed and parsed, it has the skeleton, and what it holds is the component.
use Prim.Native.Nat.{ℕ, zero, suc, ◌+◌, ◌≤◌}
use mathlib.Core.Path.{◌≡◌, refl}
use mathlib.Core.Bool.{Bool, true}
use mathlib.Core.List.{List, [], ◌∷◌, map}
use native.Mathlib.Omega.{arith}
use borrow.Author.Tests.{le-leb}
use lib.Dec.{leb}
use Rattle.octets.specs.Basics.{octets, all, same, All}
use Rattle.octets.specs.Optional.{is_some, holds, given}
use Rattle.octets.specs.Classes.{is_lower_name}
use Rattle.octets.specs.Limits.{most_levels, most_open}
use Rattle.octets.specs.Utf8.{utf8}
use Rattle.octets.specs.Answers.{Answer, accepted, unless}
use Rattle.octets.proofs.Cases.{and-true}
use Rattle.octets.proofs.Limits.{most-levels, most-open}
use Rattle.json_text.specs.Tree.{str, list_of_items, string?, number?, array?, octets_of, elements, element}
use Rattle.json_text.specs.Reads.{ok}
use Rattle.json_text.specs.Reader.{parse_text}
use Rattle.json_text.specs.Print.{print}
use Rattle.json_text.proofs.Printing.{parse-print}
use Rattle.octets.proofs.Classes.{lower-name}
use Rattle.values.proofs.Neat.{Neat, n-str, n-arr, NeatItems, n-none, n-item, neat-more, neat-items, neat-printable, neat-depth, neat-sound, neat-utf8}
use Rattle.values.proofs.TextLaws.{list-items}
use Rattle.conversion_theory.specs.Tree.{Property, Component, component, Forest, forest_of, levels, levels_in}
use Rattle.conversion_theory.specs.Jcal.{property_json, jcal_of, jcals_of}
use Rattle.conversion_theory.specs.Skeleton.{is_list_of, is_property, is_component, is_calendar, property_from, component_from, calendar_of}
use Rattle.conversion_theory.proofs.PropertyLaws.{Told}
use Rattle.conversion_theory.proofs.ValueParameter.{name-textual}
use Rattle.conversion_theory.proofs.Shapes.{Made, made, MadeIn, nothing-more, made_more}
use Rattle.conversion_theory.proofs.Events.{IsTop}

-- properties
neat-properties : (d : ℕ) (ps : List Property) → All Told ps → 3 ≤ d → All (Neat d) (map property_json ps)
neat-properties d [] h l = tt
neat-properties d (p ∷ ps) h l = (neat-more 3 d l h.0.neat, neat-properties d ps h.1 l)

are-properties : (ps : List Property) → All Told ps → all is_property (map property_json ps) ≡ true
unfolding all
are-properties [] h = refl
are-properties (p ∷ ps) h = and-true h.0.is (are-properties ps h.1)

properties-back : (ps : List Property) → All Told ps → map property_from (map property_json ps) ≡ ps
properties-back [] h = refl
properties-back (p ∷ ps) h = rw (h.0.from, properties-back ps h.1)

-- a name is a neat string
name-neat : (d : ℕ) (n : List ℕ) → is_lower_name n ≡ true → Neat d (str n)
name-neat d n h = n-str (name-textual n (lower-name n h))

-- each level of components opens two arrays, and a property three at most
mutual
  unfolding jcal_of levels

  neat-component : {c : Component} → Made Told c → (d : ℕ) → levels c + levels c + 3 ≤ d → Neat d (jcal_of c)
  neat-component (made n ps cs) zero l = absurd (omega arith)
  neat-component (made n ps cs) (suc zero) l = absurd (omega arith)
  neat-component (made {n = m} {ps = qs} n ps cs) (suc (suc d)) l =
      n-arr (n-item (name-neat (suc d) m n) (n-item (n-arr (neat-items d (map property_json qs) (neat-properties d qs ps (omega arith)))) (n-item (n-arr (neat-forest cs d (omega arith))) n-none)))

  neat-forest : {cs : Forest} → MadeIn Told cs → (d : ℕ) → levels_in cs + levels_in cs + 3 ≤ d → NeatItems d (jcals_of cs)
  neat-forest nothing-more d l = n-none
  neat-forest (made_more c cs) d l = n-item (neat-component c d (omega arith)) (neat-forest cs d (omega arith))

module _ {c : Component} (h : Made Told c) (l : levels c ≤ most_levels) where
  neat-jcal : Neat most_open (jcal_of c)
  neat-jcal = neat-component h most_open (omega (arith, l, most-levels, most-open))

  pub jcal-utf8 : utf8 (print (jcal_of c)) ≡ true
  jcal-utf8 = neat-utf8 neat-jcal

  -- THE LAW of printing
  pub jcal-parsed : parse_text (print (jcal_of c)) ≡ ok (jcal_of c) []
  jcal-parsed = parse-print (neat-printable neat-jcal) (neat-depth neat-jcal)

-- the skeleton, and what it holds
mutual
  unfolding is_component jcal_of levels all is_list_of is_some holds given array? string? element elements list_of_items

  is-component : {c : Component} → Made Told c → (d : ℕ) → levels c ≤ d → is_component d (jcal_of c) ≡ true
  is-component (made n ps cs) zero l = absurd (omega arith)
  is-component (made {ps = qs} n ps cs) (suc d) l =
      rw (n, list-items (map property_json qs), are-properties qs ps, are-components cs d (omega arith))

  are-components : {cs : Forest} → MadeIn Told cs → (d : ℕ) → levels_in cs ≤ d → all (is_component d) (list_of_items (jcals_of cs)) ≡ true
  are-components nothing-more d l = refl
  are-components (made_more c cs) d l = and-true (is-component c d (omega arith)) (are-components cs d (omega arith))

mutual
  unfolding component_from jcal_of levels forest_of given array? string? number? octets_of element elements list_of_items

  component-back : {c : Component} → Made Told c → (d : ℕ) → levels c ≤ d → component_from d (jcal_of c) ≡ c
  component-back (made n ps cs) zero l = absurd (omega arith)
  component-back (made {ps = qs} n ps cs) (suc d) l =
      rw (list-items (map property_json qs), properties-back qs ps, components-back cs d (omega arith))

  components-back : {cs : Forest} → MadeIn Told cs → (d : ℕ) → levels_in cs ≤ d → forest_of (map (component_from d) (list_of_items (jcals_of cs))) ≡ cs
  components-back nothing-more d l = refl
  components-back (made_more c cs) d l = rw (component-back c d (omega arith), components-back cs d (omega arith))

top-named : (c : Component) → IsTop c → same (octets_of (element 0 (jcal_of c))) (octets "vcalendar") ≡ true
unfolding jcal_of given array? string? number? octets_of element elements list_of_items
top-named (component n ps cs) t = t

passes : {A : Type 0} (n : ℕ) (b : Bool) (a : Answer A) → b ≡ true → unless n b (λ _. a) ≡ a
unfolding unless
passes n b a e = rw e

-- THE LAW of the skeleton
pub jcal-back : (c : Component) → Made Told c → levels c ≤ most_levels → IsTop c → calendar_of (jcal_of c) ≡ accepted c
unfolding calendar_of is_calendar unless
jcal-back c h l t =
    let k : levels c ≤ most_open = omega (arith, l, most-levels, most-open) in
    rw (neat-sound (neat-jcal h l), is-component h most_open k, top-named c t, component-back h most_open k) (passes 6 (leb (levels c) most_levels) (accepted c) (le-leb (levels c) most_levels l))
