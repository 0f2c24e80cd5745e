-- A component of few levels is the same component with as many levels left for it.
use Prim.Native.Nat.{ℕ, zero, suc, ◌-◌, ◌≤◌}
use mathlib.Core.Path.{◌≡◌, refl, sym, ◌∙◌}
use mathlib.Core.Bool.{Bool, true}
use mathlib.Core.List.{List, [], ◌∷◌, map}
use native.Mathlib.Omega.{arith}
use Rattle.octets.specs.Basics.{all}
use Rattle.octets.specs.Optional.{holds, given}
use Rattle.octets.proofs.Cases.{never, both}
use Rattle.json_text.specs.Tree.{Json, array?, list_of_items, elements, element}
use Rattle.values.proofs.CleanValues.{holds-is}
use Rattle.conversion_theory.specs.Tree.{levels, levels_in, forest_of}
use Rattle.conversion_theory.specs.Skeleton.{is_list_of, is_component, component_from}
use Rattle.ical.proofs.ComponentParts.{composed}

-- where an array stands, a test of it goes by its elements
list_of : (p q : Json → Bool) (j : Json) → is_list_of p j ≡ true → is_list_of q j ≡ all q (elements j)
unfolding is_list_of elements holds given
list_of p q j h = holds-is (λ js. all p (list_of_items js)) (array? j) h (λ js e k. rw e)

-- it is a component of n levels, and the one that it is of d
abbrev Fewer : ℕ → ℕ → Json → Type 0
Fewer d n j = (is_component n j ≡ true) × (component_from n j ≡ component_from d j)

fewer-in : (d n : ℕ) → ((j : Json) → is_component d j ≡ true → levels (component_from d j) ≤ n → Fewer d n j)
    → (js : List Json) → all (is_component d) js ≡ true → levels_in (forest_of (map (component_from d) js)) ≤ n
    → (all (is_component n) js ≡ true) × (map (component_from n) js ≡ map (component_from d) js)
unfolding all levels forest_of
fewer-in d n f [] h l = (refl, refl)
fewer-in d n f (j ∷ js) h l =
    let b = both (is_component d j) (all (is_component d) js) h in
    let one = f j b.0 (omega arith) in
    let rest = fewer-in d n f js b.1 (omega arith) in
    (rw (one.0, rest.0), rw (one.1, rest.1))

pub fewer : (d n : ℕ) (j : Json) → is_component d j ≡ true → levels (component_from d j) ≤ n → Fewer d n j
unfolding is_component component_from levels
fewer zero n j h l = never h refl
fewer (suc d) zero j h l = absurd (omega arith)
fewer (suc d) (suc n) j h l =
    let e : suc d - 1 ≡ d = omega arith in
    let s : is_list_of (is_component d) (element 2 j) ≡ true = rw e at (composed (suc d) j h).subs in
    let k = fewer-in d n (fewer d n) (elements (element 2 j)) (sym (list_of (is_component d) (is_component d) (element 2 j) s) ∙ s) (omega arith) in
    let m : is_list_of (is_component n) (element 2 j) ≡ true = list_of (is_component d) (is_component n) (element 2 j) s ∙ k.0 in
    (rw m (rw s at h), rw k.1)
