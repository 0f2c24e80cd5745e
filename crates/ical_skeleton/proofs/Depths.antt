-- A component and its levels, by its sub-components along the tape.
use Prim.Native.Nat.{ℕ, zero, suc, ◌+◌, ◌-◌, ◌≤◌, ◌<◌, max}
use mathlib.Core.Path.{◌≡◌, refl, ap, ◌∙◌}
use mathlib.Core.Bool.{true, false}
use mathlib.Core.Logic.{inl}
use mathlib.Core.List.{List, [], ◌∷◌, map}
use native.Mathlib.Omega.{arith}
use borrow.Author.Tests.{eq-eqb, ne_eqb}
use lib.Dec.{eqb}
use lib.ListN.{length, take, drop}
use Rattle.octets.specs.Basics.{octets, ◌and◌, same}
use Rattle.octets.specs.Limits.{most_open}
use Rattle.octets.proofs.Cases.{same?, never}
use Rattle.octets.specs.Optional.{is_some}
use Rattle.json_text.specs.Tree.{Json, elements, element}
use Rattle.json_text.specs.Tape.{tag_array, tag_end}
use Rattle.tape.specs.Decode.{tag_at, value_at, list_at}
use Rattle.tape.specs.Promise.{After, Next, TextAt}
use Rattle.tape.specs.declared.Text.{Text}
use Rattle.tape.proofs.Tags.{on-tape}
use Rattle.tape.proofs.Values.{list-end, list-first, list-next}
use Rattle.tape.proofs.Walks.{Along, along-next, along-end, after_on, array-some, elements-inside, next-inside}
use Rattle.conversion_theory.specs.Tree.{levels, levels_in, forest_of}
use Rattle.conversion_theory.specs.Skeleton.{is_list_of, is_component, is_calendar, component_from}
use Rattle.ical_skeleton.specs.Checks.{Head, ComponentAt}
use Rattle.std.specs.Prelude.{Some}
use Rattle.ical_skeleton.proofs.Parts.{component-not, first-is}
use Rattle.ical_skeleton.proofs.Lists.{Passing, passing-start, passing-next, passing-end, list-not}

-- how deep the components of a list nest
unfoldable pub deep : ℕ → List Json → ℕ
deep d js = levels_in (forest_of (map (component_from d) js))

deep_none : (d : ℕ) → deep d [] ≡ 0
unfolding deep levels forest_of
deep_none d = refl

deep_more : (d : ℕ) (j : Json) (js : List Json) → deep d (j ∷ js) ≡ max (levels (component_from d j)) (deep d js)
unfolding deep levels forest_of
deep_more d j js = refl

-- a component with d levels left for it
pub no-levels : (d : ℕ) (j : Json) → d ≡ 0 → is_component d j ≡ false
unfolding is_component
no-levels d j e = rw e

component-levels : (d : ℕ) (j : Json) → ((d ≡ 0) → ⊥) → levels (component_from d j) ≡ suc (deep (d - 1) (elements (element 2 j)))
unfolding component_from levels deep
component-levels zero j n = absurd (n refl)
component-levels (suc d) j n = let e : suc d - 1 ≡ d = omega arith in rw e

headed : (d : ℕ) {t : List ℕ} {i p : ℕ} → ((d ≡ 0) → ⊥) → Head t i p
    → is_component d (value_at t i) ≡ (is_list_of (is_component (d - 1)) (value_at t p) and eqb (length (elements (value_at t i))) 3)
unfolding is_component is_some
headed zero n h = absurd (n refl)
headed (suc d) {t} {i} n h =
    let e : suc d - 1 ≡ d = omega arith in
    let x : After t i (i + 1) = after_on t i (on-tape t i (λ z. omega (arith, h.array))) in
    rw (array-some x h.array, h.name, h.properties, h.third, e)

module _ {d : ℕ} {t : List ℕ} {i p : ℕ} (n : (d ≡ 0) → ⊥) (h : Head t i p) where
  pub subs-not : ((tag_at t p ≡ tag_array) → ⊥) → is_component d (value_at t i) ≡ false
  subs-not m = headed d n h ∙ rw (list-not (is_component (d - 1)) t p m)

  pub subs-off : is_list_of (is_component (d - 1)) (value_at t p) ≡ false → is_component d (value_at t i) ≡ false
  subs-off m = headed d n h ∙ rw m

-- the sub-components from a to i pass, and nest m deep
pub record Nesting (d : ℕ) (t : List ℕ) (a i m : ℕ) : Type 0 where
  pub passing : Passing (is_component d) t a i
  pub deepest : max m (deep d (list_at t i)) ≡ deep d (list_at t a)
  pub below : m ≤ d

pub nesting-start : (d : ℕ) {t : List ℕ} {p a : ℕ} → After t p a → Nesting d t a a 0
nesting-start d x = record { passing = passing-start (is_component d) x; deepest = omega arith; below = omega arith }

module _ {d : ℕ} {t : List ℕ} {a i m : ℕ} (s : Nesting d t a i m) where
  pub nesting-next : {e k : ℕ} → ((tag_at t i ≡ tag_end) → ⊥) → ComponentAt t i d (Some (e, k)) → Nesting d t a e (max k m)
  nesting-next {e} {k} n c =
      let v : deep d (list_at t i) ≡ max k (deep d (list_at t e)) = ap (deep d) (list-next c.3 n) ∙ deep_more d (value_at t i) (list_at t e) ∙ rw c.1 in
      record { passing = passing-next s.passing c.3 n c.0; deepest = omega (arith, s.deepest, v); below = omega (arith, s.below, c.2) }

-- the end of a component
module _ {d : ℕ} {t : List ℕ} {at p a i m : ℕ} (n : (d ≡ 0) → ⊥) (h : Head t at p) (q : tag_at t p ≡ tag_array) (x : After t p a) (s : Nesting (d - 1) t a i m) (z : tag_at t i ≡ tag_end) where
  module _ {e : ℕ} (y : After t i e) where
    passed : (is_list_of (is_component (d - 1)) (value_at t p) ≡ true) × Next t p e
    passed = passing-end s.passing x q z y

    three : length (elements (value_at t at)) ≡ suc (suc (suc (length (list_at t e))))
    three = h.count ∙ ap suc (ap suc (ap length (list-next passed.1 (λ w. omega arith))))

    pub subs-more : ((tag_at t e ≡ tag_end) → ⊥) → is_component d (value_at t at) ≡ false
    subs-more w =
        let l : 3 < length (elements (value_at t at)) = omega (arith, three, ap length (list-first t e w)) in
        headed d n h ∙ rw (passed.0, ne_eqb (length (elements (value_at t at))) 3 (λ k. omega arith))

    whole-levels : m + 1 ≡ levels (component_from d (value_at t at))
    whole-levels =
        let v : deep (d - 1) (elements (element 2 (value_at t at))) ≡ deep (d - 1) (list_at t a) = ap (λ (j : Json). deep (d - 1) (elements j)) h.third ∙ ap (deep (d - 1)) (elements-inside x q) in
        let o : deep (d - 1) (list_at t i) ≡ 0 = ap (deep (d - 1)) (list-end t i z) ∙ deep_none (d - 1) in
        omega (arith, component-levels d (value_at t at) n, v, o, s.deepest)

    pub subs-whole : {f : ℕ} → tag_at t e ≡ tag_end → After t e f → ComponentAt t at d (Some (f, m + 1))
    subs-whole {f} w u =
        let l : Along t (at + 1) p = record { is = h.inside; low = h.low; high = h.high } in
        let y : After t at (at + 1) = after_on t at (on-tape t at (λ k. omega (arith, h.array))) in
        (headed d n h ∙ rw (passed.0, three, list-end t e w), whole-levels, omega (arith, s.below), next-inside y (inl h.array) (along-end (along-next l passed.1) w u))

-- the calendar on a tape
module _ (t : List ℕ) {a : ℕ} {r : Text} (x : After t 0 a) (k : TextAt t a r) where
  first-there : (d : ℕ) → is_component d (value_at t 0) ≡ true → element 0 (value_at t 0) ≡ value_at t a
  first-there d h = same? (tag_at t 0) tag_array
      (λ q. first-is x q)
      (λ q. never h (component-not t 0 (λ e. never (eq-eqb (tag_at t 0) tag_array e) q) d))

  pub calendar-is : (d : ℕ) → d ≡ most_open → is_component d (value_at t 0) ≡ true → is_calendar (value_at t 0) ≡ same (take (r.to - r.from) (drop r.from t)) (octets "vcalendar")
  unfolding is_calendar
  calendar-is d e h = rw (← e, h, first-there d h, k.part)

pub calendar-not : (t : List ℕ) (d : ℕ) → d ≡ most_open → is_component d (value_at t 0) ≡ false → is_calendar (value_at t 0) ≡ false
unfolding is_calendar
calendar-not t d e h = rw (← e, h)
