-- A reading in steps: what is read of all, by what is read of the rest.
use mathlib.Core.Path.{◌≡◌, ap, ◌∙◌}
use mathlib.Core.Option.{Option, none, some}
use Rattle.octets.specs.Optional.{map?}

-- all is read where the rest is, and R tells how the one goes with the other
pub record Going {A : Type 0} (R : A → A → Type 0) (all rest : Option A) : Type 0 where
  pub stands : (a : A) → rest ≡ some a → (b : A) × (all ≡ some b) × R b a
  pub fails : rest ≡ none → all ≡ none

module _ {A : Type 0} where
  pub going_start : {R : A → A → Type 0} {all : Option A} → ((a : A) → R a a) → Going R all all
  going_start r = record { stands = λ a e. (a, e, r a); fails = λ e. e }

  -- a step adds what f does
  pub going_on : {R S : A → A → Type 0} {all rest : Option A} (f : A → A) (left : Option A) → Going R all rest → rest ≡ map? f left → ((a b : A) → left ≡ some a → R b (f a) → S b a) → Going S all left
  unfolding map?
  going_on f left g e k = record {
    stands = λ a h. let b = g.stands (f a) (e ∙ ap (map? f) h) in (b.0, b.1, k a b.0 h b.2);
    fails = λ h. g.fails (e ∙ ap (map? f) h);
  }
