-- The excepted lines of a text are those of its properties: BEGIN and END are never listed.
use Prim.Native.Nat.{ℕ}
use mathlib.Core.Path.{◌≡◌, refl, ◌∙◌}
use mathlib.Core.Bool.{true, false, not}
use mathlib.Core.Logic.{◌⊎◌, inl, inr}
use mathlib.Core.List.{List, [], ◌∷◌, ◌++◌, map}
use mathlib.Core.Option.{Option, none, some}
use Rattle.octets.specs.Basics.{octets, pick}
use Rattle.octets.specs.Optional.{is_some}
use Rattle.octets.specs.Classes.{same_name}
use Rattle.octets.proofs.Cases.{cases, never, and-false-right}
use Rattle.types.specs.Table.{Row, Table, find}
use Rattle.types.proofs.Tables.{Well-formed, found_name}
use Rattle.content.specs.Line.{Line, line_of}
use Rattle.conversion_theory.specs.Structure.{Event, begins, ends, carries, stray, bounds, event_of}
use Rattle.conversion_theory.specs.Claim.{excepted, those}
use Rattle.conversion_theory.proofs.Readings.{events_at}

module _ (a new : Table) where
  -- among events
  unfoldable pub excepted_in : List (Event Line) → List Line
  excepted_in [] = []
  excepted_in (begins n ∷ es) = excepted_in es
  excepted_in (ends n ∷ es) = excepted_in es
  excepted_in (carries l ∷ es) = pick (excepted a new l) (l ∷ []) [] ++ excepted_in es
  excepted_in (stray ∷ es) = excepted_in es

  -- at one line
  module _ (w : Well-formed new) (l : Line) where
    unlisted : find new l.name ≡ none → excepted a new l ≡ false
    unfolding excepted is_some
    unlisted e = rw e (and-false-right (not (is_some (find a l.name))))

    no-keyword : (same_name l.name (octets "BEGIN") ≡ true) ⊎ (same_name l.name (octets "END") ≡ true) → excepted a new l ≡ false
    no-keyword k = unlisted (by (find new l.name) refl k)
      where
        by : (o : Option Row) → find new l.name ≡ o → (same_name l.name (octets "BEGIN") ≡ true) ⊎ (same_name l.name (octets "END") ≡ true) → o ≡ none
        by none e k = refl
        by (some r) e (inl b) = never b (found_name new w l.name r e).1
        by (some r) e (inr b) = never b (found_name new w l.name r e).2

    excepted-first : (es : List (Event Line)) → excepted_in (event_of l ∷ es) ≡ pick (excepted a new l) (l ∷ excepted_in es) (excepted_in es)
    unfolding event_of excepted_in
    excepted-first es = cases (same_name l.name (octets "BEGIN"))
        (λ b. cases (bounds l) (λ d. rw (b, d, no-keyword (inl b))) (λ d. rw (b, d, no-keyword (inl b))))
        (λ b. cases (same_name l.name (octets "END"))
        (λ e. cases (bounds l) (λ d. rw (b, e, d, no-keyword (inr e))) (λ d. rw (b, e, d, no-keyword (inr e))))
        (λ e. cases (excepted a new l) (λ x. rw (b, e, x)) (λ x. rw (b, e, x))))

  -- THE LAW
  pub excepted-lines : Well-formed new → (ls : List (List ℕ)) → excepted_in (events_at ls) ≡ those (excepted a new) (map line_of ls)
  unfolding those excepted_in
  excepted-lines w [] = refl
  excepted-lines w (l ∷ ls) = excepted-first w (line_of l) (events_at ls) ∙ rw (excepted-lines w ls)
