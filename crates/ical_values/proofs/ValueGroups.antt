-- The values of a group, tested and written one after another.
use Prim.Native.Nat.{ℕ}
use Prim.Native.Char.{code}
use mathlib.Core.Path.{◌≡◌, refl, sym, ap, ◌∙◌}
use mathlib.Core.Bool.{Bool, true, false}
use mathlib.Core.List.{List, [], ◌∷◌, ◌++◌, map}
use native.Mathlib.Omega.{arith}
use borrow.Author.Tests.{eqb-false}
use Rattle.octets.specs.Basics.{◌or◌, all, filled, single}
use Rattle.octets.specs.Pieces.{joined}
use Rattle.octets.proofs.Cases.{never, same?, and-false-right, and-true-right, or-false-right, or_true_right}
use Rattle.json_text.specs.Tree.{Json, null, list_of_items}
use Rattle.json_text.specs.Tape.{tag_end}
use Rattle.tape.specs.Decode.{other_items, tag_at, value_at, items_at, list_at}
use Rattle.tape.specs.Promise.{After, Next, Left}
use Rattle.content.specs.Folding.{FoldPen, Folded}
use Rattle.content.proofs.Folding.{as-folded}
use Rattle.tape.proofs.Tags.{on-tape, end-pop}
use Rattle.tape.proofs.Values.{list-end, list-first, list-next}
use Rattle.tape.proofs.Walks.{Along, along-start, along-next, along-end}
use Rattle.ical_values.specs.Valued.{all_taken}
use Rattle.ical_values.proofs.Places.{end-null}

-- the places
module _ {t : List ℕ} {i : ℕ} where
  pub group-start : ((tag_at t i ≡ tag_end) → ⊥) → Along t i i
  group-start n = along-start (omega (arith, on-tape t i n))

  pub left_here : {e : ℕ} → tag_at t i ≡ tag_end → After t i e → Left t i e
  left_here z x = record { is = x.is ∙ sym (end-pop t i z); low = x.low; high = x.high }

-- the tests
module _ (several : Bool) (p : Json → Bool) (t : List ℕ) (i : ℕ) where
  pub taken_none : tag_at t i ≡ tag_end → all_taken several p (list_at t i) ≡ several
  unfolding all_taken single all
  taken_none z = rw (list-end t i z, or-false-right several) (and-true-right several)

  module _ (n : (tag_at t i ≡ tag_end) → ⊥) where
    pub taken-stop : p (value_at t i) ≡ false → all_taken several p (list_at t i) ≡ false
    unfolding all_taken all
    taken-stop h = let a : all p (list_at t i) ≡ false = rw (list-first t i n, h) in rw a (and-false-right (several or single (list_at t i)))

    module _ {e : ℕ} (x : Next t i e) where
      pub taken-last : tag_at t e ≡ tag_end → p (value_at t i) ≡ true → all_taken several p (list_at t i) ≡ true
      unfolding all_taken single filled all
      taken-last z h = rw (list-next x n, list-end t e z, h, or_true_right several)

      pub taken-several : ((tag_at t e ≡ tag_end) → ⊥) → several ≡ false → all_taken several p (list_at t i) ≡ false
      unfolding all_taken single filled
      taken-several m f = rw (list-next x n, list-first t e m, f)

      pub taken-on : several ≡ true → p (value_at t i) ≡ true → all_taken several p (list_at t i) ≡ all_taken several p (list_at t e)
      unfolding all_taken all
      taken-on f h = rw (f, list-next x n, h)

-- as written, with a separator between them
module _ (sep : ℕ) (w : Json → List ℕ) (t : List ℕ) (i : ℕ) where
  pub joined-none : tag_at t i ≡ tag_end → [] ≡ joined sep (map w (list_at t i))
  unfolding joined
  joined-none z = rw (list-end t i z)

  module _ (n : (tag_at t i ≡ tag_end) → ⊥) {e : ℕ} (x : Next t i e) where
    pub joined-last : tag_at t e ≡ tag_end → joined sep (map w (list_at t i)) ≡ w (value_at t i)
    unfolding joined
    joined-last z = rw (list-next x n, list-end t e z)

    pub joined-more : ((tag_at t e ≡ tag_end) → ⊥) → joined sep (map w (list_at t i)) ≡ w (value_at t i) ++ sep ∷ joined sep (map w (list_at t e))
    joined-more m = rw (list-next x n, list-first t e m) (by (w (value_at t i)) (w (value_at t e)) (map w (list_of_items (other_items (items_at t e)))))
      where
        by : (l k : List ℕ) (ls : List (List ℕ)) → joined sep (l ∷ k ∷ ls) ≡ l ++ sep ∷ joined sep (k ∷ ls)
        by l k ls = unfold joined in refl

-- a value that stands alone
module _ (p : Json → Bool) (t : List ℕ) (i : ℕ) where
  pub alone-stop : p (value_at t i) ≡ false → all_taken false p (list_at t i) ≡ false
  alone-stop h = same? (tag_at t i) tag_end (λ z. taken_none false p t i z) (λ n. taken-stop false p t i (eqb-false _ _ n) h)

  module _ {e : ℕ} (x : Next t i e) where
    pub alone-more : ((tag_at t e ≡ tag_end) → ⊥) → all_taken false p (list_at t i) ≡ false
    alone-more m = same? (tag_at t i) tag_end (λ z. taken_none false p t i z) (λ n. taken-several false p t i (eqb-false _ _ n) x m refl)

    pub alone : (w : Json → List ℕ) {f g : FoldPen} {k : ℕ} → p null ≡ false → p (value_at t i) ≡ true → Folded f (w (value_at t i)) g → tag_at t e ≡ tag_end → After t e k
        → (all_taken false p (list_at t i) ≡ true) × Folded f (joined (code ",") (map w (list_at t i))) g × Left t i k
    alone w o h v z a =
        let n : (tag_at t i ≡ tag_end) → ⊥ = λ y. never h (ap p (end-null t i y) ∙ o) in
        (taken-last false p t i n x z h, as-folded v (sym (joined-last (code ",") w t i n x z)), along-end (along-next (group-start n) x) z a)
