-- A list that is filled from the front: of `all` that is to be stored `rest` is left, and i places are done.
use Prim.Native.Nat.{ℕ, ◌+◌, ◌≤◌, ◌<◌}
use mathlib.Core.Path.{◌≡◌, refl, sym, ap, ◌∙◌}
use mathlib.Core.List.{List, [], ◌∷◌, ◌++◌, append_assoc, append-nil}
use native.Mathlib.Omega.{arith}
use native.Mathlib.Numerals.{add-one}
use lib.ListN.{length, take, drop, set, length-set, length-append, take-append-drop}
use lib.Seq.{take-suc-set, drop-set-lt, length-take-le, drop-drop}
use Rattle.stop_list.specs.declared.Stop.{Stop}
use Rattle.stop_list.specs.Runs.{StopsLaid}

pub record Filling {A : Type 0} (all rest old new : List A) (i : ℕ) : Type 0 where
  pub within : i ≤ length old
  pub long : length new ≡ length old
  pub front : take i new ++ rest ≡ all
  pub behind : drop i new ≡ drop i old

module _ {A : Type 0} (all old : List A) where
  pub begins : Filling all all old old 0
  begins = record { within = omega arith; long = refl; front = refl; behind = refl }

  pub turns : (rest new : List A) (x : A) (i : ℕ) → i < length old → Filling all (x ∷ rest) old new i → Filling all rest old (set new i x) (i + 1)
  turns rest new x i h f =
      record {
        within = omega arith;
        long = length-set new i x ∙ f.long;
        front = rw (add-one i, take-suc-set new i x (omega (arith, f.long)), append_assoc (take i new) (x ∷ []) rest) f.front;
        behind = rw (drop-set-lt (i + 1) new i x (omega arith)) (sym (drop-drop 1 i new) ∙ ap (drop 1) f.behind ∙ drop-drop 1 i old);
      }

  ends : (rest new : List A) (i : ℕ) → rest ≡ [] → Filling all rest old new i → (i ≡ length all) × (new ≡ all ++ drop i old)
  ends rest new i e f = (
    sym (length-take-le i new (rw f.long f.within)) ∙ ap length whole,
    sym (take-append-drop i new) ∙ ap (λ (l : List A). l ++ drop i new) whole ∙ ap (λ (l : List A). all ++ l) f.behind,
  )
    where
      whole : take i new ≡ all
      whole = sym (append-nil (take i new)) ∙ ap (λ (l : List A). take i new ++ l) (sym e) ∙ f.front

  -- the list is full
  pub full : (rest new : List A) (i : ℕ) → length old ≤ i → length all ≤ length old → Filling all rest old new i → rest ≡ []
  full rest new i g h f = none rest (let e = ap length f.front in let w = f.within in omega (arith, length-append (take i new) rest, length-take-le i new (rw f.long f.within), e))
    where
      none : (l : List A) → length l ≡ 0 → l ≡ []
      none [] z = refl
      none (x ∷ xs) z = absurd (omega arith)

-- nothing is left
pub laid : (all rest old new : List Stop) (i : ℕ) → rest ≡ [] → Filling all rest old new i → StopsLaid all old new i
laid all rest old new i e f = let d = ends all old rest new i e f in record { count = d.0; list = d.1 ∙ ap (λ n. all ++ drop n old) d.0 }

-- or the list is full
pub laid_full : (all rest old new : List Stop) (i : ℕ) → i ≤ length old → length old ≤ i → length all ≤ length old → Filling all rest old new i → StopsLaid all old new (length old)
laid_full all rest old new i g h k f = let e : i ≡ length old = omega arith in rw e at (laid all rest old new i (full all old rest new i h k f) f)
