-- Extended texts of a form: what one that is read is, that its length is the form's, and the form of two that a text has, by its length.
use Prim.Native.Nat.{ℕ, suc, ◌+◌}
use mathlib.Core.Path.{◌≡◌, refl, sym, ap, ◌∙◌}
use mathlib.Core.Bool.{Bool, true, false, false≢true}
use mathlib.Core.List.{List, [], ◌∷◌, ◌++◌}
use mathlib.Core.Option.{Option, none, some}
use native.Mathlib.Omega.{arith}
use lib.Dec.{leb}
use lib.ListN.{length}
use Rattle.octets.specs.Optional.{map?, or?}
use Rattle.octets.proofs.Cases.{cases, same?, both, and-true, itself, or-first, or-second, or-false-right}
use Rattle.calendar.proofs.Options.{or-none}
use Rattle.calendar.specs.Forms.{Slot, digit, sign, letter, added, takes, fits, kept, extended, fits_either, extended_either, keeps, basic}

-- what `kept` tells
pub record Kept (b : Bool) (x : ℕ) (r : Option (List ℕ)) (t : List ℕ) : Type 0 where
  pub tail : List ℕ
  pub passed : b ≡ true
  pub rest : r ≡ some tail
  pub whole : t ≡ x ∷ tail

pub kept-tells : (b : Bool) (x : ℕ) (r : Option (List ℕ)) (t : List ℕ) → kept b x r ≡ some t → Kept b x r t
unfolding kept map?
kept-tells false x r t e = let z : ◌≡◌ {A = ℕ} 0 1 = cc in absurd (omega arith)
kept-tells true x none t e = let z : ◌≡◌ {A = ℕ} 0 1 = cc in absurd (omega arith)
kept-tells true x (some u) t e = record { tail = u; passed = refl; rest = refl; whole = cc }

-- how many places of a form the basic form has
unfoldable pub width : List Slot → ℕ
width [] = 0
width (p ∷ f) = length (keeps p 0) + width f

-- The extended text t of s, by a form.
pub record Fitted (f : List Slot) (s t : List ℕ) : Type 0 where
  pub has : fits f t ≡ true
  pub back : basic f t ≡ s
  pub count : length t ≡ length f
  pub read : length s ≡ width f

-- at a place that the basic form has too
module _ (p : Slot) (reads : (f : List Slot) (x : ℕ) (xs : List ℕ) → extended (p ∷ f) (x ∷ xs) ≡ kept (takes p x) x (extended f xs)) (writes : (x : ℕ) → keeps p x ≡ x ∷ []) where
  fitted-on : (f : List Slot) (x : ℕ) (xs t : List ℕ) → ((u : List ℕ) → extended f xs ≡ some u → Fitted f xs u) → extended (p ∷ f) (x ∷ xs) ≡ some t → Fitted (p ∷ f) (x ∷ xs) t
  unfolding fits basic width
  fitted-on f x xs t ih e =
      let k = kept-tells (takes p x) x (extended f xs) t (sym (reads f x xs) ∙ e) in
      let r = ih k.tail k.rest in
      rw k.whole (record { has = and-true k.passed r.has; back = rw (writes x, r.back); count = ap suc r.count; read = rw (writes 0) (omega (arith, r.read)) })

letter-reads : (l : ℕ) (f : List Slot) (x : ℕ) (xs : List ℕ) → extended (letter l ∷ f) (x ∷ xs) ≡ kept (takes (letter l) x) x (extended f xs)
letter-reads l f x xs = same? x l (λ e. rw e (unfold extended takes in refl)) (λ e. unfold extended takes kept in rw e)

-- and at one that only the extended form has
fitted-added : (a : ℕ) (f : List Slot) (s u t : List ℕ) → Fitted f s u → t ≡ a ∷ u → Fitted (added a ∷ f) s t
unfolding fits takes basic keeps width
fitted-added a f s u t r e = rw e (record { has = and-true (itself a) r.has; back = r.back; count = ap suc r.count; read = omega (arith, r.read) })

pub fitted : (f : List Slot) (s t : List ℕ) → extended f s ≡ some t → Fitted f s t
unfolding extended
fitted [] [] t e = let q : t ≡ [] = cc in rw q (record { has = unfold fits in refl; back = unfold basic in refl; count = refl; read = unfold width in refl })
fitted [] (x ∷ s) t e = let z : ◌≡◌ {A = ℕ} 0 1 = cc in absurd (omega arith)
fitted (digit ∷ f) [] t e = let z : ◌≡◌ {A = ℕ} 0 1 = cc in absurd (omega arith)
fitted (digit ∷ f) (x ∷ s) t e = fitted-on digit (λ f x xs. unfold takes in refl) (λ x. unfold keeps in refl) f x s t (fitted f s) e
fitted (sign ∷ f) [] t e = let z : ◌≡◌ {A = ℕ} 0 1 = cc in absurd (omega arith)
fitted (sign ∷ f) (x ∷ s) t e = fitted-on sign (λ f x xs. unfold takes in refl) (λ x. unfold keeps in refl) f x s t (fitted f s) e
fitted (letter l ∷ f) [] t e = let z : ◌≡◌ {A = ℕ} 0 1 = cc in absurd (omega arith)
fitted (letter l ∷ f) (x ∷ s) t e = fitted-on (letter l) (letter-reads l) (λ x. unfold keeps in refl) f x s t (fitted f s) e
fitted (added a ∷ f) s t e = let k = kept-tells true a (extended f s) t e in fitted-added a f s k.tail t (fitted f s k.tail k.rest) k.whole

-- a text of another length is not read, and has not the form
not-read : (f : List Slot) (s : List ℕ) → (length s ≡ width f → ⊥) → extended f s ≡ none
not-read f s n = go (extended f s) refl
  where
    go : (o : Option (List ℕ)) → extended f s ≡ o → o ≡ none
    go none e = refl
    go (some t) e = absurd (n (fitted f s t e).read)

fits-length : (f : List Slot) (t : List ℕ) → fits f t ≡ true → length t ≡ length f
unfolding fits
fits-length [] [] h = refl
fits-length [] (x ∷ t) h = absurd (false≢true h)
fits-length (p ∷ f) [] h = absurd (false≢true h)
fits-length (p ∷ f) (x ∷ t) h = ap suc (fits-length f t (both (takes p x) (fits f t) h).1)

pub not-fitting : (f : List Slot) (t : List ℕ) → (length t ≡ length f → ⊥) → fits f t ≡ false
not-fitting f t n = cases (fits f t) (λ e. absurd (n (fits-length f t e))) (λ e. e)

-- one of two forms
pub fits-either : (form : Bool → List Slot) (b : Bool) (t : List ℕ) → fits (form b) t ≡ true → fits_either form t ≡ true
unfolding fits_either
fits-either form false t h = or-first (fits (form true) t) h
fits-either form true t h = or-second (fits (form false) t) h

-- which of them it is, where the length tells
module _ (form : Bool → List Slot) (n : ℕ) where
  other : (w m : ℕ) {b : Bool} → leb n w ≡ b → {d : Bool} → leb n m ≡ d → (b ≡ d → ⊥) → m ≡ w → ⊥
  other w m e f d q = d (sym e ∙ ap (leb n) (sym q) ∙ f)

  pub read-by-length : leb n (width (form false)) ≡ false → leb n (width (form true)) ≡ true → (s : List ℕ)
      → extended_either form s ≡ extended (form (leb n (length s))) s
  unfolding extended_either or?
  read-by-length l h s =
      cases (leb n (length s))
      (λ e. rw (e, not-read (form false) s (other _ _ l e false≢true)))
      (λ e. rw (e, not-read (form true) s (other _ _ h e (λ q. false≢true (sym q)))) (or-none _))

  pub fits-by-length : leb n (length (form false)) ≡ false → leb n (length (form true)) ≡ true → (t : List ℕ)
      → fits_either form t ≡ fits (form (leb n (length t))) t
  unfolding fits_either
  fits-by-length l h t =
      cases (leb n (length t))
      (λ e. rw (e, not-fitting (form false) t (other _ _ l e false≢true)))
      (λ e. rw (e, not-fitting (form true) t (other _ _ h e (λ q. false≢true (sym q)))) (or-false-right _))

-- a text that ends before the form does has the basic text of a beginning of the form
pub basic-none : (g : List Slot) → basic g [] ≡ []
unfolding basic
basic-none [] = refl
basic-none (p ∷ g) = refl

pub basic-front : (f g : List Slot) (t : List ℕ) → fits f t ≡ true → basic (f ++ g) t ≡ basic f t
unfolding basic fits
basic-front [] g [] h = basic-none g
basic-front [] g (x ∷ t) h = absurd (false≢true h)
basic-front (p ∷ f) g [] h = refl
basic-front (p ∷ f) g (x ∷ t) h = rw (basic-front f g t (both (takes p x) (fits f t) h).1)
