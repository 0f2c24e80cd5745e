-- The elements of an array or an object, and the loop over them.
use Prim.Native.Nat.{ℕ, zero, suc, ◌≤◌, ◌<◌}
use mathlib.Core.Path.{◌≡◌, refl, sym, ap, ◌∙◌}
use mathlib.Core.List.{List, [], ◌∷◌, ◌++◌}
use native.Mathlib.Omega.{arith}
use lib.Dec.{eqb}
use lib.ListN.{length, get_or}
use borrow.Author.Tests.{eq-eqb, ne_eqb}
use Rattle.octets.specs.Pen.{Pen, pen}
use Rattle.octets.proofs.Cases.{cases}
use Rattle.json_text.specs.Tree.{Json}
use Rattle.json_text.specs.Reads.{Out, bad, fmap, and_then, skip_space, literal}
use Rattle.json_text.specs.Reader.{Separator, comma, close, odd, separator_of, member_key, pair, after_element, on_mark, elements_up_to, elements_from, bracketed}
use Rattle.json_text.specs.Tape.{tag_end, ser_string, ser}
use Rattle.json_text.specs.Promise.{Agrees}
use Rattle.std.specs.Prelude.{Err}
use Rattle.json_text.specs.declared.JsonError.{JsonError}
use Rattle.json_text.proofs.Outs.{Gives, gives-weaker, given, then-alike}
use Rattle.json_text.proofs.Tapes.{ser_list, ser_pair}
use Rattle.json_text.proofs.Sizes.{skip-less}
use Rattle.json_text.proofs.Agreements.{Answer, HasRead, Going, going_on, agrees-by, agrees_after, agrees-map, agrees-fails}

-- each element takes an octet at least, so that one more than the octets is enough
abbrev pub Shortens : {A : Type 0} → (List ℕ → Out A) → Type 0
Shortens P = (s : List ℕ) → Gives (λ _ t. length t < length s) (P s)

unfoldable pub several : {A : Type 0} → ℕ → (List ℕ → Out A) → List ℕ → Out (List A)
several end P s = elements_up_to end P (suc (length s)) s

module _ {A : Type 0} (end : ℕ) (P : List ℕ → Out A) (h : Shortens P) where
  -- what follows an element
  abbrev After : (List ℕ → Out (List A)) → A → List ℕ → Out (List A)
  After more a s = on_mark end (λ m u. after_element m more a u) (skip_space s)

  after-alike : (more more' : List ℕ → Out (List A)) (a : A) (t : List ℕ) → ((u : List ℕ) → length u < length t → more u ≡ more' u) → After more a t ≡ After more' a t
  after-alike more more' a t e = go (skip_space t) (skip-less t)
    where
      mark : (m : Separator) (u : List ℕ) → length u < length t → after_element m more a u ≡ after_element m more' a u
      mark comma u l = unfold after_element in ap (fmap (λ w. a ∷ w)) (e (skip_space u) (omega (arith, skip-less u)))
      mark close u l = unfold after_element in refl
      mark odd u l = unfold after_element in refl

      go : (v : List ℕ) → length v ≤ length t → on_mark end (λ m u. after_element m more a u) v ≡ on_mark end (λ m u. after_element m more' a u) v
      go [] l = unfold on_mark in refl
      go (b ∷ u) l = unfold on_mark in mark (separator_of end b) u (omega arith)

  elements-enough : (n m : ℕ) (s : List ℕ) → length s < n → length s < m → elements_up_to end P n s ≡ elements_up_to end P m s
  unfolding elements_up_to
  elements-enough zero m s k l = absurd (omega arith)
  elements-enough (suc n) zero s k l = absurd (omega arith)
  elements-enough (suc n) (suc m) s k l = then-alike (P s) _ _
      (gives-weaker _ _ (P s) (h s) (λ a t w. after-alike (elements_up_to end P n) (elements_up_to end P m) a t (λ u v. elements-enough n m u (omega arith) (omega arith))))

  -- an element, and what follows it
  several-step : (s : List ℕ) → several end P s ≡ and_then (P s) (After (several end P))
  unfolding several elements_up_to
  several-step s = then-alike (P s) _ _
      (gives-weaker _ _ (P s) (h s) (λ a t w. after-alike (elements_up_to end P (length s)) (several end P) a t (λ u v. elements-enough (length s) (suc (length u)) u (omega arith) (omega arith))))

-- what follows `[` or `{`, by what v begins with, behind white space
module _ {A : Type 0} (f : A → List ℕ) (end : ℕ) (P : List ℕ → Out A) (s : List ℕ) {v : List ℕ} (blank : v ≡ skip_space s) where
  group-ends : get_or v 0 0 ≡ end → 0 < end → bracketed end P s ≡ fmap (λ _. []) (literal (end ∷ []) v)
  unfolding bracketed
  group-ends e z = ap (elements_from end P) (sym blank) ∙ go v e
    where
      go : (v : List ℕ) → get_or v 0 0 ≡ end → elements_from end P v ≡ fmap (λ _. []) (literal (end ∷ []) v)
      go [] e = absurd (omega (arith, e, z))
      go (b ∷ v) e = unfold elements_from literal in rw (eq-eqb b end e)

  pub group-none : {p : Pen} {t : List ℕ} {r : Answer} → get_or v 0 0 ≡ end → 0 < end → Agrees (λ _. tag_end ∷ []) p t (literal (end ∷ []) v) r → Agrees (ser_list f) p t (bracketed end P s) r
  unfolding ser_list
  group-none e z x = agrees-by (group-ends e z) (agrees-map (ser_list f) (λ _. []) (λ _. refl) x)

  pub group-some : P [] ≡ bad → ((get_or v 0 0 ≡ end) → ⊥) → bracketed end P s ≡ several end P v
  unfolding bracketed
  group-some none n = ap (elements_from end P) (sym blank) ∙ go v n
    where
      go : (v : List ℕ) → ((get_or v 0 0 ≡ end) → ⊥) → elements_from end P v ≡ several end P v
      go [] n = unfold elements_from several elements_up_to in rw none
      go (b ∷ v) n = unfold elements_from several elements_up_to in rw (ne_eqb b end n)

-- an element that was read took an octet at least
pub element-less : {A : Type 0} {f : A → List ℕ} (P : List ℕ → Out A) (s : List ℕ) {p : Pen} {t rest : List ℕ} {to : ℕ} → Shortens P → HasRead f p t (P s) rest to → length rest < length s
element-less P s h x = given (λ _ t. length t < length s) x.is (h s)

-- and so the next one begins further on
pub turn-less : (s rest u : List ℕ) {v s' : List ℕ} → length rest < length s → v ≡ skip_space rest → v ≡ 44 ∷ u → s' ≡ skip_space u → length s' < length s
turn-less s rest u l b c n = omega (arith, l, ap length b, skip-less rest, ap length c, ap length n, skip-less u)

-- one turn of the loop over the elements
module _ {A : Type 0} (f : A → List ℕ) (end : ℕ) (P : List ℕ → Out A) (h : Shortens P) {p q : Pen} {s₀ s : List ℕ} (g : Going (ser_list f) (several end P) p s₀ q s) where
  -- an element that is not read ends the reading
  pub element-fails : {t : List ℕ} {w : JsonError} → Agrees f q t (P s) (Err w) → Agrees (ser_list f) p t (several end P s₀) (Err w)
  element-fails {t} {w} x = g.goes t (Err w) (agrees-by (several-step end P h s) (agrees-fails _ x))

  -- an element was read, and v is behind white space
  module _ {t rest v : List ℕ} {to : ℕ} (x : HasRead f q t (P s) rest to) (blank : v ≡ skip_space rest) where
    element-then : several end P s ≡ on_mark end (λ m u. after_element m (several end P) x.it u) v
    element-then = several-step end P h s ∙ rw (x.is, ← blank)

    pub element-more : {u s' : List ℕ} → v ≡ 44 ∷ u → s' ≡ skip_space u → Going (ser_list f) (several end P) p s₀ (pen t to) s'
    element-more {u} {s'} c next = going_on s' (λ w. x.it ∷ w) g x.wrote tape (element-then ∙ step)
      where
        tape : (w : List A) → f x.it ++ ser_list f w ≡ ser_list f (x.it ∷ w)
        tape w = unfold ser_list in refl

        step : on_mark end (λ m u. after_element m (several end P) x.it u) v ≡ fmap (λ w. x.it ∷ w) (several end P s')
        step = unfold on_mark separator_of after_element in rw (c, next)

    element-last : (v : List ℕ) → ((get_or v 0 0 ≡ 44) → ⊥) → on_mark end (λ m u. after_element m (several end P) x.it u) v ≡ fmap (λ _. x.it ∷ []) (literal (end ∷ []) v)
    unfolding on_mark separator_of after_element literal
    element-last [] c = refl
    element-last (b ∷ v) c = rw (ne_eqb b 44 c) (cases (eqb b end) (λ y. rw y) (λ y. rw y))

    pub element-close : {t₁ : List ℕ} {r : Answer} → ((get_or v 0 0 ≡ 44) → ⊥) → Agrees (λ _. tag_end ∷ []) (pen t to) t₁ (literal (end ∷ []) v) r → Agrees (ser_list f) p t₁ (several end P s₀) r
    unfolding ser_list
    element-close {t₁} {r} c y = g.goes t₁ r (agrees-by (element-then ∙ element-last v c) (agrees_after (ser_list f) (λ _. x.it ∷ []) x.wrote (λ _. refl) y))

-- a key and its value
module _ (P : List ℕ → Out Json) (s : List ℕ) {p : Pen} {t : List ℕ} where
  pub pair-agrees : {t₁ a : List ℕ} {to : ℕ} {v : Answer} → HasRead ser_string p t (member_key s) a to → Agrees ser (pen t to) t₁ (P a) v → Agrees ser_pair p t₁ (pair P s) v
  unfolding pair
  pair-agrees x y = agrees-by (ap (λ (o : Out (List ℕ)). and_then o (λ k s. fmap (λ j. record { key = k; it = j }) (P s))) x.is)
      (agrees_after ser_pair (λ j. record { key = x.it; it = j }) x.wrote (λ j. refl) y)

  pub pair-fails : {w : JsonError} → Agrees ser_string p t (member_key s) (Err w) → Agrees ser_pair p t (pair P s) (Err w)
  unfolding pair
  pair-fails x = agrees-fails _ x
