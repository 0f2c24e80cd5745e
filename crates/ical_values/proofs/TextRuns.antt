-- Texts run by run: the octets that stand as they are, and the one behind them.
use Prim.Native.Nat.{ℕ, ◌+◌, ◌-◌, ◌≤◌, ◌<◌}
use Prim.Native.Char.{code}
use mathlib.Core.Path.{◌≡◌, refl, ap, ◌∙◌}
use mathlib.Core.Bool.{true, false}
use mathlib.Core.Logic.{◌⊎◌, ⊎_elim}
use mathlib.Core.List.{List, [], ◌∷◌, ◌++◌}
use borrow.Author.Tests.{ne_eqb}
use lib.Dec.{eqb}
use lib.ListN.{length, get_or, take, drop}
use Rattle.octets.specs.Basics.{all}
use Rattle.octets.specs.Classes.{is_control, plain_octet, text_octet}
use Rattle.octets.specs.Groups.{text_bare}
use Rattle.octets.specs.Search.{ClassRun}
use Rattle.octets.proofs.Cases.{both, apart, or-false-right}
use Rattle.octets.proofs.Classes.{plain-text, bare-plain}
use Rattle.octets.proofs.Positions.{here, ended, part-rest}
use Rattle.octets.proofs.Runs.{run-passes}
use Rattle.values.specs.Texts.{escaped_octet, text_is, text_text}

-- an octet that needs no escape
pub stays : (c : ℕ) → ((c ≡ code "\\") → ⊥) → ((c ≡ code ";") → ⊥) → ((c ≡ code ",") → ⊥) → ((c ≡ code "\n") → ⊥) → escaped_octet c ≡ c ∷ []
unfolding escaped_octet
stays c a b d e = rw (ne_eqb c (code "\\") a, ne_eqb c (code ";") b, ne_eqb c (code ",") d, ne_eqb c (code "\n") e)

-- an octet that is escaped as it stands
pub escaped : (c : ℕ) → (c ≡ code ",") ⊎ ((c ≡ code ";") ⊎ (c ≡ code "\\")) → (text_octet c ≡ true) × (escaped_octet c ≡ code "\\" ∷ c ∷ [])
unfolding text_octet plain_octet is_control escaped_octet
escaped c o = ⊎_elim (λ e. rw e (refl, refl)) (λ o. ⊎_elim (λ e. rw e (refl, refl)) (λ e. rw e (refl, refl)) o) o

-- no newline
pub text-plain : (c : ℕ) → ((c ≡ code "\n") → ⊥) → text_octet c ≡ plain_octet c
unfolding text_octet
text-plain c n = rw (ne_eqb c (code "\n") n) (or-false-right (plain_octet c))

-- an octet of a run
run-octet : (c : ℕ) → text_bare c ≡ true → (text_octet c ≡ true) × (escaped_octet c ≡ c ∷ [])
unfolding text_bare escaped_octet
run-octet c h =
    let no : (k : ℕ) → text_bare k ≡ false → eqb c k ≡ false = λ k n. apart text_bare c k h n in
    (plain-text c (bare-plain c h), rw (no (code "\\") refl, no (code ";") refl, no (code ",") refl, no (code "\n") refl))

-- octets of a run, with a text behind them
run_on : (xs ys : List ℕ) → all text_bare xs ≡ true → text_text (xs ++ ys) ≡ xs ++ text_text ys
unfolding text_text all
run_on [] ys h = refl
run_on (x ∷ xs) ys h = let a = both (text_bare x) _ h in rw ((run-octet x a.0).1, run_on xs ys a.1)

-- a run, and the text behind it
module _ {s : List ℕ} {i r : ℕ} (w : ClassRun text_bare s i r) where
  pub run_is : text_is (drop i s) ≡ text_is (drop r s)
  unfolding text_is all
  run_is = run-passes text_is (λ c t h. rw (run-octet c h).0) w

  pub run-text : text_text (drop i s) ≡ take (r - i) (drop i s) ++ text_text (drop r s)
  run-text = ap text_text (part-rest s i r w.above) ∙ run_on (take (r - i) (drop i s)) (drop r s) w.inside

-- the octet at a place
module _ (s : List ℕ) (i : ℕ) (h : i < length s) where
  pub text-here : text_text (drop i s) ≡ escaped_octet (get_or s i 0) ++ text_text (drop (i + 1) s)
  unfolding text_text
  text-here = rw (here s i h)

  pub text-on : text_octet (get_or s i 0) ≡ true → text_is (drop i s) ≡ text_is (drop (i + 1) s)
  unfolding text_is all
  text-on e = rw (here s i h, e)

  pub text-stop : text_octet (get_or s i 0) ≡ false → text_is (drop i s) ≡ false
  unfolding text_is all
  text-stop e = rw (here s i h, e)

-- the end
pub text-ended : (s : List ℕ) (i : ℕ) → length s ≤ i → (text_is (drop i s) ≡ true) × (text_text (drop i s) ≡ [])
unfolding text_is text_text all
text-ended s i h = (rw (ended s i h), rw (ended s i h))
