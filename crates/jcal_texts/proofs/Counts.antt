-- Texts that are read and counted: one or many, and the two or three of REQUEST-STATUS.
use Prim.Native.Nat.{ℕ, ◌+◌, ◌≤◌, ◌<◌}
use Prim.Native.Char.{code}
use mathlib.Core.Path.{◌≡◌, refl, ap, ◌∙◌}
use mathlib.Core.Bool.{Bool, true, false}
use mathlib.Core.List.{List, [], ◌∷◌, ◌++◌, map, append_assoc}
use mathlib.Core.Option.{some}
use native.Mathlib.Omega.{arith}
use borrow.Author.Tests.{ne_eqb}
use lib.Dec.{eqb}
use lib.ListN.{length}
use Rattle.octets.specs.Basics.{octets, ◌or◌, filled, single}
use Rattle.octets.specs.Optional.{map?, when, guard}
use Rattle.octets.specs.Pen.{Pen, pen, Wrote}
use Rattle.octets.proofs.Pen.{then, as-text, front-behind, front-wrote}
use Rattle.values.specs.TextWalk.{texts, texts_from}
use Rattle.json_text.specs.Tree.{Json, str, arr, items_of}
use Rattle.json_text.specs.Print.{quoted, print_string, print, first_item, values_json}
use Rattle.values.specs.Read.{two_or_three, read_status}
use Rattle.values.proofs.Arrays.{items-json}
use Rattle.values.proofs.TextWalk.{fields-walked}
use Rattle.jcal_texts.specs.Trying.{Tried, WroteTexts}
use Rattle.std.specs.Prelude.{Some, None}

-- one, by the number
one-text : (t : List ℕ) (ts : List (List ℕ)) → single (map str (t ∷ ts)) ≡ eqb (length ts + 1) 1
unfolding single filled
one-text t [] = refl
one-text t (u ∷ ts) = rw (ne_eqb (length (u ∷ ts) + 1) 1 (λ e. omega arith))

module _ {p q : Pen} (many : Bool) (s out : List ℕ) (e n : ℕ) (w : WroteTexts (texts_from (code ",") (code ";") false s) q out (Some (e, n))) (u : Wrote p (octets ",\"") q) where
  fits : (many or single (map str (w.0 ∷ w.1))) ≡ (many or eqb n 1)
  fits = rw (one-text w.0 w.1, w.3)

  pub texts-stand : (many or eqb n 1) ≡ true → Tried (guard (λ vs. many or single vs) (map? (map str) (texts s))) values_json p out (Some e)
  unfolding texts map? guard when values_json print print_string
  texts-stand h = (map str (w.0 ∷ w.1), rw (w.2, fits ∙ h), then u w.4)

  pub texts-differ : (many or eqb n 1) ≡ false → Tried (guard (λ vs. many or single vs) (map? (map str) (texts s))) values_json p out None
  unfolding texts map? guard when
  texts-differ h = (rw (w.2, fits ∙ h), front-wrote (then u w.4))

pub no-texts : {p q : Pen} (many : Bool) (s out : List ℕ) → WroteTexts (texts_from (code ",") (code ";") false s) q out None → Wrote p (octets ",\"") q → Tried (guard (λ vs. many or single vs) (map? (map str) (texts s))) values_json p out None
unfolding texts map? guard
no-texts many s out w u = (rw w.0, front-behind u w.1)

-- REQUEST-STATUS
few : (t : List ℕ) (ts : List (List ℕ)) → length ts + 1 < 2 → two_or_three (t ∷ ts) ≡ false
unfolding two_or_three
few t [] h = refl
few t (u ∷ ts) h = absurd (omega arith)

many : (t : List ℕ) (ts : List (List ℕ)) → 3 < length ts + 1 → two_or_three (t ∷ ts) ≡ false
unfolding two_or_three
many t [] h = refl
many t (u ∷ []) h = absurd (omega arith)
many t (u ∷ v ∷ []) h = absurd (omega arith)
many t (u ∷ v ∷ x ∷ ts) h = refl

two-or-three : (t : List ℕ) (ts : List (List ℕ)) → 2 ≤ length ts + 1 → length ts + 1 ≤ 3 → two_or_three (t ∷ ts) ≡ true
unfolding two_or_three
two-or-three t [] h l = absurd (omega arith)
two-or-three t (u ∷ []) h l = refl
two-or-three t (u ∷ v ∷ []) h l = refl
two-or-three t (u ∷ v ∷ x ∷ ts) h l = absurd (omega arith)

array : (t : List ℕ) (ts : List (List ℕ)) → octets "[\"" ++ (quoted t ++ values_json (map str ts)) ++ octets "]" ≡ print (arr (items_of (map str (t ∷ ts))))
unfolding print print_string first_item items_of
array t ts = rw (items-json (map str ts)) (ap (λ (l : List ℕ). octets "[\"" ++ l) (append_assoc (quoted t) (values_json (map str ts)) (octets "]")))

module _ {p q : Pen} (s out : List ℕ) (e n : ℕ) (w : WroteTexts (texts_from (code ";") (code ",") false s) q out (Some (e, n))) (u : Wrote p (octets "[\"") q) where
  status-none : two_or_three (w.0 ∷ w.1) ≡ false → Tried (read_status s) print p out None
  unfolding read_status map? guard when
  status-none h = (rw (fields-walked s, w.2, h), front-wrote (then u w.4))

  pub status-few : n < 2 → Tried (read_status s) print p out None
  status-few h = status-none (few w.0 w.1 (rw w.3 h))

  pub status-many : 3 < n → Tried (read_status s) print p out None
  status-many h = status-none (many w.0 w.1 (rw w.3 h))

  pub status-stands : {r : Pen} → 2 ≤ n → n ≤ 3 → Wrote (pen out e) (octets "]") r → (j : Json) × (read_status s ≡ some j) × Wrote p (print j) r
  unfolding read_status map? guard when
  status-stands h l v = (arr (items_of (map str (w.0 ∷ w.1))), rw (fields-walked s, w.2, two-or-three w.0 w.1 (rw w.3 h) (rw w.3 l)), as-text (then (then u w.4) v) (array w.0 w.1))

pub no_fields : {p q : Pen} (s out : List ℕ) → WroteTexts (texts_from (code ";") (code ",") false s) q out None → Wrote p (octets "[\"") q → Tried (read_status s) print p out None
unfolding read_status map? guard
no_fields s out w u = (rw (fields-walked s, w.0), front-behind u w.1)
