-- The loop over a string: runs, escapes, the closing quote.
use Prim.Native.Nat.{ℕ, ◌<◌}
use mathlib.Core.Path.{◌≡◌, sym, ap, ◌∙◌}
use mathlib.Core.Bool.{false}
use mathlib.Core.List.{List, [], ◌∷◌, ◌++◌, append_assoc}
use native.Mathlib.Omega.{arith}
use lib.ListN.{length, take, drop, get_or}
use Rattle.octets.specs.Pen.{Pen, pen, Wrote}
use Rattle.octets.specs.Groups.{json_unescaped}
use Rattle.json_text.specs.Reads.{ok, fmap, and_then}
use Rattle.json_text.specs.Strings.{escape, string}
use Rattle.json_text.specs.Tape.{tag_end, ser_text}
use Rattle.octets.specs.Search.{ClassRun}
use Rattle.json_text.specs.Promise.{Agrees, read, not-json}
use Rattle.std.specs.Borrow.{Bor}
use Rattle.std.specs.Prelude.{Ok, Err}
use Rattle.json_text.specs.declared.JsonError.{JsonError}
use Rattle.json_text.specs.declared.JsonError.TheVariants.{NotJson}
use Rattle.json_text.proofs.Outs.{given}
use Rattle.json_text.proofs.StringLaws.{Small, small-escape, string-run, string-quote, string-escape, string-none}
use Rattle.json_text.proofs.Agreements.{HasRead, Going, going_on, agrees-by, agrees-fails}

module _ {p q : Pen} {s₀ s : List ℕ} (g : Going ser_text string p s₀ q s) where
  pub text-run : {n : ℕ} {q' : Pen} {r : List ℕ} → ClassRun json_unescaped s 0 n → Wrote q (take n s) q' → r ≡ drop n s → Going ser_text string p s₀ q' r
  text-run {n} {r = r} w v e = going_on r (λ ys. take n s ++ ys) g v (λ a. sym (append_assoc (take n s) a (tag_end ∷ []))) (string-run s w ∙ ap (λ t. fmap (λ zs. take n s ++ zs) (string t)) (sym e))

  pub text-close : {t : List ℕ} {to : ℕ} {r : Bor (List ℕ)} → s ≡ 34 ∷ r.now → Wrote q (tag_end ∷ []) (pen t to) → Agrees ser_text p t (string s₀) (Ok (r, to))
  text-close {t} {to} {r} h w = g.goes t (Ok (r, to)) (read {r = r} [] (ap string h ∙ string-quote r.now) w)

  pub text-none : {t : List ℕ} → json_unescaped (get_or s 0 0) ≡ false → ((get_or s 0 0 ≡ 34) → ⊥) → ((get_or s 0 0 ≡ 92) → ⊥) → Agrees ser_text p t (string s₀) (Err NotJson)
  text-none {t} h a b = g.goes t (Err NotJson) (not-json (string-none s h a b))

  module _ {u : List ℕ} (h : s ≡ 92 ∷ u) {t : List ℕ} where
    pub text-fails : {w : JsonError} → Agrees (λ xs. xs) q t (escape u) (Err w) → Agrees ser_text p t (string s₀) (Err w)
    text-fails {w} x = g.goes t (Err w) (agrees-by (ap string h ∙ string-escape u) (agrees-fails _ x))

    pub text-escape : {e : List ℕ} {to : ℕ} → HasRead (λ xs. xs) q t (escape u) e to → Going ser_text string p s₀ (pen t to) e
    text-escape {e} x =
        going_on e (λ ys. x.it ++ ys) g x.wrote (λ a. sym (append_assoc x.it a (tag_end ∷ [])))
        (ap string h ∙ string-escape u ∙ ap (λ o. and_then o (λ xs s. fmap (λ ys. xs ++ ys) (string s))) x.is)

-- an escape takes an octet at least
pub escape-less : (s : List ℕ) {t xs : List ℕ} → escape s ≡ ok xs t → length t < length s
escape-less s e = let w = given (Small s) e (small-escape s) in omega (arith, w.0, w.1)
