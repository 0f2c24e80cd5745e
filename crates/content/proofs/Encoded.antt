-- RFC 6868: what is encoded is decoded again; and what a value is once it is encoded.
use Prim.Native.Nat.{ℕ, ◌+◌, ◌-◌, ◌≤◌, ◌<◌}
use Prim.Native.Char.{code}
use mathlib.Core.Path.{◌≡◌, refl, ap, ◌∙◌}
use mathlib.Core.Bool.{Bool, true, false, not}
use mathlib.Core.List.{List, [], ◌∷◌, ◌++◌, append-nil}
use native.Mathlib.Omega.{arith}
use borrow.Author.Tests.{not-true}
use lib.Dec.{eqb}
use lib.ListN.{length, get_or, take, drop}
use Rattle.octets.specs.Basics.{octets, all, any}
use Rattle.octets.specs.Classes.{is_control, plain_octet, text_octet}
use Rattle.octets.specs.Groups.{caret_free}
use Rattle.octets.specs.Search.{ClassRun}
use Rattle.octets.specs.Utf8.{utf8}
use Rattle.octets.proofs.Cases.{cases, same?, both, apart-not}
use Rattle.octets.proofs.Pieces.{Free}
use Rattle.octets.proofs.Positions.{here, ended, from}
use Rattle.octets.proofs.Runs.{run-left}
use Rattle.octets.proofs.Utf8.{ascii}
use Rattle.octets.proofs.Transducer.{Runs, Keeps, run-all, run-utf8}
use Rattle.octets.proofs.Classes.{text-plain}
use Rattle.content.specs.Carets.{decoded_octet, caret_after, decoded_from, decoded, encoded_octet, encoded}
use Rattle.content.specs.Write.{asks_quotes}

-- an octet as it is read back
decoded-octet : (c : ℕ) (s : List ℕ) → decoded_from false (encoded_octet c ++ s) ≡ c ∷ decoded_from false s
unfolding decoded_from decoded_octet caret_after encoded_octet
decoded-octet c s =
    same? c (code "^") (λ e. rw e) λ n₁.
    same? c (code "\"") (λ e. rw e) λ n₂.
    same? c (code "\n") (λ e. rw e) λ n₃. rw (n₁, n₂, n₃, n₁)

pub decoded-encoded : (v : List ℕ) → decoded (encoded v) ≡ v
unfolding decoded encoded
decoded-encoded [] = unfold decoded_from in refl
decoded-encoded (c ∷ v) = decoded-octet c (encoded v) ∙ ap (λ l. c ∷ l) (decoded-encoded v)

-- an octet that no caret encodes
stays : (c : ℕ) → caret_free c ≡ true → encoded_octet c ≡ c ∷ []
unfolding encoded_octet caret_free
stays c h =
    let k = both (not (eqb c (code "^"))) _ h in
    let q = both (not (eqb c (code "\""))) _ k.1 in
    rw (not-true (eqb c (code "^")) k.0, not-true (eqb c (code "\"")) q.0, not-true (eqb c (code "\n")) q.1)

-- the value from a position on
module _ (v : List ℕ) where
  pub encoded-here : (i : ℕ) → i < length v → encoded (drop i v) ≡ encoded_octet (get_or v i 0) ++ encoded (drop (i + 1) v)
  unfolding encoded
  encoded-here i h = rw (here v i h)

  pub encoded-ended : (i : ℕ) → length v ≤ i → encoded (drop i v) ≡ []
  unfolding encoded
  encoded-ended i h = rw (ended v i h)

  -- a run of octets that no caret encodes, from i to r
  pub encoded-run : {i r : ℕ} → ClassRun caret_free v i r → encoded (drop i v) ≡ take (r - i) (drop i v) ++ encoded (drop r v)
  unfolding encoded
  encoded-run w = run-left encoded (λ c s h. rw (stays c h)) w

  -- nothing is encoded at all
  pub encoded-whole : ClassRun caret_free v 0 (length v) → encoded v ≡ v
  encoded-whole w = encoded-run w ∙ rw (encoded-ended (length v) (omega arith), from v 0) (append-nil v)

-- no double quote is left, and quotes are asked for as before
pub no-quotes : (v : List ℕ) → Free (code "\"") (encoded v)
unfolding encoded encoded_octet
no-quotes [] = tt
no-quotes (c ∷ v) =
    same? c (code "^") (λ e. rw e (refl, (refl, no-quotes v))) λ n₁.
    same? c (code "\"") (λ e. rw e (refl, (refl, no-quotes v))) λ n₂.
    same? c (code "\n") (λ e. rw e (refl, (refl, no-quotes v))) λ n₃. rw (n₁, n₂, n₃) (n₂, no-quotes v)

pub asks-alike : (v : List ℕ) → any asks_quotes (encoded v) ≡ any asks_quotes v
unfolding encoded encoded_octet any asks_quotes
asks-alike [] = refl
asks-alike (c ∷ v) =
    same? c (code "^") (λ e. rw e (asks-alike v)) λ n₁.
    same? c (code "\"") (λ e. rw e (asks-alike v)) λ n₂.
    same? c (code "\n") (λ e. rw e (asks-alike v)) λ n₃. rw (n₁, n₂, n₃, asks-alike v)

-- encoding as a transducer without state
encodes : Runs (Unit {0}) (λ q c. q) (λ q c. encoded_octet c) (λ q. []) (λ q s. encoded s)
unfolding encoded
encodes = record { ends = λ q. refl; steps = λ q c s. refl }

-- an octet encoded, and a test that the carets' octets pass
octet-all : (r : ℕ → Bool) (c : ℕ) → all r (octets "^^") ≡ true → all r (octets "^'") ≡ true → all r (octets "^n") ≡ true → (eqb c (code "\n") ≡ false → r c ≡ true) → all r (encoded_octet c) ≡ true
unfolding encoded_octet
octet-all r c h₁ h₂ h₃ f =
    cases (eqb c (code "^")) (λ e. rw e h₁) λ n₁.
    cases (eqb c (code "\"")) (λ e. rw (n₁, e) h₂) λ n₂.
    cases (eqb c (code "\n")) (λ e. rw (n₁, n₂, e) h₃) λ n₃. rw (n₁, n₂, n₃) (unfold all in rw (f n₃))

-- UTF-8 stays UTF-8
pub encoded-utf8 : (v : List ℕ) → utf8 v ≡ true → utf8 (encoded v) ≡ true
encoded-utf8 v h = run-utf8 (Unit {0}) (λ q c. q) (λ q c. encoded_octet c) (λ q. []) (λ q s. encoded s) encodes (λ q. []) keeps v tt h
  where
    high : (c : ℕ) → ascii c ≡ false → encoded_octet c ≡ c ∷ []
    high c h = unfold encoded_octet in rw (apart-not ascii c (code "^") h (unfold ascii in refl), apart-not ascii c (code "\"") h (unfold ascii in refl), apart-not ascii c (code "\n") h (unfold ascii in refl))

    keeps : Keeps (Unit {0}) (λ q c. q) (λ q c. encoded_octet c) (λ q. []) (λ q. [])
    keeps = record {
      high = λ q c h. high c h;
      calm = λ q c h. refl;
      lows = λ q c h. octet-all ascii c (unfold all ascii in refl) (unfold all ascii in refl) (unfold all ascii in refl) (λ n. h);
      pres = λ q. unfold all in refl;
      lasts = λ q. unfold all in refl;
    }

-- a text has no control character but tab once its newlines are encoded
pub encoded-plain : (v : List ℕ) → all text_octet v ≡ true → all plain_octet (encoded v) ≡ true
encoded-plain v h = run-all (Unit {0}) (λ q c. q) (λ q c. encoded_octet c) (λ q. []) (λ q s. encoded s) encodes text_octet plain_octet each (λ q. unfold all in refl) v tt h
  where
    each : (q : Unit {0}) (c : ℕ) → text_octet c ≡ true → all plain_octet (encoded_octet c) ≡ true
    each q c h = octet-all plain_octet c (unfold all plain_octet is_control in refl) (unfold all plain_octet is_control in refl) (unfold all plain_octet is_control in refl) (text-plain c h)
