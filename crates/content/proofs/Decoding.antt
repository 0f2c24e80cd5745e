-- Decoding a parameter value into a JSON string: runs that stay as they are, and the octets between them.
use Prim.Native.Nat.{ℕ, ◌+◌, ◌-◌, ◌≤◌, ◌<◌}
use Prim.Native.Char.{code}
use mathlib.Core.Path.{◌≡◌, refl, sym, ap, ◌∙◌}
use mathlib.Core.Bool.{Bool, true, false, not}
use mathlib.Core.List.{List, [], ◌∷◌, ◌++◌, append_assoc}
use native.Mathlib.Omega.{arith}
use borrow.Author.Tests.{eqb-true, not-true}
use lib.Dec.{eqb}
use lib.ListN.{length, get_or, take, drop}
use lib.Seq.{drop-drop}
use Rattle.octets.specs.Basics.{octets, pick}
use Rattle.octets.proofs.Cases.{same?, both}
use Rattle.octets.proofs.Positions.{here, ended, first_of}
use Rattle.octets.proofs.Runs.{run-left}
use Rattle.json_text.specs.Print.{escaped, quoted}
use Rattle.json_text.proofs.Quotes.{escaped-bare}
use Rattle.content.specs.Carets.{decoded_octet, caret_after, decoded_from, decoded}
use Rattle.octets.specs.Groups.{as_is_octet, param_as_is}
use Rattle.octets.specs.Search.{ClassRun}
use Rattle.content.specs.Object.{stands_for, octets_read}

-- one octet, or a caret and the octet behind it
caret-by : (d : ℕ) (s : List ℕ) (n k q : Bool) → eqb d (code "^") ≡ k → eqb d (code "'") ≡ q
    → pick n (octets "\n") (pick k (octets "^") (pick q (octets "\"") (code "^" ∷ d ∷ []))) ++ decoded_from false s
    ≡ pick n (code "\n") (pick q (code "\"") (code "^")) ∷ decoded_from false (drop (pick n 2 (pick k 2 (pick q 2 1))) (code "^" ∷ d ∷ s))
unfolding decoded_from decoded_octet caret_after
caret-by d s true k q e f = refl
caret-by d s false true true e f = absurd (omega (arith, eqb-true d (code "^") e, eqb-true d (code "'") f))
caret-by d s false true false e f = refl
caret-by d s false false true e f = refl
caret-by d s false false false e f = rw e

turn : (c : ℕ) (s : List ℕ) → decoded_from false (c ∷ s) ≡ stands_for c (get_or s 0 0) ∷ decoded_from false (drop (octets_read c (get_or s 0 0)) (c ∷ s))
unfolding decoded_from decoded_octet caret_after stands_for octets_read
turn c [] = same? c (code "^") (λ e. rw e) (λ n. rw n)
turn c (d ∷ s) = same? c (code "^")
    (λ e. rw e (caret-by d s (eqb d (code "n")) (eqb d (code "^")) (eqb d (code "'")) refl refl))
    (λ n. rw n)

-- an octet that stays as it is
stays : (c : ℕ) (s : List ℕ) → param_as_is c ≡ true → quoted (decoded_from false (c ∷ s)) ≡ c ∷ quoted (decoded_from false s)
unfolding param_as_is decoded_from decoded_octet caret_after quoted
stays c s e =
    let b = both (not (eqb c (code "^"))) (as_is_octet c) e in
    rw (not-true (eqb c (code "^")) b.0, escaped-bare c b.1)

-- A loop at i: a run to e, and the octet there.
module _ (s : List ℕ) (i : ℕ) where
  pub value-start : quoted (decoded_from false (drop 0 s)) ≡ quoted (decoded s)
  unfolding decoded
  value-start = refl

  pub value_none : length s ≤ i → quoted (decoded_from false (drop i s)) ≡ code "\"" ∷ []
  unfolding decoded_from quoted
  value_none h = rw (ended s i h)

  module _ (e : ℕ) (w : ClassRun param_as_is s i e) where
    run : quoted (decoded_from false (drop i s)) ≡ take (e - i) (drop i s) ++ quoted (decoded_from false (drop e s))
    run = run-left (λ r. quoted (decoded_from false r)) stays w

    step : e < length s → decoded_from false (drop e s)
        ≡ stands_for (get_or s e 0) (get_or s (e + 1) 0) ∷ decoded_from false (drop (e + octets_read (get_or s e 0) (get_or s (e + 1) 0)) s)
    step h =
        ap (decoded_from false) (here s e h)
        ∙ turn (get_or s e 0) (drop (e + 1) s)
        ∙ rw (first_of s (e + 1), ← here s e h, drop-drop)

    pub value-last : length s ≤ e → quoted (decoded_from false (drop i s)) ≡ take (e - i) (drop i s) ++ code "\"" ∷ []
    unfolding decoded_from quoted
    value-last h = run ∙ rw (ended s e h)

    pub value_on : e < length s → (d x n : ℕ) → d ≡ get_or s (e + 1) 0 → x ≡ stands_for (get_or s e 0) d → n ≡ octets_read (get_or s e 0) d
        → quoted (decoded_from false (drop i s)) ≡ (take (e - i) (drop i s) ++ escaped x) ++ quoted (decoded_from false (drop (e + n) s))
    unfolding quoted
    value_on h d x n f g k = run ∙ rw (g, k, f, step h) (sym (append_assoc (take (e - i) (drop i s)) _ _))

-- what is read is an octet, or two
pub takes-some : (c d n : ℕ) → n ≡ octets_read c d → 0 < n
unfolding octets_read
takes-some c d n e = rw e (by (eqb c (code "^")) (eqb d (code "n")) (eqb d (code "^")) (eqb d (code "'")))
  where
    by : (a n k q : Bool) → 0 < pick a (pick n 2 (pick k 2 (pick q 2 1))) 1
    by false n k q = omega arith
    by true true k q = omega arith
    by true false true q = omega arith
    by true false false true = omega arith
    by true false false false = omega arith

pub takes-few : (c d n : ℕ) → n ≡ octets_read c d → n ≤ 2
unfolding octets_read
takes-few c d n e = rw e (by (eqb c (code "^")) (eqb d (code "n")) (eqb d (code "^")) (eqb d (code "'")))
  where
    by : (a n k q : Bool) → pick a (pick n 2 (pick k 2 (pick q 2 1))) 1 ≤ 2
    by false n k q = omega arith
    by true true k q = omega arith
    by true false true q = omega arith
    by true false false true = omega arith
    by true false false false = omega arith
