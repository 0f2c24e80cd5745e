-- The head of a line: where its name ends, and what stands behind it.
use Prim.Native.Nat.{ℕ, zero, suc, ◌+◌, ◌≤◌, ◌<◌}
use Prim.Native.Char.{code}
use mathlib.Core.Path.{◌≡◌, refl, sym, ap, ◌∙◌}
use mathlib.Core.Bool.{Bool, true, false, not}
use mathlib.Core.List.{List, [], ◌∷◌, ◌++◌, map, append-nil}
use native.Mathlib.Nat.{zero-add}
use native.Mathlib.Omega.{arith}
use borrow.Author.Tests.{eq-eqb, ne_eqb, eqb-true, eqb-false, ltb-true, ltb-false}
use lib.Dec.{eqb, ltb}
use lib.ListN.{length, get_or, take, drop}
use Rattle.octets.specs.Basics.{◌or◌, all, filled}
use Rattle.octets.specs.Pieces.{cut}
use Rattle.octets.specs.Classes.{between, is_digit, is_lower, is_upper, is_letter, name_octet, is_name, upper, same_name}
use Rattle.octets.proofs.Cases.{cases, same?, never, both, either, apart, alike, or-first}
use Rattle.octets.proofs.Positions.{here, ended}
use Rattle.octets.proofs.Classes.{name-is, name-length, name-upper}
use Rattle.content.specs.Line.{quote_after, bare, before, behind, pieces, param_of, headed, line_of}
use Rattle.content.specs.Scan.{until_bare}
use Rattle.content.specs.Parts.{other_pieces}
use Rattle.content.proofs.Scanning.{bare-le, bare-take, bare-stop}
use Rattle.content.proofs.Separators.{one_of, skips, pieces-first}
use Rattle.content.proofs.ParamValues.{upper-back}
use Rattle.conversion_theory.specs.Structure.{bounds}

pub not-twice : (b : Bool) → not (not b) ≡ b
not-twice true = refl
not-twice false = refl

-- a test by its negation
pub not-not : (a b : Bool) → not a ≡ b → a ≡ not b
not-not a b e = sym (not-twice a) ∙ ap not e

-- the octets before the first bare semicolon or colon
abbrev head : List ℕ → List ℕ
head l = until_bare (one_of (code ";") (code ":")) false l

name-head : (l : List ℕ) → (line_of l).name ≡ head l
unfolding line_of headed
name-head l = rw (skips (code ";") (code ":") false l).parts

params-head : (l : List ℕ) → (line_of l).params ≡ map param_of (other_pieces (pieces (code ";") false (before (code ":") false (drop (length (head l)) l))))
unfolding line_of headed
params-head l = rw (skips (code ";") (code ":") false l).parts

value-head : (l : List ℕ) → (line_of l).value ≡ behind (code ":") false (drop (length (head l)) l)
unfolding line_of headed
value-head l = rw (skips (code ";") (code ":") false l).parts (skips (code ";") (code ":") false l).rest

-- the name ends at n: a colon or a semicolon stands there, or nothing
module _ (l : List ℕ) (n : ℕ) (h : length (line_of l).name ≡ n) where
  head-length : length (head l) ≡ n
  head-length = ap length (sym (name-head l)) ∙ h

  head-stops : n < length l → one_of (code ";") (code ":") (get_or l n 0) ≡ true
  head-stops k = bare-stop (one_of (code ";") (code ":")) l 0 n (sym head-length ∙ sym (zero-add (length (head l)))) k

  pub bounds-colon : n < length l → get_or l n 0 ≡ code ":" → bounds (line_of l) ≡ is_name (drop (n + 1) l)
  unfolding bounds filled before behind bare pieces other_pieces
  bounds-colon k e = rw (params-head l, value-head l, head-length, here l n k, e)

  semicolon-params : (s : List ℕ) → filled (map param_of (other_pieces (pieces (code ";") false (before (code ":") false (code ";" ∷ s))))) ≡ true
  unfolding filled before bare quote_after pieces cut other_pieces
  semicolon-params s = rw (pieces-first (code ";") false (before (code ":") false s))

  pub bounds-semicolon : n < length l → (get_or l n 0 ≡ code ":" → ⊥) → bounds (line_of l) ≡ false
  unfolding bounds
  bounds-semicolon k d =
      either (eqb (get_or l n 0) (code ";")) (eqb (get_or l n 0) (code ":")) (head-stops k)
      (λ e. rw (params-head l, head-length, here l n k, eqb-true (get_or l n 0) (code ";") e, semicolon-params (drop (n + 1) l)))
      (λ e. absurd (d (eqb-true (get_or l n 0) (code ":") e)))

  pub bounds-none : length l ≤ n → bounds (line_of l) ≡ false
  unfolding bounds filled before behind bare pieces other_pieces is_name
  bounds-none k = rw (params-head l, value-head l, head-length, ended l n k)

-- name octets are passed
pass-name : (c : ℕ) (s : List ℕ) → name_octet c ≡ true → head (c ∷ s) ≡ c ∷ head s
unfolding until_bare quote_after name_octet is_letter is_upper is_lower is_digit between
pass-name c s h =
    let a : eqb c (code ";") ≡ false = apart name_octet c (code ";") h refl in
    let b : eqb c (code ":") ≡ false = apart name_octet c (code ":") h refl in
    let q : eqb c (code "\"") ≡ false = apart name_octet c (code "\"") h refl in
    rw (a, b, q)

pass-names : (n : ℕ) (l : List ℕ) → all name_octet (take n l) ≡ true → head l ≡ take n l ++ head (drop n l)
unfolding all
pass-names zero l h = refl
pass-names (suc n) [] h = refl
pass-names (suc n) (c ∷ l) h =
    let b = both (name_octet c) (all name_octet (take n l)) h in
    pass-name c l b.0 ∙ ap (λ (r : List ℕ). c ∷ r) (pass-names n l b.1)

-- a name in any case has name octets
octets-alike : (a w : List ℕ) → is_name w ≡ true → same_name a w ≡ true → all name_octet a ≡ true
unfolding is_name
octets-alike a w h e = upper-back a (rw (name-is a w e) (both (filled (upper w)) (all name_octet (upper w)) (name-upper w h)).1)

-- where a name can end
module _ (l : List ℕ) (n : ℕ) where
  pub ends-none : length l ≤ n → filled (head (drop n l)) ≡ false
  unfolding until_bare filled
  ends-none h = rw (ended l n h)

  ends_by : n < length l → (b : Bool) → one_of (code ";") (code ":") (get_or l n 0) ≡ b → filled (head (drop n l)) ≡ not b
  unfolding until_bare filled
  ends_by h true e = rw (here l n h, e)
  ends_by h false e = rw (here l n h, e)

  pub ends-semicolon : n < length l → get_or l n 0 ≡ code ";" → filled (head (drop n l)) ≡ false
  ends-semicolon h e = ends_by h true (or-first _ (eq-eqb _ _ e))

  pub ends-colon : n < length l → (get_or l n 0 ≡ code ";" → ⊥) → filled (head (drop n l)) ≡ not (eqb (get_or l n 0) (code ":"))
  ends-colon h d = ends_by h (eqb (get_or l n 0) (code ":")) (ap (λ (b : Bool). b or eqb (get_or l n 0) (code ":")) (ne_eqb _ _ d))

empty : (s : List ℕ) → filled s ≡ false → s ≡ []
unfolding filled
empty [] h = refl
empty (c ∷ s) h = never refl h

pub alike-length : (a b : List ℕ) → same_name a b ≡ true → length a ≡ length b
alike-length a b e = cases (eqb (length a) (length b))
    (λ q. eqb-true _ _ q)
    (λ q. never e (name-length a b (λ k. never (eq-eqb _ _ k) q)))

-- the line's name is w
module _ (l w : List ℕ) where
  alike-head : same_name (head l) w ≡ true → head l ≡ take (length w) l
  alike-head e = bare-take (one_of (code ";") (code ":")) false l ∙ rw (alike-length (head l) w e)

  pub called-short : length l < length w → same_name (line_of l).name w ≡ false
  called-short h = rw (name-head l) (name-length (head l) w (λ k. omega (arith, bare-le (one_of (code ";") (code ":")) false l)))

  stops-there : length (head l) ≡ length w → filled (head (drop (length w) l)) ≡ false
  stops-there e = cases (ltb (length w) (length l))
      (λ h. ends_by l (length w) (ltb-true _ _ h) true (head-stops l (length w) (ap length (name-head l) ∙ e) (ltb-true _ _ h)))
      (λ h. ends-none l (length w) (ltb-false _ _ h))

  pub called-other : filled (head (drop (length w) l)) ≡ true → same_name (line_of l).name w ≡ false
  called-other h = rw (name-head l) (cases (same_name (head l) w) (λ e. never h (stops-there (alike-length (head l) w e))) (λ e. e))

  module _ (h : is_name w ≡ true) (r : filled (head (drop (length w) l)) ≡ false) where
    taken-head : same_name (take (length w) l) w ≡ true → head l ≡ take (length w) l
    taken-head e = pass-names (length w) l (octets-alike (take (length w) l) w h e) ∙ rw (empty (head (drop (length w) l)) r, append-nil)

    pub called-here : same_name (take (length w) l) w ≡ same_name (line_of l).name w
    called-here = rw (name-head l) (alike (same_name (take (length w) l) w) (same_name (head l) w)
        (λ e. rw (taken-head e) e)
        (λ e. rw (← alike-head e) e))

-- a BEGIN or END line that bounds a component: the component's name stands behind the colon
pub record Bound (l : List ℕ) (n : ℕ) : Type 0 where
  pub within : n < length l
  pub value : (line_of l).value ≡ drop (n + 1) l

pub bound_at : (l : List ℕ) (n : ℕ) → length (line_of l).name ≡ n → bounds (line_of l) ≡ true → Bound l n
unfolding behind bare
bound_at l n h b = cases (ltb n (length l))
    (λ k. same? (get_or l n 0) (code ":")
    (λ e. record { within = ltb-true _ _ k; value = value-head l ∙ rw (head-length l n h, here l n (ltb-true _ _ k), e) })
    (λ d. never b (bounds-semicolon l n h (ltb-true _ _ k) (eqb-false _ _ d))))
    (λ k. never b (bounds-none l n h (ltb-false _ _ k)))
