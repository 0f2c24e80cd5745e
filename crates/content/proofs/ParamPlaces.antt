-- The parameters of a line by their places: each stands behind a semicolon.
use Prim.Native.Nat.{ℕ, ◌+◌, ◌-◌, ◌≤◌, ◌<◌}
use Prim.Native.Char.{code}
use mathlib.Core.Path.{◌≡◌, ◌∙◌, ap}
use mathlib.Core.Bool.{Bool, true, false}
use mathlib.Core.List.{List, [], ◌∷◌, map}
use borrow.Author.Tests.{eqb-true}
use lib.Dec.{eqb}
use lib.ListN.{length, get_or, take, drop, length-drop}
use Rattle.octets.specs.Basics.{◌or◌, any, among, twice}
use Rattle.octets.specs.Pieces.{cut}
use Rattle.octets.specs.Classes.{lower, same_name}
use Rattle.octets.proofs.Positions.{from}
use Rattle.content.proofs.Names.{same-lower}
use native.Mathlib.Omega.{arith}
use Rattle.octets.proofs.Cases.{or-second, or-false-right}
use Rattle.octets.proofs.Positions.{here, ended}
use Rattle.content.specs.Line.{Param, quote_after, bare, pieces, param_of, name_of}
use Rattle.content.specs.Scan.{until_bare}
use Rattle.content.specs.Parts.{other_pieces, params_in, param_at, param_cut, CutParam, StandsIn}
use Rattle.content.specs.Parameters.{name_twice}
use Rattle.content.specs.declared.parts.ParamParts.{ParamParts}
use Rattle.content.proofs.Scanning.{bare-rest, bare-stop}
use Rattle.content.proofs.Separators.{one_of, twice-one, before-is, pieces-first}
use Rattle.content.proofs.Standing.{stands-cut}

-- a parameter, or the end, stands at e: behind a bare semicolon
pub record Stands (s : List ℕ) (e : ℕ) : Type 0 where
  pub semicolon : e < length s → get_or s e 0 ≡ code ";"

-- the first parameter from i on
module _ (s : List ℕ) (i e : ℕ) (q : e ≡ i + length (until_bare (one_of (code ";") (code ";")) false (drop i s))) where
  pub first-stands : Stands s e
  first-stands = record {
    semicolon = λ h. eqb-true (get_or s e 0) (code ";") (rw (twice-one (eqb (get_or s e 0) (code ";"))) at (bare-stop (one_of (code ";") (code ";")) s i e q h));
  }

  pub first-params : params_in (drop i s) ≡ params_in (drop e s)
  unfolding params_in other_pieces
  first-params = rw (pieces-first (code ";") false (drop i s), ← before-is (code ";") false (drop i s), bare-rest (one_of (code ";") (code ";")) s i e q)

pub no-params : (s : List ℕ) (e : ℕ) → length s ≤ e → params_in (drop e s) ≡ []
unfolding params_in pieces other_pieces
no-params s e h = rw (ended s e h)

-- the parameter behind the semicolon at e
module _ (s : List ℕ) (e : ℕ) (st : Stands s e) (h : e < length s) where
  past : params_in (drop e s) ≡ map param_of (pieces (code ";") false (drop (e + 1) s))
  unfolding params_in pieces other_pieces bare quote_after cut
  past = rw (here s e h, st.semicolon h)

  pub param-here : (p : ParamParts) → CutParam s (e + 1) p → params_in (drop e s) ≡ param_at s (e + 1) p ∷ params_in (drop p.end s)
  param-here p k = past ∙ k.params

pub param-next : (s : List ℕ) (i : ℕ) (p : ParamParts) → CutParam s i p → Stands s p.end
param-next s i p k = record { semicolon = k.next }

-- the next parameter, as it is answered: the parts of the text that the places cut out
module _ (s : List ℕ) (e : ℕ) (q : e ≡ 0 + length (until_bare (one_of (code ";") (code ";")) false (drop 0 s))) where
  pub next-none : length s ≤ e → params_in s ≡ []
  next-none h = first-params s 0 e q ∙ no-params s e h

  module _ (h : e < length s) (p : ParamParts) (k : CutParam s (e + 1) p) where
    pub next-rest : length (take (length s - p.end) (drop p.end s)) < length s
    next-rest = rw (from s p.end, length-drop p.end s) (omega (arith, k.name-low, k.name-within, k.values-within))

    pub next-some : params_in s ≡ param_cut (take (p.name - (e + 1)) (drop (e + 1) s)) (take (p.end - p.values) (drop p.values s)) ∷ params_in (take (length s - p.end) (drop p.end s))
    unfolding param_cut param_at
    next-some = rw (from s p.end) (first-params s 0 e q ∙ param-here s e (first-stands s 0 e q) h p k)

-- its values, and what is behind it, are parts of the text
module _ (s : List ℕ) (i : ℕ) (p : ParamParts) (k : CutParam s i p) where
  pub values-stand : StandsIn s (take (p.end - p.values) (drop p.values s))
  values-stand = stands-cut s p.values p.end k.values-within k.end-within

  pub rest-stands : StandsIn s (take (length s - p.end) (drop p.end s))
  rest-stands = stands-cut s p.end (length s) k.end-within (omega arith)

-- a name among those of the parameters
abbrev pub has_name : List ℕ → List Param → Bool
has_name n ps = among n (map name_of ps)

pub no-name : (n s : List ℕ) → params_in s ≡ [] → has_name n (params_in s) ≡ false
unfolding among any
no-name n s k = rw k

module _ (w : List ℕ) (s n v r : List ℕ) (k : params_in s ≡ param_cut n v ∷ params_in r) where
  pub among-here : same_name w n ≡ true → has_name (lower w) (params_in s) ≡ true
  unfolding among any param_cut
  among-here t = rw (k, ← same-lower w n, t)

  pub among-on : same_name w n ≡ false → has_name (lower w) (params_in s) ≡ has_name (lower w) (params_in r)
  unfolding among any param_cut
  among-on t = rw (k, ← same-lower w n, t)

-- a name twice
pub never-twice : (s : List ℕ) → params_in s ≡ [] → name_twice (params_in s) ≡ false
unfolding name_twice twice
never-twice s k = rw k

module _ (s n v r : List ℕ) (k : params_in s ≡ param_cut n v ∷ params_in r) where
  twice-turn : name_twice (params_in s) ≡ (among (lower n) (map name_of (params_in r)) or name_twice (params_in r))
  unfolding name_twice twice param_cut
  twice-turn = rw k

  pub twice-behind : name_twice (params_in r) ≡ true → name_twice (params_in s) ≡ true
  twice-behind t = twice-turn ∙ or-second (among (lower n) (map name_of (params_in r))) t

  pub twice-first : name_twice (params_in r) ≡ false → name_twice (params_in s) ≡ among (lower n) (map name_of (params_in r))
  twice-first t = twice-turn ∙ rw t (or-false-right (among (lower n) (map name_of (params_in r))))

-- no name stands twice behind the end
module _ (s : List ℕ) (e : ℕ) where
  pub twice-none : length s ≤ e → name_twice (params_in (drop e s)) ≡ false
  unfolding name_twice twice
  twice-none h = rw (no-params s e h)

-- a walk over the parameters from a on, at e: what f says of those from a on, it says of those from e on
pub record Passing {A : Type 0} (f : List Param → A) (s : List ℕ) (a e : ℕ) : Type 0 where
  pub stands : Stands s e
  pub alike : f (params_in (drop a s)) ≡ f (params_in (drop e s))

pub passing-start : {A : Type 0} {f : List Param → A} (s : List ℕ) (a e : ℕ) → e ≡ a + length (until_bare (one_of (code ";") (code ";")) false (drop a s)) → Passing f s a e
passing-start {f = f} s a e q = record { stands = first-stands s a e q; alike = ap f (first-params s a e q) }

module _ {A : Type 0} {f : List Param → A} {s : List ℕ} {a e : ℕ} (w : Passing f s a e) where
  pub passing-end : length s ≤ e → f (params_in (drop a s)) ≡ f []
  passing-end h = w.alike ∙ ap f (no-params s e h)

  module _ (h : e < length s) {p : ParamParts} (k : CutParam s (e + 1) p) where
    pub passing-at : f (params_in (drop a s)) ≡ f (param_at s (e + 1) p ∷ params_in (drop p.end s))
    passing-at = w.alike ∙ ap f (param-here s e w.stands h p k)

    pub passing-on : f (param_at s (e + 1) p ∷ params_in (drop p.end s)) ≡ f (params_in (drop p.end s)) → Passing f s a p.end
    passing-on o = record { stands = param-next s (e + 1) p k; alike = passing-at ∙ o }

module _ (n : List ℕ) {s : List ℕ} {a e : ℕ} (w : Passing (has_name n) s a e) where
  pub among_none : length s ≤ e → has_name n (params_in (drop a s)) ≡ false
  unfolding among any
  among_none h = passing-end w h
