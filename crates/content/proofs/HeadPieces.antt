-- The form of a line by the pieces before its colon: what is due of them from each place on, and how it changes by an octet in front.
use Prim.Native.Nat.{ℕ}
use Prim.Native.Char.{code}
use mathlib.Core.Path.{◌≡◌, refl, ◌∙◌}
use mathlib.Core.Bool.{Bool, true, false, not}
use mathlib.Core.List.{List, [], ◌∷◌}
use lib.Dec.{eqb}
use Rattle.octets.specs.Basics.{◌and◌, all, filled}
use Rattle.octets.specs.Pieces.{onto, cut}
use Rattle.octets.specs.Classes.{between, is_digit, is_upper, is_lower, is_letter, name_octet, is_name}
use Rattle.octets.proofs.Cases.{cases, apart, and-false-right}
use Rattle.content.specs.Line.{quote_after, bare, before, behind, pieces}
use Rattle.content.specs.Form.{has_bare, quote_free, quote_last, value_formed, param_formed}
use Rattle.content.specs.LinePlaces.{LinePlace, start, name, param_start, param_name, value_start, plain, quoted, unquoted, value, nowhere}
use Rattle.content.specs.Parts.{other_pieces}

abbrev pub first : List (List ℕ) → List ℕ
first [] = []
first (l ∷ ls) = l

first-onto : (c : ℕ) (ls : List (List ℕ)) → first (onto c ls) ≡ c ∷ first ls
unfolding onto
first-onto c [] = refl
first-onto c (l ∷ ls) = refl

others-onto : (c : ℕ) (ls : List (List ℕ)) → other_pieces (onto c ls) ≡ other_pieces ls
unfolding onto other_pieces
others-onto c [] = refl
others-onto c (l ∷ ls) = refl

-- a test of all pieces: of the first, and of the others
all-cut : (f : List ℕ → Bool) (b : Bool) (c : ℕ) (ls : List (List ℕ)) → all f (cut b c ls) ≡ (f (first (cut b c ls)) and all f (other_pieces (cut b c ls)))
unfolding all cut onto other_pieces
all-cut f true c ls = refl
all-cut f false c [] = refl
all-cut f false c (l ∷ ls) = refl

pub all-pieces : (f : List ℕ → Bool) (sep : ℕ) (q : Bool) (s : List ℕ) → all f (pieces sep q s) ≡ (f (first (pieces sep q s)) and all f (other_pieces (pieces sep q s)))
unfolding pieces
all-pieces f sep q [] = unfold all other_pieces in refl
all-pieces f sep q (c ∷ s) = all-cut f (bare sep q c) c (pieces sep (quote_after q c) s)

-- the pieces of a line before its colon: the name, then the parameters
abbrev pub head : Bool → List ℕ → List (List ℕ)
head q s = pieces (code ";") q (before (code ":") q s)

-- a line with a colon, where T tests what is left of its first piece, and q says that its first octet is in quotes
abbrev pub fit : Bool → (List ℕ → Bool) → List ℕ → Bool
fit q T s = has_bare (code ":") q s and T (first (head q s)) and all param_formed (other_pieces (head q s))

-- the values of a parameter, where K tests what is left of the first one
abbrev pub valued : (List ℕ → Bool) → Bool → List ℕ → Bool
valued K q l = K (first (pieces (code ",") q l)) and all value_formed (other_pieces (pieces (code ",") q l))

abbrev pub empty : List ℕ → Bool
empty v = not (filled v)

-- the rest of a parameter's name, an equals sign and values
abbrev pub named : List ℕ → Bool
named l = has_bare (code "=") false l and all name_octet (before (code "=") false l) and valued value_formed false (behind (code "=") false l)

-- what is due from a place on
abbrev pub due : LinePlace → List ℕ → Bool
due start s = fit false is_name s
due name s = fit false (all name_octet) s
due param_start s = fit false param_formed s
due param_name s = fit false named s
due value_start s = fit false (valued value_formed false) s
due plain s = fit false (valued quote_free false) s
due quoted s = fit true (valued quote_last true) s
due unquoted s = fit false (valued empty false) s
due value s = true
due nowhere s = false

-- an octet in front of the first piece
pub fit_on : (q r : Bool) (T U : List ℕ → Bool) (c : ℕ) (s : List ℕ) → bare (code ":") q c ≡ false → bare (code ";") q c ≡ false → quote_after q c ≡ r
    → ((l : List ℕ) → T (c ∷ l) ≡ U l) → fit q T (c ∷ s) ≡ fit r U s
unfolding has_bare before pieces cut
fit_on q r T U c s h k e f = rw (h, k, e, first-onto c (head r s), others-onto c (head r s), f (first (head r s)))

-- a new piece; the last one
module _ (T : List ℕ → Bool) (s : List ℕ) (t : T [] ≡ true) where
  pub fit_next : fit false T (code ";" ∷ s) ≡ fit false param_formed s
  unfolding has_bare before pieces cut bare quote_after other_pieces
  fit_next = rw (t, all-pieces param_formed (code ";") false (before (code ":") false s))

  pub fit-end : fit false T (code ":" ∷ s) ≡ true
  unfolding has_bare before pieces bare other_pieces all
  fit-end = rw t

-- nothing fits
fit_none : (q : Bool) (s : List ℕ) → fit q (λ _. false) s ≡ false
fit_none q s = and-false-right (has_bare (code ":") q s)

-- an octet that is no separator
module _ (T : List ℕ → Bool) (c : ℕ) (s : List ℕ) (h : eqb c (code ":") ≡ false) (k : eqb c (code ";") ≡ false) where
  pub plain-on : (U : List ℕ → Bool) → eqb c (code "\"") ≡ false → ((l : List ℕ) → T (c ∷ l) ≡ U l) → fit false T (c ∷ s) ≡ fit false U s
  unfolding bare quote_after
  plain-on U e f = fit_on false false T U c s h k (rw e) f

  pub plain-lost : ((l : List ℕ) → T (c ∷ l) ≡ false) → fit false T (c ∷ s) ≡ false
  unfolding bare
  plain-lost f = fit_on false (quote_after false c) T (λ _. false) c s h k refl f ∙ fit_none (quote_after false c) s

pub name-on : (T U : List ℕ → Bool) (c : ℕ) (s : List ℕ) → name_octet c ≡ true → ((l : List ℕ) → T (c ∷ l) ≡ U l) → fit false T (c ∷ s) ≡ fit false U s
unfolding name_octet is_letter is_upper is_lower is_digit between
name-on T U c s n f = plain-on T c s (apart name_octet c (code ":") n refl) (apart name_octet c (code ";") n refl) U (apart name_octet c (code "\"") n refl) f

-- a test that fails with this octet, and with no octet, too
pub lost : (T : List ℕ → Bool) (c : ℕ) (s : List ℕ) → T [] ≡ false → ((l : List ℕ) → T (c ∷ l) ≡ false) → fit false T (c ∷ s) ≡ false
unfolding has_bare before pieces cut
lost T c s t f = cases (bare (code ":") false c)
    (λ e. rw (e, t))
    (λ e. rw e (cases (bare (code ";") false c)
    (λ k. rw (k, t) (and-false-right (has_bare (code ":") (quote_after false c) s)))
    (λ k. rw (k, first-onto c (head (quote_after false c) s), f (first (head (quote_after false c) s))) (and-false-right (has_bare (code ":") (quote_after false c) s)))))

-- an octet in front of the first value; a comma
pub valued-on : (q r : Bool) (K W : List ℕ → Bool) (c : ℕ) (l : List ℕ) → bare (code ",") q c ≡ false → quote_after q c ≡ r → ((v : List ℕ) → K (c ∷ v) ≡ W v) → valued K q (c ∷ l) ≡ valued W r l
unfolding pieces cut
valued-on q r K W c l h e f = rw (h, e, first-onto c (pieces (code ",") r l), others-onto c (pieces (code ",") r l), f (first (pieces (code ",") r l)))

module _ (K : List ℕ → Bool) (t : K [] ≡ true) where
  pub valued-none : valued K false [] ≡ true
  unfolding pieces other_pieces all
  valued-none = rw t

  pub valued-comma : (l : List ℕ) → valued K false (code "," ∷ l) ≡ valued value_formed false l
  unfolding pieces cut bare quote_after other_pieces
  valued-comma l = rw t (all-pieces value_formed (code ",") false l)
