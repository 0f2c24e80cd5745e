-- A content line has the form where a walk over it ends in its value.
use Prim.Native.Nat.{ℕ}
use Prim.Native.Char.{code}
use mathlib.Core.Path.{◌≡◌, refl, ◌∙◌}
use mathlib.Core.Bool.{Bool, true, false}
use mathlib.Core.List.{List, [], ◌∷◌}
use lib.Dec.{eqb}
use Rattle.octets.specs.Basics.{pick, ◌and◌, all, filled}
use Rattle.octets.specs.Classes.{between, is_digit, is_upper, is_lower, is_letter, name_octet, is_name}
use Rattle.octets.proofs.Cases.{cases, same?, apart, and-false-right, or-false-right}
use Rattle.content.specs.Line.{quote_after, bare, before, behind}
use Rattle.content.specs.Form.{has_bare, quote_free, quote_last, in_quotes, value_formed, param_formed, head_formed, formed}
use Rattle.content.specs.LinePlaces.{LinePlace, start, name, param_start, param_name, value_start, plain, quoted, unquoted, value, nowhere, behind_value, in_value, place_behind, place_after, is_value}
use Rattle.content.specs.Parts.{other_pieces}
use Rattle.content.proofs.HeadPieces.{first, all-pieces, head, fit, valued, empty, named, due, fit_on, fit_next, fit-end, plain-on, plain-lost, name-on, lost, valued-on, valued-none, valued-comma}

-- the line's name
start-step : (c : ℕ) (s : List ℕ) → due start (c ∷ s) ≡ due (place_behind start c) s
unfolding place_behind is_name filled all
start-step c s = cases (name_octet c)
    (λ e. rw e (name-on is_name (all name_octet) c s e (λ l. rw e)))
    (λ e. rw e (lost is_name c s refl (λ l. rw e)))

name-step : (c : ℕ) (s : List ℕ) → due name (c ∷ s) ≡ due (place_behind name c) s
unfolding place_behind all
name-step c s = cases (name_octet c)
    (λ e. rw e (name-on (all name_octet) (all name_octet) c s e (λ l. rw e))) λ n.
    same? c (code ";") (λ e. rw (n, e) (fit_next (all name_octet) s refl)) λ k.
    same? c (code ":") (λ e. rw (n, k, e) (fit-end (all name_octet) s refl)) λ h.
    rw (n, k, h) (plain-lost (all name_octet) c s h k (λ l. rw n))

-- a parameter's name and its equals sign
module _ (c : ℕ) (n : name_octet c ≡ true) where
  no-equals : bare (code "=") false c ≡ false
  unfolding bare name_octet is_letter is_upper is_lower is_digit between
  no-equals = apart name_octet c (code "=") n refl

  no-quote : quote_after false c ≡ false
  unfolding quote_after name_octet is_letter is_upper is_lower is_digit between
  no-quote = rw (apart name_octet c (code "\"") n refl)

  first-named : (l : List ℕ) → param_formed (c ∷ l) ≡ named l
  unfolding param_formed has_bare before behind is_name filled all
  first-named l = rw (no-equals, no-quote, n, all-pieces value_formed (code ",") false (behind (code "=") false l))

  more-named : (l : List ℕ) → named (c ∷ l) ≡ named l
  unfolding has_bare before behind all
  more-named l = rw (no-equals, no-quote, n)

-- no name begins with c
module _ (c : ℕ) (n : name_octet c ≡ false) where
  not_first : (l : List ℕ) → param_formed (c ∷ l) ≡ false
  unfolding param_formed has_bare before is_name filled all
  not_first l = cases (bare (code "=") false c)
      (λ e. rw e)
      (λ e. rw (e, n) (and-false-right (has_bare (code "=") (quote_after false c) l)))

  not_named : eqb c (code "=") ≡ false → (l : List ℕ) → named (c ∷ l) ≡ false
  unfolding has_bare before bare all
  not_named m l = rw (m, n) (and-false-right (has_bare (code "=") (quote_after false c) l))

param-start-step : (c : ℕ) (s : List ℕ) → due param_start (c ∷ s) ≡ due (place_behind param_start c) s
unfolding place_behind
param-start-step c s = cases (name_octet c)
    (λ e. rw e (name-on param_formed named c s e (first-named c e)))
    (λ e. rw e (lost param_formed c s (unfold param_formed has_bare in refl) (not_first c e)))

param-name-step : (c : ℕ) (s : List ℕ) → due param_name (c ∷ s) ≡ due (place_behind param_name c) s
unfolding place_behind
param-name-step c s = cases (name_octet c)
    (λ e. rw e (name-on named named c s e (more-named c e))) λ n.
    same? c (code "=")
    (λ e. rw (n, e) (plain-on named (code "=") s refl refl (valued value_formed false) refl (λ l. unfold has_bare before behind bare all in refl))) λ m.
    rw (n, m) (lost named c s (unfold has_bare in refl) (not_named c n m))

-- where a comma, a semicolon and a colon end a value
behind-step : (K : List ℕ → Bool) (p : LinePlace) (c : ℕ) (s : List ℕ) → K [] ≡ true
    → (eqb c (code ",") ≡ false → eqb c (code ";") ≡ false → eqb c (code ":") ≡ false → fit false (valued K false) (c ∷ s) ≡ due p s)
    → fit false (valued K false) (c ∷ s) ≡ due (behind_value c p) s
unfolding behind_value
behind-step K p c s t f =
    same? c (code ",") (λ e. rw e (plain-on (valued K false) (code ",") s refl refl (valued value_formed false) refl (valued-comma K t))) λ n.
    same? c (code ";") (λ e. rw (n, e) (fit_next (valued K false) s (valued-none K t))) λ k.
    same? c (code ":") (λ e. rw (n, k, e) (fit-end (valued K false) s (valued-none K t))) λ h.
    rw (n, k, h) (f n k h)

-- an octet of a value that ends none
module _ (K W : List ℕ → Bool) (c : ℕ) (s : List ℕ) (n : eqb c (code ",") ≡ false) (k : eqb c (code ";") ≡ false) (h : eqb c (code ":") ≡ false) (f : (v : List ℕ) → K (c ∷ v) ≡ W v) where
  value_on : eqb c (code "\"") ≡ false → fit false (valued K false) (c ∷ s) ≡ fit false (valued W false) s
  unfolding bare quote_after
  value_on m = plain-on (valued K false) c s h k (valued W false) m (λ l. valued-on false false K W c l n (rw m) f)

module _ (K : List ℕ → Bool) (c : ℕ) (s : List ℕ) (n : eqb c (code ",") ≡ false) (k : eqb c (code ";") ≡ false) (h : eqb c (code ":") ≡ false) (f : (v : List ℕ) → K (c ∷ v) ≡ false) where
  value-lost : fit false (valued K false) (c ∷ s) ≡ false
  unfolding bare
  value-lost = plain-lost (valued K false) c s h k (λ l. valued-on false (quote_after false c) K (λ _. false) c l n refl f)

-- a parameter value: at its start, plain, in quotes, behind them
value-start-step : (c : ℕ) (s : List ℕ) → due value_start (c ∷ s) ≡ due (place_behind value_start c) s
unfolding place_behind in_value value_formed quote_free in_quotes all
value-start-step c s =
    same? c (code "\"")
    (λ e. rw e (fit_on false true (valued value_formed false) (valued quote_last true) (code "\"") s (unfold bare in refl) (unfold bare in refl) (unfold quote_after in refl)
    (λ l. valued-on false true value_formed quote_last (code "\"") l (unfold bare in refl) (unfold quote_after in refl) (λ v. refl)))) λ m.
    rw m (behind-step value_formed plain c s refl (λ n k h. value_on value_formed quote_free c s n k h (λ v. rw m (or-false-right (quote_free v))) m))

plain_step : (c : ℕ) (s : List ℕ) → due plain (c ∷ s) ≡ due (place_behind plain c) s
unfolding place_behind in_value quote_free all
plain_step c s = behind-step quote_free (pick (eqb c (code "\"")) nowhere plain) c s refl (λ n k h. cases (eqb c (code "\""))
    (λ e. rw e (value-lost quote_free c s n k h (λ v. rw e)))
    (λ e. rw e (value_on quote_free quote_free c s n k h (λ v. rw e) e)))

quoted-step : (c : ℕ) (s : List ℕ) → due quoted (c ∷ s) ≡ due (place_behind quoted c) s
unfolding place_behind bare quote_after quote_last
quoted-step c s = cases (eqb c (code "\""))
    (λ e. rw e (fit_on true false (valued quote_last true) (valued empty false) c s refl refl (rw e) (λ l. valued-on true false quote_last empty c l refl (rw e) (λ v. rw e))))
    (λ e. rw e (fit_on true true (valued quote_last true) (valued quote_last true) c s refl refl (rw e) (λ l. valued-on true true quote_last quote_last c l refl (rw e) (λ v. rw e))))

unquoted-step : (c : ℕ) (s : List ℕ) → due unquoted (c ∷ s) ≡ due (place_behind unquoted c) s
unfolding place_behind filled
unquoted-step c s = behind-step empty nowhere c s refl (λ n k h. value-lost empty c s n k h (λ v. refl))

value-step : (c : ℕ) (s : List ℕ) → due value (c ∷ s) ≡ due (place_behind value c) s
unfolding place_behind
value-step c s = refl

nowhere-step : (c : ℕ) (s : List ℕ) → due nowhere (c ∷ s) ≡ due (place_behind nowhere c) s
unfolding place_behind
nowhere-step c s = refl

-- from any place on
walked : (p : LinePlace) (s : List ℕ) → due p s ≡ is_value (place_after p s)
unfolding place_after is_value has_bare
walked start [] = refl
walked name [] = refl
walked param_start [] = refl
walked param_name [] = refl
walked value_start [] = refl
walked plain [] = refl
walked quoted [] = refl
walked unquoted [] = refl
walked value [] = refl
walked nowhere [] = refl
walked start (c ∷ s) = start-step c s ∙ walked (place_behind start c) s
walked name (c ∷ s) = name-step c s ∙ walked (place_behind name c) s
walked param_start (c ∷ s) = param-start-step c s ∙ walked (place_behind param_start c) s
walked param_name (c ∷ s) = param-name-step c s ∙ walked (place_behind param_name c) s
walked value_start (c ∷ s) = value-start-step c s ∙ walked (place_behind value_start c) s
walked plain (c ∷ s) = plain_step c s ∙ walked (place_behind plain c) s
walked quoted (c ∷ s) = quoted-step c s ∙ walked (place_behind quoted c) s
walked unquoted (c ∷ s) = unquoted-step c s ∙ walked (place_behind unquoted c) s
walked value (c ∷ s) = value-step c s ∙ walked (place_behind value c) s
walked nowhere (c ∷ s) = nowhere-step c s ∙ walked (place_behind nowhere c) s

head-formed : (ls : List (List ℕ)) → head_formed ls ≡ (is_name (first ls) and all param_formed (other_pieces ls))
unfolding head_formed other_pieces is_name filled
head-formed [] = refl
head-formed (l ∷ ls) = refl

-- THE LAW
pub formed-walked : (s : List ℕ) → formed s ≡ is_value (place_after start s)
unfolding formed
formed-walked s = rw (head-formed (head false s)) (walked start s)
