-- The parts of a content line that passed numbers 3 and 4: a name, parameters that can be written again and are texts, and a clean value.
use Prim.Native.Nat.{ℕ}
use Prim.Native.Char.{code}
use mathlib.Core.Path.{◌≡◌, refl, sym, ap, ◌∙◌}
use mathlib.Core.Bool.{Bool, true, false}
use mathlib.Core.List.{List, [], ◌∷◌, ◌++◌, map}
use borrow.Author.Tests.{eqb-true}
use lib.Dec.{eqb}
use Rattle.octets.specs.Basics.{octets, pick, all, filled, All}
use Rattle.octets.specs.Pieces.{onto, cut, joined}
use Rattle.octets.specs.Classes.{is_control, is_name, plain_octet, text_octet}
use Rattle.octets.specs.Utf8.{utf8, clean}
use Rattle.octets.proofs.Cases.{cases, same?, never, both, and-true, apart-not, all-All}
use Rattle.octets.proofs.Classes.{name-lower, plain-text}
use Rattle.octets.proofs.Utf8.{ascii, clean-cut}
use Rattle.octets.proofs.Transducer.{Runs, Keeps, run-all, run-utf8}
use Rattle.content.specs.Carets.{decoded_octet, caret_after, decoded_from, decoded}
use Rattle.content.specs.Line.{Line, quote_after, bare, before, behind, pieces, front, unquote, param_value, param_of, headed, line_of}
use Rattle.content.specs.Form.{has_bare, quote_free, quote_last, in_quotes, value_formed, param_formed, head_formed, formed}
use Rattle.content.proofs.Separators.{pieces-first, pieces-filled}
use Rattle.content.proofs.Written.{Writable}
use Rattle.content.proofs.WrittenClean.{Texts, clean-none, clean-joined}

-- decoding as a transducer: a caret waits for the octet behind it
decodes : Runs Bool caret_after decoded_octet (λ e. pick e (octets "^") []) decoded_from
unfolding decoded_from
decodes = record { ends = λ e. refl; steps = λ e c s. refl }

decoded-high : (e : Bool) (c : ℕ) → ascii c ≡ false → decoded_octet e c ≡ pick e (octets "^") [] ++ c ∷ []
unfolding decoded_octet ascii
decoded-high true c h = rw (apart-not ascii c (code "n") h refl, apart-not ascii c (code "^") h refl, apart-not ascii c (code "'") h refl)
decoded-high false c h = rw (apart-not ascii c (code "^") h refl)

-- an octet decoded, and a test that it and the carets' octets pass
decoded-all : (r : ℕ → Bool) → all r (octets "\n") ≡ true → all r (octets "^") ≡ true → all r (octets "\"") ≡ true → (e : Bool) (c : ℕ) → r c ≡ true → all r (decoded_octet e c) ≡ true
unfolding decoded_octet all
decoded-all r h₁ h₂ h₃ true c k =
    cases (eqb c (code "n")) (λ e. rw e h₁) λ n₁.
    cases (eqb c (code "^")) (λ e. rw (n₁, e) h₂) λ n₂.
    cases (eqb c (code "'")) (λ e. rw (n₁, n₂, e) h₃) λ n₃. rw (n₁, n₂, n₃) (and-true (both (r (code "^")) true h₂).0 (rw k))
decoded-all r h₁ h₂ h₃ false c k = cases (eqb c (code "^")) (λ e. rw e) (λ n. rw n (rw k))

waits-all : (r : ℕ → Bool) → all r (octets "^") ≡ true → (e : Bool) → all r (pick e (octets "^") []) ≡ true
unfolding all
waits-all r h true = h
waits-all r h false = refl

pub decoded-utf8 : (v : List ℕ) → utf8 v ≡ true → utf8 (decoded v) ≡ true
unfolding decoded all ascii
decoded-utf8 v h = run-utf8 Bool caret_after decoded_octet (λ e. pick e (octets "^") []) decoded_from decodes (λ e. pick e (octets "^") []) keeps v false h
  where
    calm : (e : Bool) (c : ℕ) → ascii c ≡ false → pick (caret_after e c) (octets "^") [] ≡ []
    calm true c h = unfold caret_after in refl
    calm false c h = unfold caret_after ascii in rw (apart-not ascii c (code "^") h refl)

    keeps : Keeps Bool caret_after decoded_octet (λ e. pick e (octets "^") []) (λ e. pick e (octets "^") [])
    keeps = record {
      high = decoded-high;
      calm = calm;
      lows = decoded-all ascii refl refl refl;
      pres = waits-all ascii refl;
      lasts = waits-all ascii refl;
    }

pub decoded-text : (v : List ℕ) → all plain_octet v ≡ true → all text_octet (decoded v) ≡ true
unfolding decoded all text_octet plain_octet is_control
decoded-text v h =
    run-all Bool caret_after decoded_octet (λ e. pick e (octets "^") []) decoded_from decodes plain_octet text_octet
    (λ e c k. decoded-all text_octet refl refl refl e c (plain-text c k)) (waits-all text_octet refl) v false h

-- a value without the quotes around it
last-is : (s : List ℕ) → quote_last s ≡ true → s ≡ front s ++ code "\"" ∷ []
unfolding front quote_last filled
last-is [] h = never h refl
last-is (c ∷ []) h = same? c (code "\"") (λ e. rw e) (λ e. never h (rw e))
last-is (c ∷ d ∷ s) h = cases (eqb c (code "\"")) (λ e. never h (rw e)) (λ e. ap (λ l. c ∷ l) (last-is (d ∷ s) (rw e at h)))

front-clean : (s : List ℕ) → quote_last s ≡ true → clean s ≡ true → clean (front s) ≡ true
unfolding ascii plain_octet is_control
front-clean s e h = (both (clean (front s)) (clean []) (sym (clean-cut (front s) (code "\"") [] refl refl) ∙ ap clean (sym (last-is s e)) ∙ h)).0

closed : (c : ℕ) (s : List ℕ) → value_formed (c ∷ s) ≡ true → eqb c (code "\"") ≡ true → quote_last s ≡ true
unfolding value_formed quote_free in_quotes all
closed c s h e = rw e at h

unquote-clean : (v : List ℕ) → value_formed v ≡ true → clean v ≡ true → clean (unquote v) ≡ true
unfolding unquote ascii plain_octet is_control
unquote-clean [] p h = h
unquote-clean (c ∷ s) p h = cases (eqb c (code "\""))
    (λ e. rw e (front-clean s (closed c s p e) (both (clean []) (clean s) (sym (clean-cut [] (code "\"") s refl refl) ∙ (rw (eqb-true c (code "\"") e) at h))).1))
    (λ e. rw e h)

value-told : (v : List ℕ) → value_formed v ≡ true → clean v ≡ true → (utf8 (param_value v) ≡ true) × (all text_octet (param_value v) ≡ true)
unfolding param_value
value-told v p h = let b = parts (unquote-clean v p h) in (decoded-utf8 (unquote v) b.0, decoded-text (unquote v) b.1)
  where
    parts : clean (unquote v) ≡ true → (utf8 (unquote v) ≡ true) × (all plain_octet (unquote v) ≡ true)
    parts h = unfold clean in both (utf8 (unquote v)) (all plain_octet (unquote v)) h

-- what is cut at a clean separator is clean
module _ (sep : ℕ) (low : ascii sep ≡ true) (plain : plain_octet sep ≡ true) where
  bare-is : (q : Bool) (c : ℕ) → bare sep q c ≡ true → c ≡ sep
  unfolding bare
  bare-is true c e = never e refl
  bare-is false c e = eqb-true c sep e

  -- there is a bare separator between the two parts, or there is none
  cut_by {ℓ} : {P : Type ℓ} (q : Bool) (s : List ℕ) → (s ≡ before sep q s ++ sep ∷ behind sep q s → P) → (before sep q s ≡ s → behind sep q s ≡ [] → P) → P
  unfolding before behind
  cut_by q [] f g = g refl refl
  cut_by q (c ∷ s) f g = cases (bare sep q c)
      (λ e. f (rw e (ap (λ x. x ∷ s) (bare-is q c e))))
      (λ e. cut_by (quote_after q c) s (λ k. f (rw e (ap (λ l. c ∷ l) k))) (λ k l. g (rw (e, k)) (rw e l)))

  cut-clean : (q : Bool) (s : List ℕ) → clean s ≡ true → (clean (before sep q s) ≡ true) × (clean (behind sep q s) ≡ true)
  cut-clean q s h = cut_by q s
      (λ e. both (clean (before sep q s)) (clean (behind sep q s)) (sym (clean-cut (before sep q s) sep (behind sep q s) low plain) ∙ ap clean (sym e) ∙ h))
      (λ e f. (rw e h, rw f clean-none))

  -- all pieces, put together again
  joined-cut : (b : Bool) (c : ℕ) (ls : List (List ℕ)) → (ls ≡ [] → ⊥) → (b ≡ true → c ≡ sep) → joined sep (cut b c ls) ≡ c ∷ joined sep ls
  unfolding joined cut onto
  joined-cut b c [] n e = absurd (n refl)
  joined-cut true c (l ∷ ls) n e = rw (e refl)
  joined-cut false c (l ∷ []) n e = refl
  joined-cut false c (l ∷ m ∷ ls) n e = refl

  joined-pieces : (q : Bool) (s : List ℕ) → joined sep (pieces sep q s) ≡ s
  unfolding pieces
  joined-pieces q [] = unfold joined in refl
  joined-pieces q (c ∷ s) =
      joined-cut (bare sep q c) c (pieces sep (quote_after q c) s) (pieces-filled sep (quote_after q c) s) (bare-is q c)
      ∙ ap (λ l. c ∷ l) (joined-pieces (quote_after q c) s)

  pieces-clean : (q : Bool) (s : List ℕ) → clean s ≡ true → All (λ l. clean l ≡ true) (pieces sep q s)
  pieces-clean q s h = all-All clean (pieces sep q s) (sym (clean-joined sep low plain (pieces sep q s)) ∙ ap clean (joined-pieces q s) ∙ h)

-- a parameter
param-parts : (l : List ℕ) → param_formed l ≡ true → (is_name (before (code "=") false l) ≡ true) × (all value_formed (pieces (code ",") false (behind (code "=") false l)) ≡ true)
unfolding param_formed
param-parts l h = both _ _ (both (has_bare (code "=") false l) _ h).1

param-writable : (l : List ℕ) → param_formed l ≡ true → Writable (param_of l)
unfolding param_of filled
param-writable l h = record {
  named = name-lower (before (code "=") false l) (param-parts l h).0;
  valued = rw (pieces-first (code ",") false (behind (code "=") false l));
}

values-told : (vs : List (List ℕ)) → all value_formed vs ≡ true → All (λ v. clean v ≡ true) vs → (all utf8 (map param_value vs) ≡ true) × (all (all text_octet) (map param_value vs) ≡ true)
unfolding all
values-told [] p h = (refl, refl)
values-told (v ∷ vs) p h =
    let k = both (value_formed v) (all value_formed vs) p in
    let a = value-told v k.0 h.0 in
    let b = values-told vs k.1 h.1 in
    (and-true a.0 b.0, and-true a.1 b.1)

param-texts : (l : List ℕ) → param_formed l ≡ true → clean l ≡ true → Texts (param_of l)
unfolding param_of ascii plain_octet is_control
param-texts l h c =
    let vs = behind (code "=") false l in
    let t = values-told (pieces (code ",") false vs) (param-parts l h).1 (pieces-clean (code ",") refl refl false vs (cut-clean (code "=") refl refl false l c).1) in
    record { utf = t.0; plain = t.1 }

params-writable : (ls : List (List ℕ)) → All (λ l. param_formed l ≡ true) ls → All Writable (map param_of ls)
params-writable [] h = tt
params-writable (l ∷ ls) h = (param-writable l h.0, params-writable ls h.1)

params-texts : (ls : List (List ℕ)) → All (λ l. param_formed l ≡ true) ls → All (λ l. clean l ≡ true) ls → All Texts (map param_of ls)
params-texts [] h c = tt
params-texts (l ∷ ls) h c = (param-texts l h.0 c.0, params-texts ls h.1 c.1)

-- THE LAW
pub record Parted (l : Line) : Type 0 where
  pub named : is_name l.name ≡ true
  pub writable : All Writable l.params
  pub texts : All Texts l.params
  pub value : clean l.value ≡ true

headed-parts : (ls : List (List ℕ)) (v : List ℕ) → head_formed ls ≡ true → All (λ l. clean l ≡ true) ls → clean v ≡ true → Parted (headed ls v)
unfolding headed head_formed
headed-parts [] v h c d = never h refl
headed-parts (n ∷ ps) v h c d =
    let b = both (is_name n) (all param_formed ps) h in
    let k = all-All param_formed ps b.1 in
    record { named = b.0; writable = params-writable ps k; texts = params-texts ps k c.1; value = d }

pub line-parts : (s : List ℕ) → clean s ≡ true → formed s ≡ true → Parted (line_of s)
unfolding line_of formed ascii plain_octet is_control
line-parts s c f =
    let k = cut-clean (code ":") refl refl false s c in
    headed-parts (pieces (code ";") false (before (code ":") false s)) (behind (code ":") false s) (both (has_bare (code ":") false s) _ f).1
    (pieces-clean (code ";") refl refl false (before (code ":") false s) k.0) k.1
