-- Reading texts one octet after the other reads each piece between bare separators.
use Prim.Native.Nat.{ℕ}
use Prim.Native.Char.{code}
use mathlib.Core.Path.{◌≡◌, refl, ap, ◌∙◌}
use mathlib.Core.Bool.{Bool, true, false, not}
use mathlib.Core.List.{List, [], ◌∷◌, ◌++◌, map}
use mathlib.Core.Option.{Option, none, some}
use lib.Dec.{eqb}
use Rattle.octets.specs.Basics.{◌and◌, ◌or◌}
use Rattle.octets.specs.Pieces.{onto, cut}
use Rattle.octets.specs.Optional.{map?, both?, when, each}
use Rattle.octets.specs.Classes.{plain_octet}
use Rattle.octets.proofs.Cases.{cases, same?, never}
use Rattle.json_text.specs.Tree.{str}
use Rattle.values.specs.Sorts.{text, is_text}
use Rattle.values.specs.Texts.{escapes_next, bare_from, bare_split, unescaped_octet, unescaped_from, unescaped, fields}
use Rattle.values.specs.TextWalk.{Act, add, next, escape, stop, act, escapes, done, texts_from, texts}
use Rattle.values.specs.Read.{read_text, read_one, values_in, read_values}

-- the separators of a kind: a bare comma separates, and a bare semicolon is refused; or the other way round
pub data Separators : ℕ → ℕ → Type 0 where
  commas : Separators (code ",") (code ";")
  semicolons : Separators (code ";") (code ",")

-- what an act says of its octet: what it adds to the piece, whether it separates, and whether the next one is escaped
abbrev Does : ℕ → Bool → ℕ → Act → Type 0
Does sep e c (add d) = (unescaped_octet e c ≡ some (d ∷ [])) × ((not e and eqb c sep) ≡ false) × (escapes_next e c ≡ false)
Does sep e c next = ((not e and eqb c sep) ≡ true) × (e ≡ false) × (escapes_next e c ≡ false)
Does sep e c escape = (unescaped_octet e c ≡ some []) × ((not e and eqb c sep) ≡ false) × (escapes_next e c ≡ true)
Does sep e c stop = (unescaped_octet e c ≡ none) × ((not e and eqb c sep) ≡ false) × (escapes_next e c ≡ false)

does : {sep other : ℕ} → Separators sep other → (e : Bool) (c : ℕ) → Does sep e c (act sep other e c)
unfolding act unescaped_octet escapes_next when
does seps true c =
    cases (eqb c (code "\\") or eqb c (code ";") or eqb c (code ",")) (λ e. rw e (rw e (refl, refl, refl))) λ n.
    cases (eqb c (code "n") or eqb c (code "N")) (λ e. rw (n, e) (rw (n, e) (refl, refl, refl))) (λ e. rw (n, e) (rw (n, e) (refl, refl, refl)))
does commas false c =
    same? c (code "\\") (λ e. rw e (refl, refl, refl)) λ n₁.
    same? c (code ",") (λ e. rw e (refl, refl, refl)) λ n₂.
    cases (eqb c (code ";")) (λ e. rw (n₁, n₂, e) (rw (n₁, n₂, e) (refl, refl, refl))) λ n₃.
    cases (plain_octet c) (λ e. rw (n₁, n₂, n₃, e) (rw (n₁, n₂, n₃, e) (refl, refl, refl))) (λ e. rw (n₁, n₂, n₃, e) (rw (n₁, n₂, n₃, e) (refl, refl, refl)))
does semicolons false c =
    same? c (code "\\") (λ e. rw e (refl, refl, refl)) λ n₁.
    same? c (code ";") (λ e. rw e (refl, refl, refl)) λ n₂.
    cases (eqb c (code ",")) (λ e. rw (n₁, n₂, e) (rw (n₁, n₂, e) (refl, refl, refl))) λ n₃.
    cases (plain_octet c) (λ e. rw (n₁, n₂, n₃, e) (rw (n₁, n₂, n₃, e) (refl, refl, refl))) (λ e. rw (n₁, n₂, n₃, e) (rw (n₁, n₂, n₃, e) (refl, refl, refl)))

-- a backslash adds nothing
pub nothing-more : (o : Option (List ℕ)) → both? ◌++◌ (some []) o ≡ o
unfolding both?
nothing-more none = refl
nothing-more (some t) = refl

pub bare-filled : (sep : ℕ) (e : Bool) (s : List ℕ) → bare_from sep e s ≡ [] → ⊥
unfolding bare_from
bare-filled sep e [] q = let z : ◌≡◌ {A = Bool} true false = cc in never refl z
bare-filled sep e (c ∷ s) q = cut-filled (not e and eqb c sep) (bare_from sep (escapes_next e c) s) q
  where
    cut-filled : (b : Bool) (ls : List (List ℕ)) → cut b c ls ≡ [] → ⊥
    cut-filled true ls q = unfold cut in let z : ◌≡◌ {A = Bool} true false = cc in never refl z
    cut-filled false [] q = unfold cut onto in let z : ◌≡◌ {A = Bool} true false = cc in never refl z
    cut-filled false (l ∷ ls) q = unfold cut onto in let z : ◌≡◌ {A = Bool} true false = cc in never refl z

module _ (sep other : ℕ) (seps : Separators sep other) where
  -- the pieces, where the first one begins behind a backslash or not
  abbrev pieces : Bool → List (List ℕ) → Option (List (List ℕ))
  pieces e [] = some []
  pieces e (l ∷ ls) = both? ◌∷◌ (unescaped_from e l) (each unescaped ls)

  piece-more : (e : Bool) (c : ℕ) (a : Act) (l : List ℕ) (ls : List (List ℕ)) → Does sep e c a → pieces e (cut (not e and eqb c sep) c (l ∷ ls)) ≡ done a (pieces (escapes_next e c) (l ∷ ls))
  unfolding cut onto unescaped_from unescaped each done
  piece-more e c (add d) l ls h = rw (h.1, h.0, h.2) (adds (unescaped_from false l) (each unescaped ls))
    where
      adds : (o : Option (List ℕ)) (r : Option (List (List ℕ))) → both? ◌∷◌ (both? ◌++◌ (some (d ∷ [])) o) r ≡ map? (onto d) (both? ◌∷◌ o r)
      adds none r = unfold both? map? in refl
      adds (some t) none = unfold both? map? in refl
      adds (some t) (some ts) = unfold both? map? onto in refl
  piece-more e c next l ls h = rw (h.0, h.2, h.1) (ends (both? ◌∷◌ (unescaped_from false l) (each unescaped ls)))
    where
      ends : (r : Option (List (List ℕ))) → both? ◌∷◌ (when (not false) []) r ≡ map? (λ ts. [] ∷ ts) r
      ends none = unfold both? map? when in refl
      ends (some ts) = unfold both? map? when in refl
  piece-more e c escape l ls h = rw (h.1, h.0, h.2) (ap (λ (o : Option (List ℕ)). both? ◌∷◌ o (each unescaped ls)) (nothing-more (unescaped_from true l)))
  piece-more e c stop l ls h = rw (h.1, h.0) (unfold both? in refl)

  act-escapes : (e : Bool) (c : ℕ) (a : Act) → Does sep e c a → escapes_next e c ≡ escapes a
  unfolding escapes
  act-escapes e c (add d) h = h.2
  act-escapes e c next h = h.2
  act-escapes e c escape h = h.2
  act-escapes e c stop h = h.2

  pieces_more : (e : Bool) (c : ℕ) (a : Act) (ls : List (List ℕ)) → (ls ≡ [] → ⊥) → Does sep e c a → pieces e (cut (not e and eqb c sep) c ls) ≡ done a (pieces (escapes a) ls)
  pieces_more e c a [] n h = absurd (n refl)
  pieces_more e c a (l ∷ ls) n h = piece-more e c a l ls h ∙ ap (λ (b : Bool). done a (pieces b (l ∷ ls))) (act-escapes e c a h)

  walked : (e : Bool) (s : List ℕ) → pieces e (bare_from sep e s) ≡ texts_from sep other e s
  unfolding bare_from texts_from
  walked true [] = unfold unescaped_from when both? in refl
  walked false [] = unfold unescaped_from when both? each in refl
  walked e (c ∷ s) =
      let a = act sep other e c in
      let h = does seps e c in
      pieces_more e c a (bare_from sep (escapes_next e c) s) (bare-filled sep (escapes_next e c) s) h
      ∙ ap (λ (b : Bool). done a (pieces (escapes a) (bare_from sep b s))) (act-escapes e c a h)
      ∙ ap (done a) (walked (escapes a) s)

  each-pieces : (ls : List (List ℕ)) → (ls ≡ [] → ⊥) → each unescaped ls ≡ pieces false ls
  unfolding each unescaped
  each-pieces [] n = absurd (n refl)
  each-pieces (l ∷ ls) n = refl

  -- THE LAW
  pub texts-walked : (s : List ℕ) → each unescaped (bare_split sep s) ≡ texts_from sep other false s
  unfolding bare_split
  texts-walked s = each-pieces (bare_from sep false s) (bare-filled sep false s) ∙ walked false s

pub fields-walked : (s : List ℕ) → fields s ≡ texts_from (code ";") (code ",") false s
unfolding fields
fields-walked s = texts-walked (code ";") (code ",") semicolons s

each_map : {A B C : Type 0} (f : B → C) (g : A → Option B) (xs : List A) → each (λ x. map? f (g x)) xs ≡ map? (map f) (each g xs)
unfolding each map? both?
each_map f g [] = refl
each_map f g (x ∷ xs) = rw (each_map f g xs) (one (g x) (each g xs))
  where
    one : (o : Option _) (r : Option _) → both? ◌∷◌ (map? f o) (map? (map f) r) ≡ map? (map f) (both? ◌∷◌ o r)
    one none r = refl
    one (some y) none = refl
    one (some y) (some ys) = refl

-- text values
pub texts-read : (s : List ℕ) → read_values text s ≡ map? (map str) (texts s)
unfolding read_values values_in is_text read_one read_text texts
texts-read s = each_map str unescaped (bare_split (code ",") s) ∙ ap (map? (map str)) (texts-walked (code ",") (code ";") commas s)
