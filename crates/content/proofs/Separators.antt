-- Bare separators by places: the parts of a content line, the parameters in it, the values of a parameter.
use Prim.Native.Nat.{ℕ, suc, ◌+◌, ◌-◌, ◌≤◌, ◌<◌}
use Prim.Native.Char.{code}
use mathlib.Core.Path.{◌≡◌, refl, sym, ap, ◌∙◌}
use mathlib.Core.Bool.{Bool, true, false, not}
use mathlib.Core.List.{List, [], ◌∷◌, ◌++◌, map}
use native.Mathlib.Omega.{arith}
use borrow.Author.Tests.{eqb-true, eq-eqb}
use lib.Dec.{eqb}
use lib.ListN.{length, get_or, take, drop, length-append}
use lib.Seq.{drop-drop}
use Rattle.octets.specs.Basics.{pick, ◌and◌, ◌or◌}
use Rattle.octets.specs.Pieces.{onto, cut}
use Rattle.octets.proofs.Cases.{cases, never, either, neither}
use Rattle.octets.proofs.Positions.{here, ended, upto, part_length}
use Rattle.content.specs.Line.{quote_after, bare, before, behind, pieces, headed, param_of, line_of}
use Rattle.content.specs.Scan.{until_bare}
use Rattle.content.specs.Parts.{other_pieces, params_in, line_at, Cut, param_at, CutParam}
use Rattle.content.proofs.Scanning.{bare-here, bare_high, bare-is, bare-rest, bare-stop}

-- either of two separators
abbrev pub one_of : ℕ → ℕ → ℕ → Bool
one_of a b c = eqb c a or eqb c b

-- the same separator twice
pub twice-one : (b : Bool) → (b or b) ≡ b
twice-one true = refl
twice-one false = refl

pub before-is : (sep : ℕ) (q : Bool) (s : List ℕ) → until_bare (one_of sep sep) q s ≡ before sep q s
unfolding until_bare before bare
before-is sep q [] = refl
before-is sep q (c ∷ s) = rw (twice-one (eqb c sep), before-is sep (quote_after q c) s)

-- no bare separator where neither of two is one
neither-bare : (q a b : Bool) → (not q and (a or b)) ≡ false → ((not q and a) ≡ false) × ((not q and b) ≡ false)
neither-bare true a b e = (refl, refl)
neither-bare false a b e = neither a b e

not-quoted : (q b : Bool) → (not q and b) ≡ true → q ≡ false
not-quoted true b e = never e refl
not-quoted false b e = refl

-- what stands before the next of two separators, and how the line goes on there, outside quotes
pub record Skips (first last : ℕ) (q : Bool) (s : List ℕ) : Type 0 where
  pub whole : before last q s ≡ until_bare (one_of first last) q s ++ before last false (drop (length (until_bare (one_of first last) q s)) s)
  pub rest : behind last q s ≡ behind last false (drop (length (until_bare (one_of first last) q s)) s)
  pub parts : pieces first q (before last q s)
      ≡ until_bare (one_of first last) q s ∷ other_pieces (pieces first false (before last false (drop (length (until_bare (one_of first last) q s)) s)))
  pub front : before first q (before last q s) ≡ until_bare (one_of first last) q s
  pub back : behind first q (before last q s) ≡ behind first false (before last false (drop (length (until_bare (one_of first last) q s)) s))

module _ (first last : ℕ) where
  none : (q : Bool) → Skips first last q []
  unfolding until_bare before behind pieces other_pieces
  none q = record { whole = refl; rest = refl; parts = refl; front = refl; back = refl }

  stops-parts : (c : ℕ) (s : List ℕ) → (eqb c first or eqb c last) ≡ true
      → pieces first false (before last false (c ∷ s)) ≡ [] ∷ other_pieces (pieces first false (before last false (c ∷ s)))
  unfolding before pieces bare cut other_pieces
  stops-parts c s e = cases (eqb c last)
      (λ g. rw g)
      (λ g. either (eqb c first) (eqb c last) e (λ h. rw (g, h)) (λ h. never h g))

  stops-front : (c : ℕ) (s : List ℕ) → (eqb c first or eqb c last) ≡ true → before first false (before last false (c ∷ s)) ≡ []
  unfolding before bare
  stops-front c s e = cases (eqb c last)
      (λ g. rw g)
      (λ g. either (eqb c first) (eqb c last) e (λ h. rw (g, h)) (λ h. never h g))

  stops : (c : ℕ) (s : List ℕ) → (eqb c first or eqb c last) ≡ true → Skips first last false (c ∷ s)
  unfolding until_bare
  stops c s e = record {
    whole = rw e;
    rest = rw e;
    parts = rw e (stops-parts c s e);
    front = rw e (stops-front c s e);
    back = rw e;
  }

  goes : (q : Bool) (c : ℕ) (s : List ℕ) → (not q and (eqb c first or eqb c last)) ≡ false → Skips first last (quote_after q c) s → Skips first last q (c ∷ s)
  unfolding until_bare before behind pieces bare cut onto
  goes q c s e k =
      let b = neither-bare q (eqb c first) (eqb c last) e in
      record {
        whole = rw (e, b.1) (ap (λ (r : List ℕ). c ∷ r) k.whole);
        rest = rw (e, b.1) k.rest;
        parts = rw (e, b.1, b.0, k.parts);
        front = rw (e, b.1, b.0, k.front);
        back = rw (e, b.1, b.0) k.back;
      }

  pub skips : (q : Bool) (s : List ℕ) → Skips first last q s
  skips q [] = none q
  skips q (c ∷ s) = cases (not q and (eqb c first or eqb c last))
      (λ e. rw (not-quoted q _ e) (stops c s (rw (not-quoted q _ e) at e)))
      (λ e. goes q c s e (skips (quote_after q c) s))

-- what stands behind a separator
behind-by : (b : Bool) (c : ℕ) (l m s : List ℕ) → m ≡ drop (suc (length l)) s → pick b s m ≡ drop (length (pick b [] (c ∷ l))) s
behind-by true c l m s h = refl
behind-by false c l m s h = h

behind-drop : (sep : ℕ) (q : Bool) (s : List ℕ) → behind sep q s ≡ drop (suc (length (before sep q s))) s
unfolding before behind
behind-drop sep q [] = refl
behind-drop sep q (c ∷ s) = behind-by (bare sep q c) c (before sep (quote_after q c) s) (behind sep (quote_after q c) s) s (behind-drop sep (quote_after q c) s)

-- by places: the next `sep` from i on is at e
module _ (sep : ℕ) (s : List ℕ) (i e : ℕ) (q : e ≡ i + length (until_bare (one_of sep sep) false (drop i s))) where
  pub sep-before : before sep false (drop i s) ≡ take (e - i) (drop i s)
  sep-before = sym (bare-is (one_of sep sep) s i e q ∙ before-is sep false (drop i s))

  pub sep-behind : behind sep false (drop i s) ≡ drop (e + 1) s
  sep-behind =
      let n : i + suc (length (until_bare (one_of sep sep) false (drop i s))) ≡ e + 1 = omega arith in
      behind-drop sep false (drop i s)
      ∙ rw (← before-is sep false (drop i s), drop-drop (suc (length (until_bare (one_of sep sep) false (drop i s)))) i s, n)

-- the first piece, and the others
pieces-by : (sep : ℕ) (q : Bool) (c : ℕ) (s : List ℕ) (b : Bool) → bare sep q c ≡ b
    → pieces sep (quote_after q c) s ≡ before sep (quote_after q c) s ∷ other_pieces (pieces sep false (drop (length (before sep (quote_after q c) s)) s))
    → cut b c (pieces sep (quote_after q c) s) ≡ pick b [] (c ∷ before sep (quote_after q c) s) ∷ other_pieces (pieces sep false (drop (length (pick b [] (c ∷ before sep (quote_after q c) s))) (c ∷ s)))
unfolding cut onto pieces other_pieces bare
pieces-by sep q c s true e h = rw (not-quoted q (eqb c sep) e, rw (not-quoted q (eqb c sep) e) at e)
pieces-by sep q c s false e h = rw h

pub pieces-first : (sep : ℕ) (q : Bool) (s : List ℕ) → pieces sep q s ≡ before sep q s ∷ other_pieces (pieces sep false (drop (length (before sep q s)) s))
unfolding pieces before other_pieces
pieces-first sep q [] = refl
pieces-first sep q (c ∷ s) = pieces-by sep q c s (bare sep q c) refl (pieces-first sep (quote_after q c) s)

pub pieces-filled : (sep : ℕ) (q : Bool) (s : List ℕ) → pieces sep q s ≡ [] → ⊥
pieces-filled sep q s e =
    let z : ◌≡◌ {A = ℕ} 0 1 = by (sym (pieces-first sep q s) ∙ e) in
    omega arith
  where
    by : {l : List ℕ} {ls : List (List ℕ)} → l ∷ ls ≡ [] → ◌≡◌ {A = ℕ} 0 1
    by h = cc

-- by places: the piece from i to the next `sep` at e
module _ (sep : ℕ) (n : eqb sep (code "\"") ≡ false) (s : List ℕ) (i e : ℕ) (q : e ≡ i + length (until_bare (one_of sep sep) false (drop i s))) where
  piece-at : pieces sep false (drop i s) ≡ take (e - i) (drop i s) ∷ other_pieces (pieces sep false (drop e s))
  piece-at =
      pieces-first sep false (drop i s)
      ∙ rw (← before-is sep false (drop i s), bare-rest (one_of sep sep) s i e q, ← bare-is (one_of sep sep) s i e q)

  pub piece-last : length s ≤ e → pieces sep false (drop i s) ≡ take (e - i) (drop i s) ∷ []
  unfolding pieces other_pieces
  piece-last h = piece-at ∙ rw (ended s e h)

  pub piece-stop : e < length s → get_or s e 0 ≡ sep
  piece-stop h = eqb-true (get_or s e 0) sep (rw (twice-one (eqb (get_or s e 0) sep)) at (bare-stop (one_of sep sep) s i e q h))

  pub piece-on : e < length s → pieces sep false (drop i s) ≡ take (e - i) (drop i s) ∷ pieces sep false (drop (e + 1) s)
  unfolding pieces other_pieces bare quote_after cut
  piece-on h = piece-at ∙ rw (here s e h, piece-stop h, eq-eqb sep sep refl, n)

-- the parts of a line
module _ (l : List ℕ) (n c : ℕ) (p : n ≡ 0 + length (until_bare (one_of (code ";") (code ":")) false (drop 0 l)))
    (q : c ≡ n + length (until_bare (one_of (code ":") (code ":")) false (drop n l))) where
  name-is : until_bare (one_of (code ";") (code ":")) false l ≡ take n l
  name-is = sym (bare-is (one_of (code ";") (code ":")) l 0 n p) ∙ upto l n

  line-is : (v : ℕ) → drop v l ≡ drop (c + 1) l → line_at l (record { name = n; colon = c; value = v }) ≡ line_of l
  unfolding line_at line_of headed params_in
  line-is v e =
      let k = skips (code ";") (code ":") false l in
      let r : drop (length (until_bare (one_of (code ";") (code ":")) false l)) l ≡ drop n l = bare-rest (one_of (code ";") (code ":")) l 0 n p in
      rw (k.parts, k.rest, r, name-is, sep-before (code ":") l n c q, sep-behind (code ":") l n c q, e)

  colon-is : c ≡ length (before (code ":") false l)
  colon-is =
      let r : drop (length (until_bare (one_of (code ";") (code ":")) false l)) l ≡ drop n l = bare-rest (one_of (code ";") (code ":")) l 0 n p in
      rw ((skips (code ";") (code ":") false l).whole, r, length-append, ← before-is (code ":") false (drop n l)) (omega arith)

  pub cut-colon : c < length l → Cut l (record { name = n; colon = c; value = c + 1 })
  cut-colon h = record {
    name-within = omega arith;
    colon-within = omega arith;
    value-within = omega arith;
    colon-at = colon-is;
    line = line-is (c + 1) refl;
  }

  pub cut-none : length l ≤ c → Cut l (record { name = n; colon = c; value = c })
  cut-none h = record {
    name-within = omega arith;
    colon-within = omega arith;
    value-within = bare_high (one_of (code ":") (code ":")) l n c q (bare_high (one_of (code ";") (code ":")) l 0 n p (omega arith));
    colon-at = colon-is;
    line = line-is c (ended l c h ∙ sym (ended l (c + 1) (omega arith)));
  }

-- the parts of a parameter
module _ (s : List ℕ) (i n e : ℕ) (p : n ≡ i + length (until_bare (one_of (code "=") (code ";")) false (drop i s)))
    (q : e ≡ n + length (until_bare (one_of (code ";") (code ";")) false (drop n s))) where
  rest-is : drop (length (until_bare (one_of (code "=") (code ";")) false (drop i s))) (drop i s) ≡ drop n s
  rest-is = bare-rest (one_of (code "=") (code ";")) s i n p

  piece_is : before (code ";") false (drop i s) ≡ take (n - i) (drop i s) ++ take (e - n) (drop n s)
  piece_is = (skips (code "=") (code ";") false (drop i s)).whole
      ∙ rw (rest-is, ← bare-is (one_of (code "=") (code ";")) s i n p, sep-before (code ";") s n e q)

  behind-name : behind (code "=") false (before (code ";") false (drop i s)) ≡ behind (code "=") false (take (e - n) (drop n s))
  behind-name = (skips (code "=") (code ";") false (drop i s)).back ∙ rw (rest-is, sep-before (code ";") s n e q)

  param_is : (v : ℕ) → behind (code "=") false (take (e - n) (drop n s)) ≡ take (e - v) (drop v s)
      → param_of (before (code ";") false (drop i s)) ≡ param_at s i (record { name = n; values = v; end = e })
  unfolding param_of param_at
  param_is v h = rw ((skips (code "=") (code ";") false (drop i s)).front, ← bare-is (one_of (code "=") (code ";")) s i n p, behind-name, h)

  module _ (l : i ≤ length s) where
    n-high : n ≤ length s
    n-high = bare_high (one_of (code "=") (code ";")) s i n p l

    e-high : e ≤ length s
    e-high = bare_high (one_of (code ";") (code ";")) s n e q n-high

    piece-rest : drop (length (before (code ";") false (drop i s))) (drop i s) ≡ drop e s
    piece-rest =
        let a = part_length s i n (omega arith) n-high in
        let b = part_length s n e (omega arith) e-high in
        let m : i + length (before (code ";") false (drop i s)) ≡ e = rw (piece_is, length-append, a, b) (omega arith) in
        drop-drop (length (before (code ";") false (drop i s))) i s ∙ rw m

    next-is : e < length s → get_or s e 0 ≡ code ";"
    next-is h = eqb-true (get_or s e 0) (code ";") (rw (twice-one (eqb (get_or s e 0) (code ";"))) at (bare-stop (one_of (code ";") (code ";")) s n e q h))

    params_is : map param_of (pieces (code ";") false (drop i s)) ≡ param_of (before (code ";") false (drop i s)) ∷ params_in (drop e s)
    unfolding params_in
    params_is = rw (pieces-first (code ";") false (drop i s), piece-rest)

    cut_by : (v : ℕ) → n ≤ v → v ≤ e → behind (code "=") false (take (e - n) (drop n s)) ≡ take (e - v) (drop v s) → CutParam s i (record { name = n; values = v; end = e })
    cut_by v g h k = record {
      name-low = omega arith;
      name-within = g;
      values-within = h;
      end-within = e-high;
      next = next-is;
      params = params_is ∙ rw (param_is v k);
    }

    -- no equals sign
    pub param-bare : e ≤ n → CutParam s i (record { name = n; values = n; end = e })
    unfolding behind
    param-bare h =
        let z : e - n ≡ 0 = omega arith in
        cut_by n (omega arith) (omega arith) (rw z)

    equals : n < e → get_or s n 0 ≡ code "="
    equals h = either (eqb (get_or s n 0) (code "=")) (eqb (get_or s n 0) (code ";")) (bare-stop (one_of (code "=") (code ";")) s i n p (omega (arith, e-high)))
        (λ g. eqb-true (get_or s n 0) (code "=") g)
        (λ g. absurd (omega (arith, bare-here (one_of (code ";") (code ";")) s n false (omega (arith, e-high)) (rw g))))

    pub param-equals : n < e → CutParam s i (record { name = n; values = n + 1; end = e })
    unfolding behind bare
    param-equals h =
        let m : e - n ≡ suc (e - (n + 1)) = omega arith in
        cut_by (n + 1) (omega arith) (omega arith) (rw (m, here s n (omega (arith, e-high)), equals h))
