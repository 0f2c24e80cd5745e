-- Scans outside quotes by places: a loop that looks for the first octet of a kind, where it ends, and what it passed.
use Prim.Native.Nat.{ℕ, suc, ◌+◌, ◌-◌, ◌≤◌, ◌<◌}
use mathlib.Core.Path.{◌≡◌, refl, sym, ◌∙◌}
use mathlib.Core.Bool.{Bool, true, false, not}
use mathlib.Core.List.{List, [], ◌∷◌}
use native.Mathlib.Omega.{arith}
use lib.Dec.{eqb}
use lib.ListN.{length, get_or, take, drop, length-drop}
use lib.Seq.{drop-drop, get_or-drop}
use borrow.Author.Tests.{ne_eqb}
use Rattle.octets.specs.Basics.{pick, ◌and◌, ◌or◌}
use Rattle.octets.proofs.Cases.{never}
use Rattle.octets.proofs.Positions.{here, ended}
use Rattle.octets.proofs.Search.{le-by, take_by}
use Rattle.content.specs.Line.{quote_after}
use Rattle.content.specs.Scan.{until_bare}

module _ (stop : ℕ → Bool) where
  pub bare-le : (q : Bool) (s : List ℕ) → length (until_bare stop q s) ≤ length s
  unfolding until_bare
  bare-le q [] = omega arith
  bare-le q (c ∷ s) = le-by (not q and stop c) c (until_bare stop (quote_after q c) s) s (bare-le (quote_after q c) s)

  pub bare-take : (q : Bool) (s : List ℕ) → until_bare stop q s ≡ take (length (until_bare stop q s)) s
  unfolding until_bare
  bare-take q [] = refl
  bare-take q (c ∷ s) = take_by (not q and stop c) c (until_bare stop (quote_after q c) s) s (bare-take (quote_after q c) s)

  -- the scan ends at an octet of the kind
  ends_by : (b : Bool) (q : Bool) (c : ℕ) (l s : List ℕ) → (not q and stop c) ≡ b → (length l < length s → stop (get_or s (length l) 0) ≡ true)
      → length (pick b [] (c ∷ l)) < suc (length s) → stop (get_or (c ∷ s) (length (pick b [] (c ∷ l))) 0) ≡ true
  ends_by true true c l s e f h = never e refl
  ends_by true false c l s e f h = e
  ends_by false q c l s e f h = f (omega arith)

  bare_ends : (q : Bool) (s : List ℕ) → length (until_bare stop q s) < length s → stop (get_or s (length (until_bare stop q s)) 0) ≡ true
  unfolding until_bare
  bare_ends q [] h = absurd (omega arith)
  bare_ends q (c ∷ s) h = ends_by (not q and stop c) q c (until_bare stop (quote_after q c) s) s refl (bare_ends (quote_after q c) s) h

  -- a loop at i
  module _ (s : List ℕ) (i : ℕ) (q : Bool) where
    pub bare-none : length s ≤ i → length (until_bare stop q (drop i s)) ≡ 0
    unfolding until_bare
    bare-none h = rw (ended s i h)

    pub bare-here : i < length s → (not q and stop (get_or s i 0)) ≡ true → length (until_bare stop q (drop i s)) ≡ 0
    unfolding until_bare
    bare-here h e = rw (here s i h, e)

    pub bare-on : i < length s → (not q and stop (get_or s i 0)) ≡ false
        → length (until_bare stop q (drop i s)) ≡ suc (length (until_bare stop (quote_after q (get_or s i 0)) (drop (i + 1) s)))
    unfolding until_bare
    bare-on h e = rw (here s i h, e)

  -- outside quotes, at an octet that is neither of the kind nor a quote
  pub bare-plain : (s : List ℕ) (i : ℕ) → i < length s → (not false and stop (get_or s i 0)) ≡ false → eqb (get_or s i 0) 34 ≡ false
      → length (until_bare stop false (drop i s)) ≡ suc (length (until_bare stop false (drop (i + 1) s)))
  unfolding quote_after
  bare-plain s i h e f =
      let q : quote_after false (get_or s i 0) ≡ false = rw f in
      rw q at (bare-on s i false h e)

  -- the scan from i ends at e
  module _ (s : List ℕ) (i e : ℕ) (q : e ≡ i + length (until_bare stop false (drop i s))) where
    pub bare_high : i ≤ length s → e ≤ length s
    bare_high h = omega (arith, bare-le false (drop i s), length-drop i s)

    pub bare-is : take (e - i) (drop i s) ≡ until_bare stop false (drop i s)
    bare-is =
        let w : e - i ≡ length (until_bare stop false (drop i s)) = omega arith in
        rw w (sym (bare-take false (drop i s)))

    pub bare-rest : drop (length (until_bare stop false (drop i s))) (drop i s) ≡ drop e s
    bare-rest = drop-drop (length (until_bare stop false (drop i s))) i s ∙ rw (← q)

    pub bare-stop : e < length s → stop (get_or s e 0) ≡ true
    bare-stop h =
        let n : length (until_bare stop false (drop i s)) < length (drop i s) = rw (length-drop i s) (omega arith) in
        let o : get_or (drop i s) (length (until_bare stop false (drop i s))) 0 ≡ get_or s e 0 = get_or-drop i s (length (until_bare stop false (drop i s))) 0 ∙ rw (← q) in
        rw o at (bare_ends false (drop i s) n)

-- an octet above others is none of them
pub above-one : (x k most : ℕ) → k ≤ most → most < x → eqb x k ≡ false
above-one x k most h l = ne_eqb x k (λ z. omega arith)

pub above : (x a b most : ℕ) → a ≤ most → b ≤ most → most < x → (not false and (eqb x a or eqb x b)) ≡ false
above x a b most h k l = rw (above-one x a most h l, above-one x b most k l)
