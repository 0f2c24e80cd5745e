-- A text that stands in another.
use Prim.Native.Nat.{ℕ, ◌+◌, ◌-◌, ◌≤◌}
use mathlib.Core.Path.{◌≡◌, refl, sym, ap, ◌∙◌}
use mathlib.Core.List.{List}
use native.Mathlib.Omega.{arith}
use lib.ListN.{length, take, drop}
use lib.Seq.{take_all, take-take, drop-drop}
use Rattle.std.proofs.lemmas.List.{drop-take}
use Rattle.octets.proofs.Positions.{upto, part_length}
use Rattle.content.specs.Parts.{StandsIn}

pub stands-whole : (s : List ℕ) → StandsIn s s
stands-whole s = record {
  from = 0;
  end = length s;
  ordered = omega arith;
  within = omega arith;
  text = sym (upto s (length s) ∙ take_all (length s) s (omega arith));
}

-- what the places cut out
pub stands-cut : (s : List ℕ) (i j : ℕ) → i ≤ j → j ≤ length s → StandsIn s (take (j - i) (drop i s))
stands-cut s i j h k = record { from = i; end = j; ordered = h; within = k; text = refl }

-- a part of a part
cut-again : (s : List ℕ) (i n j m : ℕ) → j + m ≤ n → take m (drop j (take n (drop i s))) ≡ take m (drop (i + j) s)
cut-again s i n j m h =
    let e : n ≡ j + (n - j) = omega arith in
    ap (λ (k : ℕ). take m (drop j (take k (drop i s)))) e
    ∙ ap (take m) (drop-take j (n - j) (drop i s))
    ∙ take-take m (n - j) (drop j (drop i s)) (omega arith)
    ∙ ap (take m) (drop-drop j i s)

module _ (s t u : List ℕ) (a : StandsIn s t) (b : StandsIn t u) where
  inner : b.end ≤ a.end - a.from
  inner = let l : length t ≡ a.end - a.from = ap (λ (l : List ℕ). length l) a.text ∙ part_length s a.from a.end a.ordered a.within in omega (arith, l, b.within)

  pub stands-through : StandsIn s u
  stands-through =
      let e : a.from + b.end - (a.from + b.from) ≡ b.end - b.from = omega arith in
      record {
        from = a.from + b.from;
        end = a.from + b.end;
        ordered = omega (arith, b.ordered);
        within = omega (arith, a.ordered, a.within, inner);
        text = b.text
            ∙ ap (λ (l : List ℕ). take (b.end - b.from) (drop b.from l)) a.text
            ∙ cut-again s a.from (a.end - a.from) b.from (b.end - b.from) (omega (arith, b.ordered, inner))
            ∙ ap (λ (k : ℕ). take k (drop (a.from + b.from) s)) (sym e);
      }
