-- Lines by places: the CR of a CRLF, and the three lines of an input.
use Prim.Native.Nat.{ℕ, zero, suc, ◌+◌, ◌≤◌, ◌<◌}
use Prim.Native.Char.{code}
use mathlib.Core.Path.{◌≡◌, refl, sym, ap, ◌∙◌}
use mathlib.Core.Bool.{true}
use mathlib.Core.List.{List, [], ◌∷◌, cons≢nil}
use native.Mathlib.Omega.{arith}
use borrow.Author.Tests.{eq-eqb, ne_eqb, le-leb, lt-leb}
use lib.Dec.{eqb}
use lib.ListN.{length, get_or, take, drop, length-drop}
use Rattle.octets.specs.Basics.{filled}
use Rattle.octets.specs.Pieces.{split, joined}
use Rattle.octets.specs.Optional.{when, given}
use Rattle.octets.specs.Decimal.{digits}
use Rattle.octets.specs.Limits.{most_text}
use Rattle.octets.proofs.Cases.{and-false-right}
use Rattle.octets.proofs.Positions.{ended}
use Rattle.octets.proofs.Classes.{filled-some}
use Rattle.octets.proofs.Pieces.{split-filled, joined-split}
use Rattle.calendar.specs.Walk.{before_first}
use Rattle.calendar.proofs.Pieces.{before-take, split-more, split-last, before-all}
use Rattle.stops_page.specs.Printing.{most_of, shown_for, bad_input, chop, input_lines, lines_shown, printed}
use Rattle.stops_page.specs.Pages.{third_shown}

-- a line that CR ends, and one that does not
pub chop-none : (s : List ℕ) → length s ≡ 0 → s ≡ chop s
unfolding chop
chop-none [] e = refl
chop-none (c ∷ s) e = absurd (omega arith)

pub chop-return : (s : List ℕ) (n : ℕ) → length s ≡ suc n → get_or s n 0 ≡ code "\r" → take n s ≡ chop s
unfolding chop filled
chop-return [] n l e = absurd (omega arith)
chop-return (c ∷ []) zero l e = rw (eq-eqb c 13 e)
chop-return (c ∷ []) (suc n) l e = absurd (omega arith)
chop-return (c ∷ d ∷ s) zero l e = absurd (omega arith)
chop-return (c ∷ d ∷ s) (suc n) l e = rw (and-false-right (eqb c 13)) (ap (λ (t : List ℕ). c ∷ t) (chop-return (d ∷ s) n (omega arith) e))

pub chop-other : (s : List ℕ) (n : ℕ) → length s ≡ suc n → (get_or s n 0 ≡ code "\r" → ⊥) → s ≡ chop s
unfolding chop filled
chop-other [] n l e = refl
chop-other (c ∷ []) zero l e = rw (ne_eqb c 13 e)
chop-other (c ∷ []) (suc n) l e = absurd (omega arith)
chop-other (c ∷ d ∷ s) zero l e = absurd (omega arith)
chop-other (c ∷ d ∷ s) (suc n) l e = rw (and-false-right (eqb c 13)) (ap (λ (t : List ℕ). c ∷ t) (chop-other (d ∷ s) n (omega arith) e))

-- the lines of a text, by the place of its first LF
behind-line : (s : List ℕ) (ls : List (List ℕ)) → (ls ≡ [] → ⊥) → input_lines (s ∷ ls) ≡ chop s ∷ input_lines ls
unfolding input_lines
behind-line s [] n = absurd (n refl)
behind-line s (l ∷ ls) n = refl

module _ (s : List ℕ) (n : ℕ) (e : n ≡ length (before_first (code "\n") s)) where
  -- LF stands at n
  lines_more : n < length s → input_lines (split (code "\n") s) ≡ chop (take n s) ∷ input_lines (split (code "\n") (drop (n + 1) s))
  lines_more h =
      let b : before_first (code "\n") s ≡ take n s = before-take (code "\n") s ∙ ap (λ (k : ℕ). take k s) (sym e) in
      let m : split (code "\n") s ≡ take n s ∷ split (code "\n") (drop (n + 1) s) = rw (← e, b) at (split-more (code "\n") s (rw e at h)) in
      rw m (behind-line (take n s) _ (split-filled (code "\n") (drop (n + 1) s)))

  -- there is none
  lines-last : length s ≤ n → input_lines (split (code "\n") s) ≡ input_lines (s ∷ [])
  lines-last h =
      let k : length s ≤ length (before_first (code "\n") s) = rw e at h in
      ap input_lines (split-last (code "\n") s k ∙ ap (λ (l : List ℕ). l ∷ []) (before-all (code "\n") s k))

-- a text that has octets has a line
alone : (s : List ℕ) → filled s ≡ true → input_lines (s ∷ []) ≡ s ∷ []
unfolding input_lines
alone s f = rw f

whole : (s l : List ℕ) → split (code "\n") s ≡ l ∷ [] → l ≡ s
unfolding joined
whole s l e = rw e at (joined-split (code "\n") s)

some-line : {P : Type 0} (s : List ℕ) → filled s ≡ true → ((l : List ℕ) (ls : List (List ℕ)) → input_lines (split (code "\n") s) ≡ l ∷ ls → P) → P
some-line {P = P} s f k = by (split (code "\n") s) refl
  where
    by : (ls : List (List ℕ)) → split (code "\n") s ≡ ls → P
    by [] e = absurd (split-filled (code "\n") s e)
    by (l ∷ []) e = let w = whole s l e in k s [] (ap input_lines e ∙ ap (λ (t : List ℕ). input_lines (t ∷ [])) w ∙ alone s f)
    by (l ∷ m ∷ ls) e = k (chop l) (input_lines (m ∷ ls)) (ap input_lines e ∙ behind-line l (m ∷ ls) (λ z. cons≢nil z))

-- the third line and what stands behind it
module _ (a b s : List ℕ) (n : ℕ) (e : n ≡ length (before_first (code "\n") s)) where
  bare : (c : List ℕ) → shown_for (chop a) (chop b) c ≡ lines_shown (chop a ∷ chop b ∷ input_lines (c ∷ []))
  unfolding input_lines lines_shown filled
  bare [] = unfold shown_for most_of digits given when in refl
  bare (x ∷ c) = refl

  pub third-open : length s ≤ n → shown_for (chop a) (chop b) s ≡ third_shown a b s
  unfolding third_shown
  third-open h = rw (lines-last s n e h) (bare s)

  pub third-ended : length s ≡ n + 1 → shown_for (chop a) (chop b) (chop (take n s)) ≡ third_shown a b s
  unfolding third_shown lines_shown
  third-ended h = rw (lines_more s n e (omega arith), ended s (n + 1) (omega arith)) (unfold split input_lines filled in refl)

  pub third-more : n < length s → (length s ≡ n + 1 → ⊥) → bad_input ≡ third_shown a b s
  unfolding third_shown lines_shown
  third-more h k = some-line (drop (n + 1) s) (filled-some (drop (n + 1) s) (λ z. let d = length-drop (n + 1) s in k (omega arith)))
      (λ l ls w. rw (lines_more s n e h, w))

-- the whole text
module _ (s : List ℕ) where
  pub too_long : most_text < length s → bad_input ≡ printed s
  unfolding printed
  too_long h = rw (lt-leb (length s) most_text h)

  module _ (fits : length s ≤ most_text) (n : ℕ) (e : n ≡ length (before_first (code "\n") s)) where
    pub one_line : length s ≤ n → bad_input ≡ printed s
    unfolding printed
    one_line h = rw (le-leb (length s) most_text fits, lines-last s n e h) (single s)
      where
        single : (c : List ℕ) → bad_input ≡ lines_shown (input_lines (c ∷ []))
        single [] = unfold input_lines lines_shown filled in refl
        single (x ∷ c) = unfold input_lines lines_shown filled in refl

    module _ (h : n < length s) (m : ℕ) (d : m ≡ length (before_first (code "\n") (drop (n + 1) s))) where
      pub two-lines : length (drop (n + 1) s) ≤ m → bad_input ≡ printed s
      unfolding printed
      two-lines k = rw (le-leb (length s) most_text fits, lines_more s n e h, lines-last (drop (n + 1) s) m d k) (second (drop (n + 1) s))
        where
          second : (c : List ℕ) → bad_input ≡ lines_shown (chop (take n s) ∷ input_lines (c ∷ []))
          second [] = unfold input_lines lines_shown filled in refl
          second (x ∷ c) = unfold input_lines lines_shown filled in refl

      pub third-line : m < length (drop (n + 1) s) → third_shown (take n s) (take m (drop (n + 1) s)) (drop (m + 1) (drop (n + 1) s)) ≡ printed s
      unfolding printed third_shown
      third-line k = rw (le-leb (length s) most_text fits, lines_more s n e h, lines_more (drop (n + 1) s) m d k)
