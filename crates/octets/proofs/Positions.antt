-- Positions in a list: what stands at one, and what lies behind it. A scanner at i has `drop i s` before it.
use Prim.Native.Nat.{ℕ, suc, ◌+◌, ◌-◌, ◌≤◌, ◌<◌}
use mathlib.Core.Path.{◌≡◌, sym, ap, ◌∙◌}
use mathlib.Core.List.{List, [], ◌∷◌, ◌++◌}
use native.Mathlib.Numerals.{add-one}
use native.Mathlib.Nat.{add-zero}
use native.Mathlib.Omega.{arith}
use lib.ListN.{length, get_or, take, drop, length-drop, length-take, drop_of_length-le, take-append-drop}
use lib.Seq.{drop-cons, take-suc, take_all, drop-drop, get_or-drop}

-- the element at i, and what lies behind
pub here : (s : List ℕ) (i : ℕ) → i < length s → drop i s ≡ get_or s i 0 ∷ drop (i + 1) s
here s i h = rw add-one (drop-cons s i 0 h)

pub ended : (s : List ℕ) (i : ℕ) → length s ≤ i → drop i s ≡ []
ended s i h = drop_of_length-le s h

-- one element more in front
pub taken : (s : List ℕ) (i : ℕ) → i < length s → take (i + 1) s ≡ take i s ++ get_or s i 0 ∷ []
taken s i h = rw add-one (take-suc s i 0 h)

-- `&s[i..]` is what lies behind i
pub from : (s : List ℕ) (i : ℕ) → take (length s - i) (drop i s) ≡ drop i s
from s i = take_all (length s - i) (drop i s) (rw (length-drop i s) (omega arith))

-- `&s[0..n]` is what stands before n
pub upto : (s : List ℕ) (n : ℕ) → take (n - 0) (drop 0 s) ≡ take n s
upto s n = let e : n - 0 ≡ n = omega arith in rw e

-- a part, and what lies behind it
pub part-rest : (s : List ℕ) (i j : ℕ) → i ≤ j → drop i s ≡ take (j - i) (drop i s) ++ drop j s
part-rest s i j h =
    let e : i + (j - i) ≡ j = omega arith in
    sym (ap (λ (r : List ℕ). take (j - i) (drop i s) ++ r) (ap (λ (k : ℕ). drop k s) (sym e) ∙ sym (drop-drop (j - i) i s)) ∙ take-append-drop (j - i) (drop i s))

pub part_length : (s : List ℕ) (i j : ℕ) → i ≤ j → j ≤ length s → length (take (j - i) (drop i s)) ≡ j - i
part_length s i j h k = rw (length-take, length-drop) (omega arith)

-- a part grows by the element behind it
pub part-more : (s : List ℕ) (i j : ℕ) → i ≤ j → j < length s → take (j + 1 - i) (drop i s) ≡ take (j - i) (drop i s) ++ get_or s j 0 ∷ []
part-more s i j h k =
    let e : j + 1 - i ≡ suc (j - i) = omega arith in
    let f : i + (j - i) ≡ j = omega arith in
    let g : j - i < length (drop i s) = rw length-drop (omega arith) in
    rw (e, take-suc (drop i s) (j - i) 0 g, get_or-drop i s (j - i) 0, f)

-- the first element of what lies behind, and the one after it
pub first_of : (s : List ℕ) (i : ℕ) → get_or (drop i s) 0 0 ≡ get_or s i 0
first_of s i = get_or-drop i s 0 0 ∙ ap (λ (k : ℕ). get_or s k 0) (add-zero i)

pub past_end : (s : List ℕ) (i : ℕ) → length s ≤ i → get_or s i 0 ≡ 0
past_end s i h = sym (first_of s i) ∙ ap (λ (l : List ℕ). get_or l 0 0) (ended s i h)
