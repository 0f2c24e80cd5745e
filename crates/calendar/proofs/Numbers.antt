-- Numbers in the digits of a text, one digit more at a time.
use Prim.Native.Nat.{ℕ, ◌+◌, ◌-◌, ◌*◌, ◌≤◌, ◌<◌}
use Prim.Native.Char.{code}
use mathlib.Core.Path.{◌≡◌, refl, sym}
use mathlib.Core.List.{List, [], ◌∷◌, ◌++◌}
use lib.ListN.{length, get_or, take, drop}
use lib.Seq.{take-add, drop-drop}
use Rattle.octets.specs.Decimal.{value_from}
use Rattle.octets.proofs.Positions.{here, ended}

value-append : (a : ℕ) (xs ys : List ℕ) → value_from a (xs ++ ys) ≡ value_from (value_from a xs) ys
unfolding value_from
value-append a [] ys = refl
value-append a (x ∷ xs) ys = value-append (a * 10 + (x - code "0")) xs ys

pub no_digit : (t : List ℕ) (at a : ℕ) → length t ≤ at → a ≡ value_from a (take 1 (drop at t))
unfolding value_from
no_digit t at a h = rw (ended t at h)

pub one-digit : (t : List ℕ) (at a : ℕ) → at < length t → a * 10 + (get_or t at 0 - code "0") ≡ value_from a (take 1 (drop at t))
unfolding value_from
one-digit t at a h = rw (here t at h)

pub digit-more : (t : List ℕ) (at n a : ℕ) → value_from (value_from a (take n (drop at t))) (take 1 (drop (at + n) t)) ≡ value_from a (take (n + 1) (drop at t))
digit-more t at n a = sym (rw (take-add n 1 (drop at t), drop-drop n at t) (value-append a (take n (drop at t)) (take 1 (drop (at + n) t))))
