-- JSON numbers (RFC 8259 6) as an automaton: the text up to the first octet that cannot belong to it.
use Rattle.std.specs.Prelude.{ℕ, ◌-◌, Bool, true, false, List, [], ◌∷◌, eqb, length, take}
use Prim.Native.Char.{code}
use Rattle.octets.specs.Basics.{pick, ◌or◌}
use Rattle.octets.specs.Classes.{is_digit}
use Rattle.json_text.specs.Reads.{Out, ok, bad, and_then}

-- where in a number: before it; behind the minus, a leading zero, digits of int, the point, digits of frac, e, its sign, digits of exp; beyond it
pub data NumberPlace : Type 0 where
  start minus zero int point frac e sign exp beyond : NumberPlace

unfoldable pub is_exponent : ℕ → Bool
is_exponent b = eqb b (code "e") or eqb b (code "E")

unfoldable pub is_plus_minus : ℕ → Bool
is_plus_minus b = eqb b (code "+") or eqb b (code "-")

-- behind int: a fraction, an exponent, or the end
unfoldable pub behind_int : ℕ → NumberPlace
behind_int b = pick (eqb b (code ".")) point (pick (is_exponent b) e beyond)

unfoldable pub first_digit : ℕ → NumberPlace
first_digit b = pick (eqb b (code "0")) zero (pick (is_digit b) int beyond)

unfoldable pub advance : NumberPlace → ℕ → NumberPlace
advance start b = pick (eqb b (code "-")) minus (first_digit b)
advance minus b = first_digit b
advance zero b = behind_int b
advance int b = pick (is_digit b) int (behind_int b)
advance point b = pick (is_digit b) frac beyond
advance frac b = pick (is_digit b) frac (pick (is_exponent b) e beyond)
advance e b = pick (is_plus_minus b) sign (pick (is_digit b) exp beyond)
advance sign b = pick (is_digit b) exp beyond
advance exp b = pick (is_digit b) exp beyond
advance beyond b = beyond

unfoldable pub is_beyond : NumberPlace → Bool
is_beyond start = false
is_beyond minus = false
is_beyond zero = false
is_beyond int = false
is_beyond point = false
is_beyond frac = false
is_beyond e = false
is_beyond sign = false
is_beyond exp = false
is_beyond beyond = true

-- where a number may end
unfoldable pub number_ends : NumberPlace → Bool
number_ends start = false
number_ends minus = false
number_ends zero = true
number_ends int = true
number_ends point = false
number_ends frac = true
number_ends e = false
number_ends sign = false
number_ends exp = true
number_ends beyond = false

unfoldable pub scan : NumberPlace → List ℕ → Out (Unit {0})
scan q [] = pick (number_ends q) (ok tt []) bad
scan q (b ∷ s) = pick (is_beyond (advance q b)) (pick (number_ends q) (ok tt (b ∷ s)) bad) (scan (advance q b) s)

unfoldable pub number_read : List ℕ → Out (List ℕ)
number_read s = and_then (scan start s) (λ _ u. ok (take (length s - length u) s) u)
