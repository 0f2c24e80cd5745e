-- What a caller in another language gets: a conversion's number and length in one word, and the lent buffer.
use Rattle.std.specs.Prelude.{ℕ, ◌-◌, ◌≡◌, List, eqb}
use Rattle.octets.specs.Basics.{pick}
use Rattle.octets.specs.Answers.{Settled, outcome}
use Rattle.std.specs.declared.result.Result.{Result}
use Rattle.octets.specs.declared.Refusal.{Refusal}

-- the greatest number of a word
unfoldable pub most_word : ℕ
most_word = 18446744073709551615

-- the length; or, for refusal n, n less than the greatest
unfoldable pub word : Settled → ℕ
word s = pick (eqb s.number 0) s.length (most_word - s.number)

-- r is the word of an answer, whatever the buffer is then
abbrev pub Worded : Result ℕ Refusal → ℕ → Type 0
Worded c r = (out : List ℕ) → r ≡ word (outcome c out)

-- the word and the buffer as it is then settle what the conversion leaves
pub record Returns (s : Settled) (r : ℕ) (out : List ℕ) : Type 0 where
  pub is : r ≡ word s
  pub buffer : out ≡ s.buffer
