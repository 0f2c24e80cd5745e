-- A length is its own word, and a refusal's number is told from it.
use Rattle.std.proofs.Common.{ℕ, ◌-◌, ap}
use Rattle.octets.specs.Answers.{outcome}
use Rattle.ffi.specs.Words.{most_word, word}
use Rattle.ffi.proofs.Words.{refused-word}
use Rattle.ffi.proofs.word_of.Goals as goal

pub returns-in-Ok : goal.returns-in-Ok
returns-in-Ok c = unfold word outcome in λ out. rw c.in-Ok.is

pub returns-in-Err : goal.returns-in-Err
returns-in-Err c = unfold outcome most_word in λ out. rw (c.in-Err.is, ← refused-word _ out) (ap (λ (n : ℕ). most_word - n) c.number.ensures)
