-- What `parse` leaves: its answer and the whole lent tape.
use Rattle.std.specs.Prelude.{ℕ, ◌+◌, ◌*◌, List, ◌++◌, leb, length, drop, replicate, Result, Ok, Err}
use Rattle.octets.specs.Basics.{pick}
use Rattle.json_text.specs.Tree.{Json}
use Rattle.json_text.specs.Reads.{Out, ok, deep, bad}
use Rattle.json_text.specs.Tape.{ser}
use Rattle.json_text.specs.declared.JsonError.{JsonError}
use Rattle.json_text.specs.declared.JsonError.TheVariants.{TooDeep, NotJson, NoRoom}

pub record Taped : Type 0 where
  pub answer : Result ℕ JsonError
  pub tape : List ℕ

abbrev pub taped : Result ℕ JsonError → List ℕ → Taped
taped r t = record { answer = r; tape = t }

-- where there is no value, or no room for it, the whole tape is zero
unfoldable pub blank : JsonError → List ℕ → Taped
blank w t = taped (Err w) (replicate (length t) 0)

unfoldable pub parsed_onto : Out Json → List ℕ → Taped
parsed_onto (ok j s) t = pick (leb (length (ser j)) (length t)) (taped (Ok (length (ser j))) (ser j ++ drop (length (ser j)) t)) (blank NoRoom t)
parsed_onto deep t = blank TooDeep t
parsed_onto bad t = blank NotJson t

-- a tape that is long enough for every text of n octets
unfoldable pub most_tape : ℕ → ℕ
most_tape n = 2 * n + 2
