-- Refusals by 01's numbers, and what a conversion leaves behind (01, Refusal numbers and their order).
use Rattle.std.specs.Prelude.{ℕ, Bool, true, false, List, ◌++◌, leb, length, drop, replicate}
use Rattle.std.proofs.Math.Option.{Option, none, some}
use Rattle.octets.specs.Basics.{pick}
use Rattle.octets.specs.declared.Refusal.{Refusal}
use Rattle.octets.specs.declared.Refusal.TheVariants.{TextTooLong, RowsMalformed, NotClean, NotContentLine, NotPaired, TooDeep, BadParameter, BadEncoding, BadValue, NoRoom, NotJson, NotJcal, BadStart, BadRule, NotServed}
use Rattle.std.specs.declared.result.Result.{Result}
use Rattle.std.specs.Prelude.{Ok, Err}

-- 01's number of each refusal
abbrev pub number : Refusal → ℕ
number TextTooLong = 1
number RowsMalformed = 2
number NotClean = 3
number NotContentLine = 4
number NotPaired = 5
number TooDeep = 6
number BadParameter = 7
number BadEncoding = 8
number BadValue = 9
number NoRoom = 10
number NotJson = 11
number NotJcal = 12
number BadStart = 13
number BadRule = 14
number NotServed = 15

-- what a stage answers: a refusal with its number, or what it accepted
pub data Answer (A : Type 0) : Type 0 where
  refused : ℕ → Answer A
  accepted : A → Answer A

-- the next stage, or the refusal stands
unfoldable pub then : {A B : Type 0} → Answer A → (A → Answer B) → Answer B
then (refused n) f = refused n
then (accepted a) f = f a

-- the refusal n, where there is nothing
unfoldable pub or_else : {A : Type 0} → ℕ → Option A → Answer A
or_else n none = refused n
or_else n (some a) = accepted a

-- the refusal n, where the test fails
unfoldable pub unless : {A : Type 0} → ℕ → Bool → (Unit {0} → Answer A) → Answer A
unless n true f = f tt
unless n false f = refused n

-- what a result of the code answers, a refusal by its number
abbrev pub answered : {A : Type 0} → Result A Refusal → Answer A
answered (Ok a) = accepted a
answered (Err r) = refused (number r)

-- what a conversion leaves: its number (0 for success), the length, and the whole lent buffer
pub record Settled : Type 0 where
  pub number : ℕ
  pub length : ℕ
  pub buffer : List ℕ

abbrev pub settled : ℕ → ℕ → List ℕ → Settled
settled n l b = record { number = n; length = l; buffer = b }

-- a refusal zeroes the whole buffer
unfoldable pub zeroed : ℕ → List ℕ → Settled
zeroed n out = settled n 0 (replicate (length out) 0)

-- a text that fits is laid at the front, and what lies behind is unchanged; a longer one is 10
unfoldable pub answer : Answer (List ℕ) → List ℕ → Settled
answer (refused n) out = zeroed n out
answer (accepted t) out = pick (leb (length t) (length out)) (settled 0 (length t) (t ++ drop (length t) out)) (zeroed 10 out)

-- what a returned result says, with the buffer as it is then
unfoldable pub outcome : Result ℕ Refusal → List ℕ → Settled
outcome (Ok n) out = settled 0 n out
outcome (Err r) out = settled (number r) 0 out

-- what a pen leaves that stopped at `at`, having begun at 0: the buffer as it is, or 10 where something did not fit
unfoldable pub finished : ℕ → List ℕ → Settled
finished at out = pick (leb at (length out)) (settled 0 at out) (zeroed 10 out)
