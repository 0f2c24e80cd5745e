-- What the private functions promise.
use Rattle.std.specs.Prelude.{ℕ, suc, Bool, true, false, not, List, [], ◌∷◌, eqb, get_or, Some, None}
use Rattle.std.proofs.Math.Option.{Option, none, some}
use Rattle.octets.specs.Optional.{is_some, guard}
use Rattle.octets.specs.Classes.{upper}
use Rattle.octets.specs.Pen.{Pen, pen}
use Rattle.types.specs.Codes.{type_names}
use Rattle.types.specs.Table.{Entry, entry, Table, find}
use Rattle.std.specs.declared.option.Option as coded

-- the rows whose names begin with k
abbrev pub keep : Bool → Entry → Table → Table
keep true e t = e ∷ t
keep false e t = t

unfoldable pub led : ℕ → Table → Table
led k [] = []
led k (e ∷ t) = keep (eqb k (get_or e.name 0 0)) e (led k t)

-- names as rows, with codes from k on
unfoldable pub numbered : ℕ → List (List ℕ) → Table
numbered k [] = []
numbered k (n ∷ ns) = entry (upper n) k false ∷ numbered (suc k) ns

-- the fourteen types as rows
unfoldable pub types : Table
types = numbered 1 type_names

-- a row, where the table does not list its name
unfoldable pub if_unlisted : Table → Option Entry → Option Entry
if_unlisted t r = guard (λ e. not (is_some (find t e.name))) r

-- the pen behind what was laid out, with the buffer as it is then
unfoldable pub pen_behind : coded.Option ℕ → List ℕ → Option Pen
pen_behind (Some n) b = some (pen b n)
pen_behind None b = none
