-- What rules a value, by the property's name and the type's code (01, Which type and Values).
use Rattle.std.specs.Prelude.{ℕ, Bool, true, false, List, eqb}
use Rattle.octets.specs.Basics.{octets, pick, same}
use Rattle.types.specs.Codes as code

-- `plain`: unprocessed values, URIs and cal-addresses; `geo` and `status`: GEO as float, REQUEST-STATUS as text
pub data Sort : Type 0 where
  plain binary boolean date date_time duration float geo integer period recur text status time utc_offset : Sort

-- the name is in lowercase
unfoldable pub sort_of : List ℕ → ℕ → Sort
sort_of n c =
    pick (eqb c code.binary) binary
    (pick (eqb c code.boolean) boolean
    (pick (eqb c code.date) date
    (pick (eqb c code.date_time) date_time
    (pick (eqb c code.duration) duration
    (pick (eqb c code.float) (pick (same n (octets "geo")) geo float)
    (pick (eqb c code.integer) integer
    (pick (eqb c code.period) period
    (pick (eqb c code.recur) recur
    (pick (eqb c code.text) (pick (same n (octets "request-status")) status text)
    (pick (eqb c code.time) time
    (pick (eqb c code.utc_offset) utc_offset plain)))))))))))

-- texts, which split at bare commas
unfoldable pub is_text : Sort → Bool
is_text plain = false
is_text binary = false
is_text boolean = false
is_text date = false
is_text date_time = false
is_text duration = false
is_text float = false
is_text geo = false
is_text integer = false
is_text period = false
is_text recur = false
is_text text = true
is_text status = false
is_text time = false
is_text utc_offset = false

-- values split at commas as their type says, plain ones as URIs; GEO and REQUEST-STATUS are one array each
unfoldable pub sort_splits : Sort → Bool
sort_splits plain = code.type_splits code.uri
sort_splits binary = code.type_splits code.binary
sort_splits boolean = code.type_splits code.boolean
sort_splits date = code.type_splits code.date
sort_splits date_time = code.type_splits code.date_time
sort_splits duration = code.type_splits code.duration
sort_splits float = code.type_splits code.float
sort_splits geo = false
sort_splits integer = code.type_splits code.integer
sort_splits period = code.type_splits code.period
sort_splits recur = code.type_splits code.recur
sort_splits text = code.type_splits code.text
sort_splits status = false
sort_splits time = code.type_splits code.time
sort_splits utc_offset = code.type_splits code.utc_offset
