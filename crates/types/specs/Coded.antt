-- The fourteen types as the code has them.
use Rattle.std.specs.Prelude.{ℕ, Some, None}
use Rattle.std.specs.declared.option.Option as code
use Rattle.types.specs.Codes.{unprocessed, binary, boolean, cal_address, date, date_time, duration, float, integer, period, recur, text, time, uri, utc_offset}
use Rattle.types.specs.declared.kinds.ValueType.{ValueType}
use Rattle.types.specs.declared.kinds.ValueType.TheVariants.{Binary, Boolean, CalAddress, Date, DateTime, Duration, Float, Integer, Period, Recur, Text, Time, Uri, UtcOffset}

abbrev pub type_code : ValueType → ℕ
type_code Binary = binary
type_code Boolean = boolean
type_code CalAddress = cal_address
type_code Date = date
type_code DateTime = date_time
type_code Duration = duration
type_code Float = float
type_code Integer = integer
type_code Period = period
type_code Recur = recur
type_code Text = text
type_code Time = time
type_code Uri = uri
type_code UtcOffset = utc_offset

-- a type's code, if there is a type
abbrev pub coded : code.Option ValueType → ℕ
coded None = unprocessed
coded (Some t) = type_code t
