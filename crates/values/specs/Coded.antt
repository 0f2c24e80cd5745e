-- The sorts as the code has them.
use Rattle.values.specs.Sorts as spec
use Rattle.values.specs.declared.sorts.Sort.{Sort}
use Rattle.values.specs.declared.sorts.Sort.TheVariants.{Plain, Binary, Boolean, Date, DateTime, Duration, Float, Geo, Integer, Period, Recur, Text, Status, Time, UtcOffset}

unfoldable pub sort_said : Sort → spec.Sort
sort_said Plain = spec.plain
sort_said Binary = spec.binary
sort_said Boolean = spec.boolean
sort_said Date = spec.date
sort_said DateTime = spec.date_time
sort_said Duration = spec.duration
sort_said Float = spec.float
sort_said Geo = spec.geo
sort_said Integer = spec.integer
sort_said Period = spec.period
sort_said Recur = spec.recur
sort_said Text = spec.text
sort_said Status = spec.status
sort_said Time = spec.time
sort_said UtcOffset = spec.utc_offset
