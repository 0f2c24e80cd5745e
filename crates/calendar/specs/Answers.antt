-- What the answers of the code say, as values of the definitions.
use Rattle.std.specs.Prelude.{ℕ, suc, ◌+◌, ◌*◌, ◌/◌, ◌%◌, Ok, Err}
use Rattle.std.specs.declared.result.Result.{Result}
use Rattle.octets.specs.Basics.{pick}
use Rattle.octets.specs.Optional.{given}
use Rattle.octets.specs.Limits.{last_year}
use Rattle.calendar.specs.Gregorian.{month_days, date_on, day_number}
use Rattle.calendar.specs.Moments.{is_moment, moved}
use Rattle.calendar.specs.declared.dates.Month.{Month}
use Rattle.calendar.specs.declared.moments.Moment.{Moment}
use Rattle.calendar.specs.declared.moments.NotMoved.{NotMoved}
use Rattle.calendar.specs.declared.moments.NotMoved.TheVariants.{Past, NoMoment}

-- the months that can be named; and the i-th of them, from 0000-01 on
unfoldable pub month_count : ℕ
month_count = suc last_year * 12

unfoldable pub month_at : ℕ → Month
month_at i = record { first = day_number (date_on (i / 12) (i % 12 + 1) 1); days = month_days (i / 12) (i % 12 + 1) }

-- h hours later, or past 9999; what is no moment is not moved
unfoldable pub moved_on : Moment → ℕ → Result Moment NotMoved
moved_on m h = pick (is_moment m) (given (Err Past) Ok (moved m h)) (Err NoMoment)
