-- The stop list (01, The stop list; 02, [1]): which rules it serves, the stops of a start and a rule, and what a lent list of stop records holds then.
use Rattle.std.specs.Prelude.{ℕ, Bool, true, false, not, List, ◌++◌, map, eqb, length, drop, Ok, Err}
use Rattle.std.specs.declared.result.Result.{Result}
use Rattle.octets.specs.Basics.{◌and◌, ◌or◌}
use Rattle.octets.specs.Optional.{guard}
use Rattle.octets.specs.Answers.{number, Answer, refused, accepted, then, or_else, unless}
use Rattle.octets.specs.declared.Refusal.{Refusal}
use Rattle.calendar.specs.Moments.{read_moment, same_kind}
use Rattle.calendar.specs.Rules.{read_rule}
use Rattle.calendar.specs.declared.moments.Kind.{Kind}
use Rattle.calendar.specs.declared.moments.Kind.TheVariants.{Day}
use Rattle.calendar.specs.declared.moments.Moment.{Moment}
use Rattle.calendar.specs.declared.rules.Frequency.{Frequency}
use Rattle.calendar.specs.declared.rules.Frequency.TheVariants.{Secondly, Minutely, Hourly, Daily, Weekly, Monthly, Yearly}
use Rattle.calendar.specs.declared.rules.End.{End}
use Rattle.calendar.specs.declared.rules.End.TheVariants.{Count, Until, Open}
use Rattle.calendar.specs.declared.rules.ByParts.{ByParts}
use Rattle.calendar.specs.declared.by_days.ByDays.{ByDays}
use Rattle.calendar.specs.declared.rules.Rule.{Rule}
use Rattle.recurrence_set.specs.Meets.{listed}
use Rattle.stop_list.specs.declared.Stop.{Stop}

-- number 13: a date or date-time whose second is not 60
unfoldable pub start_of : List ℕ → Answer Moment
start_of s = or_else 13 (guard (λ (m : Moment). not (eqb m.second 60)) (read_moment s))

-- HOURLY, DAILY, WEEKLY and MONTHLY; HOURLY not from a date
unfoldable pub frequency_served : Frequency → Kind → Bool
frequency_served Secondly k = false
frequency_served Minutely k = false
frequency_served Hourly k = not (same_kind k Day)
frequency_served Daily k = true
frequency_served Weekly k = true
frequency_served Monthly k = true
frequency_served Yearly k = false

-- a BY part other than BYDAY and BYMONTHDAY
unfoldable pub other_by : ByParts → Bool
other_by b = b.second or b.minute or b.hour or b.yearday or b.weekno or b.month or b.setpos

-- of BYDAY and BYMONTHDAY, HOURLY and DAILY serve neither, WEEKLY a BYDAY without a number, MONTHLY one of them
unfoldable pub days_served : Frequency → ByParts → ByDays → Bool
days_served Secondly b d = false
days_served Minutely b d = false
days_served Hourly b d = not (b.day or b.monthday)
days_served Daily b d = not (b.day or b.monthday)
days_served Weekly b d = not b.monthday and eqb d.ordinals 0 and eqb d.lastordinals 0
days_served Monthly b d = not (b.day and b.monthday)
days_served Yearly b d = false

-- an UNTIL is of the start's kind, and its second is not 60
unfoldable pub end_served : End → Kind → Bool
end_served (Count n) k = true
end_served (Until u) k = same_kind u.kind k and not (eqb u.second 60)
end_served Open k = true

-- number 15
unfoldable pub served : Rule → Kind → Bool
served r k = frequency_served r.frequency k and not (other_by r.by) and days_served r.frequency r.by r.days and end_served r.end k

abbrev pub stop : Moment → Stop
stop m = record { moment = m }

-- the stops of a start and a rule, as octets, for a list of so many records
unfoldable pub list_of : List ℕ → List ℕ → ℕ → Answer (List Stop)
list_of start rule room =
    then (start_of start) (λ m.
    then (or_else 14 (read_rule rule)) (λ r.
    unless 15 (served r m.kind) (λ u.
    accepted (map stop (listed r m room)))))

-- what listing leaves: its number (0 for success), the count, and the whole lent list
pub record ListSettled : Type 0 where
  pub number : ℕ
  pub count : ℕ
  pub list : List Stop

abbrev pub list_settled : ℕ → ℕ → List Stop → ListSettled
list_settled n c l = record { number = n; count = c; list = l }

-- a refusal leaves the list unchanged, and so does success behind the count
unfoldable pub list_answer : Answer (List Stop) → List Stop → ListSettled
list_answer (refused n) list = list_settled n 0 list
list_answer (accepted ss) list = list_settled 0 (length ss) (ss ++ drop (length ss) list)

-- what a returned count or refusal says, with the list as it is then
unfoldable pub list_outcome : Result ℕ Refusal → List Stop → ListSettled
list_outcome (Ok n) list = list_settled 0 n list
list_outcome (Err r) list = list_settled (number r) 0 list
