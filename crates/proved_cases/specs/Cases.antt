-- 01, Cases to prove together: one table, under one claim; with three of weekly and monthly rules (02, [1]) and two of encoded values (02, [2]).
use Rattle.std.specs.Prelude.{ℕ, ◌≡◌, List, [], ◌∷◌, ◌++◌}
use Rattle.octets.specs.Basics.{octets, All}
use Rattle.octets.specs.Answers.{refused, accepted}
use Rattle.conversion_theory.specs.ToJcal.{to_jcal}
use Rattle.conversion_theory.specs.ToIcal.{to_ical}
use Rattle.stops_page.specs.Printing.{printed}

-- a calendar of one property: as a content line, and as jCal
abbrev pub calendar : List ℕ → List ℕ
calendar line = octets "BEGIN:VCALENDAR\r\n" ++ (line ++ octets "\r\nEND:VCALENDAR\r\n")

abbrev pub jcal : List ℕ → List ℕ
jcal property = octets "[\"vcalendar\",[" ++ (property ++ octets "],[]]")

-- What a case says: under these rows the line has this property in jCal, or is refused; the property has this line in iCalendar; a whole text
-- and this jCal are written as each other; for this input `stops` prints this page.
pub data ClosedCase : Type 0 where
  becomes : List ℕ → List ℕ → List ℕ → ClosedCase
  refuses : List ℕ → List ℕ → ℕ → ClosedCase
  returns : List ℕ → List ℕ → List ℕ → ClosedCase
  pairs : List ℕ → List ℕ → List ℕ → ClosedCase
  prints : List ℕ → List ℕ → ClosedCase

abbrev pub Holds : ClosedCase → Type 0
Holds (becomes rows line property) = to_jcal rows (calendar line) ≡ accepted (jcal property)
Holds (refuses rows line number) = to_jcal rows (calendar line) ≡ refused number
Holds (returns rows property line) = to_ical rows (jcal property) ≡ accepted (calendar line)
Holds (pairs rows text j) = (to_jcal rows text ≡ accepted j) × (to_ical rows j ≡ accepted text)
Holds (prints input page) = printed input ≡ page

abbrev pub no_rows : List ℕ
no_rows = []

-- X-TROUGH as a date-time, many values
abbrev pub added : List ℕ
added = octets "0501582D54524F554748\n"

-- its line as it is sent, and its property in jCal without the row and with it
abbrev pub sent : List ℕ
sent = octets "X-TROUGH:20240229T060000Z"

abbrev pub unlisted_jcal : List ℕ
unlisted_jcal = octets "[\"x-trough\",{},\"unknown\",\"20240229T060000Z\"]"

abbrev pub listed_jcal : List ℕ
listed_jcal = octets "[\"x-trough\",{},\"date-time\",\"2024-02-29T06:00:00Z\"]"

-- its line with the value sent encoded, and its property in jCal without the row
abbrev pub encoded : List ℕ
encoded = octets "X-TROUGH;ENCODING=BASE64:MjAyNDAyMjlUMDYwMDAwWg=="

abbrev pub encoded_jcal : List ℕ
encoded_jcal = octets "[\"x-trough\",{\"encoding\":\"BASE64\"},\"unknown\",\"MjAyNDAyMjlUMDYwMDAwWg==\"]"

-- the line that says the type, for a table without the row
abbrev pub stated : List ℕ
stated = octets "X-TROUGH;VALUE=DATE-TIME:20240229T060000Z"

abbrev pub cases : List ClosedCase
cases =
    becomes no_rows (octets "DTSTART;VALUE=DATE:20240229") (octets "[\"dtstart\",{},\"date\",\"2024-02-29\"]")
    ∷ becomes no_rows (octets "DTSTART;VALUE=DATE:20000229") (octets "[\"dtstart\",{},\"date\",\"2000-02-29\"]")
    ∷ refuses no_rows (octets "DTSTART;VALUE=DATE:20230229") 9
    ∷ refuses no_rows (octets "DTSTART;VALUE=DATE:21000229") 9
    ∷ refuses no_rows (octets "DURATION:PT1H30S") 9
    ∷ becomes no_rows (octets "X-LOAD;VALUE=FLOAT:+007.50") (octets "[\"x-load\",{},\"float\",7.50]")
    ∷ becomes no_rows (octets "X-LOAD;X-NOTE=^^n:1") (octets "[\"x-load\",{\"x-note\":\"^n\"},\"unknown\",\"1\"]")
    ∷ refuses no_rows (octets "TZOFFSETTO:-0000") 9
    ∷ refuses no_rows (octets "PRIORITY:2147483648") 9
    ∷ becomes no_rows (octets "PRIORITY:-2147483648") (octets "[\"priority\",{},\"integer\",-2147483648]")
    ∷ prints (octets "20240228T180000\nFREQ=HOURLY;INTERVAL=12;COUNT=4\n10\n")
    (octets "stops 4\n1 2024-02-28T18:00:00\n2 2024-02-29T06:00:00\n3 2024-02-29T18:00:00\n4 2024-03-01T06:00:00\n")
    ∷ prints (octets "20240229\nFREQ=DAILY;INTERVAL=366\n2\n") (octets "stops 2\n1 2024-02-29\n2 2025-03-01\n")
    ∷ prints (octets "20240228\nFREQ=WEEKLY;BYDAY=TU,FR\n3\n") (octets "stops 3\n1 2024-03-01\n2 2024-03-05\n3 2024-03-08\n")
    ∷ prints (octets "20240131\nFREQ=MONTHLY\n3\n") (octets "stops 3\n1 2024-01-31\n2 2024-03-31\n3 2024-05-31\n")
    ∷ prints (octets "20240129\nFREQ=MONTHLY;BYDAY=-1MO\n3\n") (octets "stops 3\n1 2024-01-29\n2 2024-02-26\n3 2024-03-25\n")
    ∷ becomes no_rows sent unlisted_jcal
    ∷ becomes added sent listed_jcal
    ∷ returns no_rows listed_jcal stated
    ∷ becomes no_rows (octets "DESCRIPTION;ENCODING=BASE64:SGF5XCwgdGhlbiB3YXRlcg==") (octets "[\"description\",{},\"text\",\"Hay, then water\"]")
    ∷ refuses no_rows (octets "DESCRIPTION;ENCODING=BASE64:SGF5CndhdGVy") 9
    ∷ pairs no_rows (octets "BEGIN:VCALENDAR\r\nEND:VCALENDAR\r\n") (octets "[\"vcalendar\",[],[]]")
    ∷ []

-- THE CLAIM
abbrev pub AllHold : Type 0
AllHold = All Holds cases
