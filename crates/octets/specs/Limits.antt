-- The limits of 01, Numbers that bound the work, and of RFC 5545 3.1; each is named here alone.
use Rattle.std.specs.Prelude.{ℕ}

-- octets of a converted text
unfoldable pub most_text : ℕ
most_text = 65536

-- levels of components, VCALENDAR being the first
unfoldable pub most_levels : ℕ
most_levels = 8

-- JSON arrays and objects open at once
unfoldable pub most_open : ℕ
most_open = 32

-- rows of rows.hex
unfoldable pub most_rows : ℕ
most_rows = 64

-- octets of a written line before CRLF
unfoldable pub most_columns : ℕ
most_columns = 75

-- an integer, a COUNT or an INTERVAL
unfoldable pub most_integer : ℕ
most_integer = 2147483647

unfoldable pub last_year : ℕ
last_year = 9999
