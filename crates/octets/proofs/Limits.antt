-- The limits as the code's constants have them. Nothing else opens a limit: proofs go by these equations.
use mathlib.Core.Path.{◌≡◌, refl}
use Rattle.octets.specs.Limits.{most_text, most_levels, most_open, most_rows, most_columns, most_integer, last_year}

pub most-text : most_text ≡ 65536
unfolding most_text
most-text = refl

pub most-levels : most_levels ≡ 8
unfolding most_levels
most-levels = refl

pub most-open : most_open ≡ 32
unfolding most_open
most-open = refl

pub most-rows : most_rows ≡ 64
unfolding most_rows
most-rows = refl

pub most-columns : most_columns ≡ 75
unfolding most_columns
most-columns = refl

pub most-integer : most_integer ≡ 2147483647
unfolding most_integer
most-integer = refl

pub last-year : last_year ≡ 9999
unfolding last_year
last-year = refl
