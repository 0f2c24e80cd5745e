-- The form of a content line as a walk tests it: the place of each octet.
use Rattle.std.specs.Prelude.{ℕ, ◌≤◌, ◌≡◌, Bool, true, false, List, [], ◌∷◌, eqb, length, drop}
use Prim.Native.Char.{code}
use Rattle.octets.specs.Basics.{pick}
use Rattle.octets.specs.Classes.{name_octet}

-- Where in a line the next octet stands: at the start or in the name; at the start or in a parameter's name; in a parameter's value:
-- at its start, plain, in quotes, behind them; in the value; or in no content line.
pub data LinePlace : Type 0 where
  start name param_start param_name value_start plain quoted unquoted value nowhere : LinePlace

-- behind a parameter's value: another value, another parameter, or the line's value
unfoldable pub behind_value : ℕ → LinePlace → LinePlace
behind_value c p = pick (eqb c (code ",")) value_start (pick (eqb c (code ";")) param_start (pick (eqb c (code ":")) value p))

-- a double quote stands only around a value
unfoldable pub in_value : ℕ → LinePlace
in_value c = behind_value c (pick (eqb c (code "\"")) nowhere plain)

-- the place behind the octet c
unfoldable pub place_behind : LinePlace → ℕ → LinePlace
place_behind start c = pick (name_octet c) name nowhere
place_behind name c = pick (name_octet c) name (pick (eqb c (code ";")) param_start (pick (eqb c (code ":")) value nowhere))
place_behind param_start c = pick (name_octet c) param_name nowhere
place_behind param_name c = pick (name_octet c) param_name (pick (eqb c (code "=")) value_start nowhere)
place_behind value_start c = pick (eqb c (code "\"")) quoted (in_value c)
place_behind plain c = in_value c
place_behind quoted c = pick (eqb c (code "\"")) unquoted quoted
place_behind unquoted c = behind_value c nowhere
place_behind value c = value
place_behind nowhere c = nowhere

unfoldable pub place_after : LinePlace → List ℕ → LinePlace
place_after p [] = p
place_after p (c ∷ s) = place_after (place_behind p c) s

unfoldable pub is_value : LinePlace → Bool
is_value start = false
is_value name = false
is_value param_start = false
is_value param_name = false
is_value value_start = false
is_value plain = false
is_value quoted = false
is_value unquoted = false
is_value value = true
is_value nowhere = false

-- from place p at i the line has the form where it has it from place q at e
pub record Passes (s : List ℕ) (p : LinePlace) (i : ℕ) (q : LinePlace) (e : ℕ) : Type 0 where
  pub low : i ≤ e
  pub high : e ≤ length s
  pub told : is_value (place_after p (drop i s)) ≡ is_value (place_after q (drop e s))
