-- The stages of the conversion, over a tape: what is refused, and the text that is written.
use Rattle.std.specs.Prelude.{ℕ, List, leb}
use Rattle.octets.specs.Basics.{◌and◌}
use Rattle.octets.specs.Limits.{most_levels, most_open}
use Rattle.octets.specs.Answers.{Answer, accepted, then, unless}
use Rattle.types.specs.Table.{Table}
use Rattle.json_text.specs.Reader.{parse_text}
use Rattle.tape.specs.Decode.{value_at}
use Rattle.tape.specs.Scan.{sound_tape}
use Rattle.content.specs.Fold.{text_of}
use Rattle.conversion_theory.specs.Tree.{Component, levels, properties_of}
use Rattle.conversion_theory.specs.Skeleton.{is_calendar, component_from, calendar_of}
use Rattle.conversion_theory.specs.ToIcal.{json_of, checked_all, component_lines, written}

-- the component on a tape
unfoldable pub component_on : List ℕ → Component
component_on t = component_from most_open (value_at t 0)

-- 12 and 6, then 7, 8, 9
unfoldable pub judged : Table → List ℕ → Answer (Unit {0})
judged table t =
    unless 12 (sound_tape t and is_calendar (value_at t 0)) (λ _.
    unless 6 (leb (levels (component_on t)) most_levels) (λ _.
    checked_all table (properties_of (component_on t))))

unfoldable pub tape_text : Table → List ℕ → Answer (List ℕ)
tape_text table t = then (judged table t) (λ _. accepted (text_of (component_lines table (component_on t))))

-- a text as it was received
unfoldable pub parsed_text : Table → List ℕ → Answer (List ℕ)
parsed_text table text = then (json_of (parse_text text)) (λ j. then (calendar_of j) (written table))
