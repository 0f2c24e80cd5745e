-- The conversion from each of its tests on, as the code goes from one to the next.
use Rattle.std.specs.Prelude.{ℕ, List}
use Rattle.octets.specs.Answers.{Answer, accepted, then}
use Rattle.json_text.specs.Print.{print}
use Rattle.content.specs.Line.{Line}
use Rattle.conversion_theory.specs.Tree.{Property}
use Rattle.conversion_theory.specs.Structure.{Event, structured}
use Rattle.conversion_theory.specs.Growth.{each_property, tree_of}
use Rattle.conversion_theory.specs.Jcal.{jcal_of}
use Rattle.conversion_theory.specs.ToJcal.{read_lines_by}

-- from 7, 8 and 9 on
unfoldable pub properties_jcal : (Line → Answer Property) → List (Event Line) → Answer (List ℕ)
properties_jcal f es = then (each_property f es) (λ ps. accepted (print (jcal_of (tree_of ps))))

-- from 5 and 6 on
unfoldable pub events_jcal : (Line → Answer Property) → List (Event Line) → Answer (List ℕ)
events_jcal f es = then (structured es) (properties_jcal f)

-- from 3 on
unfoldable pub lines_jcal : (Line → Answer Property) → List (List ℕ) → Answer (List ℕ)
lines_jcal f ls = then (read_lines_by f ls) (λ c. accepted (print (jcal_of c)))
