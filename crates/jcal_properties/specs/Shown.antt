-- The type that VALUE names, and a property up to its type as the code writes it.
use Rattle.std.specs.Prelude.{ℕ, Bool, List, ◌++◌}
use Rattle.std.proofs.Math.Option.{Option, none}
use Rattle.octets.specs.Basics.{octets}
use Rattle.octets.specs.Classes.{lower}
use Rattle.octets.specs.Answers.{Answer, refused, accepted}
use Rattle.json_text.specs.Tree.{obj}
use Rattle.json_text.specs.Print.{print, print_string}
use Rattle.content.specs.Line.{Param}
use Rattle.content.specs.Parameters.{without_value, staying, members_of}

-- the type that VALUE names; none where it is refused
unfoldable pub named_type : Answer (Option (List ℕ)) → Option (List ℕ)
named_type (refused n) = none
named_type (accepted type) = type

-- up to the type, where the value is decoded or not
unfoldable pub front_text : List ℕ → Bool → List Param → List ℕ
front_text name decodes ps = octets "[" ++ (print_string (lower name) ++ (octets "," ++ (print (obj (members_of (staying decodes (without_value ps)))) ++ octets ",")))
