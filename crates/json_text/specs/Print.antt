-- JSON written (01, Values): no white space; strings escape only the double quote, backslash, newline and tab, each by two characters.
use Rattle.std.specs.Prelude.{ℕ, List, [], ◌∷◌, ◌++◌, eqb}
use Prim.Native.Char.{code}
use Rattle.octets.specs.Basics.{octets, pick}
use Rattle.json_text.specs.Tree.{Json, null, falsity, truth, num, str, arr, obj, Items, no_items, item, Members, no_members, member}

unfoldable pub escaped : ℕ → List ℕ
escaped b =
    pick (eqb b (code "\"")) (octets "\\\"")
    (pick (eqb b (code "\\")) (octets "\\\\")
    (pick (eqb b (code "\n")) (octets "\\n")
    (pick (eqb b (code "\t")) (octets "\\t") (b ∷ []))))

-- a string's octets and its closing quote
unfoldable pub quoted : List ℕ → List ℕ
quoted [] = octets "\""
quoted (b ∷ s) = escaped b ++ quoted s

unfoldable pub print_string : List ℕ → List ℕ
print_string s = code "\"" ∷ quoted s

unfoldable pub print_key : List ℕ → List ℕ
print_key k = print_string k ++ octets ":"

-- an array or object is printed with what closes it
unfoldable mutual
  pub print : Json → List ℕ
  print null = octets "null"
  print falsity = octets "false"
  print truth = octets "true"
  print (num t) = t
  print (str s) = print_string s
  print (arr js) = code "[" ∷ first_item js
  print (obj ms) = code "{" ∷ first_member ms

  pub first_item : Items → List ℕ
  first_item no_items = octets "]"
  first_item (item j js) = print j ++ more_items js

  pub more_items : Items → List ℕ
  more_items no_items = octets "]"
  more_items (item j js) = code "," ∷ print j ++ more_items js

  pub first_member : Members → List ℕ
  first_member no_members = octets "}"
  first_member (member k j ms) = print_key k ++ (print j ++ more_members ms)

  pub more_members : Members → List ℕ
  more_members no_members = octets "}"
  more_members (member k j ms) = code "," ∷ print_key k ++ (print j ++ more_members ms)

-- each value with a comma before it
unfoldable pub values_json : List Json → List ℕ
values_json [] = []
values_json (j ∷ js) = code "," ∷ (print j ++ values_json js)
