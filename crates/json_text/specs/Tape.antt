-- The tape of a JSON value: one tag octet, the decoded octets of a text, 255 at the end of a text or group. No tape begins another one.
use Rattle.std.specs.Prelude.{ℕ, List, [], ◌∷◌, ◌++◌}
use Rattle.json_text.specs.Tree.{Json, null, falsity, truth, num, str, arr, obj, Items, no_items, item, Members, no_members, member}

abbrev pub tag_null : ℕ
tag_null = 0

abbrev pub tag_false : ℕ
tag_false = 1

abbrev pub tag_true : ℕ
tag_true = 2

abbrev pub tag_number : ℕ
tag_number = 3

abbrev pub tag_string : ℕ
tag_string = 4

abbrev pub tag_array : ℕ
tag_array = 5

abbrev pub tag_object : ℕ
tag_object = 6

abbrev pub tag_end : ℕ
tag_end = 255

abbrev pub ser_text : List ℕ → List ℕ
ser_text t = t ++ tag_end ∷ []

abbrev pub ser_string : List ℕ → List ℕ
ser_string t = tag_string ∷ ser_text t

unfoldable mutual
  pub ser : Json → List ℕ
  ser null = tag_null ∷ []
  ser falsity = tag_false ∷ []
  ser truth = tag_true ∷ []
  ser (num t) = tag_number ∷ ser_text t
  ser (str t) = ser_string t
  ser (arr js) = tag_array ∷ ser_items js
  ser (obj ms) = tag_object ∷ ser_members ms

  pub ser_items : Items → List ℕ
  ser_items no_items = tag_end ∷ []
  ser_items (item j js) = ser j ++ ser_items js

  pub ser_members : Members → List ℕ
  ser_members no_members = tag_end ∷ []
  ser_members (member k j ms) = ser_string k ++ (ser j ++ ser_members ms)
