-- The tape of elements that were read in a row.
use Prim.Native.Nat.{ℕ}
use mathlib.Core.Path.{◌≡◌, refl, ap}
use mathlib.Core.List.{List, [], ◌∷◌, ◌++◌, append_assoc}
use Rattle.json_text.specs.Tree.{Json, arr, obj, items_of}
use Rattle.json_text.specs.Reader.{Pair, members_from}
use Rattle.json_text.specs.Tape.{tag_array, tag_object, tag_end, ser_string, ser, ser_items, ser_members}

abbrev pub ser_pair : Pair → List ℕ
ser_pair m = ser_string m.key ++ ser m.it

-- the elements, and the end
unfoldable pub ser_list : {A : Type 0} → (A → List ℕ) → List A → List ℕ
ser_list f [] = tag_end ∷ []
ser_list f (a ∷ l) = f a ++ ser_list f l

items-tape : (l : List Json) → ser_list ser l ≡ ser_items (items_of l)
unfolding ser_list items_of ser
items-tape [] = refl
items-tape (j ∷ l) = rw (items-tape l)

members-tape : (l : List Pair) → ser_list ser_pair l ≡ ser_members (members_from l)
unfolding ser_list members_from ser
members-tape [] = refl
members-tape (m ∷ l) = rw (members-tape l, append_assoc (ser_string m.key) (ser m.it) (ser_members (members_from l)))

pub array-tape : (l : List Json) → tag_array ∷ ser_list ser l ≡ ser (arr (items_of l))
unfolding ser
array-tape l = ap (λ (t : List ℕ). tag_array ∷ t) (items-tape l)

pub object-tape : (l : List Pair) → tag_object ∷ ser_list ser_pair l ≡ ser (obj (members_from l))
unfolding ser
object-tape l = ap (λ (t : List ℕ). tag_object ∷ t) (members-tape l)
