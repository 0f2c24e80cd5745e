-- What a tape shows from a place on, whatever its octets are: the values up to the end of the group that is open there,
-- then those of the group around it, and so on. Past the end of the tape stands the end of every group.
use Rattle.std.specs.Prelude.{ℕ, Bool, true, false, not, List, [], ◌∷◌, eqb, drop, get_or}
use Rattle.octets.specs.Basics.{pick, ◌or◌}
use Rattle.octets.specs.Search.{until}
use Rattle.json_text.specs.Tree.{Json, null, falsity, truth, num, str, arr, obj, Items, no_items, item, Members, no_members, member, list_of_items, octets_of}
use Rattle.json_text.specs.Tape.{tag_false, tag_true, tag_number, tag_string, tag_array, tag_object, tag_end}

-- a group's first value, null where there is none, and the others
abbrev pub head_item : Items → Json
head_item no_items = null
head_item (item j js) = j

abbrev pub other_items : Items → Items
other_items no_items = no_items
other_items (item j js) = js

-- an object's group holds keys and values in turn; a value that is missing is null
unfoldable mutual
  pub paired : Items → Members
  paired no_items = no_members
  paired (item j js) = valued js (octets_of j)

  pub valued : Items → List ℕ → Members
  valued no_items k = member k null no_members
  valued (item j js) k = member k j (paired js)

-- the groups that are open, innermost first
pub data Groups : Type 0 where
  last : Items → Groups
  group : Items → Groups → Groups

abbrev pub top : Groups → Items
top (last js) = js
top (group js s) = js

-- behind the end of the innermost group
abbrev pub pop : Groups → Groups
pop (last js) = last no_items
pop (group js s) = s

-- a value in front
abbrev pub push : Json → Groups → Groups
push j (last js) = last (item j js)
push j (group js s) = group (item j js) s

-- behind the first value of the innermost group
abbrev pub skip_value : Groups → Groups
skip_value (last js) = last (other_items js)
skip_value (group js s) = group (other_items js) s

-- the octets of a text, up to its end
unfoldable pub text_at_front : List ℕ → List ℕ
text_at_front s = until (λ b. eqb b tag_end) s

-- the value with the tag b that is no array and no object, from what stands behind the tag
abbrev pub leaf : ℕ → List ℕ → Json
leaf b s =
    pick (eqb b tag_false) falsity
    (pick (eqb b tag_true) truth
    (pick (eqb b tag_number) (num (text_at_front s))
    (pick (eqb b tag_string) (str (text_at_front s)) null)))

-- whether a text is under way behind the octet b; the flag says whether one was before it
unfoldable pub in_text : Bool → ℕ → Bool
in_text true b = not (eqb b tag_end)
in_text false b = eqb b tag_number or eqb b tag_string

-- what the octet b, with s behind it, makes of the groups behind it
abbrev pub into_groups : Bool → ℕ → List ℕ → Groups → Groups
into_groups true b s r = r
into_groups false b s r =
    pick (eqb b tag_end) (group no_items r)
    (pick (eqb b tag_array) (push (arr (top r)) (pop r))
    (pick (eqb b tag_object) (push (obj (paired (top r))) (pop r)) (push (leaf b s) r)))

unfoldable pub groups : Bool → List ℕ → Groups
groups m [] = last no_items
groups m (b ∷ s) = into_groups m b s (groups (in_text m b) s)

-- the groups that the tape t shows from the place i on
unfoldable pub view : List ℕ → ℕ → Groups
view t i = groups false (drop i t)

-- the octet at a place, and the text that begins there
unfoldable pub tag_at : List ℕ → ℕ → ℕ
tag_at t i = get_or t i tag_end

unfoldable pub text_at : List ℕ → ℕ → List ℕ
text_at t i = text_at_front (drop i t)

-- the value at a place; null, where a group ends
unfoldable pub value_at : List ℕ → ℕ → Json
value_at t i = head_item (top (view t i))

-- the values from a place to the end of its group, as a list, and as members of an object
unfoldable pub items_at : List ℕ → ℕ → Items
items_at t i = top (view t i)

unfoldable pub list_at : List ℕ → ℕ → List Json
list_at t i = list_of_items (items_at t i)

unfoldable pub members_at : List ℕ → ℕ → Members
members_at t i = paired (items_at t i)
