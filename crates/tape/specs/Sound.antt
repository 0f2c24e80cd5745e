-- No duplicate key and no lone surrogate, anywhere in a JSON value (01, Values, number 12).
use Rattle.std.specs.Prelude.{ℕ, Bool, true, false, not, List, [], ◌∷◌, eqb, leb}
use Rattle.octets.specs.Basics.{◌and◌, ◌or◌, same}
use Rattle.json_text.specs.Tree.{Json, null, falsity, truth, num, str, arr, obj, Items, no_items, item, Members, no_members, member}

-- A lone surrogate is three octets of which the first is ED and the second A0 or more (RFC 3629 3); p is the octet before.
unfoldable pub has_lone : ℕ → List ℕ → Bool
has_lone p [] = false
has_lone p (x ∷ xs) = (eqb p 237 and leb 160 x) or has_lone x xs

unfoldable pub has_key : List ℕ → Members → Bool
has_key k no_members = false
has_key k (member l j ms) = same k l or has_key k ms

unfoldable pub distinct_keys : Members → Bool
distinct_keys no_members = true
distinct_keys (member k j ms) = not (has_key k ms) and distinct_keys ms

unfoldable mutual
  pub sound : Json → Bool
  sound null = true
  sound falsity = true
  sound truth = true
  sound (num t) = true
  sound (str t) = not (has_lone 0 t)
  sound (arr js) = sound_items js
  sound (obj ms) = distinct_keys ms and sound_members ms

  pub sound_items : Items → Bool
  sound_items no_items = true
  sound_items (item j js) = sound j and sound_items js

  pub sound_members : Members → Bool
  sound_members no_members = true
  sound_members (member k j ms) = not (has_lone 0 k) and sound j and sound_members ms
