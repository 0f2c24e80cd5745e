-- The values of a property as its array prints them.
use Prim.Native.Nat.{ℕ}
use Prim.Native.Char.{code}
use mathlib.Core.Path.{◌≡◌, refl, sym, ap}
use mathlib.Core.List.{List, [], ◌∷◌, ◌++◌, append_assoc}
use Rattle.octets.specs.Basics.{octets}
use Rattle.json_text.specs.Tree.{Json, items_of}
use Rattle.json_text.specs.Print.{print, more_items, values_json}

pub items-json : (vs : List Json) → more_items (items_of vs) ≡ values_json vs ++ octets "]"
unfolding more_items items_of values_json
items-json [] = refl
items-json (v ∷ vs) = rw (items-json vs) (ap (λ (l : List ℕ). code "," ∷ l) (sym (append_assoc (print v) (values_json vs) (octets "]"))))
