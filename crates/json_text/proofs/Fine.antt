-- Values whose texts hold no octet 255, so that the tape tells where each text ends.
use Prim.Native.Nat.{ℕ}
use mathlib.Core.Path.{◌≡◌}
use mathlib.Core.List.{List, [], ◌∷◌}
use Rattle.json_text.specs.Tree.{Json, null, falsity, truth, num, str, arr, obj, Items, no_items, item, Members, no_members, member}
use Rattle.json_text.specs.Tape.{tag_end}

pub data Clean : List ℕ → Type 0 where
  clean_end : Clean []
  clean : {b : ℕ} {s : List ℕ} → ((b ≡ tag_end) → ⊥) → Clean s → Clean (b ∷ s)

mutual
  pub data Fine : Json → Type 0 where
    f-null : Fine null
    f-false : Fine falsity
    f-true : Fine truth
    f-num : {t : List ℕ} → Clean t → Fine (num t)
    f-str : {t : List ℕ} → Clean t → Fine (str t)
    f-arr : {js : Items} → FineItems js → Fine (arr js)
    f-obj : {ms : Members} → FineMembers ms → Fine (obj ms)

  pub data FineItems : Items → Type 0 where
    f-none : FineItems no_items
    f-item : {j : Json} {js : Items} → Fine j → FineItems js → FineItems (item j js)

  pub data FineMembers : Members → Type 0 where
    f-empty : FineMembers no_members
    f-member : {k : List ℕ} {j : Json} {ms : Members} → Clean k → Fine j → FineMembers ms → FineMembers (member k j ms)
