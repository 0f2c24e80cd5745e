-- What stands before the first octet of a kind that is not in quotes, as separators are looked for in a content line.
use Rattle.std.specs.Prelude.{ℕ, Bool, not, List, [], ◌∷◌}
use Rattle.octets.specs.Basics.{pick, ◌and◌}
use Rattle.content.specs.Line.{quote_after}

-- q says that the first octet is in quotes
unfoldable pub until_bare : (ℕ → Bool) → Bool → List ℕ → List ℕ
until_bare stop q [] = []
until_bare stop q (c ∷ s) = pick (not q and stop c) [] (c ∷ until_bare stop (quote_after q c) s)
