-- Lines in a buffer: laid one behind another, each ended by LF alone.
use Rattle.std.specs.Prelude.{ℕ, List, [], ◌∷◌, ◌++◌}
use Prim.Native.Char.{code}

unfoldable pub laid_out : List (List ℕ) → List ℕ
laid_out [] = []
laid_out (l ∷ ls) = l ++ code "\n" ∷ laid_out ls
