-- Texts as the code reads them, one octet after the other.
use Rattle.std.specs.Prelude.{ℕ, Bool, true, false, not, List, [], ◌∷◌, eqb}
use Prim.Native.Char.{code}
use Rattle.std.proofs.Math.Option.{Option, none, some}
use Rattle.octets.specs.Basics.{pick, ◌or◌}
use Rattle.octets.specs.Pieces.{onto}
use Rattle.octets.specs.Optional.{map?}
use Rattle.octets.specs.Classes.{plain_octet}

-- what an octet does: it adds an octet to the text under way, ends the text, begins an escape, or is refused
pub data Act : Type 0 where
  add : ℕ → Act
  next escape stop : Act

-- a bare `sep` ends a text, a bare `other` is refused; the flag says that a backslash stands before
unfoldable pub act : ℕ → ℕ → Bool → ℕ → Act
act sep other false c =
    pick (eqb c (code "\\")) escape (pick (eqb c sep) next (pick (eqb c other or not (plain_octet c)) stop (add c)))
act sep other true c =
    pick (eqb c (code "\\") or eqb c (code ";") or eqb c (code ",")) (add c)
    (pick (eqb c (code "n") or eqb c (code "N")) (add (code "\n")) stop)

unfoldable pub escapes : Act → Bool
escapes (add c) = false
escapes next = false
escapes escape = true
escapes stop = false

unfoldable pub done : Act → Option (List (List ℕ)) → Option (List (List ℕ))
done (add c) r = map? (onto c) r
done next r = map? (λ ts. [] ∷ ts) r
done escape r = r
done stop r = none

unfoldable pub texts_from : ℕ → ℕ → Bool → List ℕ → Option (List (List ℕ))
texts_from sep other e [] = pick e none (some ([] ∷ []))
texts_from sep other e (c ∷ s) = done (act sep other e c) (texts_from sep other (escapes (act sep other e c)) s)

-- the texts between bare commas
unfoldable pub texts : List ℕ → Option (List (List ℕ))
texts s = texts_from (code ",") (code ";") false s
