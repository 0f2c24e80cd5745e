-- What reading gives, and the reading of white space and of literal names (RFC 8259 2, 3).
use Rattle.std.specs.Prelude.{ℕ, List, [], ◌∷◌, eqb}
use Rattle.octets.specs.Basics.{pick}
use Rattle.octets.specs.Classes.{is_space}

-- a reader takes the octets from its place on: it gives what it read with the octets behind it;
-- or that more arrays and objects are open at once than may be (01, number 6); or that this is no JSON (number 11)
pub data Out (A : Type 0) : Type 0 where
  ok : A → List ℕ → Out A
  deep bad : Out A

abbrev pub fmap : {A B : Type 0} → (A → B) → Out A → Out B
fmap f (ok a s) = ok (f a) s
fmap f deep = deep
fmap f bad = bad

abbrev pub and_then : {A B : Type 0} → Out A → (A → List ℕ → Out B) → Out B
and_then (ok a s) k = k a s
and_then deep k = deep
and_then bad k = bad

-- ws
unfoldable pub skip_space : List ℕ → List ℕ
skip_space [] = []
skip_space (b ∷ s) = pick (is_space b) (skip_space s) (b ∷ s)

-- the octets behind a literal name
unfoldable pub literal : List ℕ → List ℕ → Out (Unit {0})
literal [] s = ok tt s
literal (w ∷ ws) [] = bad
literal (w ∷ ws) (b ∷ s) = pick (eqb b w) (literal ws s) bad
