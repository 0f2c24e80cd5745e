-- What is told of a piece that is tested and written, by what is told of the piece in it that is written last.
use Prim.Native.Nat.{ℕ}
use mathlib.Core.Path.{◌≡◌, sym, ◌∙◌}
use mathlib.Core.Bool.{Bool}
use mathlib.Core.List.{List, ◌++◌}
use Rattle.octets.specs.Pen.{Pen, Wrote}
use Rattle.octets.proofs.Pen.{as-text, then, front-behind}
use Rattle.ical_recur.specs.Laying.{LaidAs}
use Rattle.std.specs.Prelude.{Option, Some, None}

-- its test is that of the whole, what was written before it is xs, and the place that it reaches is that of the whole
pub laid-behind : {p q : Pen} {xs : List ℕ} (ys : List ℕ) {zs : List ℕ} (reached arrived : ℕ → Type 0) (out : List ℕ) (r : Option (ℕ × ℕ)) {stands holds : Bool} → stands ≡ holds → xs ++ ys ≡ zs
    → ((e : ℕ) → reached e → arrived e) → Wrote p xs q → LaidAs stands ys q out reached r → LaidAs holds zs p out arrived r
laid-behind ys reached arrived out (Some (n, e)) a b go w t = (sym a ∙ t.0, as-text (then w t.1) b, go e t.2)
laid-behind ys reached arrived out None a b go w t = (sym a ∙ t.0, front-behind w t.1)
