-- `octets::tables::is_held` meets its contract.
use mathlib.Core.Path.{ap, ◌∙◌}
use mathlib.Core.List.{List, map}
use Prim.Native.Nat.{ℕ}
use Rattle.octets.specs.Basics.{same}
use Rattle.octets.specs.Groups.{cased}
use Rattle.octets.specs.Slots.{name_in}
use Rattle.octets.proofs.Slots.{cut-to}
use Rattle.octets.proofs.tables.is_held.Goals as goal

pub returns : goal.returns
unfolding name_in
returns c = let a = c.args in
    c.same_in.ensures
    ∙ ap (λ (x : List ℕ). same (map (cased a.case) a.name.now) (map (cased a.case) x)) (cut-to _ _ _ _ _ c.min-end.ensures c.min-from.ensures)
