-- `types::rows::read_apart` meets its contract.
use mathlib.Core.Path.{refl, sym, ap, ◌∙◌}
use native.Mathlib.Omega.{arith}
use lib.Seq.{length-take-le}
use Rattle.types.specs.Reading.{pen_behind}
use Rattle.types.proofs.Reading.{room-is, malformed, rows-within, copied}
use Rattle.types.proofs.rows.read_apart.Goals as goal

pub lay_rows-requires : goal.lay_rows-requires
lay_rows-requires c = omega (arith, room-is)

pub slice_bounds-room-end : goal.slice_bounds-room-end
slice_bounds-room-end c = rows-within _ _ _ (omega (arith, room-is)) _ (sym (ap (λ r. pen_behind r c.lay_rows.new.rows) c.in-Some.is) ∙ c.lay_rows.ensures)

pub slice_bounds-put_all-end : goal.slice_bounds-put_all-end
slice_bounds-put_all-end c = sym (length-take-le _ _ (rows-within _ _ _ (omega (arith, room-is)) _ (sym (ap (λ r. pen_behind r c.lay_rows.new.rows) c.in-Some.is) ∙ c.lay_rows.ensures)))

pub returns-in-Some : goal.returns-in-Some
returns-in-Some c = copied _ _ _ (omega (arith, room-is)) _ (sym (ap (λ r. pen_behind r c.lay_rows.new.rows) c.in-Some.is) ∙ c.lay_rows.ensures) _ _ _ _ c.put_all-end.ensures c.finish.ensures

pub returns-in-None : goal.returns-in-None
returns-in-None c = c.refuse.ensures ∙ malformed _ _ _ (sym (ap (λ r. pen_behind r c.lay_rows.new.rows) c.in-None.is) ∙ c.lay_rows.ensures) _ _ refl
