-- `types::rows::read_rows` meets its contract.
use mathlib.Core.Path.{sym, ap, ◌∙◌}
use native.Mathlib.Omega.{arith}
use Rattle.types.specs.Reading.{pen_behind}
use Rattle.types.proofs.Reading.{room-is, malformed, written}
use Rattle.types.proofs.rows.read_rows.Goals as goal

pub lay_rows-requires : goal.lay_rows-requires
lay_rows-requires c = omega (arith, room-is)

pub returns-in-Some : goal.returns-in-Some
returns-in-Some c = written _ c.args.rows.now _ (omega (arith, room-is)) _ (sym (ap (λ r. pen_behind r c.lay_rows.new.rows) c.in-Some.is) ∙ c.lay_rows.ensures)

pub returns-in-None : goal.returns-in-None
returns-in-None c = c.refuse.ensures ∙ malformed _ c.args.rows.now _ (sym (ap (λ r. pen_behind r c.lay_rows.new.rows) c.in-None.is) ∙ c.lay_rows.ensures) _ _ c.lay_rows.auto.rows
