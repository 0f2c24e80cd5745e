-- `jcal_properties::property::place_property` meets its contract.
use native.Mathlib.Omega.{arith}
use Rattle.std.proofs.lemmas.Result.{err_from_is_err_and}
use Rattle.octets.proofs.Limits.{most-text}
use Rattle.octets.proofs.Pen.{front_same}
use Rattle.types.specs.Laid.{table_in}
use Rattle.jcal_properties.proofs.PropertyParts.{line-long, parts-read, nine-placed}
use Rattle.jcal_properties.proofs.property.place_property.Goals as goal

pub returns-then-line-gt-ROOM_FOR_LINES : goal.returns-then-line-gt-ROOM_FOR_LINES
returns-then-line-gt-ROOM_FOR_LINES c = (line-long (table_in c.args.rows.now) c.args.line.now (omega (arith, most-text, c.if-line-gt-ROOM_FOR_LINES.true)), front_same)

pub place_values-requires : goal.place_values-requires
place_values-requires c = omega (arith, most-text)

pub returns-in_err-code : goal.returns-in_err-code
returns-in_err-code c = let p = err_from_is_err_and c.from_residual.result c.from_residual.ensures.1 in let f = c.in_err-code.ensures in
    rw (p.1, p.2, parts-read c.args.line.now c.parts_of-parts.result c.parts_of-parts.ensures (table_in c.args.rows.now) (omega (arith, most-text, c.if-line-gt-ROOM_FOR_LINES.false))) (f.0 (table_in c.args.rows.now) _ c.find-found.ensures, f.1)

pub returns : goal.returns
returns c = rw (parts-read c.args.line.now c.parts_of-parts.result c.parts_of-parts.ensures (table_in c.args.rows.now) (omega (arith, most-text, c.if-line-gt-ROOM_FOR_LINES.false))) (nine-placed (table_in c.args.rows.now) _ _ _ _ c.find-found.ensures _ _ c.in_ok-code.ensures _ c.place_values.result c.place_values.ensures)
