-- `jcal::components::place_calendar` meets its contract.
use native.Mathlib.Omega.{arith}
use mathlib.Core.Path.{◌∙◌}
use Rattle.octets.proofs.Limits.{most-levels}
use Rattle.types.specs.Laid.{table_in}
use Rattle.conversion_theory.specs.Property.{read_property}
use Rattle.jcal.specs.declared.components.NextItem.TheVariants.{Sub, Close}
use Rattle.jcal.proofs.Stages.{some-line, calendar-few, calendar-ready, calendar-refused, calendar-placed}
use Rattle.jcal.proofs.components.place_calendar.Goals as goal

pub end_at-e-requires : goal.end_at-e-requires
end_at-e-requires c = some-line _ c.args.calendar.paired

pub outermost_name-name-requires : goal.outermost_name-name-requires
outermost_name-name-requires c = c.end_at-e.ensures

pub place_component-requires : goal.place_component-requires
place_component-requires c = let told = c.outermost_name-name.ensures in
    let f = read_property (table_in c.args.calendar.rows.now) in
    record { named = told.names; lines_value = calendar-ready f _ _ c.end_at-e.ensures c.args.calendar.paired _ told _ c.requires; lines_bound = omega (arith, most-levels, calendar-few f _ _ c.end_at-e.ensures c.args.calendar.paired _ told) }

pub returns-in-Ok-Sub : goal.returns-in-Ok-Sub
returns-in-Ok-Sub c = c.finish.ensures ∙ calendar-placed _ _ _ c.end_at-e.ensures c.args.calendar.paired _ c.outermost_name-name.ensures _ _ (Sub _ _ _) (rw c.in-Ok-Sub.field-0-is at c.in-Ok-Sub.ensures)

pub returns-in-Ok-Close : goal.returns-in-Ok-Close
returns-in-Ok-Close c = c.finish-in-Ok-Close.ensures ∙ calendar-placed _ _ _ c.end_at-e.ensures c.args.calendar.paired _ c.outermost_name-name.ensures _ _ (Close _ _) (rw c.in-Ok-Close.field-0-is at c.in-Ok-Close.ensures)

pub returns-in-Err : goal.returns-in-Err
returns-in-Err c = c.refuse.ensures ∙ calendar-refused _ _ _ c.end_at-e.ensures c.args.calendar.paired _ c.outermost_name-name.ensures _ c.in-Err.ensures c.args.out.now _ (omega (arith, c.place_component.auto.out))
