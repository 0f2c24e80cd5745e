-- `types::table::find_default` meets its contract: what stands under the first letter of a name is all that the table says of it.
use native.Mathlib.Omega.{arith}
use mathlib.Core.Path.{sym}
use borrow.Author.Tests.{ne_eqb}
use Rattle.types.specs.Table.{defaults}
use Rattle.types.specs.Reading.{led}
use Rattle.types.specs.Laid.{row_found}
use Rattle.types.proofs.LookupLaws.{in-letter, no-letter}
use Rattle.types.proofs.table.find_default.Goals as goal

pub returns-in-65 : goal.returns-in-65
returns-in-65 c = unfold led defaults in in-letter 65 defaults _ c.initial.ensures c.in-65.is c.first_of.ensures

pub returns-in-67 : goal.returns-in-67
returns-in-67 c = unfold led defaults in in-letter 67 defaults _ c.initial.ensures c.in-67.is c.first_of-in-67.ensures

pub returns-in-68 : goal.returns-in-68
returns-in-68 c = unfold led defaults in in-letter 68 defaults _ c.initial.ensures c.in-68.is c.first_of-in-68.ensures

pub returns-in-69 : goal.returns-in-69
returns-in-69 c = unfold led defaults in in-letter 69 defaults _ c.initial.ensures c.in-69.is c.first_of-in-69.ensures

pub returns-in-70 : goal.returns-in-70
returns-in-70 c = unfold led defaults in in-letter 70 defaults _ c.initial.ensures c.in-70.is c.first_of-in-70.ensures

pub returns-in-71 : goal.returns-in-71
returns-in-71 c = unfold led defaults in in-letter 71 defaults _ c.initial.ensures c.in-71.is c.first_of-in-71.ensures

pub returns-in-76 : goal.returns-in-76
returns-in-76 c = unfold led defaults in in-letter 76 defaults _ c.initial.ensures c.in-76.is c.first_of-in-76.ensures

pub returns-in-77 : goal.returns-in-77
returns-in-77 c = unfold led defaults in in-letter 77 defaults _ c.initial.ensures c.in-77.is c.first_of-in-77.ensures

pub returns-in-79 : goal.returns-in-79
returns-in-79 c = unfold led defaults in in-letter 79 defaults _ c.initial.ensures c.in-79.is c.first_of-in-79.ensures

pub returns-in-80 : goal.returns-in-80
returns-in-80 c = unfold led defaults in in-letter 80 defaults _ c.initial.ensures c.in-80.is c.first_of-in-80.ensures

pub returns-in-82 : goal.returns-in-82
returns-in-82 c = unfold led defaults in in-letter 82 defaults _ c.initial.ensures c.in-82.is c.first_of-in-82.ensures

pub returns-in-83 : goal.returns-in-83
returns-in-83 c = unfold led defaults in in-letter 83 defaults _ c.initial.ensures c.in-83.is c.first_of-in-83.ensures

pub returns-in-84 : goal.returns-in-84
returns-in-84 c = unfold led defaults in in-letter 84 defaults _ c.initial.ensures c.in-84.is c.first_of-in-84.ensures

pub returns-in-85 : goal.returns-in-85
returns-in-85 c = unfold led defaults in in-letter 85 defaults _ c.initial.ensures c.in-85.is c.first_of-in-85.ensures

pub returns-in-86 : goal.returns-in-86
returns-in-86 c = unfold led defaults in in-letter 86 defaults _ c.initial.ensures c.in-86.is c.first_of-in-86.ensures

pub returns-in_default : goal.returns-in_default
unfolding row_found led defaults
returns-in_default c = sym (no-letter _ _ c.initial.ensures defaults (rw (ne_eqb c.initial.result 65 (λ h. omega (arith, h)), ne_eqb c.initial.result 67 (λ h. omega (arith, h)), ne_eqb c.initial.result 68 (λ h. omega (arith, h)), ne_eqb c.initial.result 69 (λ h. omega (arith, h)), ne_eqb c.initial.result 70 (λ h. omega (arith, h)), ne_eqb c.initial.result 71 (λ h. omega (arith, h)), ne_eqb c.initial.result 76 (λ h. omega (arith, h)), ne_eqb c.initial.result 77 (λ h. omega (arith, h)), ne_eqb c.initial.result 79 (λ h. omega (arith, h)), ne_eqb c.initial.result 80 (λ h. omega (arith, h)), ne_eqb c.initial.result 82 (λ h. omega (arith, h)), ne_eqb c.initial.result 83 (λ h. omega (arith, h)), ne_eqb c.initial.result 84 (λ h. omega (arith, h)), ne_eqb c.initial.result 85 (λ h. omega (arith, h)), ne_eqb c.initial.result 86 (λ h. omega (arith, h)))))
