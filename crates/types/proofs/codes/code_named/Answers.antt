-- `types::codes::code_named` meets its contract.
use mathlib.Core.Path.{sym, ap, ◌∙◌}
use Rattle.octets.specs.Classes.{between, is_lower, upper_octet, upper}
use Rattle.octets.specs.Optional.{given}
use Rattle.types.specs.Codes.{type_names}
use Rattle.types.specs.Table.{Row}
use Rattle.types.specs.Laid.{row_found}
use Rattle.types.specs.Reading.{numbered, types}
use Rattle.types.proofs.Types.{code-found}
use Rattle.types.proofs.codes.code_named.Goals as goal

pub returns-in-Some : goal.returns-in-Some
unfolding row_found given types numbered type_names upper upper_octet is_lower between
returns-in-Some c = sym (code-found c.args.name.now ∙ ap (given 0 (λ (r : Row). r.code)) (sym c.first_of.ensures) ∙ rw c.in-Some.is)

pub returns-in-None : goal.returns-in-None
unfolding row_found given types numbered type_names upper upper_octet is_lower between
returns-in-None c = sym (code-found c.args.name.now ∙ ap (given 0 (λ (r : Row). r.code)) (sym c.first_of.ensures) ∙ rw c.in-None.is)
