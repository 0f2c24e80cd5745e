-- `ical_properties::rulings::ruling_of` meets its contract.
use mathlib.Core.Path.{sym, ◌∙◌}
use Rattle.octets.proofs.Classes.{same-is}
use Rattle.conversion_theory.specs.Return.{is_unknown}
use Rattle.ical_properties.proofs.RowAnswers.{rules-same}
use Rattle.ical_properties.proofs.rulings.ruling_of.Goals as goal

pub returns-then-is_unknown : goal.returns-then-is_unknown
returns-then-is_unknown c = rules-same (same-is _ _ (sym c.is_unknown.ensures ∙ c.if-is_unknown.true)) c.unknown_ruling.ensures

pub stated_ruling-requires : goal.stated_ruling-requires
unfolding is_unknown
stated_ruling-requires c = sym c.is_unknown.ensures ∙ c.if-is_unknown.false

pub returns : goal.returns
returns c = c.stated_ruling.ensures
