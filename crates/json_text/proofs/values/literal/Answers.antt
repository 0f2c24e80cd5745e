-- `json_text::values::literal` meets its contract.
use Rattle.json_text.specs.Promise.{read, not-json}
use Rattle.json_text.proofs.NumberLaws.{was-behind, was-nothing}
use Rattle.json_text.proofs.values.literal.Goals as goal

pub returns-in_default : goal.returns-in_default
returns-in_default c = not-json (was-nothing c.past_word.ensures c.in_default.is)

pub returns : goal.returns
returns c = read tt (was-behind c.past_word.ensures c.in-Some.is) c.put.ensures
