-- `json_text::numbers::past_sign` meets its contract.
use Rattle.json_text.proofs.NumberLaws.{sign-behind}
use Rattle.json_text.proofs.numbers.past_sign.Goals as goal

pub returns : goal.returns
returns c = sign-behind c.past_digits.ensures
