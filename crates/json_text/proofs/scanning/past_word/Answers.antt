-- `json_text::scanning::past_word` meets its contract.
use Rattle.json_text.proofs.Words.{word-behind}
use Rattle.json_text.proofs.scanning.past_word.Goals as goal

pub returns : goal.returns
returns c = word-behind c.args.word.now c.args.text.now c.strip_prefix.result c.strip_prefix.ensures.cases
