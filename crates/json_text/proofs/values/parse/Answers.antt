-- `json_text::values::parse` meets its contract.
use Rattle.json_text.proofs.Agreements.{was_read}
use Rattle.json_text.proofs.Parsing.{parsed-tape, parsed-full, parsed-fails}
use Rattle.json_text.proofs.values.parse.Goals as goal

pub returns-then-n-tape : goal.returns-then-n-tape
returns-then-n-tape c = let x = was_read c.whole-read.ensures c.in-Ok.is in
    parsed-tape x.it x.is x.wrote c.if-n-tape.true

pub returns-else-n-tape : goal.returns-else-n-tape
returns-else-n-tape c = let x = was_read c.whole-read.ensures c.in-Ok.is in
    parsed-full x.it x.is x.wrote c.if-n-tape.false c.zero.ensures

pub returns-in-Err : goal.returns-in-Err
returns-in-Err c = parsed-fails c.args.tape.now c.whole-read.new.tape c.whole-read.auto.tape c.zero-in-Err.ensures (rw c.in-Err.is at c.whole-read.ensures)
