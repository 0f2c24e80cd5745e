-- `json_text::strings::put_char` meets its contract.
use Rattle.json_text.proofs.StringLaws.{char-1, char-2, char-3, char-4}
use Rattle.json_text.proofs.strings.put_char.Goals as goal

pub returns-then-n-lt128 : goal.returns-then-n-lt128
returns-then-n-lt128 c = char-1 _ c.if-n-lt128.true c.put.ensures

pub returns-then-n-lt2048 : goal.returns-then-n-lt2048
returns-then-n-lt2048 c = char-2 _ c.if-n-lt128.false c.if-n-lt2048.true c.put_all.ensures

pub returns-then-n-lt65536 : goal.returns-then-n-lt65536
returns-then-n-lt65536 c = char-3 _ c.if-n-lt2048.false c.if-n-lt65536.true c.put_all-then-n-lt65536.ensures

pub returns : goal.returns
returns c = char-4 _ c.if-n-lt65536.false c.put_all-2.ensures
