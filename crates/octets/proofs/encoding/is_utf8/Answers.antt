-- `octets::is_utf8` meets its contract.
use mathlib.Core.Path.{sym, ◌∙◌}
use Rattle.octets.proofs.Utf8.{ascii, ascii-utf8}
use Rattle.octets.proofs.encoding.is_utf8.Goals as goal

pub returns-then-all_ascii : goal.returns-then-all_ascii
unfolding ascii
returns-then-all_ascii c = c.if-all_ascii.true ∙ sym (ascii-utf8 _ (sym c.all_ascii.ensures ∙ c.if-all_ascii.true))
