-- `tape::sounding::is_sound` meets its contract.
use mathlib.Core.Path.{sym, ◌∙◌}
use Rattle.tape.proofs.Scans.{keys-sound}
use Rattle.tape.proofs.sounding.is_sound.Goals as goal

pub returns-then-all_distinct : goal.returns-then-all_distinct
returns-then-all_distinct c = keys-sound _ (sym c.is_free.ensures ∙ c.if-is_free.true) (c.all_distinct.ensures c.if-all_distinct.true)
