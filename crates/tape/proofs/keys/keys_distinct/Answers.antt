-- `tape::keys::keys_distinct` meets its contract.
use mathlib.Core.Path.{sym, ◌∙◌}
use Rattle.tape.proofs.Scans.{distinct-end}
use Rattle.tape.proofs.keys.keys_distinct.Goals as goal

pub returns-then-tag : goal.returns-then-tag
returns-then-tag c = sym (distinct-end _ _ (sym c.tag.ensures ∙ c.if-tag.true))
