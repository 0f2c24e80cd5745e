-- `content::object::is_left_out` meets its contract.
use mathlib.Core.Path.{sym, ◌∙◌}
use Rattle.content.proofs.Objects.{left_out_lem}
use Rattle.content.proofs.object.is_left_out.Goals as goal

pub returns-then-same_name : goal.returns-then-same_name
returns-then-same_name c = sym (left_out_lem _ _ _ ∙ rw (sym c.same_name.ensures ∙ c.if-same_name.true))

pub returns-then-not-decodes : goal.returns-then-not-decodes
returns-then-not-decodes c = sym (left_out_lem _ _ _ ∙ rw (sym c.same_name.ensures ∙ c.if-same_name.false, c.if-not-decodes.true))

pub returns-then-not-same_name : goal.returns-then-not-same_name
returns-then-not-same_name c = sym (left_out_lem _ _ _ ∙ rw (sym c.same_name.ensures ∙ c.if-same_name.false, c.if-not-decodes.false, sym c.same_name-2.ensures ∙ c.if-not-same_name.true))

pub returns : goal.returns
returns c = c.is_base64.ensures ∙ sym (left_out_lem _ _ _ ∙ rw (sym c.same_name.ensures ∙ c.if-same_name.false, c.if-not-decodes.false, sym c.same_name-2.ensures ∙ c.if-not-same_name.false))
