-- `ical_recur::wording::lay_item` meets its contract.
use mathlib.Core.Path.{sym, ap, ◌∙◌}
use native.Mathlib.Omega.{arith}
use Rattle.octets.proofs.Pen.{as-text, front_same}
use Rattle.values.specs.Recur.{item_text}
use Rattle.ical_recur.specs.Kinds.{item_is}
use Rattle.ical_recur.proofs.ObjectTexts.{string-wording, number-wording}
use Rattle.ical_recur.proofs.KindTests.{string-value, number-value, no_item}
use Rattle.ical_recur.proofs.wording.lay_item.Goals as goal

pub returns-in-4 : goal.returns-in-4
returns-in-4 c = let v = string-value c.text_at-x.ensures (sym c.tag.ensures ∙ c.in-4.is) in
    (ap (item_is _) v ∙ sym c.string_is.ensures ∙ c.if-string_is.true, as-text c.put_string.ensures (sym (ap (item_text _) v ∙ string-wording _ _)), c.text_at-x.ensures.behind)

pub returns-in-3 : goal.returns-in-3
returns-in-3 c = let v = number-value c.text_at-x.ensures (sym c.tag.ensures ∙ c.in-3.is) in
    (ap (item_is _) v ∙ sym c.number_is.ensures ∙ c.if-number_is.true, as-text c.put_integer_text.ensures (sym (ap (item_text _) v ∙ number-wording _ _)), c.text_at-x.ensures.behind)

pub returns-in_default : goal.returns-in_default
returns-in_default c = (ap (item_is _) (string-value c.text_at-x.ensures (sym c.tag.ensures ∙ c.in-4.is)) ∙ sym c.string_is.ensures ∙ c.if-string_is.false, front_same)

pub returns-in_default-2 : goal.returns-in_default-2
returns-in_default-2 c = (ap (item_is _) (number-value c.text_at-x.ensures (sym c.tag.ensures ∙ c.in-3.is)) ∙ sym c.number_is.ensures ∙ c.if-number_is.false, front_same)

pub returns-in_default-3 : goal.returns-in_default-3
returns-in_default-3 c = (no_item _ _ _ (λ e. omega arith) (λ e. omega arith), front_same)
