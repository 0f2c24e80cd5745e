-- `ical_recur::rules::write_rule` meets its contract.
use mathlib.Core.Path.{sym, ◌∙◌}
use Rattle.octets.proofs.Pen.{front_same}
use Rattle.content.proofs.Folding.{as-folded}
use Rattle.ical_recur.proofs.Room.{too_short, long-enough}
use Rattle.ical_recur.proofs.RuleTexts.{no-object-rule, other-members, rule-stands, laid-within, normal-text}
use Rattle.ical_recur.proofs.rules.write_rule.Goals as goal

pub returns-then-rule-t : goal.returns-then-rule-t
returns-then-rule-t c = (too_short _ _ _ c.if-rule-t.true, front_same)

pub returns-then-tag-ne-OBJECT : goal.returns-then-tag-ne-OBJECT
returns-then-tag-ne-OBJECT c = (long-enough _ _ _ c.if-rule-t.false ∙ no-object-rule _ _ (λ z. c.if-tag-ne-OBJECT.true (c.tag.ensures ∙ z)), front_same)

pub slice_bounds-is_rule-end : goal.slice_bounds-is_rule-end
slice_bounds-is_rule-end c = let one = c.in_ok-n.ensures in
    laid-within (sym c.tag.ensures ∙ c.if-tag-ne-OBJECT.false) c.after-i.ensures c.if-rule-t.false one.1

pub returns-then-not-is_rule : goal.returns-then-not-is_rule
returns-then-not-is_rule c = let one = c.in_ok-n.ensures in
    (long-enough _ _ _ c.if-rule-t.false ∙ rule-stands (sym c.tag.ensures ∙ c.if-tag-ne-OBJECT.false) c.after-i.ensures c.if-rule-t.false one.1 one.0 ∙ sym c.is_rule.ensures ∙ c.if-not-is_rule.true, front_same)

pub slice_bounds-fold_rule-end : goal.slice_bounds-fold_rule-end
slice_bounds-fold_rule-end c = let one = c.in_ok-n.ensures in
    laid-within (sym c.tag.ensures ∙ c.if-tag-ne-OBJECT.false) c.after-i.ensures c.if-rule-t.false one.1

pub returns-in_err-n : goal.returns-in_err-n
returns-in_err-n c = let one = c.in_err-n.ensures in
    rw c.from_residual.ensures (long-enough _ _ _ c.if-rule-t.false ∙ other-members (sym c.tag.ensures ∙ c.if-tag-ne-OBJECT.false) c.after-i.ensures one.0, front_same)

pub returns : goal.returns
returns c = let o = sym c.tag.ensures ∙ c.if-tag-ne-OBJECT.false in
    let x = c.after-i.ensures in
    let h = c.if-rule-t.false in
    let one = c.in_ok-n.ensures in
    let e = sym c.is_rule.ensures ∙ c.if-not-is_rule.false in
    (long-enough _ _ _ h ∙ rule-stands o x h one.1 one.0 ∙ e, as-folded c.fold_rule.ensures (normal-text o x h one.1 e))
