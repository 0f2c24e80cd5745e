-- `ical_recur::wording::lay_values` meets its contract.
use mathlib.Core.Logic.{inl}
use mathlib.Core.Path.{sym, ◌∙◌}
use Rattle.octets.proofs.Pen.{nothing, front_same}
use Rattle.tape.proofs.Walks.{next-inside}
use Rattle.tape.specs.Promise.{Next, Left}
use Rattle.ical_recur.proofs.Laying.{laid-behind}
use Rattle.ical_recur.proofs.ObjectTexts.{values-plain, values-array}
use Rattle.ical_recur.proofs.KindTests.{plain-kind, one-kind, many-kind}
use Rattle.ical_recur.proofs.wording.lay_values.Goals as goal

pub returns-then-tag-ne-ARRAY : goal.returns-then-tag-ne-ARRAY
returns-then-tag-ne-ARRAY c = rw (← (plain-kind _ _ _ (λ z. c.if-tag-ne-ARRAY.true (c.tag.ensures ∙ z))), ← (values-plain _ _ _ (λ z. c.if-tag-ne-ARRAY.true (c.tag.ensures ∙ z)))) c.lay_item.ensures

pub returns-then-not-has_several : goal.returns-then-not-has_several
returns-then-not-has_several c = (one-kind _ _ _ (sym c.tag.ensures ∙ c.if-tag-ne-ARRAY.false) (sym c.has_several.ensures ∙ c.if-not-has_several.true), front_same)

pub returns : goal.returns
returns c = let o = sym c.tag.ensures ∙ c.if-tag-ne-ARRAY.false in
    let x = c.after-from.ensures in
    laid-behind _ (Left c.args.t.now c.after-from.result) (Next c.args.t.now c.args.i) c.lay_items.new.out c.lay_items.result (many-kind _ _ _ x o (sym c.has_several.ensures ∙ c.if-not-has_several.false)) (values-array _ _ _ x o) (λ e l. next-inside x (inl o) l) nothing c.lay_items.ensures
