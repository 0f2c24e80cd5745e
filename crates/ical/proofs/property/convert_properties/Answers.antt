-- `ical::property::convert_properties` meets its contract.
use mathlib.Core.Path.{refl, sym, ◌∙◌}
use mathlib.Core.List.{map}
use native.Mathlib.Omega.{arith}
use Rattle.std.proofs.lemmas.Result.{err_from_is_err_and}
use Rattle.octets.proofs.Pen.{nothing, then, front-behind, leads-start, leads-on, leads-end, as-text}
use Rattle.types.specs.Laid.{table_in}
use Rattle.content.specs.Fold.{text_of}
use Rattle.conversion_theory.specs.Skeleton.{is_property, property_from}
use Rattle.conversion_theory.specs.ToIcal.{checked_all, property_line}
use Rattle.ical.proofs.Arrays.{elements-there, walking_start, walking_here, walking-next, walking-end}
use Rattle.ical.proofs.PropertyTests.{properties-end, properties-on, properties-off}
use Rattle.ical.proofs.LineTexts.{lines_end, lines-on}
use Rattle.ical.proofs.property.convert_properties.Goals as goal

pub loop-at-init : goal.loop-at-init
loop-at-init c = ((_, nothing), refl, walking_start is_property c.requires.0 c.after-i.ensures, refl, leads-start)

pub returns-then-tag : goal.returns-then-tag
returns-then-tag c = record {
  faultless = elements-there (λ js. checked_all (table_in c.args.rows.now) (map property_from js)) is_property _ _ c.requires.0 c.after-i.ensures ∙ sym c.loop-at.invariant.3 ∙ properties-end _ _ _ (sym c.tag.ensures ∙ c.if-tag.true);
  behind = walking-end c.loop-at.invariant.2 c.requires.0 c.after-i.ensures (sym c.tag.ensures ∙ c.if-tag.true) c.after.ensures;
  wrote = as-text (leads-end c.loop-at.invariant.4 (lines_end _ _ _ (sym c.tag.ensures ∙ c.if-tag.true))) (sym (elements-there (λ js. text_of (map (property_line (table_in c.args.rows.now)) (map property_from js))) is_property _ _ c.requires.0 c.after-i.ensures));
}

pub convert_property-requires : goal.convert_property-requires
convert_property-requires c = (walking_here c.loop-at.invariant.2 (λ e. c.if-tag.false (c.tag.ensures ∙ e)), omega (arith, c.loop-at.invariant.1, c.requires.1))

pub loop-at-smaller : goal.loop-at-smaller
loop-at-smaller c = let y = c.in_ok-e.ensures.behind in
    omega (arith, y.more (λ e. c.if-tag.false (c.tag.ensures ∙ e)), y.high)

pub loop-at-preserved : goal.loop-at-preserved
loop-at-preserved c = let y = c.in_ok-e.ensures in (
  (_, then c.loop-at.invariant.0.1 y.wrote),
  omega (arith, c.loop-at.invariant.1),
  walking-next c.loop-at.invariant.2 (λ e. c.if-tag.false (c.tag.ensures ∙ e)) y.behind,
  sym (properties-on _ _ _ (λ e. c.if-tag.false (c.tag.ensures ∙ e)) y.behind y.faultless) ∙ c.loop-at.invariant.3,
  leads-on c.loop-at.invariant.4 y.wrote (lines-on _ _ _ (λ e. c.if-tag.false (c.tag.ensures ∙ e)) y.behind),
)

pub returns-in_err-e : goal.returns-in_err-e
returns-in_err-e c = let y = c.in_err-e.ensures in
    let p = err_from_is_err_and c.from_residual.result c.from_residual.ensures.1 in
    rw (p.1, p.2) (elements-there (λ js. checked_all (table_in c.args.rows.now) (map property_from js)) is_property _ _ c.requires.0 c.after-i.ensures ∙ sym c.loop-at.invariant.3 ∙ properties-off _ _ _ (λ e. c.if-tag.false (c.tag.ensures ∙ e)) y.0, front-behind c.loop-at.invariant.0.1 y.1)
