-- `ical::components::convert_component` meets its contract; the levels left fall.
use Prim.Native.Nat.{◌-◌}
use mathlib.Core.Path.{refl, sym, ap, ◌∙◌}
use native.Mathlib.Omega.{arith}
use Rattle.std.proofs.lemmas.Result.{err_from_is_err_and}
use Rattle.octets.proofs.Pen.{nothing, then, front-behind, leads-start, leads-on, leads-end, as-text}
use Rattle.content.specs.Fold.{text_of}
use Rattle.content.proofs.Folding.{lines_then}
use Rattle.conversion_theory.specs.Skeleton.{is_component}
use Rattle.ical.proofs.Arrays.{walking_start, walking_here, walking-next, walking-end}
use Rattle.ical.proofs.ComponentParts.{composed, subs-end, subs-on, subs-off, properties-there, component-refused, subs-there, component-end, component-checked}
use Rattle.ical.proofs.LineTexts.{sub-lines-end, sub-lines-on, component-lines}
use Rattle.ical.proofs.components.+convert_component.Goals as goal

pub write_mark-begun-requires : goal.write_mark-begun-requires
write_mark-begun-requires t c = (c.text_at-name.ensures.order, c.text_at-name.ensures.within)

pub convert_properties-requires : goal.convert_properties-requires
convert_properties-requires t c = (properties-there _ c.requires.0 c.after-a.ensures c.text_at-name.ensures.behind, c.requires.1)

pub returns-in_err-c : goal.returns-in_err-c
returns-in_err-c t c = let r = c.in_err-c.ensures in
    let p = err_from_is_err_and c.from_residual.result c.from_residual.ensures.1 in
    rw (p.1, p.2) (component-refused _ c.requires.0 c.after-a.ensures c.text_at-name.ensures.behind _ r.0, front-behind c.write_mark-begun.ensures r.1)

pub loop-e-init : goal.loop-e-init
loop-e-init t c = let z = c.in_ok-c.ensures in
    ((_, nothing), refl, walking_start (is_component (c.args.left - 1)) (subs-there _ c.requires.0 c.after-a.ensures c.text_at-name.ensures.behind z.behind) c.after-i.ensures, refl, leads-start)

pub write_mark-ended-requires : goal.write_mark-ended-requires
write_mark-ended-requires t c = (c.text_at-name.ensures.order, c.text_at-name.ensures.within)

pub returns-then-tag : goal.returns-then-tag
returns-then-tag t c = let z = c.in_ok-c.ensures in
    record {
      faultless = component-checked _ c.requires.0 c.after-a.ensures c.text_at-name.ensures.behind z.behind _ c.after-i.ensures z.faultless ∙ sym c.loop-e.invariant.3 ∙ subs-end _ _ _ _ (sym c.tag.ensures ∙ c.if-tag.true);
      behind = component-end _ c.requires.0 c.after-a.ensures c.text_at-name.ensures.behind z.behind
          (walking-end c.loop-e.invariant.2 (subs-there _ c.requires.0 c.after-a.ensures c.text_at-name.ensures.behind z.behind) c.after-i.ensures (sym c.tag.ensures ∙ c.if-tag.true) c.after-e.ensures) c.leave-f.ensures;
      wrote = as-text (lines_then _ _ c.write_mark-begun.ensures (lines_then _ _ z.wrote (lines_then _ _ (leads-end c.loop-e.invariant.4 (sub-lines-end _ _ _ _ (sym c.tag.ensures ∙ c.if-tag.true))) c.write_mark-ended.ensures)))
          (ap text_of (component-lines _ _ c.requires.0 c.after-a.ensures c.text_at-name.ensures z.behind c.after-i.ensures));
    }

pub overflow_sub-left : goal.overflow_sub-left
overflow_sub-left t c = omega (arith, (composed _ _ c.requires.0).levels)

pub convert_component-requires : goal.convert_component-requires
convert_component-requires t c = (omega (arith, (composed _ _ c.requires.0).levels, c.decreases), (walking_here c.loop-e.invariant.2 (λ e. c.if-tag.false (c.tag.ensures ∙ e)), omega (arith, c.loop-e.invariant.1, c.requires.1)))

pub returns-in_err-e : goal.returns-in_err-e
returns-in_err-e t c = let z = c.in_ok-c.ensures in
    let r = c.in_err-e.ensures in
    let p = err_from_is_err_and c.from_residual-in_err-e.result c.from_residual-in_err-e.ensures.1 in
    rw (p.1, p.2) (component-checked _ c.requires.0 c.after-a.ensures c.text_at-name.ensures.behind z.behind _ c.after-i.ensures z.faultless ∙ sym c.loop-e.invariant.3 ∙ subs-off _ _ _ _ (λ e. c.if-tag.false (c.tag.ensures ∙ e)) r.0, front-behind c.write_mark-begun.ensures (front-behind z.wrote (front-behind c.loop-e.invariant.0.1 r.1)))

pub loop-e-smaller : goal.loop-e-smaller
loop-e-smaller t c = let y = c.in_ok-e.ensures.behind in
    omega (arith, y.more (λ e. c.if-tag.false (c.tag.ensures ∙ e)), y.high)

pub loop-e-preserved : goal.loop-e-preserved
loop-e-preserved t c = let y = c.in_ok-e.ensures in (
  (_, then c.loop-e.invariant.0.1 y.wrote),
  omega (arith, c.loop-e.invariant.1),
  walking-next c.loop-e.invariant.2 (λ e. c.if-tag.false (c.tag.ensures ∙ e)) y.behind,
  sym (subs-on _ _ _ _ (λ e. c.if-tag.false (c.tag.ensures ∙ e)) y.behind y.faultless) ∙ c.loop-e.invariant.3,
  leads-on c.loop-e.invariant.4 y.wrote (sub-lines-on _ _ _ _ (λ e. c.if-tag.false (c.tag.ensures ∙ e)) y.behind),
)
