-- `ical_values::single::period_at` meets its contract.
use Rattle.ical_values.proofs.Arrays.{no-period, no_start, no_end, more-than-two, period-whole, period-text}
use Rattle.ical_values.proofs.ValueGroups.{group-start}
use Rattle.ical_values.proofs.Places.{lettered-is, no-lettered, string-there}
use Rattle.ical_values.specs.Parts.{simple}
use Rattle.values.specs.Coded.{sort_said}
use Rattle.values.specs.Write.{value_is}
use Rattle.tape.proofs.Walks.{next-inside, along-next, along-end}
use Rattle.octets.proofs.Pen.{front_same, front-behind, front-wrote}
use Rattle.content.proofs.Folding.{then, as-folded}
use Rattle.calendar.specs.Durations.{period_end_is}
use mathlib.Core.Logic.{inl}
use mathlib.Core.Path.{refl, sym, ◌∙◌}
use Rattle.ical_values.proofs.single.period_at.Goals as goal

pub returns-then-tag-ne-ARRAY : goal.returns-then-tag-ne-ARRAY
returns-then-tag-ne-ARRAY c = (no-period _ _ (λ z. c.if-tag-ne-ARRAY.true (c.tag.ensures ∙ z)), front_same)

pub returns-then-tag-ne-STRING : goal.returns-then-tag-ne-STRING
unfolding value_is
returns-then-tag-ne-STRING c = (no_start _ _ c.after-a.ensures (sym c.tag.ensures ∙ c.if-tag-ne-ARRAY.false) (no-lettered _ _ _ (λ z. c.if-tag-ne-STRING.true (c.tag-2.ensures ∙ z))), front_same)

pub returns-in_err-b : goal.returns-in_err-b
unfolding sort_said
returns-in_err-b c = let w = c.in_err-b.ensures in
    rw c.from_residual.ensures (no_start _ _ c.after-a.ensures (sym c.tag.ensures ∙ c.if-tag-ne-ARRAY.false) w.0, w.1)

pub leaf_at-requires : goal.leaf_at-requires
leaf_at-requires c = (unfold sort_said simple in refl, λ e. cc, λ e. cc)

pub returns-then-tag-ne-STRING-2 : goal.returns-then-tag-ne-STRING-2
unfolding sort_said
returns-then-tag-ne-STRING-2 c = let w = c.in_ok-b.ensures in
    (no_end _ _ c.after-a.ensures (sym c.tag.ensures ∙ c.if-tag-ne-ARRAY.false) w.2 (no-lettered _ _ _ (λ z. c.if-tag-ne-STRING-2.true (c.tag-3.ensures ∙ z))), front-wrote w.1.wrote)

pub returns-then-tag : goal.returns-then-tag
unfolding sort_said
returns-then-tag c = let w = c.in_ok-b.ensures in
    (more-than-two _ _ c.after-a.ensures (sym c.tag.ensures ∙ c.if-tag-ne-ARRAY.false) w.2 (string-there _ _ (sym c.tag-2.ensures ∙ c.if-tag-ne-STRING.false)) (string-there _ _ (sym c.tag-3.ensures ∙ c.if-tag-ne-STRING-2.false)) c.text_at-s.ensures.behind (λ z. c.if-tag.true (c.tag-4.ensures ∙ z)), front-wrote w.1.wrote)

pub returns : goal.returns
unfolding sort_said
returns c = let w = c.in_ok-b.ensures in
    let f = c.in_ok-write_end.ensures in
    let q = sym c.tag.ensures ∙ c.if-tag-ne-ARRAY.false in
    let s = sym c.tag-3.ensures ∙ c.if-tag-ne-STRING-2.false in
    let n = string-there _ _ (sym c.tag-2.ensures ∙ c.if-tag-ne-STRING.false) in
    let m = string-there _ _ s in
    let z = sym c.tag-4.ensures ∙ c.if-tag.false in (
      period-whole _ _ c.after-a.ensures q w.2 n m c.text_at-s.ensures.behind z w.0 (lettered-is c.text_at-s.ensures period_end_is s ∙ f.0),
      as-folded (then w.1 f.1) (rw c.text_at-s.ensures.part (period-text _ _ c.after-a.ensures q w.2 n m c.text_at-s.ensures.behind z)),
      next-inside c.after-a.ensures (inl q) (along-end (along-next (along-next (group-start n) w.2) c.text_at-s.ensures.behind) z c.after-e.ensures),
    )

pub returns-in_err-write_end : goal.returns-in_err-write_end
unfolding sort_said
returns-in_err-write_end c = let w = c.in_ok-b.ensures in
    let f = c.in_err-write_end.ensures in
    rw c.from_residual-in_err-write_end.ensures (no_end _ _ c.after-a.ensures (sym c.tag.ensures ∙ c.if-tag-ne-ARRAY.false) w.2 (lettered-is c.text_at-s.ensures period_end_is (sym c.tag-3.ensures ∙ c.if-tag-ne-STRING-2.false) ∙ f.0), front-behind w.1.wrote f.1)
