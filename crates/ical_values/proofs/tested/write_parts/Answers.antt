-- `ical_values::tested::write_parts` meets its contract.
use Rattle.ical_values.proofs.Arrays.{no-null, no-parts, parts-text, too_few, too-full, parts-there, parts-taken}
use Rattle.ical_values.proofs.ValueGroups.{alone-stop, alone-more, alone}
use Rattle.tape.proofs.Walks.{next-inside}
use Rattle.octets.proofs.Pen.{front_same, front-wrote}
use Rattle.content.proofs.Folding.{as-folded}
use mathlib.Core.Logic.{inl}
use mathlib.Core.Path.{sym, ◌∙◌}
use Rattle.ical_values.proofs.tested.write_parts.Goals as goal

pub returns-then-tag-ne-ARRAY : goal.returns-then-tag-ne-ARRAY
returns-then-tag-ne-ARRAY c = (alone-stop _ _ _ (no-parts _ _ _ _ (λ z. c.if-tag-ne-ARRAY.true (c.tag.ensures ∙ z))), front_same)

pub returns-then-n-lt2 : goal.returns-then-n-lt2
returns-then-n-lt2 c = (alone-stop _ _ _ (too_few _ _ _ _ c.after-a.ensures (sym c.tag.ensures ∙ c.if-tag-ne-ARRAY.false) _ c.count-n.ensures c.if-n-lt2.true), front_same)

pub returns-then-n-limit : goal.returns-then-n-limit
returns-then-n-limit c = (alone-stop _ _ _ (too-full _ _ _ _ c.after-a.ensures (sym c.tag.ensures ∙ c.if-tag-ne-ARRAY.false) _ c.count-n.ensures c.if-n-limit.true), front_same)

pub write_some-requires : goal.write_some-requires
write_some-requires c = (parts-there _ _ _ _ c.count-n.ensures c.if-n-lt2.false, c.requires)

pub returns-in_err-e : goal.returns-in_err-e
returns-in_err-e c = let w = c.in_err-e.ensures in
    rw c.from_residual.ensures (alone-stop _ _ _ (parts-taken _ _ _ _ c.after-a.ensures (sym c.tag.ensures ∙ c.if-tag-ne-ARRAY.false) _ c.count-n.ensures c.if-n-lt2.false c.if-n-limit.false ∙ w.0), w.1)

pub returns-then-tag : goal.returns-then-tag
returns-then-tag c = let w = c.in_ok-e.ensures in
    (alone-more _ _ _ (next-inside c.after-a.ensures (inl (sym c.tag.ensures ∙ c.if-tag-ne-ARRAY.false)) w.2) (λ z. c.if-tag.true (c.tag-2.ensures ∙ z)), front-wrote w.1.wrote)

pub returns : goal.returns
returns c = let w = c.in_ok-e.ensures in
    let q = sym c.tag.ensures ∙ c.if-tag-ne-ARRAY.false in
    alone _ _ _ (next-inside c.after-a.ensures (inl q) w.2) _ (no-null _ _) (parts-taken _ _ _ _ c.after-a.ensures q _ c.count-n.ensures c.if-n-lt2.false c.if-n-limit.false ∙ w.0) (as-folded w.1 (parts-text _ _ _ c.after-a.ensures q)) (sym c.tag-2.ensures ∙ c.if-tag.false) c.after.ensures
