-- `ical::converting::convert_sound` meets its contract.
use mathlib.Core.Path.{◌≡◌, sym, ◌∙◌}
use Rattle.std.proofs.lemmas.Result.{err_from_is_err_and}
use Rattle.octets.specs.declared.Refusal.TheVariants.{NotJcal}
use Rattle.octets.proofs.Pen.{front_same}
use Rattle.ical.proofs.Stages.{unsound, other-shape, too-deep, shallow, component-on, component-there}
use Rattle.ical.proofs.converting.convert_sound.Goals as goal

pub returns-then-not-is_sound : goal.returns-then-not-is_sound
returns-then-not-is_sound c = (unsound _ _ (sym c.is_sound.ensures ∙ c.if-not-is_sound.true), front_same)

pub returns-in_err-n : goal.returns-in_err-n
returns-in_err-n c = let p = err_from_is_err_and c.from_residual.result c.from_residual.ensures.1 in
    let v : c.in_err-n.field-0.0 ≡ NotJcal = let q = rw c.in_err-n.ensures.ok_part at c.in_err-n.ensures.value in cc in
    rw (p.1, p.2, v) (other-shape _ _ (sym c.is_sound.ensures ∙ c.if-not-is_sound.false) (rw c.in_err-n.ensures.ok_part at c.shape_of.ensures), front_same)

pub returns-then-n-gt-MOST_LEVELS : goal.returns-then-n-gt-MOST_LEVELS
returns-then-n-gt-MOST_LEVELS c = let k = rw c.in_ok-n.ensures.ok_part at c.shape_of.ensures in
    (too-deep _ _ (sym c.is_sound.ensures ∙ c.if-not-is_sound.false) k.0 k.1 c.if-n-gt-MOST_LEVELS.true, front_same)

pub convert_component-requires : goal.convert_component-requires
convert_component-requires c = let k = rw c.in_ok-n.ensures.ok_part at c.shape_of.ensures in
    (component-there _ k.0 k.1 c.if-n-gt-MOST_LEVELS.false, c.requires)

pub returns : goal.returns
returns c = let k = rw c.in_ok-n.ensures.ok_part at c.shape_of.ensures in
    rw (shallow _ _ (sym c.is_sound.ensures ∙ c.if-not-is_sound.false) k.0 k.1 c.if-n-gt-MOST_LEVELS.false, component-on _ k.0 k.1 c.if-n-gt-MOST_LEVELS.false) c.convert_component.ensures
