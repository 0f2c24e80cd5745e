-- `ical::property::convert_property` meets its contract.
use mathlib.Core.Path.{◌≡◌}
use Rattle.std.proofs.lemmas.Result.{err_from_is_err_and}
use Rattle.octets.specs.declared.Refusal.TheVariants.{BadValue}
use Rattle.octets.proofs.Pen.{front_same, front-behind}
use Rattle.tape.specs.Decode.{value_at}
use Rattle.content.proofs.Folding.{then, as-folded, line-ended}
use Rattle.ical.proofs.PropertyTests.{kind-name, behind-values, refused-7, refused-8, refused-9, passed}
use Rattle.ical.proofs.LineTexts.{line-there}
use Rattle.ical.proofs.property.convert_property.Goals as goal

pub returns-then-not-may_return : goal.returns-then-not-may_return
returns-then-not-may_return c = (refused-7 _ c.requires.0 c.property_parts-p.ensures c.may_return.ensures c.if-not-may_return.true, front_same)

pub returns-then-not-encoding_fits : goal.returns-then-not-encoding_fits
returns-then-not-encoding_fits c = (refused-8 _ c.requires.0 c.property_parts-p.ensures c.may_return.ensures c.if-not-may_return.false c.ruling_of-k.ensures c.any_encodes-encoded.ensures c.encoding_fits.ensures c.if-not-encoding_fits.true, front_same)

pub write_head-h-requires : goal.write_head-h-requires
write_head-h-requires c = kind-name (value_at c.args.t.now c.args.at) c.requires.0 c.property_parts-p.ensures.kind.part

pub write_stood-requires : goal.write_stood-requires
write_stood-requires c = c.requires.1

pub returns-in_err-e : goal.returns-in_err-e
returns-in_err-e c = let p = err_from_is_err_and c.from_residual.result c.from_residual.ensures.1 in
    let v : c.in_err-e.field-0.0 ≡ BadValue = let q = rw c.in_err-e.ensures.ok_part at c.in_err-e.ensures.value in cc in
    let w = rw c.in_err-e.ensures.ok_part at c.write_stood.ensures in
    rw (p.1, p.2, v) (refused-9 _ c.requires.0 c.property_parts-p.ensures c.may_return.ensures c.if-not-may_return.false c.ruling_of-k.ensures c.any_encodes-encoded.ensures c.encoding_fits.ensures c.if-not-encoding_fits.false w.0, front-behind c.write_head-h.ensures.wrote w.1)

pub returns : goal.returns
returns c = let s = rw c.in_ok-e.ensures.ok_part at c.write_stood.ensures in
    record {
      faultless = passed _ c.requires.0 c.property_parts-p.ensures c.may_return.ensures c.if-not-may_return.false c.ruling_of-k.ensures c.any_encodes-encoded.ensures c.encoding_fits.ensures c.if-not-encoding_fits.false s.0;
      behind = behind-values c.requires.0 c.property_parts-p.ensures.within s.2;
      wrote = line-ended (as-folded (then c.write_head-h.ensures s.1) (line-there _ c.requires.0 c.property_parts-p.ensures c.ruling_of-k.ensures)) c.end_line.ensures;
    }
