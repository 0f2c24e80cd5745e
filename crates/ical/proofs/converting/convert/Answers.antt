-- `ical::converting::convert` meets its contract.
use mathlib.Core.Path.{sym, ap, ◌∙◌}
use native.Mathlib.Omega.{arith}
use lib.ListN.{length}
use Rattle.octets.specs.Answers.{answer}
use Rattle.octets.proofs.Limits.{most-text}
use Rattle.ical.proofs.Stages.{table-read, table-refused, malformed, not-clean, text-follows, tape-is}
use Rattle.ical.proofs.converting.convert.Goals as goal

pub returns-then-not-is_utf8 : goal.returns-then-not-is_utf8
returns-then-not-is_utf8 c = c.refuse-then-not-is_utf8.ensures ∙ ap (λ a. answer a c.args.out.now) (sym (not-clean _ _ c.requires.0 (table-read _ _ _ c.requires.1 c.read_rows-r.ensures c.in-Ok.is).0 (sym c.is_utf8.ensures ∙ c.if-not-is_utf8.true)))

pub slice_bounds-laid-end : goal.slice_bounds-laid-end
slice_bounds-laid-end c = (table-read _ _ _ c.requires.1 c.read_rows-r.ensures c.in-Ok.is).1

pub convert_in-requires : goal.convert_in-requires
convert_in-requires c = ((sym c.is_utf8.ensures ∙ c.if-not-is_utf8.false), omega (arith, most-text, c.requires.0, tape-is (length c.args.text.now)), omega arith)

pub convert_in-requires-then-text-gt-SHORT_TEXT : goal.convert_in-requires-then-text-gt-SHORT_TEXT
convert_in-requires-then-text-gt-SHORT_TEXT c = ((sym c.is_utf8.ensures ∙ c.if-not-is_utf8.false), omega (arith, tape-is (length c.args.text.now)), omega arith)

pub convert_in-requires-in-Ok : goal.convert_in-requires-in-Ok
convert_in-requires-in-Ok c = ((sym c.is_utf8.ensures ∙ c.if-not-is_utf8.false), omega (arith, tape-is (length c.args.text.now)), omega arith)

pub returns-then-text-gt-MIDDLE_TEXT : goal.returns-then-text-gt-MIDDLE_TEXT
returns-then-text-gt-MIDDLE_TEXT c = c.convert_in.ensures ∙ ap (λ a. answer a c.args.out.now) (sym (text-follows _ _ c.requires.0 (table-read _ _ _ c.requires.1 c.read_rows-r.ensures c.in-Ok.is).0 (sym c.is_utf8.ensures ∙ c.if-not-is_utf8.false)))

pub returns-then-text-gt-SHORT_TEXT : goal.returns-then-text-gt-SHORT_TEXT
returns-then-text-gt-SHORT_TEXT c = c.convert_in-then-text-gt-SHORT_TEXT.ensures ∙ ap (λ a. answer a c.args.out.now) (sym (text-follows _ _ c.requires.0 (table-read _ _ _ c.requires.1 c.read_rows-r.ensures c.in-Ok.is).0 (sym c.is_utf8.ensures ∙ c.if-not-is_utf8.false)))

pub returns-in-Err : goal.returns-in-Err
returns-in-Err c = c.refuse.ensures ∙ ap (λ a. answer a c.args.out.now) (sym (malformed _ _ c.requires.0 (table-refused _ _ _ c.requires.1 c.read_rows-r.ensures c.in-Err.is)))

pub returns-else-text-gt-SHORT_TEXT : goal.returns-else-text-gt-SHORT_TEXT
returns-else-text-gt-SHORT_TEXT c = c.convert_in-in-Ok.ensures ∙ ap (λ a. answer a c.args.out.now) (sym (text-follows _ _ c.requires.0 (table-read _ _ _ c.requires.1 c.read_rows-r.ensures c.in-Ok.is).0 (sym c.is_utf8.ensures ∙ c.if-not-is_utf8.false)))
