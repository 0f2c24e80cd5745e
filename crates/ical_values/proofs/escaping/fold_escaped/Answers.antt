-- `ical_values::escaping::fold_escaped` meets its contract.
use Rattle.ical_values.proofs.TextRuns.{escaped, stays, text-plain}
use Rattle.octets.proofs.Pen.{front_same}
use Rattle.octets.specs.Classes.{is_control, plain_octet, text_octet}
use Rattle.values.specs.Texts.{escaped_octet}
use mathlib.Core.Logic.{inl, inr}
use mathlib.Core.Path.{refl, sym, ◌∙◌}
use Rattle.ical_values.proofs.escaping.fold_escaped.Goals as goal

pub returns-then-is_plain_octet : goal.returns-then-is_plain_octet
returns-then-is_plain_octet c = let n = c.in_default.in_default-own.rest.0.1 in
    let m = c.in_default.in_default-own.rest.1 in
    rw (text-plain _ m, stays _ (λ e. n (inr (inr e))) (λ e. n (inr (inl e))) (λ e. n (inl e)) m) (sym c.is_plain_octet.ensures ∙ c.if-is_plain_octet.true, c.fold_octet.ensures)

pub returns-in-92 : goal.returns-in-92
returns-in-92 c = let e = escaped _ c.in-92.is in rw (e.0, e.1) (refl, c.fold_pair.ensures)

pub returns-in-10 : goal.returns-in-10
unfolding text_octet plain_octet is_control escaped_octet
returns-in-10 c = rw c.in-10.is (refl, c.fold_pair-in-10.ensures)

pub returns-else-is_plain_octet : goal.returns-else-is_plain_octet
returns-else-is_plain_octet c = rw (text-plain _ c.in_default.in_default-own.rest.1) (sym c.is_plain_octet.ensures ∙ c.if-is_plain_octet.false, front_same)
