-- `jcal::events::kind_at` meets its contract.
use mathlib.Core.Path.{sym, ◌∙◌, refl}
use Rattle.octets.specs.Basics.{all, filled}
use Rattle.octets.specs.Classes.{between, is_digit, is_upper, is_lower, is_letter, name_octet, is_name}
use Rattle.jcal.proofs.Heads.{alike-length}
use Rattle.jcal.proofs.LineKinds.{tells-opens, tells-broken, tells-closes, tells-broken-end, tells-plain}
use Rattle.jcal.proofs.events.kind_at.Goals as goal

pub is_called-requires : goal.is_called-requires
is_called-requires c = unfold is_name filled all name_octet is_letter is_upper is_lower is_digit between in refl

pub has_bounds-requires : goal.has_bounds-requires
has_bounds-requires c = alike-length _ _ (sym c.is_called.ensures ∙ c.if-is_called.true)

pub returns-then-has_bounds : goal.returns-then-has_bounds
returns-then-has_bounds c = tells-opens _ _ _ c.requires (sym c.is_called.ensures ∙ c.if-is_called.true) (sym c.has_bounds.ensures ∙ c.if-has_bounds.true)

pub returns-then-is_called : goal.returns-then-is_called
returns-then-is_called c = tells-broken _ _ _ c.requires (sym c.is_called.ensures ∙ c.if-is_called.true) (sym c.has_bounds.ensures ∙ c.if-has_bounds.false)

pub is_called-requires-2 : goal.is_called-requires-2
is_called-requires-2 c = unfold is_name filled all name_octet is_letter is_upper is_lower is_digit between in refl

pub has_bounds-requires-then-is_called-2 : goal.has_bounds-requires-then-is_called-2
has_bounds-requires-then-is_called-2 c = alike-length _ _ (sym c.is_called-2.ensures ∙ c.if-is_called-2.true)

pub returns-then-has_bounds-2 : goal.returns-then-has_bounds-2
returns-then-has_bounds-2 c = tells-closes _ _ _ c.requires (sym c.is_called.ensures ∙ c.if-is_called.false) (sym c.is_called-2.ensures ∙ c.if-is_called-2.true) (sym c.has_bounds-then-is_called-2.ensures ∙ c.if-has_bounds-2.true)

pub returns-then-is_called-2 : goal.returns-then-is_called-2
returns-then-is_called-2 c = tells-broken-end _ _ _ c.requires (sym c.is_called.ensures ∙ c.if-is_called.false) (sym c.is_called-2.ensures ∙ c.if-is_called-2.true) (sym c.has_bounds-then-is_called-2.ensures ∙ c.if-has_bounds-2.false)

pub returns : goal.returns
returns c = tells-plain _ _ _ c.requires (sym c.is_called.ensures ∙ c.if-is_called.false) (sym c.is_called-2.ensures ∙ c.if-is_called-2.false)
