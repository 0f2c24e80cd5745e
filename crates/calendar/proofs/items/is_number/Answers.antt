-- `calendar::items::is_number` meets its contract.
use mathlib.Core.Path.{sym, ◌∙◌}
use Rattle.calendar.proofs.ItemTests.{sign-wrong, figures-many, figures-judged}
use Rattle.calendar.proofs.items.is_number.Goals as goal

pub returns-then-not-sign_stands : goal.returns-then-not-sign_stands
returns-then-not-sign_stands c = let b = c.args.b in
    sym (sign-wrong b.signed b.most b.lo b.hi c.args.s.now (sym c.sign_stands.ensures ∙ c.if-not-sign_stands.true))

pub returns-then-figures-b : goal.returns-then-figures-b
returns-then-figures-b c = let b = c.args.b in
    sym (figures-many b.signed b.most b.lo b.hi c.args.s.now c.sign_length-from.result c.sign_length-from.ensures.1 c.if-figures-b.true)

pub returns : goal.returns
returns c = let b = c.args.b in
    c.is_within.ensures ∙ sym (figures-judged b.signed b.most b.lo b.hi c.args.s.now c.sign_length-from.result c.sign_length-from.ensures.1 (sym c.sign_stands.ensures ∙ c.if-not-sign_stands.false) c.if-figures-b.false)
