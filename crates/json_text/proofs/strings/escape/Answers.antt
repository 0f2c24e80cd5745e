-- `json_text::strings::escape` meets its contract.
use mathlib.Core.Path.{refl, sym, ap, ◌∙◌}
use native.Mathlib.Omega.{arith}
use Rattle.json_text.specs.Strings.{escape}
use Rattle.json_text.specs.Promise.{read, not-json}
use Rattle.json_text.proofs.Agreements.{begins, agrees-by}
use Rattle.json_text.proofs.StringLaws.{was-zero, was-some, escape-short, escape_unicode, escape-none, escape-one}
use Rattle.json_text.proofs.strings.escape.Goals as goal

pub returns-in_default : goal.returns-in_default
returns-in_default c = not-json (escape-short c.args.text.now (omega arith))

pub returns-then-b-eq117 : goal.returns-then-b-eq117
returns-then-b-eq117 c = agrees-by (ap escape (begins c.args.text.now 117 (omega arith) c.if-b-eq117.true) ∙ escape_unicode _) c.unicode.ensures

pub returns-in_default-escape_of : goal.returns-in_default-escape_of
returns-in_default-escape_of c = not-json (ap escape (begins c.args.text.now _ (omega arith) refl) ∙ escape-none _ _ c.if-b-eq117.false (was-zero _ (sym c.escape_of.ensures ∙ c.in_default-escape_of.is)))

pub returns : goal.returns
returns c = let s = was-some _ (sym c.escape_of.ensures ∙ c.in-Some.is) in
    read _ (ap escape (begins c.args.text.now _ (omega arith) refl) ∙ escape-one _ _ c.if-b-eq117.false s.0 s.1) c.put.ensures
