-- `json_text::strings::partner` meets its contract.
use mathlib.Core.Path.{◌∙◌}
use native.Mathlib.Omega.{arith}
use Rattle.octets.proofs.Classes.{within-between, below-between, above-between}
use Rattle.json_text.specs.Strings.{partner as partner_of}
use Rattle.json_text.proofs.StringLaws.{none-is}
use Rattle.json_text.proofs.strings.partner.Goals as goal

pub returns-then-u-lt55296 : goal.returns-then-u-lt55296
unfolding partner_of
returns-then-u-lt55296 c = none-is _ (rw (below-between 55296 56319 c.args.u (omega (arith, c.if-u-lt55296.true))))

pub returns-then-u-gt56319 : goal.returns-then-u-gt56319
unfolding partner_of
returns-then-u-gt56319 c = none-is _ (rw (above-between 55296 56319 c.args.u (omega (arith, c.if-u-gt56319.true))))

pub returns : goal.returns
unfolding partner_of
returns c = c.low.ensures ∙ rw (within-between 55296 56319 c.args.u (omega (arith, c.if-u-lt55296.false)) (omega (arith, c.if-u-gt56319.false)))
