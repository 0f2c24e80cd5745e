-- `content::parts::next_param` meets its contract.
use Prim.Native.Nat.{ℕ, ◌+◌}
use mathlib.Core.Path.{◌≡◌, ◌∙◌}
use native.Mathlib.Omega.{arith}
use Rattle.content.proofs.ParamPlaces.{next-none, next-rest, next-some, values-stand, rest-stands}
use Rattle.content.proofs.parts.next_param.Goals as goal

plain : (n : ℕ) → n ≡ 0 + n
plain n = omega arith

pub returns-then-s-e : goal.returns-then-s-e
returns-then-s-e c = next-none c.args.s.now _ (c.next_semicolon-e.ensures ∙ plain _) c.if-s-e.true

pub returns : goal.returns
returns c = (
  next-rest c.args.s.now _ (c.next_semicolon-e.ensures ∙ plain _) c.if-s-e.false _ c.param_at-p.ensures,
  next-some c.args.s.now _ (c.next_semicolon-e.ensures ∙ plain _) c.if-s-e.false _ c.param_at-p.ensures,
  values-stand _ _ _ c.param_at-p.ensures,
  rest-stands _ _ _ c.param_at-p.ensures,
)
