-- `content::object::put_params` meets its contract.
use mathlib.Core.Path.{refl, sym}
use native.Mathlib.Omega.{arith}
use Rattle.octets.proofs.Pen.{leads-start, leads-on, leads-same, leads-last, then, as-text}
use Rattle.content.specs.Parts.{params_in}
use Rattle.content.proofs.Objects.{object-text, object-end, object-skip, object-on}
use Rattle.content.proofs.object.put_params.Goals as goal

pub loop-p-init : goal.loop-p-init
loop-p-init c = (refl, leads-start)

pub loop-p-preserved-then-is_left_out : goal.loop-p-preserved-then-is_left_out
loop-p-preserved-then-is_left_out c = (c.loop-p.invariant.0, leads-same c.loop-p.invariant.1 (object-skip _ _ _ _ _ _ c.in-Some.ensures.1 _ c.is_left_out.ensures c.if-is_left_out.true))

pub loop-p-preserved : goal.loop-p-preserved
loop-p-preserved c = (omega (arith, c.put_member-to.auto.out, c.loop-p.invariant.0), leads-on c.loop-p.invariant.1 c.put_member-to.ensures (object-on _ _ _ _ _ _ c.in-Some.ensures.1 _ c.is_left_out.ensures c.if-is_left_out.false))

pub returns : goal.returns
returns c = as-text (then c.put-to.ensures (leads-last c.loop-p.invariant.1 c.put.ensures (object-end _ _ _ c.in_default.ensures))) (sym (object-text c.args.decodes (params_in c.args.s.now)))
