-- `octets::each_is` meets its contract.
use mathlib.Core.Path.{refl, sym, ◌∙◌}
use Rattle.octets.proofs.Classes.{all_more, all_done}
use Rattle.octets.proofs.names.each_is.Goals as goal

pub loop-c-init : goal.loop-c-init
loop-c-init g c = λ p is. refl

pub loop-c-preserved : goal.loop-c-preserved
loop-c-preserved g c = λ p is. rw (c.both-so_far.ensures, is _ _ c.test.ensures) (all_more p c.args.s.now c.loop-c.c-index c.loop-c.so_far c.loop-c-test.true ∙ c.loop-c.invariant p is)

pub returns : goal.returns
returns g c = λ p is. sym (all_done p _ _ _ c.loop-c-test.false) ∙ c.loop-c.invariant p is
