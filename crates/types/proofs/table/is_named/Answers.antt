-- `types::table::is_named` meets its contract.
use mathlib.Core.Path.{refl, sym, ◌∙◌}
use native.Mathlib.Omega.{arith}
use Rattle.octets.proofs.Classes.{same_length, upper-length}
use Rattle.types.proofs.Names.{named-on, named_end}
use Rattle.types.proofs.table.is_named.Goals as goal

pub returns-then-row-name : goal.returns-then-row-name
returns-then-row-name c = sym (same_length _ _ (λ e. c.if-row-name.true (e ∙ upper-length _)))

pub loop-i-init : goal.loop-i-init
loop-i-init c = (omega arith, refl)

pub loop-i-preserved : goal.loop-i-preserved
loop-i-preserved c = let l = c.loop-i in
    (l.invariant.0, rw (c.both-so_far.ensures, c.upper_octet.ensures) (named-on _ _ l.i l.invariant.0 l.so_far c.loop-i-test.true ∙ l.invariant.1))

pub returns : goal.returns
returns c = sym (named_end _ _ c.loop-i.i c.loop-i.invariant.0 c.loop-i.so_far c.loop-i-test.false) ∙ c.loop-i.invariant.1
