-- `calendar::texts::read` meets its contract: the loop reads places into the front of the array (`Reading`).
use native.Mathlib.Omega.{arith}
use mathlib.Core.Path.{◌≡◌, refl, sym, ◌∙◌}
use lib.ListN.{length}
use Rattle.calendar.proofs.Slots.{begins, adds, reads, short, wrong, long, ends}
use Rattle.calendar.proofs.texts.read.Goals as goal

pub loop-k-init : goal.loop-k-init
loop-k-init c = begins _ _ _ _ refl refl

pub loop-k-preserved-then-is_added : goal.loop-k-preserved-then-is_added
loop-k-preserved-then-is_added c = adds _ _ _ _ _ _ c.loop-k.invariant c.loop-k-test.true (omega arith) (sym c.is_added.ensures ∙ c.if-is_added.true)

pub returns-then-s-i : goal.returns-then-s-i
returns-then-s-i c = short _ _ _ _ _ _ c.loop-k.invariant c.loop-k-test.true c.if-s-i.true (sym c.is_added.ensures ∙ c.if-is_added.false)

pub returns-then-not-takes : goal.returns-then-not-takes
returns-then-not-takes c =
    wrong _ _ _ _ _ _ c.loop-k.invariant _ c.loop-k-test.true c.if-s-i.false (sym c.is_added.ensures ∙ c.if-is_added.false) c.upper_octet-x.ensures (sym c.takes.ensures ∙ c.if-not-takes.true)

pub loop-k-preserved : goal.loop-k-preserved
loop-k-preserved c =
    reads _ _ _ _ _ _ c.loop-k.invariant _ c.loop-k-test.true (omega arith) c.if-s-i.false (sym c.is_added.ensures ∙ c.if-is_added.false) c.upper_octet-x.ensures (sym c.takes.ensures ∙ c.if-not-takes.false)

pub returns-then-i-s : goal.returns-then-i-s
returns-then-i-s c = long _ _ _ _ _ _ c.loop-k.invariant c.loop-k-test.false c.if-i-s.true

pub returns : goal.returns
returns c = let e : length c.args.form.now ≡ c.loop-k.k = omega arith in rw e (ends _ _ _ _ _ _ c.loop-k.invariant c.loop-k-test.false c.if-i-s.false)
