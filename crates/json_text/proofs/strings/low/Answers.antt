-- `json_text::strings::low` meets its contract.
use mathlib.Core.Path.{◌≡◌, sym, ◌∙◌}
use native.Mathlib.Omega.{arith}
use Rattle.octets.proofs.Classes.{within-between, below-between, above-between}
use Rattle.octets.proofs.Positions.{from}
use Rattle.json_text.specs.Strings.{low_surrogate}
use Rattle.json_text.proofs.StringLaws.{none-is, some-is, low-short, low-first, low-second, low-both, low-some, low-none}
use Rattle.json_text.proofs.strings.low.Goals as goal
use Rattle.json_text.proofs.strings.low.Goals.{else-l-ge56320-via-then-l-ge56320+else-l-le57343, else-l-ge56320-via-else-l-ge56320}

pub returns-in_default : goal.returns-in_default
returns-in_default c = none-is _ (low-short c.args.text.now c.in_default.len_below)

pub returns-in_default-2 : goal.returns-in_default-2
returns-in_default-2 c = none-is _ (low-second c.args.text.now (λ h. omega (arith, h)))

pub returns-in_default-3 : goal.returns-in_default-3
returns-in_default-3 c = none-is _ (low-first c.args.text.now (λ h. omega (arith, h)))

pub returns-in_err-l : goal.returns-in_err-l
returns-in_err-l c = rw c.from_residual.ensures (none-is _ (low-both c.args.text.now (omega arith) (omega arith) ∙ low-none _ (sym (rw (from c.args.text.now 2) at c.hex4.ensures) ∙ c.in_err-l.was)))

pub returns-then-l-le57343 : goal.returns-then-l-le57343
returns-then-l-le57343 c =
    let e : low_surrogate c.args.text.now ≡ c.in_ok-l.l = low-both c.args.text.now (omega arith) (omega arith) ∙ low-some _ (sym (rw (from c.args.text.now 2) at c.hex4.ensures) ∙ c.in_ok-l.was) ∙ rw (within-between 56320 57343 c.in_ok-l.l c.if-l-ge56320.true c.if-l-le57343.true) in
    rw e (some-is c.in_ok-l.l (λ z. omega (arith, c.if-l-ge56320.true)))

pub returns : goal.returns
returns c = none-is _ (low-both c.args.text.now (omega arith) (omega arith) ∙ low-some _ (sym (rw (from c.args.text.now 2) at c.hex4.ensures) ∙ c.in_ok-l.was) ∙ elim c.else-l-ge56320.branch [
  | else-l-ge56320-via-then-l-ge56320+else-l-le57343 w ↦ rw (above-between 56320 57343 c.in_ok-l.l (omega (arith, w.if-l-le57343.false)))
  | else-l-ge56320-via-else-l-ge56320 w ↦ rw (below-between 56320 57343 c.in_ok-l.l (omega (arith, w.if-l-ge56320.false)))
])
