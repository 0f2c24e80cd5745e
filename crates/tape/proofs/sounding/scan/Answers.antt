-- `tape::sounding::scan` meets its contract.
use Prim.Native.Nat.{◌+◌}
use mathlib.Core.Path.{sym, ap, ◌∙◌}
use native.Mathlib.Omega.{arith}
use Rattle.std.specs.Prelude.{Some, None}
use Rattle.tape.specs.Sound.{has_lone}
use Rattle.tape.proofs.Tags.{text-part, text-within}
use Rattle.tape.proofs.Scans.{scan-number, scan-string, scan-object, scan-twice, scan-other}
use Rattle.tape.proofs.sounding.scan.Goals as goal

pub slice_bounds-has_lone-end : goal.slice_bounds-has_lone-end
slice_bounds-has_lone-end c = omega (arith, text-within c.args.t.now (c.args.at + 1) (omega arith), c.text_end-e.ensures)

pub returns-then-has_lone : goal.returns-then-has_lone
returns-then-has_lone c = scan-string c.args.t.now _ c.requires c.in-4.is None (sym (ap (has_lone 0) (text-part c.args.t.now _ _ c.text_end-e.ensures)) ∙ sym c.has_lone.ensures ∙ c.if-has_lone.true)

pub returns-else-has_lone : goal.returns-else-has_lone
returns-else-has_lone c = scan-string c.args.t.now _ c.requires c.in-4.is (Some c.after.result) (sym (ap (has_lone 0) (text-part c.args.t.now _ _ c.text_end-e.ensures)) ∙ sym c.has_lone.ensures ∙ c.if-has_lone.false, rw c.text_end-e.ensures at c.after.ensures)

pub returns-in-3 : goal.returns-in-3
returns-in-3 c = scan-number _ _ c.requires c.in-3.is c.past_text.ensures

pub returns-then-keys_distinct : goal.returns-then-keys_distinct
returns-then-keys_distinct c = scan-object _ _ c.requires c.in-6.is (sym c.keys_distinct.ensures ∙ c.if-keys_distinct.true)

pub returns-else-keys_distinct : goal.returns-else-keys_distinct
returns-else-keys_distinct c = scan-twice _ _ c.requires c.in-6.is (sym c.keys_distinct.ensures ∙ c.if-keys_distinct.false)

pub returns-in_default : goal.returns-in_default
returns-in_default c = scan-other _ _ c.requires (λ e. omega (arith, e)) (λ e. omega (arith, e)) (λ e. omega (arith, e))
