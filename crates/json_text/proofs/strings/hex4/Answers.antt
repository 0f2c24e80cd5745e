-- `json_text::strings::hex4` meets its contract.
use mathlib.Core.Path.{sym, ◌∙◌}
use Rattle.octets.proofs.Optional.{when-is, when-none}
use Rattle.json_text.proofs.StringLaws.{hex4-at, hex4-short}
use Rattle.json_text.proofs.strings.hex4.Goals as goal

pub returns-in_default : goal.returns-in_default
returns-in_default c = sym (hex4-short _ c.in_default.len_below)

pub returns-in_err-a : goal.returns-in_err-a
returns-in_err-a c = rw c.from_residual.ensures (sym (hex4-at c.args.text.now 0 ∙ rw (when-none _ _ (sym c.in_err-a.ensures.value))))

pub returns-in_err-b : goal.returns-in_err-b
returns-in_err-b c = let xa = when-is _ _ _ (sym c.in_ok-a.ensures.value) in rw c.from_residual-in_err-b.ensures (sym (hex4-at c.args.text.now 0 ∙ rw (xa.0, when-none _ _ (sym c.in_err-b.ensures.value))))

pub returns-in_err-c : goal.returns-in_err-c
returns-in_err-c c = let xa = when-is _ _ _ (sym c.in_ok-a.ensures.value) in let xb = when-is _ _ _ (sym c.in_ok-b.ensures.value) in rw c.from_residual-in_err-c.ensures (sym (hex4-at c.args.text.now 0 ∙ rw (xa.0, xb.0, when-none _ _ (sym c.in_err-c.ensures.value))))

pub returns-in_err-d : goal.returns-in_err-d
returns-in_err-d c = let xa = when-is _ _ _ (sym c.in_ok-a.ensures.value) in let xb = when-is _ _ _ (sym c.in_ok-b.ensures.value) in let xc = when-is _ _ _ (sym c.in_ok-c.ensures.value) in rw c.from_residual-in_err-d.ensures (sym (hex4-at c.args.text.now 0 ∙ rw (xa.0, xb.0, xc.0, when-none _ _ (sym c.in_err-d.ensures.value))))

pub returns : goal.returns
returns c = let xa = when-is _ _ _ (sym c.in_ok-a.ensures.value) in let xb = when-is _ _ _ (sym c.in_ok-b.ensures.value) in let xc = when-is _ _ _ (sym c.in_ok-c.ensures.value) in let xd = when-is _ _ _ (sym c.in_ok-d.ensures.value) in rw (sym xa.1, sym xb.1, sym xc.1, sym xd.1) (sym (hex4-at c.args.text.now 0 ∙ rw (xa.0, xb.0, xc.0, xd.0)))
