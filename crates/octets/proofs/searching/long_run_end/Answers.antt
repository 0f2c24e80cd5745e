-- `octets::long_run_end` meets its contract.
use Prim.Native.Nat.{ℕ, ◌+◌, ◌-◌, ◌≤◌}
use mathlib.Core.Bool.{not}
use mathlib.Core.List.{List}
use mathlib.Core.Path.{◌≡◌, refl, sym, ap, ◌∙◌}
use native.Mathlib.Omega.{arith}
use lib.ListN.{length, drop, length-drop}
use lib.Seq.{drop-drop}
use Rattle.octets.specs.Groups.{belongs}
use Rattle.octets.specs.Search.{until}
use Rattle.octets.proofs.Positions.{from}
use Rattle.octets.proofs.Search.{beyond, block-on}
use Rattle.octets.proofs.searching.long_run_end.Goals as goal

-- k octets less are left
fewer : (s : List ℕ) {r b : List ℕ} {k : ℕ} → length r ≤ length s → r ≡ drop (length s - length r) s → k ≤ length r → b ≡ drop k r → b ≡ drop (length s - length b) s
fewer s {r} {b} {k} h e l q =
    let m : length b ≡ length r - k = rw (q, length-drop) in
    let n : length s - length r + k ≡ length s - length b = omega arith in
    q ∙ ap (drop k) e ∙ drop-drop k (length s - length r) s ∙ ap (λ (i : ℕ). drop i s) n

pub returns-in_default : goal.returns-in_default
returns-in_default c = beyond (λ x. not (belongs c.args.class x)) c.args.s.now c.args.at c.in_default.ensures.lookup.0

pub loop-block-init : goal.loop-block-init
loop-block-init c = let l = c.in-Some.ensures.lookup.0 in
    let q : length c.args.s.now - length c.in-Some.rest.now ≡ c.args.at = omega arith in
    let r : c.in-Some.rest.now ≡ drop c.args.at c.args.s.now = l.2 ∙ from c.args.s.now c.args.at in
    (omega arith, rw q r, rw (q, r))

pub loop-block-preserved : goal.loop-block-preserved
loop-block-preserved c = let i = c.loop-block.invariant in
    let f = c.in-Some-split_at_checked.ensures.cases in
    let stop = λ (x : ℕ). not (belongs c.args.class x) in
    let k = block-on (belongs c.args.class) stop (λ x. refl) 16 c.loop-block.rest.now f.0 (rw f.1 at (sym c.is_block_of.ensures ∙ c.if-not-is_block_of.false)) in
    let b = ap (λ (r : List ℕ). length (until stop r)) f.2 in
    (omega arith, fewer c.args.s.now i.0 i.1 f.0 f.2, omega (arith, i.2, k, b))

pub returns : goal.returns
returns c = c.run_end.ensures ∙ rw (← c.loop-block.invariant.1) c.loop-block.invariant.2
