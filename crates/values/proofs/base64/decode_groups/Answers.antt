-- `values::base64::decode_groups` meets its contract.
use Prim.Native.Nat.{◌+◌, ◌*◌, ◌/◌}
use mathlib.Core.Path.{◌≡◌, refl, ap, ◌∙◌}
use mathlib.Core.Bool.{true}
use native.Mathlib.Omega.{arith}
use lib.ListN.{length, length-set, length-drop}
use Rattle.octets.proofs.Positions.{from}
use Rattle.values.proofs.Decoded.{absent, decoded-same, Looked, group-stop, group-small, group-on}
use Rattle.values.proofs.base64.decode_groups.Tie as tie
use Rattle.values.proofs.base64.decode_groups.Lts as lts
use Rattle.values.proofs.base64.decode_groups.Reads as reads
use Rattle.values.proofs.base64.decode_groups.Goals as goal

looked : (c : lts.After-sextet_of4 tie.the-claims reads.Pre reads.Post goal.the-invariant-loop-k goal.the-decreases-loop-k tie.handed_clauses)
    → Looked c.args.raw.now (4 * c.loop-k.k) c.sextet_of-a.result c.sextet_of-b.result c.sextet_of-c.result c.sextet_of-d.result
looked c = record {
  room = omega arith;
  one = c.sextet_of-a.ensures.0;
  two = c.sextet_of-b.ensures.0;
  three = c.sextet_of-c.ensures.0;
  four = c.sextet_of-d.ensures.0;
}

pub loop-k-init : goal.loop-k-init
loop-k-init c = (refl, refl)

pub returns-then-a-b-gt252 : goal.returns-then-a-b-gt252
returns-then-a-b-gt252 c = absent (c.loop-k.invariant.1 ∙ group-stop (looked c.before.before) _ c.if-a-b-gt252.true)

pub overflow_cast-out : goal.overflow_cast-out
overflow_cast-out c = omega (arith, group-small (looked c.before.before) c.if-a-b-gt252.false)

pub overflow_cast-out-in-loop-k : goal.overflow_cast-out-in-loop-k
overflow_cast-out-in-loop-k c = omega (arith, group-small (looked c.before.before) c.if-a-b-gt252.false)

pub bounds-out-to-in-loop-k : goal.bounds-out-to-in-loop-k
bounds-out-to-in-loop-k c = simp length-set (omega arith)

pub overflow_cast-out-in-loop-k-2 : goal.overflow_cast-out-in-loop-k-2
overflow_cast-out-in-loop-k-2 c = omega (arith, group-small (looked c.before.before) c.if-a-b-gt252.false)

pub bounds-out-to-in-loop-k-2 : goal.bounds-out-to-in-loop-k-2
bounds-out-to-in-loop-k-2 c = simp length-set (omega arith)

pub loop-k-preserved : goal.loop-k-preserved
loop-k-preserved c = let e : 3 * (c.loop-k.k + 1) ≡ 3 * c.loop-k.k + 3 = omega arith in
    let f : 4 * (c.loop-k.k + 1) ≡ 4 * c.loop-k.k + 4 = omega arith in
    (simp length-set (omega arith), c.loop-k.invariant.1 ∙ group-on (looked c.before.before) c.if-a-b-gt252.false c.loop-k.out (3 * c.loop-k.k) (omega arith) ∙ rw (e, f))

pub decode_rest-requires : goal.decode_rest-requires
decode_rest-requires c = let l = ap length (from c.args.raw.now (4 * (length c.args.raw.now / 4))) ∙ length-drop (4 * (length c.args.raw.now / 4)) c.args.raw.now in
    record {
      rest_len_bound = (omega arith, (λ x. omega arith));
      rest_in_bounds = omega arith;
    }

pub returns : goal.returns
returns c = let e : c.loop-k.k ≡ length c.args.raw.now / 4 = omega arith in
    decoded-same true c.decode_rest.new.out c.decode_rest.result (c.loop-k.invariant.1 ∙ rw (e, from c.args.raw.now (4 * (length c.args.raw.now / 4)))) c.decode_rest.ensures
