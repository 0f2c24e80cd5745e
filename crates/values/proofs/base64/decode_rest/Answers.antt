-- `values::base64::decode_rest` meets its contract.
use mathlib.Core.Path.{refl}
use native.Mathlib.Omega.{arith}
use lib.ListN.{length-set}
use Rattle.values.proofs.Decoded.{absent, rest-none, rest-stop, rest-small, rest-two, third-stop, rest-three}
use Rattle.values.proofs.base64.decode_rest.Goals as goal

pub returns-then-rest-eq0 : goal.returns-then-rest-eq0
returns-then-rest-eq0 c = (refl, (omega arith, rest-none _ _ c.if-rest-eq0.true))

pub returns-then-a-b-gt126 : goal.returns-then-a-b-gt126
returns-then-a-b-gt126 c = absent (rest-stop c.args.rest.now _ _ c.sextet_of-a.ensures.0 c.sextet_of-b.ensures.0 _ (omega arith) c.if-a-b-gt126.true)

pub overflow_cast-out : goal.overflow_cast-out
overflow_cast-out c = omega (arith, rest-small c.args.rest.now _ _ c.sextet_of-a.ensures.0 c.sextet_of-b.ensures.0 c.if-a-b-gt126.false)

pub returns-then-rest-eq2 : goal.returns-then-rest-eq2
returns-then-rest-eq2 c = (refl, (simp length-set (omega arith), rest-two c.args.rest.now _ _ c.sextet_of-a.ensures.0 c.sextet_of-b.ensures.0 c.if-a-b-gt126.false _ c.args.to (omega arith) c.if-rest-eq2.true))

pub returns-then-c-gt63 : goal.returns-then-c-gt63
returns-then-c-gt63 c = absent (third-stop c.args.rest.now _ _ c.sextet_of-a.ensures.0 c.sextet_of-b.ensures.0 c.if-a-b-gt126.false _ c.sextet_of-c.ensures.0 (omega arith) _ c.if-c-gt63.true)

pub bounds-out-to-2 : goal.bounds-out-to-2
bounds-out-to-2 c = simp length-set (omega arith)

pub returns : goal.returns
returns c = (refl, (simp length-set (omega arith), rest-three c.args.rest.now _ _ c.sextet_of-a.ensures.0 c.sextet_of-b.ensures.0 c.if-a-b-gt126.false _ c.sextet_of-c.ensures.0 (omega arith) _ c.args.to (omega arith) c.if-c-gt63.false))
