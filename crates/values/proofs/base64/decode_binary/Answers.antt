-- `values::base64::decode_binary` meets its contract: what stands before the paddings is decoded.
use mathlib.Core.Bool.{true}
use native.Mathlib.Omega.{arith}
use Rattle.values.proofs.Decoded.{absent, decoded-same, no-binary, not-one, no_longer, binary}
use Rattle.values.proofs.base64.decode_binary.Goals as goal

pub returns-then-raw-ne0 : goal.returns-then-raw-ne0
returns-then-raw-ne0 c = absent (no-binary c.args.raw.now c.if-raw-ne0.true)

pub decode_groups-requires : goal.decode_groups-requires
decode_groups-requires c = record {
  fact = not-one c.args.raw.now _ c.before_padding.ensures c.if-raw-ne0.false;
  raw_in_bounds = omega (arith, no_longer c.args.raw.now _ c.before_padding.ensures c.if-raw-ne0.false);
}

pub returns : goal.returns
returns c = decoded-same true c.decode_groups.new.out c.decode_groups.result (binary c.args.raw.now _ c.before_padding.ensures c.if-raw-ne0.false) c.decode_groups.ensures
