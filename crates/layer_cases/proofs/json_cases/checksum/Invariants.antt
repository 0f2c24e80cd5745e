-- Both sums stay below 65521.
use Rattle.std.proofs.Common.{◌<◌}
use Rattle.layer_cases.proofs.json_cases.checksum.Given as goal

abbrev pub invariant-loop-c : goal.invariant-loop-c
invariant-loop-c l = (l.a < 65521) × (l.b < 65521)
