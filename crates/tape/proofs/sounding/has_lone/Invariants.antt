-- `tape::sounding::has_lone` meets its contract. The loop's invariant: the octets from here on tell, behind the one before, whether there is a lone surrogate.
use mathlib.Core.Path.{◌≡◌}
use lib.ListN.{drop}
use Rattle.tape.specs.Sound.{has_lone}
use Rattle.tape.proofs.sounding.has_lone.Given as goal

abbrev pub invariant-loop-b : goal.invariant-loop-b
invariant-loop-b l = has_lone l.p (drop l.b-index l.s) ≡ has_lone 0 l.s
