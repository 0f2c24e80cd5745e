-- `tape::keys::few_distinct` meets its contract: the keys behind the first are tested before it. The measure is the number of keys to compare.
use Rattle.tape.proofs.keys.+few_distinct.Given as goal

abbrev pub decreases-few_distinct : goal.decreases-few_distinct
decreases-few_distinct l = l.few
