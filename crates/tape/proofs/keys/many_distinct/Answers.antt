-- `tape::keys::many_distinct` meets its contract.
use Rattle.octets.proofs.Slots.{blank}
use Rattle.tape.proofs.keys.many_distinct.Goals as goal

pub all_new-requires : goal.all_new-requires
all_new-requires c = blank 16640
