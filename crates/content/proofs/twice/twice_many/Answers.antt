-- `content::twice::twice_many` meets its contract.
use Rattle.octets.proofs.Slots.{blank}
use Rattle.content.proofs.twice.twice_many.Goals as goal

pub twice_by-requires : goal.twice_by-requires
twice_by-requires c = blank 16640
