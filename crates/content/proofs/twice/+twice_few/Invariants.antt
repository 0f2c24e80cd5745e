-- `content::twice::twice_few` meets its contract: those behind a parameter are tested first, then its name. The measure is `few`.
use Rattle.content.proofs.twice.+twice_few.Given as goal

abbrev pub decreases-twice_few : goal.decreases-twice_few
decreases-twice_few l = l.few
