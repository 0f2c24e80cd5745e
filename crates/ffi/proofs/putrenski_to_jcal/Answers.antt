-- What the conversion leaves, with its answer as a word.
use Rattle.ffi.proofs.Words as wording
use Rattle.ffi.proofs.putrenski_to_jcal.Goals as goal

pub returns : goal.returns
returns c = wording.returns _ _ _ _ c.word_of.ensures c.to_jcal.ensures
