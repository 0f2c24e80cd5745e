-- `ical_recur::kinds::is_word` meets its contract.
use Rattle.std.proofs.Common.{rules, ◌∙◌}
use Rattle.std.proofs.lemmas.Iterator.Search.{all_from_yields_List}
use Rattle.std.proofs.lemmas.Iterator.{YieldsList-from_slice}
use Rattle.values.specs.Recur.{word_octet}
use Rattle.ical_recur.proofs.KindTests.{of_each}
use Rattle.ical_recur.proofs.kinds.is_word.Goals as goal

pub returns : goal.returns
returns c = all_from_yields_List word_octet _ _ _ c.all.ensures.ran (YieldsList-from_slice c.args.s.now (cc)) (λ x b q k. search rules) ∙ of_each word_octet c.args.s.now
