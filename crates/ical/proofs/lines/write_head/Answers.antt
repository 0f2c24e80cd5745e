-- `ical::lines::write_head` meets its contract.
use Rattle.content.proofs.Folding.{then, as-folded}
use Rattle.ical.proofs.LineTexts.{head-is}
use Rattle.ical.proofs.lines.write_head.Goals as goal

pub write_kind-g-requires : goal.write_kind-g-requires
write_kind-g-requires c = c.requires

pub returns : goal.returns
returns c = as-folded (then c.fold_upper-f.ensures (then c.write_kind-g.ensures (then c.write_params-h.ensures c.fold_octet.ensures))) (head-is _ _ _ _)
