-- `stops_page::put_bad` meets its contract.
use Rattle.stops_page.specs.Printing.{bad_input}
use Rattle.stops_page.proofs.put_bad.Goals as goal

pub returns : goal.returns
returns c = unfold bad_input in c.put_all.ensures
