-- `stops_page::shown_length` meets its contract: by the kind.
use Rattle.stops_page.specs.Pages.{shown_length}
use Rattle.stops_page.proofs.shown_length.Goals as goal

pub returns-in-Day : goal.returns-in-Day
returns-in-Day c = unfold shown_length in rw c.in-Day.is

pub returns-in-Local : goal.returns-in-Local
returns-in-Local c = unfold shown_length in rw c.in-Local.is

pub returns-in-Utc : goal.returns-in-Utc
returns-in-Utc c = unfold shown_length in rw c.in-Utc.is
