-- `stops_page::moment_text` meets its contract: digit by digit.
use Rattle.octets.specs.Decimal.{figures}
use Rattle.stops_page.specs.Printing.{three_shown, date_shown, clock_shown, time_shown}
use Rattle.stops_page.proofs.moment_text.Goals as goal

pub returns : goal.returns
unfolding date_shown time_shown clock_shown three_shown figures
returns c = rw (c.digit.ensures, c.digit-2.ensures, c.digit-3.ensures, c.digit-4.ensures, c.digit-5.ensures, c.digit-6.ensures, c.digit-7.ensures, c.digit-8.ensures, c.digit-9.ensures, c.digit-10.ensures, c.digit-11.ensures, c.digit-12.ensures, c.digit-13.ensures, c.digit-14.ensures)
