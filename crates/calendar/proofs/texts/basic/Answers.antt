-- `calendar::texts::basic` meets its contract: the places of the form are the definition's.
use Rattle.calendar.specs.declared.texts.Form.TheVariants.{Date, Time, DateTime, Offset}
use Rattle.calendar.proofs.Fixed.{written-by}
use Rattle.calendar.proofs.texts.basic.Goals as goal

pub returns-in-Date : goal.returns-in-Date
returns-in-Date c = written-by Date c.args.t.now c.in-Date.is c.strip.ensures

pub returns-in-Time : goal.returns-in-Time
returns-in-Time c = written-by Time c.args.t.now c.in-Time.is c.strip-in-Time.ensures

pub returns-in-DateTime : goal.returns-in-DateTime
returns-in-DateTime c = written-by DateTime c.args.t.now c.in-DateTime.is c.strip-in-DateTime.ensures

pub returns-in-Offset : goal.returns-in-Offset
returns-in-Offset c = written-by Offset c.args.t.now c.in-Offset.is c.strip-in-Offset.ensures
