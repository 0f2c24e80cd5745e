-- `calendar::texts::shape` meets its contract: by the form and the length, the places of the form are the definition's.
use mathlib.Core.Bool.{true, false}
use mathlib.Core.Path.{refl}
use borrow.Author.Tests.{le-leb, lt-leb}
use Rattle.calendar.specs.declared.texts.Form.TheVariants.{Date, Time, DateTime, Offset}
use Rattle.calendar.proofs.Fixed.{read_by}
use Rattle.calendar.proofs.texts.shape.Goals as goal

pub returns-then-least-s : goal.returns-then-least-s
returns-then-least-s c = read_by _ true Time c.args.s.now (le-leb _ _ (rw c.least.ensures at c.if-least-s.true)) c.in-Time.is c.read-then-least-s.ensures

pub returns-then-least-s-2 : goal.returns-then-least-s-2
returns-then-least-s-2 c = read_by _ _ DateTime c.args.s.now (le-leb _ _ (rw c.least-in-DateTime.ensures at c.if-least-s-2.true)) c.in-DateTime.is c.read-then-least-s-2.ensures

pub returns-then-least-s-3 : goal.returns-then-least-s-3
returns-then-least-s-3 c = read_by _ true Offset c.args.s.now (le-leb _ _ (rw c.least-in-Offset.ensures at c.if-least-s-3.true)) c.in-Offset.is c.read-then-least-s-3.ensures

pub returns-in-Date : goal.returns-in-Date
returns-in-Date c = read_by _ _ Date c.args.s.now refl c.in-Date.is c.read.ensures

pub returns-else-least-s : goal.returns-else-least-s
returns-else-least-s c = read_by _ false Time c.args.s.now (lt-leb _ _ (rw c.least.ensures at c.if-least-s.false)) c.in-Time.is c.read-in-Time.ensures

pub returns-else-least-s-2 : goal.returns-else-least-s-2
returns-else-least-s-2 c = read_by _ false DateTime c.args.s.now (lt-leb _ _ (rw c.least-in-DateTime.ensures at c.if-least-s-2.false)) c.in-DateTime.is c.read-in-DateTime.ensures

pub returns-else-least-s-3 : goal.returns-else-least-s-3
returns-else-least-s-3 c = read_by _ false Offset c.args.s.now (lt-leb _ _ (rw c.least-in-Offset.ensures at c.if-least-s-3.false)) c.in-Offset.is c.read-in-Offset.ensures
