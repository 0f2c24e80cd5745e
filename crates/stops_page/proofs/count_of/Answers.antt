-- `stops_page::count_of` meets its contract: by the frequency.
use native.Mathlib.Omega.{arith}
use Rattle.stops_page.proofs.Counts.{no-room, none_ahead, count-stepped, weeks-ahead}
use Rattle.stops_page.proofs.count_of.Goals as goal

pub returns-then-run-eq0 : goal.returns-then-run-eq0
returns-then-run-eq0 c = no-room c.args.run c.if-run-eq0.true

pub returns-in_default : goal.returns-in_default
returns-in_default c = none_ahead _ (c.in_default.ensures c.requires.founded c.requires.from)

pub returns-in-Hourly : goal.returns-in-Hourly
returns-in-Hourly c = let f = c.in-Some.ensures c.requires.founded c.requires.from in
    count-stepped c.args.run c.requires _ f.0 f.1 c.in-Hourly.is _ c.count_steps.ensures _ (omega arith)

pub count_sure-requires : goal.count_sure-requires
count_sure-requires c = let f = c.in-Some.ensures c.requires.founded c.requires.from in
    (c.requires, weeks-ahead c.args.run c.requires _ f.0 f.1 c.in-Weekly.is _ c.count_steps-in-Weekly.ensures)
