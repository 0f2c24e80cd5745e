-- `stops_page::at_first` meets its contract: nothing is listed before the first stop, and nothing where there is none.
use native.Mathlib.Omega.{arith}
use Rattle.stops_page.proofs.Counts.{from-first, of-none}
use Rattle.stops_page.proofs.at_first.Goals as goal

pub returns-in-Some : goal.returns-in-Some
returns-in-Some c = let f = c.in-Some.ensures c.requires.founded c.requires.from in
    (record { founded = c.requires.founded; from = (let a = c.requires.from in let b = f.0.from in omega arith) }, from-first c.args.run _ f.0.same)

pub returns-in-None : goal.returns-in-None
returns-in-None c = (record { founded = c.requires.founded; from = c.requires.from }, of-none c.args.run (c.in-None.ensures c.requires.founded c.requires.from))
