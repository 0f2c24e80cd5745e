-- `stop_list::runs::advance` meets its contract: by what the search finds, and by the room.
use mathlib.Core.Path.{refl}
use native.Mathlib.Omega.{arith}
use Rattle.stop_list.proofs.RunStops.{no_room, none_there, some_there, stands, behind_it, on_live}
use Rattle.stop_list.proofs.runs.advance.Goals as goal

pub returns-then-run-eq0 : goal.returns-then-run-eq0
returns-then-run-eq0 c v = let e = no_room c.args.run.now c.if-run-eq0.true in (v, e, e)

pub returns-in_err-here : goal.returns-in_err-here
returns-in_err-here c = rw c.from_residual.ensures (λ v. let e = none_there c.args.run.now (c.in_err-here.ensures v.founded v.from) in (v, e, e))

pub returns : goal.returns
returns c v =
    let q = c.args.run.now in
    let w = c.in_ok-here.ensures v.founded v.from in
    let p = v.founded.places in
    let b = behind_it q _ _ v w.1 c.saturating_add-run.ensures in
    let m = c.moment_at.ensures (let h = w.1 in omega arith) in
    (on_live q _ _ v w.0 refl b, some_there q _ _ _ w.0 w.1 m refl b (omega arith), refl, omega arith, stands q _ _ _ w.0 w.1 m b)
