-- `stops_page::print_page` meets its contract: by the first two lines' ends.
use mathlib.Core.Path.{refl}
use native.Mathlib.Omega.{arith}
use Rattle.octets.proofs.Limits.{most-text}
use Rattle.octets.proofs.Pen.{as-text}
use Rattle.stops_page.proofs.InputLines.{too_long, one_line, two-lines, third-line}
use Rattle.stops_page.proofs.print_page.Goals as goal

pub returns-then-text-gt-MOST_TEXT : goal.returns-then-text-gt-MOST_TEXT
returns-then-text-gt-MOST_TEXT c = as-text c.put_bad.ensures (too_long c.args.text.now (rw most-text (omega arith)))

pub returns-in_default : goal.returns-in_default
returns-in_default c = as-text c.put_bad-in_default.ensures (one_line c.args.text.now (rw most-text (omega arith)) _ refl c.in_default.ensures)

pub returns-in_default-first_line : goal.returns-in_default-first_line
returns-in_default-first_line c =
    let w = c.in-Some.ensures in
    as-text c.put_bad-in_default-first_line.ensures
    (two-lines c.args.text.now (rw most-text (omega arith)) _ refl w.2 _ refl (rw w.1 at c.in_default-first_line.ensures))

pub returns : goal.returns
returns c =
    let w = c.in-Some.ensures in
    let v = rw w.1 at c.in-Some-first_line.ensures in
    as-text c.print_third.ensures
    (rw (w.0, v.0, v.1) (third-line c.args.text.now (rw most-text (omega arith)) _ refl w.2 _ refl v.2))
