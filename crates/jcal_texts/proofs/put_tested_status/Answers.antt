-- `jcal_texts::put_tested_status` meets its contract.
use mathlib.Core.Path.{refl}
use Rattle.octets.specs.Groups.{text_bare, text_as_is}
use Rattle.jcal_texts.proofs.Counts.{status-few, status-many, status-stands, no_fields}
use Rattle.jcal_texts.proofs.put_tested_status.Goals as goal
use Rattle.jcal_texts.proofs.put_tested_status.Goals.{then-n-lt2-via-then-n-lt2, then-n-lt2-via-else-n-lt2+then-n-gt3}

pub put_between-requires : goal.put_between-requires
put_between-requires c = unfold text_as_is text_bare in (refl, refl)

pub returns-in_err-q : goal.returns-in_err-q
returns-in_err-q c = rw c.from_residual.ensures (no_fields _ _ c.in_err-q.ensures c.put_all-first.ensures)

pub returns-then-n-lt2 : goal.returns-then-n-lt2
returns-then-n-lt2 c = elim c.then-n-lt2.branch [
  | then-n-lt2-via-then-n-lt2 w ↦ status-few _ _ _ _ c.in_ok-q.ensures c.put_all-first.ensures w.if-n-lt2.true
  | then-n-lt2-via-else-n-lt2+then-n-gt3 w ↦ status-many _ _ _ _ c.in_ok-q.ensures c.put_all-first.ensures w.if-n-gt3.true
]

pub returns : goal.returns
returns c = status-stands _ _ _ _ c.in_ok-q.ensures c.put_all-first.ensures c.if-n-lt2.false c.if-n-gt3.false c.put.ensures
