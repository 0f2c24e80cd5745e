-- `calendar::items::values_stand` meets its contract.
use lib.Dec.{eqb}
use Rattle.std.proofs.Common.{rules, tests}
use Rattle.std.proofs.lemmas.Iterator.Search.{all_from_yields_List}
use Rattle.std.proofs.lemmas.Iterator.Splits.{YieldsList-from_slice_split}
use Rattle.octets.specs.Optional.{is_some}
use Rattle.octets.specs.Classes.{upper}
use Rattle.calendar.specs.Recurrence.{item_of}
use Rattle.calendar.specs.Walk.{part_sort_said}
use Rattle.calendar.proofs.PartValues.{values-tested, may-be}
use Rattle.calendar.proofs.items.values_stand.Goals as goal

pub returns-then-alone : goal.returns-then-alone
returns-then-alone c = rw (values-tested (part_sort_said c.args.sort) c.args.v.now, ← c.has_several.ensures, ← c.contains-alone.ensures.value, may-be _ _ c.if-alone.either)
    (all_from_yields_List (λ l. is_some (item_of (part_sort_said c.args.sort) (upper l))) c.all.new.self _ _ c.all.ensures.ran
    (YieldsList-from_slice_split _ (λ x. eqb x 44) c.args.v.now (cc) (cc) (cc) (λ x b q k. search (rules, tests))) (λ x b q k. search rules))

pub returns-else-alone : goal.returns-else-alone
returns-else-alone c = rw (values-tested (part_sort_said c.args.sort) c.args.v.now, ← c.has_several.ensures, ← c.contains-alone.ensures.value, c.if-alone.false.0, c.if-alone.false.1) (search rules)
