-- `calendar::rules::read_parts` meets its contract: the parts that are passed make a rule with what is ahead, or nothing does.
use lib.ListN.{length}
use Rattle.octets.specs.Classes.{upper}
use Rattle.calendar.proofs.RuleParts.{read_parts}
use Rattle.calendar.proofs.PartsRead.{Gathered}
use Rattle.calendar.proofs.RuleLoop.{parts_from}
use Rattle.calendar.proofs.rules.read_parts.Given as goal

abbrev pub invariant-loop-part : goal.invariant-loop-part
invariant-loop-part l = Gathered l.gather (read_parts (upper l.s)) (parts_from l.s (length l.yielded)) l.seen l.head
