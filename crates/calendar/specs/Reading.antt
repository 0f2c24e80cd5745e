-- A recurrence rule while its parts are read, as the code has it: what the parts so far say, and which there were, in the order of `keys`.
use Rattle.std.specs.Prelude.{ℕ, ◌+◌, min, Bool, false, not, List, [], eqb, ltb, length, get_or}
use Prim.Native.Char.{code}
use Rattle.std.proofs.Math.Option.{Option}
use Rattle.octets.specs.Basics.{octets, pick, ◌and◌, ◌or◌, single}
use Rattle.octets.specs.Optional.{is_some, when, guard, given, each}
use Rattle.octets.specs.Classes.{upper}
use Rattle.octets.specs.Decimal.{value_of}
use Rattle.octets.specs.Limits.{most_integer}
use Rattle.octets.specs.Pieces.{split}
use Rattle.calendar.specs.Recurrence.{PartSort, keys, item_of, several, Part}
use Rattle.calendar.specs.Walk.{key_at}
use Rattle.calendar.specs.Moments.{read_moment}
use Rattle.calendar.specs.Rules.{value_named, frequency_of, weekday_of, end_of, no_days, with_day, with_month_day, gathered, days_of}
use Rattle.calendar.specs.declared.rules.Weekday.TheVariants.{Monday}
use Rattle.calendar.specs.declared.rules.End.{End}
use Rattle.calendar.specs.declared.rules.End.TheVariants.{Count, Until, Open}
use Rattle.calendar.specs.declared.rules.ByParts.{ByParts}
use Rattle.calendar.specs.declared.rules.RuleHead.{RuleHead}
use Rattle.calendar.specs.declared.rules.Rule.{Rule}

-- the values of a part stand, and there is one only where there may not be several
unfoldable pub values_stand : PartSort → List ℕ → Bool
values_stand sort v = is_some (guard (λ vs. several sort or single vs) (each (item_of sort) (split (code ",") (upper v))))

-- what parts say, but for which BY parts there are; their days are gathered, or they are not
unfoldable pub head_from : Bool → List Part → RuleHead
head_from gather ps = record {
  frequency = frequency_of (given [] (λ v. v) (value_named (octets "FREQ") ps));
  interval = given 1 value_of (value_named (octets "INTERVAL") ps);
  end = end_of ps;
  wkst = given Monday weekday_of (value_named (octets "WKST") ps);
  days = pick gather (days_of ps) no_days;
}

-- a count, no larger than one more than the largest integer
unfoldable pub counted : List ℕ → ℕ
counted v = min (value_of v) (most_integer + 1)

-- a last moment
unfoldable pub last_of : List ℕ → End
last_of v = given Open Until (read_moment v)

-- one part more, with the key at a place and the value v, letters in either case
unfoldable pub with_part : Bool → RuleHead → ℕ → List ℕ → RuleHead
with_part gather h k v = record {
  frequency = pick (eqb k 0) (frequency_of (upper v)) h.frequency;
  interval = pick (eqb k 3) (counted v) h.interval;
  end = pick (eqb k 1) (last_of v) (pick (eqb k 2) (Count (counted v)) h.end);
  wkst = pick (eqb k 13) (weekday_of (upper v)) h.wkst;
  days = pick gather (pick (eqb k 7) (gathered with_day h.days (split (code ",") v)) (pick (eqb k 8) (gathered with_month_day h.days (split (code ",") v)) h.days)) h.days;
}

-- a rule with the days that its BY parts name, or without them
unfoldable pub kept : Bool → Rule → Rule
kept gather r = record {
  frequency = r.frequency;
  interval = r.interval;
  end = r.end;
  wkst = r.wkst;
  by = r.by;
  days = pick gather r.days no_days;
}

-- a part with the key at a place may not follow: it was there, or it is one of COUNT and UNTIL, and the other was
unfoldable pub barred : List Bool → ℕ → Bool
barred seen k = get_or seen k false or (eqb k 1 and get_or seen 2 false) or (eqb k 2 and get_or seen 1 false)

-- a part with the key at a place and the values v may follow: there is such a key, it is not barred, and its values stand
unfoldable pub may_follow : List Bool → ℕ → List ℕ → Bool
may_follow seen k v = ltb k (length keys) and not (barred seen k) and values_stand (key_at k).sort v

unfoldable pub by_seen : List Bool → ByParts
by_seen seen = record {
  second = get_or seen 4 false;
  minute = get_or seen 5 false;
  hour = get_or seen 6 false;
  day = get_or seen 7 false;
  monthday = get_or seen 8 false;
  yearday = get_or seen 9 false;
  weekno = get_or seen 10 false;
  month = get_or seen 11 false;
  setpos = get_or seen 12 false;
}

-- all parts are read: FREQ was there
unfoldable pub rule_read : RuleHead → List Bool → Option Rule
rule_read h seen = when (get_or seen 0 false) (record {
  frequency = h.frequency;
  interval = h.interval;
  end = h.end;
  wkst = h.wkst;
  by = by_seen seen;
  days = h.days;
})
