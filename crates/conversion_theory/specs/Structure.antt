-- Components: BEGIN and END pair to exactly one outermost VCALENDAR, at most 8 deep (01, numbers 5 and 6, Lines).
use Rattle.std.specs.Prelude.{ℕ, suc, Bool, not, List, [], ◌∷◌, leb, length}
use Rattle.octets.specs.Basics.{octets, pick, ◌and◌, filled, same}
use Rattle.octets.specs.Classes.{is_name, lower, same_name}
use Rattle.octets.specs.Limits.{most_levels}
use Rattle.octets.specs.Answers.{Answer, refused, accepted}
use Rattle.content.specs.Line.{Line}

-- what a line is: BEGIN or END of a component, whose name is in lowercase; a property; or a BEGIN or END that is neither
pub data Event (A : Type 0) : Type 0 where
  begins ends : List ℕ → Event A
  carries : A → Event A
  stray : Event A

-- without parameters, and with a name as its value
unfoldable pub bounds : Line → Bool
bounds l = not (filled l.params) and is_name l.value

unfoldable pub event_of : Line → Event Line
event_of l =
    pick (same_name l.name (octets "BEGIN")) (pick (bounds l) (begins (lower l.value)) stray)
    (pick (same_name l.name (octets "END")) (pick (bounds l) (ends (lower l.value)) stray)
    (carries l))

-- before the first line; behind the VCALENDAR; in a component, with those around it, innermost first; or a refusal
pub data Nest : Type 0 where
  fresh closed : Nest
  inside : List ℕ → List (List ℕ) → Nest
  fault : ℕ → Nest

unfoldable pub left : List (List ℕ) → Nest
left [] = closed
left (n ∷ ns) = inside n ns

-- the outermost component is a VCALENDAR; nothing else stands beside it
unfoldable pub nest : {A : Type 0} → Nest → Event A → Nest
nest fresh (begins m) = pick (same m (octets "vcalendar")) (inside m []) (fault 5)
nest fresh (ends m) = fault 5
nest fresh (carries a) = fault 5
nest fresh stray = fault 5
nest closed (begins m) = fault 5
nest closed (ends m) = fault 5
nest closed (carries a) = fault 5
nest closed stray = fault 5
nest (inside n ns) (begins m) = pick (leb most_levels (suc (length ns))) (fault 6) (inside m (n ∷ ns))
nest (inside n ns) (ends m) = pick (same m n) (left ns) (fault 5)
nest (inside n ns) (carries a) = inside n ns
nest (inside n ns) stray = fault 5
nest (fault k) (begins m) = fault k
nest (fault k) (ends m) = fault k
nest (fault k) (carries a) = fault k
nest (fault k) stray = fault k

unfoldable pub nest_after : {A : Type 0} → Nest → List (Event A) → Nest
nest_after s [] = s
nest_after s (e ∷ es) = nest_after (nest s e) es

-- a missing END counts after the last line
unfoldable pub verdict : {A : Type 0} → Nest → A → Answer A
verdict fresh a = refused 5
verdict closed a = accepted a
verdict (inside n ns) a = refused 5
verdict (fault k) a = refused k

unfoldable pub structured : {A : Type 0} → List (Event A) → Answer (List (Event A))
structured es = verdict (nest_after fresh es) es
