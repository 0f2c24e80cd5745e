-- Lines in order: no property stands directly behind an END line. Then each component has its properties before its sub-components, as in jCal.
use Rattle.std.specs.Prelude.{ℕ, ◌≡◌, Bool, true, false, not, List, [], ◌∷◌}
use Rattle.octets.specs.Basics.{◌and◌}
use Rattle.conversion_theory.specs.Structure.{Event, begins, ends, carries, stray}
use Rattle.jcal.specs.Events.{line_told}
use Rattle.jcal.specs.declared.events.LineKind.{LineKind}

-- the line may stand here, directly behind an END line or not
unfoldable pub may_stand : {A : Type 0} → Bool → Event A → Bool
may_stand behind (begins n) = true
may_stand behind (ends n) = true
may_stand behind (carries a) = not behind
may_stand behind stray = true

-- the next line stands directly behind an END line
unfoldable pub ends_here : {A : Type 0} → Bool → Event A → Bool
ends_here behind (begins n) = false
ends_here behind (ends n) = true
ends_here behind (carries a) = false
ends_here behind stray = behind

unfoldable pub ordered_from : {A : Type 0} → Bool → List (Event A) → Bool
ordered_from behind [] = true
ordered_from behind (e ∷ es) = may_stand behind e and ordered_from (ends_here behind e) es

unfoldable pub ordered : {A : Type 0} → List (Event A) → Bool
ordered es = ordered_from false es

-- the two tests at a line that is told of
abbrev pub OrderKept : Bool → Bool → LineKind → Bool → Type 0
OrderKept kept behind k r = (s : List ℕ) (i : ℕ) → r ≡ (kept and may_stand behind (line_told s i k))

abbrev pub EndTold : Bool → LineKind → Bool → Type 0
EndTold behind k r = (s : List ℕ) (i : ℕ) → r ≡ ends_here behind (line_told s i k)
