-- What the functions promise that write a component.
use Rattle.std.specs.Prelude.{ℕ, ◌+◌, ◌≤◌, ◌≡◌, Bool, true, List, [], ◌∷◌, ◌++◌, drop, Ok, Err}
use Rattle.std.specs.declared.result.Result.{Result}
use Rattle.octets.specs.Basics.{octets, pick, all}
use Rattle.octets.specs.Pen.{Pen, pen, Wrote}
use Rattle.octets.specs.Answers.{Answer, refused, number}
use Rattle.octets.specs.declared.Refusal.{Refusal}
use Rattle.json_text.specs.Print.{print}
use Rattle.content.specs.Line.{Line}
use Rattle.conversion_theory.specs.Tree.{Property}
use Rattle.conversion_theory.specs.Structure.{Event, begins, ends}
use Rattle.conversion_theory.specs.Jcal.{property_json}
use Rattle.jcal.specs.Events.{events_in, name_from, Named}
use Rattle.jcal.specs.Order.{ordered_from}
use Rattle.jcal.specs.Components.{property_or, is_accepted, reads, each_tested, behind_end, next_of, leading_comma}
use Rattle.jcal.specs.declared.components.NextItem.{NextItem}
use Rattle.jcal.specs.declared.components.NextItem.TheVariants.{Sub, Close}

-- lines that can be written: in order, directly behind an END line or not; or not in order, with no property in fault
unfoldable pub ready : (Line → Answer Property) → Bool → Bool → List (Event Line) → Bool
ready f in_order behind es = pick in_order (ordered_from behind es) (all (reads f) es)

-- by what is answered of a property as an item: it is read and written, or refused
pub record ItemStands (a : Answer Property) (first : Bool) (p q : Pen) : Type 0 where
  pub accepts : is_accepted a ≡ true
  pub wrote : Wrote p (leading_comma first ++ print (property_json (property_or a))) q

abbrev pub PlacesItem : Answer Property → Bool → Pen → List ℕ → Result ℕ Refusal → Type 0
PlacesItem a first p out (Ok q) = ItemStands a first p (pen out q)
PlacesItem a first p out (Err why) = a ≡ refused (number why)

-- the line at r, not before i, begins the events behind the END of the component whose lines begin at i
pub record Behind (s : List ℕ) (i r : ℕ) : Type 0 where
  pub rest : events_in (drop r s) ≡ behind_end 0 (events_in (drop i s))
  pub further : i ≤ r

-- next in es, and not before the line at i, stands a sub-component, whose name stands from n to e, or an END, before the line at j
pub record SubNext (s : List ℕ) (i : ℕ) (es : List (Event Line)) (n e : ℕ) : Type 0 where
  pub is : begins (name_from s n) ∷ events_in (drop (e + 1) s) ≡ next_of es
  pub named : Named s n e
  pub further : i ≤ e

pub record EndNext (s : List ℕ) (i : ℕ) (es : List (Event Line)) (j : ℕ) : Type 0 where
  pub is : ends [] ∷ events_in (drop j s) ≡ next_of es
  pub further : i ≤ j

-- by what is answered of what stands next in es
abbrev pub Finds : List ℕ → ℕ → List (Event Line) → NextItem → Type 0
Finds s i es (Sub n e at) = SubNext s i es n e
Finds s i es (Close j at) = EndNext s i es j

-- the place of the next octet to write
abbrev pub place_of : NextItem → ℕ
place_of (Sub n e at) = at
place_of (Close j at) = at

-- what stands next from the line at i on, and the place handed on
pub record NextFound (s : List ℕ) (i at : ℕ) (r : NextItem) : Type 0 where
  pub finds : Finds s i (events_in (drop i s)) r
  pub place : place_of r ≡ at

-- what ends the properties of a component is written, and what stands next in it is found
pub record Ended (s : List ℕ) (i : ℕ) (p : Pen) (out : List ℕ) (r : NextItem) : Type 0 where
  pub finds : Finds s i (events_in (drop i s)) r
  pub wrote : Wrote p (octets "],[") (pen out (place_of r))

-- a text is written, what stands next in fs is found, and no property of es before it is in fault
pub record PartWritten (f : Line → Answer Property) (s : List ℕ) (i : ℕ) (es fs : List (Event Line)) (p : Pen) (text out : List ℕ) (r : NextItem) : Type 0 where
  pub finds : Finds s i fs r
  pub wrote : Wrote p text (pen out (place_of r))
  pub tested : each_tested f es ≡ each_tested f (next_of fs)

-- by what is answered of a part of a component: it is written, or the first property in fault
abbrev pub PartPlaced : (Line → Answer Property) → List ℕ → ℕ → List (Event Line) → List (Event Line) → Pen → List ℕ → List ℕ → Result NextItem Refusal → Type 0
PartPlaced f s i es fs p text out (Ok r) = PartWritten f s i es fs p text out r
PartPlaced f s i es fs p text out (Err why) = each_tested f es ≡ refused (number why)
