-- The open components by the places of their names, and what a line makes of them.
use Prim.Native.Nat.{ℕ, zero, suc, ◌+◌, ◌-◌, ◌≤◌, ◌<◌}
use mathlib.Core.Path.{◌≡◌, refl, sym, ap, ◌∙◌}
use mathlib.Core.Bool.{Bool, true, false}
use mathlib.Core.List.{List, [], ◌∷◌}
use native.Mathlib.Numerals.{add-one}
use native.Mathlib.Omega.{arith}
use borrow.Author.Tests.{le-leb, lt-leb}
use lib.Dec.{eqb, leb, eqb-suc-zero}
use lib.ListN.{length, get_or, set, take, drop}
use lib.Seq.{get_or-set_same, get_or-set_other}
use Rattle.std.specs.Prelude.{Ok, Err}
use Rattle.octets.specs.Basics.{octets, same}
use Rattle.octets.specs.Classes.{lower_octet, is_upper, between, lower, same_name}
use Rattle.octets.specs.Limits.{most_levels}
use Rattle.octets.specs.Answers.{number}
use Rattle.octets.specs.declared.Refusal.{Refusal}
use Rattle.octets.specs.declared.Refusal.TheVariants.{NotPaired, TooDeep}
use Rattle.octets.proofs.Limits.{most-levels}
use Rattle.octets.proofs.Positions.{ended}
use Rattle.content.specs.Line.{Line}
use Rattle.octets.specs.Search.{until}
use Rattle.content.specs.Lines.{is_lf}
use Rattle.octets.proofs.Search.{scan-is}
use Rattle.content.proofs.Buffer.{line-here, lines_none}
use Rattle.content.proofs.Names.{same-lower}
use Rattle.conversion_theory.specs.Structure.{Event, begins, ends, carries, stray, Nest, fresh, closed, inside, fault, left, nest, nest_after}
use Rattle.jcal.specs.Events.{event_at, events_in, line_from, LineAt, name_from, line_told, Named, TellsLine}
use Rattle.jcal.specs.Nesting.{stack, inner, nest_of, around_of, NestsBehind}
use Rattle.jcal.specs.declared.events.LineKind.{LineKind}
use Rattle.jcal.specs.declared.events.LineKind.TheVariants.{Opens, Closes, Plain, Broken}
use Rattle.jcal.specs.declared.nesting.Nesting.{Nesting}
use Rattle.jcal.specs.declared.nesting.Nesting.TheVariants.{Within, Complete}
use Rattle.jcal.proofs.LineKinds.{line-is}

-- a name is nothing where it has no octets
pub same-empty : (n : List ℕ) → same (lower n) [] ≡ eqb (length n) 0
unfolding same lower
same-empty [] = refl
same-empty (c ∷ n) = sym (eqb-suc-zero (length n))

module _ (s : List ℕ) where
  stack-length : (xs : List ℕ) (d : ℕ) → length (stack s xs d) ≡ d
  unfolding stack
  stack-length xs zero = refl
  stack-length xs (suc d) = ap suc (stack-length xs d)

  -- a store at or above the top changes no name of the stack
  stack_set : (xs : List ℕ) (d j v : ℕ) → d ≤ j → stack s (set xs j v) d ≡ stack s xs d
  unfolding stack
  stack_set xs zero j v h = refl
  stack_set xs (suc d) j v h = rw (get_or-set_other xs j d v 0 (λ e. omega arith), stack_set xs d j v (omega arith))

  inner-set : (xs : List ℕ) (d v : ℕ) → d + 1 < length xs → inner s (set xs (d + 1) v) (d + 1) ≡ inside (name_from s v) (name_from s (get_or xs d 0) ∷ stack s xs d)
  unfolding inner stack
  inner-set xs d v h = rw (get_or-set_same xs (d + 1) v 0 h, stack_set xs (d + 1) (d + 1) v (omega arith), add-one)

  -- the name of a component between two places
  pub name-part : (at e : ℕ) → e ≡ at + length (until is_lf (drop at s)) → lower (take (e - at) (drop at s)) ≡ name_from s at
  unfolding name_from line_from
  name-part at e q = ap lower (scan-is is_lf s at e q)

  -- a name compared with that at a place
  pub named_none : (at : ℕ) (n : List ℕ) → length s ≤ at → same (lower n) (name_from s at) ≡ same (lower n) []
  unfolding name_from line_from until lower
  named_none at n h = rw (ended s at h)

  pub named-part : (at e : ℕ) (n : List ℕ) → e ≡ at + length (until is_lf (drop at s)) → same_name n (take (e - at) (drop at s)) ≡ same (lower n) (name_from s at)
  named-part at e n q = same-lower n (take (e - at) (drop at s)) ∙ ap (same (lower n)) (name-part at e q)

few : (n : ℕ) → n < 8 → n < most_levels
few n h = rw most-levels h

-- what a line makes of the open components
module _ (s xs : List ℕ) (room : length xs ≡ 8) where
  pub first_else : (k : LineKind) → ((n : ℕ) → k ≡ Opens n → ⊥) → NestsBehind s xs fresh k (Err NotPaired)
  unfolding nest_of nest line_told
  first_else (Opens n) o i = absurd (o n refl)
  first_else (Closes n) o i = refl
  first_else Plain o i = refl
  first_else Broken o i = refl

  module _ (at e : ℕ) (t : Named s at e) where
    vcalendar-is : (b : Bool) → same_name (take (e - at) (drop at s)) (octets "VCALENDAR") ≡ b → same (name_from s at) (octets "vcalendar") ≡ b
    unfolding lower lower_octet is_upper between
    vcalendar-is b q = ap (λ (n : List ℕ). same n (octets "vcalendar")) (sym (name-part s at e t.ends)) ∙ sym (same-lower (take (e - at) (drop at s)) (octets "VCALENDAR")) ∙ q

    pub first-opens : same_name (take (e - at) (drop at s)) (octets "VCALENDAR") ≡ true → NestsBehind s (set xs 0 at) fresh (Opens at) (Ok (Within 0))
    unfolding nest_of inner stack nest line_told
    first-opens q i =
        record { is = rw (vcalendar-is true q, get_or-set_same xs 0 at 0 (omega (arith, most-levels))); few = few 0 (omega arith) }

    pub first-other : same_name (take (e - at) (drop at s)) (octets "VCALENDAR") ≡ false → NestsBehind s xs fresh (Opens at) (Err NotPaired)
    unfolding nest_of nest line_told
    first-other q i = rw (vcalendar-is false q)

  module _ (at d : ℕ) where
    opens-on : (i : ℕ) → leb most_levels (suc (length (stack s xs d))) ≡ false → nest (inner s xs d) (line_told s i (Opens at)) ≡ inside (name_from s at) (name_from s (get_or xs d 0) ∷ stack s xs d)
    unfolding inner nest line_told
    opens-on i m = rw m

    pub inner-opens : d + 1 < 8 → NestsBehind s (set xs (d + 1) at) (inner s xs d) (Opens at) (Ok (Within (d + 1)))
    unfolding nest_of
    inner-opens h i =
        let m : leb most_levels (suc (length (stack s xs d))) ≡ false = rw (stack-length s xs d, most-levels) (lt-leb 8 (suc d) (omega arith)) in
        record { is = inner-set s xs d at (omega (arith, most-levels)) ∙ sym (opens-on i m); few = few (d + 1) h }

    pub inner-deep : 8 ≤ d + 1 → NestsBehind s xs (inner s xs d) (Opens at) (Err TooDeep)
    unfolding nest_of inner nest line_told
    inner-deep h i =
        let m : leb most_levels (suc (length (stack s xs d))) ≡ true = rw (stack-length s xs d, most-levels) (le-leb 8 (suc d) (omega arith)) in
        rw m

  module _ (at e d : ℕ) (t : Named s at e) where
    closes-is : (b : Bool) → same (lower (take (e - at) (drop at s))) (name_from s (get_or xs d 0)) ≡ b → same (name_from s at) (name_from s (get_or xs d 0)) ≡ b
    closes-is b q = ap (λ (n : List ℕ). same n (name_from s (get_or xs d 0))) (sym (name-part s at e t.ends)) ∙ q

    pub inner-other : same (lower (take (e - at) (drop at s))) (name_from s (get_or xs d 0)) ≡ false → NestsBehind s xs (inner s xs d) (Closes at) (Err NotPaired)
    unfolding nest_of inner nest line_told
    inner-other q i = rw (closes-is false q)

    module _ (q : same (lower (take (e - at) (drop at s))) (name_from s (get_or xs d 0)) ≡ true) where
      pub inner_last : d ≡ 0 → NestsBehind s xs (inner s xs d) (Closes at) (Ok Complete)
      unfolding nest_of inner nest line_told
      inner_last z i = record { is = rw (closes-is true q, z) (unfold left stack in refl); few = few 0 (omega arith) }

      left_at : (k : ℕ) → d ≡ suc k → left (stack s xs d) ≡ inner s xs k
      unfolding left stack inner
      left_at k z = rw z

      pub inner-closes : (d ≡ 0 → ⊥) → d < most_levels → NestsBehind s xs (inner s xs d) (Closes at) (Ok (Within (d - 1)))
      unfolding nest_of nest line_told
      inner-closes z h i = record { is = unfold inner in (sym (rw (closes-is true q) (left_at (d - 1) (omega arith)))); few = omega (arith, h) }

  pub inner-plain : (d : ℕ) → d < most_levels → NestsBehind s xs (inner s xs d) Plain (Ok (Within d))
  unfolding nest_of inner nest line_told
  inner-plain d h i = record { is = refl; few = h }

  pub inner-broken : (d : ℕ) → NestsBehind s xs (inner s xs d) Broken (Err NotPaired)
  unfolding nest_of inner nest line_told
  inner-broken d i = refl

-- behind the outermost component, and behind a fault
pub nest-closed : (e : Event Line) → nest closed e ≡ fault 5
unfolding nest
nest-closed (begins m) = refl
nest-closed (ends m) = refl
nest-closed (carries a) = refl
nest-closed stray = refl

pub nest-fault : (k : ℕ) (e : Event Line) → nest (fault k) e ≡ fault k
unfolding nest
nest-fault k (begins m) = refl
nest-fault k (ends m) = refl
nest-fault k (carries a) = refl
nest-fault k stray = refl

pub complete-on : (s xs : List ℕ) (k : LineKind) → NestsBehind s xs (nest_of s xs Complete) k (Err NotPaired)
unfolding nest_of
complete-on s xs k i = sym (nest-closed (line_told s i k))

pub fault-stays : (k : ℕ) (es : List (Event Line)) → nest_after (fault k) es ≡ fault k
unfolding nest_after
fault-stays k [] = refl
fault-stays k (e ∷ es) = rw (nest-fault k e) (fault-stays k es)

-- the events from a line on
pub events-here : (s : List ℕ) (i e : ℕ) → LineAt s i e → events_in (drop i s) ≡ event_at (line_from s i) ∷ events_in (drop (e + 1) s)
unfolding events_in
events-here s i e h = rw (line-here s i e h.ends h.within, line-is s i e h)

pub events-none : (s : List ℕ) (i : ℕ) → length s ≤ i → events_in (drop i s) ≡ []
unfolding events_in
events-none s i h = rw (lines_none s i h)

-- the events at a line of which is told
pub events-told : (s : List ℕ) (i e : ℕ) (k : LineKind) → LineAt s i e → TellsLine s i e k → events_in (drop i s) ≡ line_told s i k ∷ events_in (drop (e + 1) s)
events-told s i e k h t = rw t.is (events-here s i e h)

-- one line more, or a refusal there
module _ (s xs ys : List ℕ) (i e : ℕ) (t : Nesting) (k : LineKind) (h : LineAt s i e) (l : TellsLine s i e k) where
  pub nests_on : (u : Nesting) → NestsBehind s ys (nest_of s xs t) k (Ok u) → nest_after (nest_of s xs t) (events_in (drop i s)) ≡ nest_after (nest_of s ys u) (events_in (drop (e + 1) s))
  unfolding nest_after
  nests_on u n = rw (events-told s i e k h l, (n i).is)

  pub nests-refused : (r : Refusal) → NestsBehind s ys (nest_of s xs t) k (Err r) → nest_after (nest_of s xs t) (events_in (drop i s)) ≡ fault (number r)
  unfolding nest_after
  nests-refused r n =
      let rest = events_in (drop (e + 1) s) in
      ap (nest_after (nest_of s xs t)) (events-told s i e k h l) ∙ ap (λ (m : Nest). nest_after m rest) (sym (n i)) ∙ fault-stays (number r) rest

pub nests-end : (s xs : List ℕ) (i : ℕ) (t : Nesting) → length s ≤ i → nest_after (nest_of s xs t) (events_in (drop i s)) ≡ nest_of s xs t
unfolding nest_after
nests-end s xs i t h = rw (events-none s i h)

-- a nesting under another name
pub few-as : {t m : Nesting} → around_of t < most_levels → t ≡ m → around_of m < most_levels
few-as h q = rw q at h
