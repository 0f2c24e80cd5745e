-- VALUE among parameters: what it states, parameters without it, and the parameters of a line that states a type again.
use Prim.Native.Nat.{ℕ}
use mathlib.Core.Path.{◌≡◌, refl, sym, ◌∙◌}
use mathlib.Core.Bool.{true, false, not}
use mathlib.Core.List.{List, [], ◌∷◌}
use mathlib.Core.Option.{Option, none, some}
use borrow.Author.Tests.{not-true}
use Rattle.octets.specs.Basics.{octets, ◌and◌, ◌or◌, all, any, filled, same, among, twice, All}
use Rattle.octets.specs.Classes.{between, is_digit, is_lower, lower_name_octet, is_name, is_lower_name, upper, lower}
use Rattle.octets.specs.Answers.{accepted}
use Rattle.octets.proofs.Cases.{cases, never, both, neither, and-true, or-false}
use Rattle.octets.proofs.Classes.{same-is, same-itself, name-lower, lower-name, name-upper}
use Rattle.octets.proofs.Utf8.{clean-upper}
use Rattle.octets.proofs.Optional.{missing, some_same}
use Rattle.octets.proofs.Answers.{not-accepted, accepted-same}
use Rattle.types.specs.Table.{Row}
use Rattle.content.specs.Line.{Param}
use Rattle.content.specs.Parameters.{called, name_twice, token, value_type, without_value, may_return}
use Rattle.content.proofs.Names.{lower-upper}
use Rattle.content.proofs.Written.{Writable}
use Rattle.content.proofs.WrittenClean.{Texts, name-clean}
use Rattle.values.proofs.Neat.{Textual, clean-textual}
use Rattle.conversion_theory.specs.Return.{is_unknown, is_default, shown, with_value}
use Rattle.conversion_theory.specs.Claim.{those}
use Rattle.conversion_theory.proofs.Remaining.{those-All, names, those-once}

-- a type that can be stated: a lowercase name, and not "unknown"
pub record Stated (t : List ℕ) : Type 0 where
  pub named : is_lower_name t ≡ true
  pub known : is_unknown t ≡ false

token-states : (vs : List (List ℕ)) (t : List ℕ) → token vs ≡ accepted (some t) → Stated t
unfolding token
token-states [] t h = not-accepted h
token-states (v ∷ []) t h = cases (is_name v and not (same (lower v) (octets "unknown")))
    (λ e.
    let q : lower v ≡ t = some_same (accepted-same (rw e at h)) in
    let b = both (is_name v) (not (same (lower v) (octets "unknown"))) e in
    rw (← q) (record { named = name-lower v b.0; known = unfold is_unknown in not-true (same (lower v) (octets "unknown")) b.1 }))
    (λ e. not-accepted (rw e at h))
token-states (v ∷ w ∷ vs) t h = not-accepted h

pub value-states : (ps : List Param) (t : List ℕ) → value_type ps ≡ accepted (some t) → Stated t
unfolding value_type
value-states [] t h = missing (accepted-same h)
value-states (p ∷ ps) t h = cases (called (octets "value") p) (λ e. token-states p.values t (rw e at h)) (λ e. value-states ps t (rw e at h))

-- VALUE states a type where it stands, and only there
token-some : (vs : List (List ℕ)) → token vs ≡ accepted none → ⊥
unfolding token
token-some [] h = not-accepted h
token-some (v ∷ []) h = cases (is_name v and not (same (lower v) (octets "unknown"))) (λ e. missing (sym (accepted-same (rw e at h)))) (λ e. not-accepted (rw e at h))
token-some (v ∷ w ∷ vs) h = not-accepted h

pub none-stated : (ps : List Param) → value_type ps ≡ accepted none → any (called (octets "value")) ps ≡ false
unfolding value_type any
none-stated [] h = refl
none-stated (p ∷ ps) h = cases (called (octets "value") p) (λ e. absurd (token-some p.values (rw e at h))) (λ e. rw e (none-stated ps (rw e at h)))

pub some-stated : (ps : List Param) (t : List ℕ) → value_type ps ≡ accepted (some t) → any (called (octets "value")) ps ≡ true
unfolding value_type any
some-stated [] t h = missing (accepted-same h)
some-stated (p ∷ ps) t h = cases (called (octets "value") p) (λ e. rw e) (λ e. rw e (some-stated ps t (rw e at h)))

-- parameters without VALUE
abbrev pub Silent : List Param → Type 0
Silent ps = All (λ p. called (octets "value") p ≡ false) ps

pub without-silent : (ps : List Param) → Silent (without_value ps)
unfolding without_value
without-silent [] = tt
without-silent (p ∷ ps) = cases (called (octets "value") p) (λ e. rw e (without-silent ps)) (λ e. rw e (e, without-silent ps))

those-without : (ps : List Param) → without_value ps ≡ those (λ p. not (called (octets "value") p)) ps
unfolding without_value those
those-without [] = refl
those-without (p ∷ ps) = cases (called (octets "value") p) (λ e. rw (e, those-without ps)) (λ e. rw (e, those-without ps))

pub without-All : (P : Param → Type 0) (ps : List Param) → All P ps → All P (without_value ps)
without-All P ps h = rw (those-without ps) (those-All (λ p. not (called (octets "value") p)) P ps h)

silent-same : (ps : List Param) → Silent ps → without_value ps ≡ ps
unfolding without_value
silent-same [] h = refl
silent-same (p ∷ ps) h = rw (h.0, silent-same ps h.1)

silent-type : (ps : List Param) → Silent ps → value_type ps ≡ accepted none
unfolding value_type
silent-type [] h = refl
silent-type (p ∷ ps) h = rw h.0 (silent-type ps h.1)

-- no name stands twice
pub without-once : (ps : List Param) → name_twice ps ≡ false → name_twice (without_value ps) ≡ false
without-once ps h = rw (those-without ps) (those-once (λ p. not (called (octets "value") p)) ps h)

silent-among : (ps : List Param) → Silent ps → among (octets "value") (names ps) ≡ false
unfolding among any called
silent-among [] h = refl
silent-among (p ∷ ps) h = or-false (other p.name h.0) (silent-among ps h.1)
  where
    other : (n : List ℕ) → same n (octets "value") ≡ false → same (octets "value") n ≡ false
    other n h = cases (same (octets "value") n) (λ e. never (rw (← same-is (octets "value") n e) (same-itself (octets "value"))) h) (λ e. e)

-- a line that states a type, or none, over such parameters
abbrev pub StatedIf : Option (List ℕ) → Type 0
StatedIf none = Unit {0}
StatedIf (some t) = Stated t

pub shown-stated : (row : Option Row) (t : List ℕ) → is_lower_name t ≡ true → StatedIf (shown row t)
unfolding shown
shown-stated row t h = cases (is_unknown t or is_default row t) (λ e. rw e tt) (λ e. rw e (record { named = h; known = (neither (is_unknown t) (is_default row t) e).0 }))

module _ (ps : List Param) (silent : Silent ps) where
  pub with-type : (v : Option (List ℕ)) → StatedIf v → value_type (with_value v ps) ≡ accepted v
  unfolding with_value value_type called same token
  with-type none h = silent-type ps silent
  with-type (some t) h = rw (name-upper t (lower-name t h.named), lower-upper t h.named, unknown-no t h.known)
    where
      unknown-no : (t : List ℕ) → is_unknown t ≡ false → same t (octets "unknown") ≡ false
      unknown-no t h = unfold is_unknown in h

  pub with-without : (v : Option (List ℕ)) → without_value (with_value v ps) ≡ ps
  unfolding with_value without_value called same
  with-without none = silent-same ps silent
  with-without (some t) = silent-same ps silent

  pub with-once : (v : Option (List ℕ)) → name_twice ps ≡ false → name_twice (with_value v ps) ≡ false
  unfolding with_value name_twice twice
  with-once none h = h
  with-once (some t) h = or-false (silent-among ps silent) h

pub with-writable : (v : Option (List ℕ)) (ps : List Param) → All Writable ps → All Writable (with_value v ps)
unfolding with_value
with-writable none ps h = h
with-writable (some t) ps h = (record { named = unfold is_lower_name filled all lower_name_octet is_lower is_digit between in refl; valued = unfold filled in refl }, h)

-- a name is a text
pub name-textual : (n : List ℕ) → is_name n ≡ true → Textual n
name-textual n h = clean-textual n (sym (clean-upper n) ∙ name-clean n h)

pub with-texts : (v : Option (List ℕ)) (ps : List Param) → StatedIf v → All Texts ps → All Texts (with_value v ps)
unfolding with_value all
with-texts none ps s h = h
with-texts (some t) ps s h =
    let k = name-textual (upper t) (name-upper t (lower-name t s.named)) in
    (record { utf = and-true k.encoded refl; plain = and-true k.texts refl }, h)

-- they pass number 7 on the way back
param-returns : (p : Param) → called (octets "value") p ≡ false → Texts p → may_return p ≡ true
unfolding may_return
param-returns p s h = rw s h.plain

pub params-return : (ps : List Param) → Silent ps → All Texts ps → all may_return ps ≡ true
unfolding all
params-return [] s h = refl
params-return (p ∷ ps) s h = and-true (param-returns p s.0 h.0) (params-return ps s.1 h.1)
