-- A property that one table holds and another writes, by the rows of its name, of which each is the newer's or none: it passes the tests of the way
-- back, and the newer reads from what is written what it read before.
use Prim.Native.Nat.{ℕ, ◌≤◌}
use mathlib.Core.Path.{◌≡◌, refl, sym, ap, ◌∙◌}
use mathlib.Core.Bool.{Bool, true, false}
use mathlib.Core.Logic.{◌⊎◌, inl, inr}
use mathlib.Core.List.{List, [], ◌∷◌}
use mathlib.Core.Option.{Option, none, some}
use native.Mathlib.Omega.{arith}
use borrow.Author.Tests.{eqb-true}
use lib.Dec.{eqb}
use Rattle.octets.specs.Basics.{octets, ◌or◌, all, filled, single, same, All}
use Rattle.octets.specs.Optional.{given}
use Rattle.octets.specs.Classes.{between, is_digit, is_lower, lower_name_octet, is_lower_name}
use Rattle.octets.specs.Utf8.{clean}
use Rattle.octets.specs.Answers.{accepted, unless}
use Rattle.octets.proofs.Cases.{cases, all-All, All-all}
use Rattle.octets.proofs.Answers.{accepted-same}
use Rattle.types.specs.Codes.{type_name, code_named}
use Rattle.types.specs.Table.{Row}
use Rattle.types.proofs.Types.{code-of-name, name-of-code, not-unknown, name-lower}
use Rattle.json_text.specs.Tree.{Json, str, string?, number?, octets_of}
use Rattle.content.specs.Line.{Param}
use Rattle.content.specs.Parameters.{is_encoded, staying, may_return}
use Rattle.values.specs.Base64.{binary_fits, is_decoded, text_sent}
use Rattle.values.specs.Sorts.{plain, sort_of}
use Rattle.values.specs.Read.{values_of}
use Rattle.values.specs.Write.{values_are, values_text}
use Rattle.values.proofs.Neat.{Neat}
use Rattle.values.proofs.ValueLaws.{values-are, Valued, values-of, unprocessed-held, unprocessed-text}
use Rattle.conversion_theory.specs.Tree.{Property, property}
use Rattle.conversion_theory.specs.Property.{type_of, code_of, many_of, decodes_in, read_as}
use Rattle.conversion_theory.specs.Return.{is_unknown, stated_type, states_plain, encoding_fits, written_sort, first_octets, taken_by, checked, is_default, shown}
use Rattle.conversion_theory.proofs.Decoded.{sent-clean, staying-All, stays_fit, stays_plain}
use Rattle.conversion_theory.proofs.PropertyReading.{read_as_lem, plain-read, read_alike, unprocessed-code}
use Rattle.conversion_theory.proofs.OlderProperty.{stated-older, unprocessed-older}
use Rattle.conversion_theory.proofs.ValueParameter.{Stated, StatedIf, shown-stated}

-- the newer's row, or none
abbrev pub Below : Option Row → Option Row → Type 0
Below new r = (r ≡ new) ⊎ (r ≡ none)

-- a row has one of the fourteen types
abbrev pub Typed : Option Row → Type 0
Typed none = Unit {0}
Typed (some r) = (1 ≤ r.code) × (r.code ≤ 14)

-- the default type may as well be stated
default_alike : (r : Row) → Typed (some r) → (t : List ℕ) → r.code ≡ code_named t → (n : List ℕ) (ps : List Param) (raw : List ℕ) → read_as (some r) n none ps raw ≡ read_as (some r) n (some t) ps raw
unfolding type_of
default_alike r w t c n ps raw = read_alike (some r) none (some t) (ap type_name c ∙ name-of-code t (λ z. omega (arith, w.0))) n ps raw

type-stated : (r : Row) → Typed (some r) → Stated (type_name r.code)
type-stated r w = record { named = name-lower r.code w.0 w.1; known = unfold is_unknown in not-unknown r.code w.1 }

-- how a property is held: as the newer reads it, with a type that might be stated; or as "unknown", where the newer knows more or not
pub data Way (rn : Option Row) (n : List ℕ) (ps : List Param) (raw : List ℕ) (q p : Property) : Type 0 where
  known : (t : List ℕ) → Stated t → read_as rn n (some t) ps raw ≡ accepted p → q ≡ p → Way rn n ps raw q p
  unknown : read_as rn n none ps raw ≡ accepted p → q ≡ property n ps (octets "unknown") (str raw ∷ []) → Way rn n ps raw q p

pub way : (rn ra : Option Row) → Below rn ra → Typed rn → (n : List ℕ) (v : Option (List ℕ)) (ps : List Param) (raw : List ℕ) (q p : Property) → StatedIf v → clean raw ≡ true
    → read_as ra n v ps raw ≡ accepted q → read_as rn n v ps raw ≡ accepted p → Way rn n ps raw q p
way rn ra (inl a) w n (some t) ps raw q p s h e f = known t s f (accepted-same (sym (rw a at e) ∙ f))
way rn ra (inr a) w n (some t) ps raw q p s h e f = known t s f (accepted-same (sym (rw a at e) ∙ stated-older rn n t ps raw p f))
way rn ra (inr a) w n none ps raw q p s h e f = unknown f (accepted-same (sym (rw a at e) ∙ unprocessed-older n ps raw h))
way none ra (inl a) w n none ps raw q p s h e f = unknown f (accepted-same (sym (rw a at e) ∙ unprocessed-older n ps raw h))
way (some r) ra (inl a) w n none ps raw q p s h e f =
    known (type_name r.code) (type-stated r w) (sym (default_alike r w (type_name r.code) (sym (code-of-name r.code w.1)) n ps raw) ∙ f) (accepted-same (sym (rw a at e) ∙ f))

-- what VALUE says of a type that is known is read as the type itself
shown-alike : (t : List ℕ) → Stated t → (rn rb : Option Row) → Below rn rb → Typed rn → (n : List ℕ) (ps : List Param) (x : List ℕ)
    → read_as rn n (shown rb t) ps x ≡ read_as rn n (some t) ps x
unfolding shown is_default
shown-alike t s rn rb (inr b) w n ps x = rw (b, s.known)
shown-alike t s none rb (inl b) w n ps x = rw (b, s.known)
shown-alike t s (some r) rb (inl b) w n ps x = cases (eqb r.code (code_named t))
    (λ e. rw (b, s.known, e) (default_alike r w t (eqb-true r.code (code_named t) e) n ps x))
    (λ e. rw (b, s.known, e))

-- what a property is and what becomes of it, written under the row rb and read under rn; its parameters are ps, or what stays of them
pub record Passage (rn rb : Option Row) (n : List ℕ) (ps : List Param) (q p : Property) : Type 0 where
  pub name : q.name ≡ n
  pub decodes : Bool
  pub params : q.params ≡ staying decodes ps
  pub typed : is_lower_name q.type ≡ true
  pub neat : All (Neat 2) q.values
  pub valued : filled q.values ≡ true
  pub passed : Property
  pub passes : checked rb q ≡ accepted passed
  pub stated : StatedIf (shown rb q.type)
  pub line : clean (values_text (written_sort q) q.values) ≡ true
  pub again : read_as rn n (shown rb q.type) q.params (values_text (written_sort q) q.values) ≡ accepted p

module _ (n : List ℕ) (ps : List Param) (raw : List ℕ) (fine : clean raw ≡ true) (may : all may_return ps ≡ true) where
  -- a type that is known: the value is decoded, if it is encoded, and goes as its type has it
  module _ (t : List ℕ) (s : Stated t) (rn rb : Option Row) (b : Below rn rb) (w : Typed rn) (text : List ℕ) (vs : List Json)
      (fits : binary_fits (code_named t) (is_encoded ps) ≡ true) (sent : text_sent (is_decoded (code_named t) (is_encoded ps)) raw ≡ some text)
      (told : values_of n (code_named t) (many_of rn) text ≡ some vs) where
    abbrev decodes : Bool
    decodes = is_decoded (code_named t) (is_encoded ps)

    abbrev stay : List Param
    stay = staying decodes ps

    abbrev read : Property
    read = property n stay t vs

    v : Valued n (code_named t) (many_of rn) text vs
    v = values-of n (code_named t) (many_of rn) text vs told

    text-clean : clean text ≡ true
    text-clean = sent-clean decodes raw text sent fine

    sort-is : written_sort read ≡ sort_of n (code_named t)
    unfolding written_sort
    sort-is = rw s.known

    number : (rb : Option Row) → Below rn rb → (many_of rb or single vs) ≡ true
    unfolding many_of
    number rb (inl b) = rw b v.number
    number rb (inr b) = rw b

    stay-return : all may_return stay ≡ true
    stay-return = All-all may_return stay (staying-All decodes (λ p. may_return p ≡ true) ps (all-All may_return ps may))

    known-fits : encoding_fits rb (some t) (is_encoded stay) ≡ true
    unfolding encoding_fits states_plain code_of type_of
    known-fits = rw (stays_fit (code_named t) ps fits, stays_plain (code_named t) ps)

    known-passes : checked rb read ≡ accepted read
    unfolding checked unless stated_type
    known-passes = rw (stay-return, s.known, known-fits, sort-is, values-are (sort_of n (code_named t)) text vs v.held (many_of rb) (number rb b))

    known-again : (x : List ℕ) → values_of n (code_named t) (many_of rn) x ≡ some vs → read_as rn n (shown rb t) stay x ≡ accepted read
    unfolding type_of code_of decodes_in
    known-again x h =
        shown-alike t s rn rb b w n stay x ∙ plain-read rn n (some t) stay x vs (stays_plain (code_named t) ps) (stays_fit (code_named t) ps fits) h

    known-passage : Passage rn rb n ps read read
    known-passage = record {
      name = refl;
      decodes = decodes;
      params = refl;
      typed = s.named;
      neat = v.held.neat text-clean;
      valued = v.held.one-or-more;
      passed = read;
      passes = known-passes;
      stated = shown-stated rb t s.named;
      line = rw sort-is (v.held.line text-clean);
      again = rw sort-is (known-again (values_text (sort_of n (code_named t)) vs) v.again);
    }

  -- "unknown": the value goes as it is, and a row that lists the name takes it as the newer did
  held : Property
  held = property n ps (octets "unknown") (str raw ∷ [])

  plain-are : (many : Bool) → values_are many plain (str raw ∷ []) ≡ true
  plain-are many = values-are plain raw (str raw ∷ []) (unprocessed-held raw fine) many (one many)
    where
      one : (many : Bool) → (many or single (str raw ∷ [])) ≡ true
      one true = refl
      one false = unfold single filled in refl

  unlisted-passes : checked none held ≡ accepted held
  unfolding held checked unless stated_type is_unknown same encoding_fits states_plain binary_fits written_sort taken_by
  unlisted-passes = rw (may, unprocessed-code, plain-are (many_of none))

  listed-passes : (r : Row) (p : Property) → read_as (some r) n none ps raw ≡ accepted p → checked (some r) held ≡ accepted p
  unfolding held checked unless stated_type is_unknown same encoding_fits states_plain written_sort taken_by first_octets octets_of string? number? given
  listed-passes r p e = rw (may, (read_as_lem (some r) n none ps raw p e).fits, plain-are (many_of (some r))) e

  unknown-passes : (rn rb : Option Row) → Below rn rb → (p : Property) → read_as rn n none ps raw ≡ accepted p → (o : Property) × (checked rb held ≡ accepted o)
  unknown-passes rn rb (inr b) p e = (held, rw b unlisted-passes)
  unknown-passes none rb (inl b) p e = (held, rw b unlisted-passes)
  unknown-passes (some r) rb (inl b) p e = (p, rw b (listed-passes r p e))

  unknown-passage : (rn rb : Option Row) → Below rn rb → (p : Property) → read_as rn n none ps raw ≡ accepted p → Passage rn rb n ps held p
  unfolding held staying shown is_unknown same written_sort
  unknown-passage rn rb b p e =
      let o = unknown-passes rn rb b p e in
      let h = unprocessed-held raw fine in
      record {
        name = refl;
        decodes = false;
        params = refl;
        typed = unfold is_lower_name filled all lower_name_octet is_lower is_digit between in refl;
        neat = h.neat fine;
        valued = h.one-or-more;
        passed = o.0;
        passes = o.1;
        stated = tt;
        line = h.line fine;
        again = rw (unprocessed-text raw) e;
      }

  -- THE LAW
  pub passage : (rn rb : Option Row) → Below rn rb → Typed rn → (q p : Property) → Way rn n ps raw q p → Passage rn rb n ps q p
  unfolding type_of code_of decodes_in
  passage rn rb b w q p (known t s e k) =
      let r = read_as_lem rn n (some t) ps raw p e in
      rw (k, ← r.whole) (known-passage t s rn rb b w r.text r.held r.fits r.sent r.values)
  passage rn rb b w q p (unknown e k) = rw k (unfold held in unknown-passage rn rb b p e)
