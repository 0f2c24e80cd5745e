-- The lines of a component that goes back: unfolding gives them again, and the newer reads from them the component of the same shape.
use Prim.Native.Nat.{ℕ}
use mathlib.Core.Path.{◌≡◌, refl, ◌∙◌}
use mathlib.Core.Bool.{true}
use mathlib.Core.List.{List, [], map}
use Rattle.octets.specs.Basics.{octets, all, filled, same}
use Rattle.octets.specs.Classes.{between, is_digit, is_upper, is_lower, is_letter, name_octet, is_name, is_lower_name, upper_octet, upper, same_name}
use Rattle.octets.specs.Utf8.{clean}
use Rattle.octets.specs.Answers.{accepted}
use Rattle.octets.proofs.Cases.{All-all}
use Rattle.types.specs.Table.{Table}
use Rattle.content.specs.Line.{line_of}
use Rattle.content.specs.Form.{formed}
use Rattle.content.specs.Lines.{lines_of}
use Rattle.content.specs.Fold.{text_of}
use Rattle.content.specs.Write.{params_text, line_text}
use Rattle.octets.proofs.Classes.{lower-name, name-upper}
use Rattle.content.proofs.Names.{lower-upper}
use Rattle.content.proofs.Written.{line-back}
use Rattle.content.proofs.WrittenForm.{line-formed}
use Rattle.content.proofs.WrittenClean.{name-clean, line_clean}
use Rattle.content.proofs.Unfolded.{Upright, line-upright, clean-lines-back}
use Rattle.conversion_theory.specs.Tree.{Property, Component, Forest}
use Rattle.conversion_theory.specs.Structure.{Event, begins, ends, carries, bounds, event_of, fresh}
use Rattle.conversion_theory.specs.Property.{read_property}
use Rattle.conversion_theory.specs.ToIcal.{begin_line, end_line, property_line, component_lines, forest_lines}
use Rattle.conversion_theory.specs.ToJcal.{read_lines}
use Rattle.conversion_theory.proofs.PropertyLaws.{Returned}
use Rattle.conversion_theory.proofs.Shapes.{Pairwise, no-pair, pair, pairs-append, pairs-all, EventStep, both-begin, both_end, both_hold, Steps, steps-nest, steps-read, Alike, alike, Alikes, no_more, one_more}
use Rattle.conversion_theory.proofs.Events.{events_of, events_in, events-pair, events-grow}
use Rattle.conversion_theory.proofs.Nesting.{Top}
use Rattle.conversion_theory.proofs.Readings.{events_at, taken-lines}

-- a line that is clean, formed, begins with no space, and from which the table makes the event e
pub record Tells (t : Table) (l : List ℕ) (e : Event Property) : Type 0 where
  pub is-clean : clean l ≡ true
  pub is-formed : formed l ≡ true
  pub upright : Upright l
  pub event : EventStep (λ l p. read_property t l ≡ accepted p) (event_of (line_of l)) e

-- BEGIN and END
begin-text : (n : List ℕ) → begin_line n ≡ line_text (octets "BEGIN") [] (upper n)
unfolding begin_line line_text params_text upper upper_octet is_lower between
begin-text n = refl

end-text : (n : List ℕ) → end_line n ≡ line_text (octets "END") [] (upper n)
unfolding end_line line_text params_text upper upper_octet is_lower between
end-text n = refl

begin-name : is_name (octets "BEGIN") ≡ true
unfolding is_name filled all name_octet is_letter is_upper is_lower is_digit between
begin-name = refl

end-name : is_name (octets "END") ≡ true
unfolding is_name filled all name_octet is_letter is_upper is_lower is_digit between
end-name = refl

begin-event : (n : List ℕ) → is_lower_name n ≡ true → event_of (line_of (line_text (octets "BEGIN") [] (upper n))) ≡ begins n
unfolding event_of bounds filled same_name same upper upper_octet is_lower between
begin-event n h = rw (line-back (octets "BEGIN") [] (upper n) begin-name tt, name-upper n (lower-name n h), lower-upper n h)

end-event : (n : List ℕ) → is_lower_name n ≡ true → event_of (line_of (line_text (octets "END") [] (upper n))) ≡ ends n
unfolding event_of bounds filled same_name same upper upper_octet is_lower between
end-event n h = rw (line-back (octets "END") [] (upper n) end-name tt, name-upper n (lower-name n h), lower-upper n h)

-- a line without parameters under a name that the table does not see
module _ (t : Table) (name n : List ℕ) (k : is_name name ≡ true) (h : is_lower_name n ≡ true) where
  bare-tells : {e : Event Property} → EventStep (λ l p. read_property t l ≡ accepted p) (event_of (line_of (line_text name [] (upper n)))) e → Tells t (line_text name [] (upper n)) e
  bare-tells s = record {
    is-clean = line_clean name [] (upper n) k tt tt (name-clean n (lower-name n h));
    is-formed = line-formed name [] (upper n) k tt;
    upright = line-upright name [] (upper n) k;
    event = s;
  }

module _ (t : Table) (n : List ℕ) (h : is_lower_name n ≡ true) where
  pub begin-tells : Tells t (begin_line n) (begins n)
  begin-tells = rw (begin-text n) (bare-tells t (octets "BEGIN") n begin-name h (rw (begin-event n h) (both-begin h)))

  pub end-tells : Tells t (end_line n) (ends n)
  end-tells = rw (end-text n) (bare-tells t (octets "END") n end-name h (rw (end-event n h) both_end))

property-tells : {b new : Table} {q p : Property} → Returned b new q p → Tells new (property_line b q) (carries p)
property-tells {b} {new} {q} {p} r = record { is-clean = r.is-clean; is-formed = r.is-formed; upright = r.upright; event = rw r.event (both_hold r.read) }

-- the lines written tell the events of the newer's component
module _ (b new : Table) where
  pairs-tell : {qs ps : List Property} → Pairwise (Returned b new) qs ps → Pairwise (Tells new) (map (property_line b) qs) (map carries ps)
  pairs-tell no-pair = no-pair
  pairs-tell (pair r rs) = pair (property-tells r) (pairs-tell rs)

  mutual
    unfolding component_lines events_of

    pub lines-tell : {h c : Component} → Alike (Returned b new) h c → Pairwise (Tells new) (component_lines b h) (events_of c)
    lines-tell (alike {n} l ps cs) = pair (begin-tells new n l) (pairs-append (pairs-tell ps) (pairs-append (lines-in-tell cs) (pair (end-tells new n l) no-pair)))

    lines-in-tell : {hs cs : Forest} → Alikes (Returned b new) hs cs → Pairwise (Tells new) (forest_lines b hs) (events_in cs)
    lines-in-tell no_more = no-pair
    lines-in-tell (one_more c cs) = pairs-append (lines-tell c) (lines-in-tell cs)

told-steps : {t : Table} {ls : List (List ℕ)} {es : List (Event Property)} → Pairwise (Tells t) ls es → Steps (λ l p. read_property t l ≡ accepted p) (events_at ls) es
told-steps no-pair = no-pair
told-steps (pair h r) = pair h.event (told-steps r)

-- THE LAWS of the lines of a component h that goes back as c
module _ {b new : Table} {h c : Component} (a : Alike (Returned b new) h c) where
  pub lines-unfold : lines_of (text_of (component_lines b h)) ≡ component_lines b h
  lines-unfold = clean-lines-back (component_lines b h) (pairs-all (λ l e t. t.is-clean) (lines-tell b new a)) (pairs-all (λ l e t. t.upright) (lines-tell b new a))

  pub lines-read : Top c → read_lines new (component_lines b h) ≡ accepted c
  unfolding read_lines
  lines-read t =
      let w = lines-tell b new a in
      let s = told-steps w in
      taken-lines (read_property new) (component_lines b h) c (record {
        are-clean = All-all clean (component_lines b h) (pairs-all (λ l e t. t.is-clean) w);
        are-formed = All-all formed (component_lines b h) (pairs-all (λ l e t. t.is-formed) w);
        close = steps-nest fresh s ∙ events-pair c t.named t.deep;
        found = events_of c;
        read = steps-read (read_property new) s;
        grown = events-grow c;
      })
