-- The values of a property by their sort.
use Prim.Native.Nat.{ℕ}
use Prim.Native.Char.{code}
use mathlib.Core.Path.{◌≡◌, refl, sym, fun_ext, ◌∙◌}
use mathlib.Core.Bool.{Bool, true, false}
use mathlib.Core.List.{List}
use Rattle.octets.specs.Basics.{◌and◌}
use Rattle.octets.specs.Optional.{holds}
use Rattle.octets.specs.Classes.{between}
use Rattle.octets.proofs.Cases.{and-false-right}
use Rattle.types.specs.Codes as typed
use Rattle.json_text.specs.Tree.{null, object?}
use Rattle.json_text.specs.Tape.{tag_end}
use Rattle.content.specs.Folding.{FoldPen, Folded}
use Rattle.tape.specs.Decode.{tag_at, value_at, list_at}
use Rattle.tape.specs.Promise.{After, Next, Left}
use Rattle.values.specs.Sorts.{Sort, float, geo, recur, text, status, sort_splits}
use Rattle.values.specs.Write.{value_is, value_text, values_are, values_text}
use Rattle.std.specs.Prelude.{Option, Some, None}
use Rattle.content.specs.declared.fold.Folder.{Folder}
use Rattle.ical_values.specs.Parts.{parts_are, fields_text}
use Rattle.ical_values.specs.Valued.{all_taken, ListedAs, ValuedAs}
use Rattle.ical_values.proofs.ValueGroups.{alone-stop, alone-more, alone}
use Rattle.ical_values.proofs.Arrays.{geo-is, geo-text, status-is, status-text}

module _ (many : Bool) (s : Sort) (t : List ℕ) (i : ℕ) (f : FoldPen) (out : List ℕ) where
  pub as-valued : (several : Bool) (r : Option (ℕ × Folder)) → several ≡ (many and sort_splits s) → ListedAs (code ",") several (value_is s) (value_text s) t i f out r → ValuedAs true many s t i f out r
  unfolding values_are values_text all_taken
  as-valued several (Some r) e v = rw (← e) v
  as-valued several None e v = rw (← e) v

-- GEO and REQUEST-STATUS
module _ (many : Bool) (t : List ℕ) (i : ℕ) (f : FoldPen) (out : List ℕ) (r : Option (ℕ × Folder)) where
  pub geo-valued : ListedAs (code ",") false (parts_are 3 float) (fields_text float) t i f out r → ValuedAs true many geo t i f out r
  unfolding sort_splits
  geo-valued v = as-valued many geo t i f out false r (sym (and-false-right many)) (rw (fun_ext geo-is, fun_ext geo-text) at v)

  pub status-valued : ListedAs (code ",") false (parts_are 4 text) (fields_text text) t i f out r → ValuedAs true many status t i f out r
  unfolding sort_splits
  status-valued v = as-valued many status t i f out false r (sym (and-false-right many)) (rw (fun_ext status-is, fun_ext status-text) at v)

-- a recurrence rule
no-rule : value_is recur null ≡ false
unfolding value_is holds object?
no-rule = refl

module _ (many : Bool) (t : List ℕ) (i : ℕ) where
  rules : values_are many recur (list_at t i) ≡ all_taken false (value_is recur) (list_at t i)
  unfolding values_are sort_splits typed.type_splits between all_taken
  rules = rw (and-false-right many)

  pub rule-stop : value_is recur (value_at t i) ≡ false → values_are many recur (list_at t i) ≡ false
  rule-stop h = rules ∙ alone-stop (value_is recur) t i h

  module _ {e : ℕ} (x : Next t i e) where
    pub rule-more : ((tag_at t e ≡ tag_end) → ⊥) → values_are many recur (list_at t i) ≡ false
    rule-more m = rules ∙ alone-more (value_is recur) t i x m

    pub rule-alone : {f g : FoldPen} {k : ℕ} → value_is recur (value_at t i) ≡ true → Folded f (value_text recur (value_at t i)) g → tag_at t e ≡ tag_end → After t e k
        → (values_are many recur (list_at t i) ≡ true) × Folded f (values_text recur (list_at t i)) g × Left t i k
    unfolding values_text
    rule-alone h w z a = let r = alone (value_is recur) t i x (value_text recur) no-rule h w z a in (rules ∙ r.0, r.1, r.2)
