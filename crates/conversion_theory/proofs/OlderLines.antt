-- Lines that the newer table reads, as a table whose rows it keeps holds them: it accepts them, and its component has the shape of the newer's.
use Prim.Native.Nat.{ℕ}
use mathlib.Core.Path.{◌≡◌, refl, sym, ap, subst, ◌∙◌}
use mathlib.Core.List.{List, [], ◌∷◌, ◌++◌, map}
use Rattle.octets.specs.Basics.{pick}
use Rattle.octets.specs.Answers.{accepted}
use Rattle.types.specs.Table.{Table}
use Rattle.types.specs.Rows.{Keeps}
use Rattle.types.proofs.Tables.{Well-formed}
use Rattle.content.specs.Line.{Line, line_of}
use Rattle.conversion_theory.specs.Tree.{Property, Component}
use Rattle.conversion_theory.specs.Structure.{Event, begins, ends, carries, fresh}
use Rattle.conversion_theory.specs.Growth.{tree_of}
use Rattle.conversion_theory.specs.Property.{read_property}
use Rattle.conversion_theory.specs.ToJcal.{read_lines_by, read_lines}
use Rattle.conversion_theory.specs.Claim.{excepted, read_as_older, those, Rearranged}
use Rattle.conversion_theory.proofs.PropertyLaws.{LineFine, LineLaw, Twice}
use Rattle.conversion_theory.proofs.Shapes.{no-pair, pair, both-begin, both_end, both_hold, Steps, steps-nest, steps-read, Alike}
use Rattle.conversion_theory.proofs.Nesting.{Top, top_of, Reads, read-steps}
use Rattle.conversion_theory.proofs.Readings.{events_at, lines-taken, taken-lines, lines-known}
use Rattle.conversion_theory.proofs.OlderProperty.{older-reads}
use Rattle.conversion_theory.proofs.Collected.{alike-list, steps-list, Collected, events-collected}
use Rattle.conversion_theory.proofs.Exceptions.{excepted_in, excepted-lines}
use Rattle.conversion_theory.proofs.JcalBeside.{excepted-line}

-- the component that the table makes of the lines, beside the newer's
pub record Held (a new : Table) (ls : List (List ℕ)) (c : Component) : Type 0 where
  pub held : Component
  pub read : read_lines a ls ≡ accepted held
  pub seen : read_lines_by (read_as_older a new) ls ≡ accepted held
  pub shape : Alike (Twice a new) held c
  pub each : Rearranged (alike-list (excepted-line a new) shape) (those (excepted a new) (map line_of ls))
  pub top : Top held
  pub top-new : Top c

module _ (a new : Table) (w : Well-formed new) (k : Keeps a new) where
  record EventsFound (es : List (Event Line)) (ps : List (Event Property)) : Type 0 where
    found : List (Event Property)
    read : Steps (λ l q. read_property a l ≡ accepted q) es found
    seen : Steps (λ l q. read_as_older a new l ≡ accepted q) es found
    twice : Steps (Twice a new) found ps
    listed : steps-list (excepted-line a new) twice ≡ excepted_in a new es

  found-too : {es : List (Event Line)} {ps : List (Event Property)} → Steps (Reads LineFine (read_property new)) es ps → EventsFound es ps
  unfolding steps-list excepted_in
  found-too no-pair = record { found = []; read = no-pair; seen = no-pair; twice = no-pair; listed = refl }
  found-too (pair (both-begin {n} l) s) =
      let r = found-too s in
      record { found = begins n ∷ r.found; read = pair (both-begin l) r.read; seen = pair (both-begin l) r.seen; twice = pair (both-begin l) r.twice; listed = r.listed }
  found-too (pair (both_end {n}) s) =
      let r = found-too s in
      record { found = ends n ∷ r.found; read = pair both_end r.read; seen = pair both_end r.seen; twice = pair both_end r.twice; listed = r.listed }
  found-too (pair (both_hold {a = l} {b = p} h) s) =
      let r = found-too s in
      let t = older-reads a new w k l p h.0 h.1 in
      record {
        found = carries t.held ∷ r.found;
        read = pair (both_hold t.read) r.read;
        seen = pair (both_hold t.seen) r.seen;
        twice = pair (both_hold (record { line = l; fine = h.0; held = t.read; read = h.1; seen = t.is })) r.twice;
        listed = ap (λ (ls : List Line). pick (excepted a new l) (l ∷ []) [] ++ ls) r.listed;
      }

  -- THE LAW
  pub lines-held : LineLaw → (ls : List (List ℕ)) (c : Component) → read_lines new ls ≡ accepted c → Held a new ls c
  unfolding read_lines
  lines-held law ls c e =
      let t = lines-taken (read_property new) ls c e in
      let s = read-steps LineFine (read_property new) (events_at ls) t.found fresh t.read t.close (lines-known law ls t.are-clean t.are-formed) in
      let r = found-too s in
      let n = sym (steps-nest fresh r.read) ∙ t.close in
      let g =
      subst (λ d. Collected (excepted-line a new) (tree_of r.found) d (those (excepted a new) (map line_of ls))) t.grown
      (subst (Collected (excepted-line a new) (tree_of r.found) (tree_of t.found)) (r.listed ∙ excepted-lines a new w ls) (events-collected (excepted-line a new) r.twice n)) in
      record {
        held = tree_of r.found;
        read = taken-lines (read_property a) ls (tree_of r.found)
            (record { are-clean = t.are-clean; are-formed = t.are-formed; close = t.close; found = r.found; read = steps-read (read_property a) r.read; grown = refl });
        seen = taken-lines (read_as_older a new) ls (tree_of r.found)
            (record { are-clean = t.are-clean; are-formed = t.are-formed; close = t.close; found = r.found; read = steps-read (read_as_older a new) r.seen; grown = refl });
        shape = g.shape;
        each = g.as-often;
        top = top_of r.found n;
        top-new = subst Top t.grown (top_of t.found (sym (steps-nest fresh s) ∙ t.close));
      }
