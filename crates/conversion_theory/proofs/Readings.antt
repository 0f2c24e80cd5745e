-- What an accepted reading says of its lines, and what makes one.
use Prim.Native.Nat.{ℕ, ◌≤◌}
use mathlib.Core.Path.{◌≡◌, sym, ap, ◌∙◌}
use mathlib.Core.Bool.{true, not}
use mathlib.Core.List.{List, [], ◌∷◌, map}
use borrow.Author.Tests.{le-leb, leb-true}
use lib.Dec.{leb}
use lib.ListN.{length}
use Rattle.octets.specs.Basics.{octets, all, filled, All}
use Rattle.octets.specs.Classes.{is_name, is_lower_name, lower, same_name}
use Rattle.octets.specs.Utf8.{clean}
use Rattle.octets.specs.Limits.{most_text}
use Rattle.octets.specs.Answers.{Answer, accepted, then, unless}
use Rattle.octets.proofs.Cases.{cases, both}
use Rattle.octets.proofs.Classes.{name-lower}
use Rattle.octets.proofs.Answers.{accepted-same, then-accepted, unless-accepted}
use Rattle.types.specs.Table.{Table}
use Rattle.types.specs.Rows.{table_of}
use Rattle.content.specs.Lines.{lines_of}
use Rattle.content.specs.Form.{formed, content_lines}
use Rattle.content.specs.Line.{Line, line_of}
use Rattle.conversion_theory.specs.Tree.{Property, Component}
use Rattle.conversion_theory.specs.Structure.{Event, bounds, event_of, fresh, closed, nest_after, structured}
use Rattle.conversion_theory.specs.Growth.{each_property, tree_of}
use Rattle.conversion_theory.specs.ToJcal.{read_lines_by, read_lines, reading}
use Rattle.conversion_theory.proofs.PropertyLaws.{LineFine, LineLaw}
use Rattle.conversion_theory.proofs.Nesting.{structured-is, is-structured, Known}

abbrev pub events_at : List (List ℕ) → List (Event Line)
events_at ls = map (λ l. event_of (line_of l)) ls

-- lines that pass 3 to 6, whose properties f accepts, and that make the component c
pub record Taken (f : Line → Answer Property) (ls : List (List ℕ)) (c : Component) : Type 0 where
  pub are-clean : all clean ls ≡ true
  pub are-formed : all formed ls ≡ true
  pub close : nest_after fresh (events_at ls) ≡ closed
  pub found : List (Event Property)
  pub read : each_property f (events_at ls) ≡ accepted found
  pub grown : tree_of found ≡ c

pub lines-taken : (f : Line → Answer Property) (ls : List (List ℕ)) (c : Component) → read_lines_by f ls ≡ accepted c → Taken f ls c
unfolding read_lines_by content_lines
lines-taken f ls c h =
    let last : List (Event Line) → Answer Component = λ es. then (each_property f es) (λ ps. accepted (tree_of ps)) in
    then-accepted (content_lines ls) (λ ks. then (structured (events_at ks)) last) c h (λ ks t k.
    let a = unless-accepted 3 (all clean ls) (λ _. unless 4 (all formed ls) (λ _. accepted ls)) ks t in
    let b = unless-accepted 4 (all formed ls) (λ _. accepted ls) ks a.1 in
    then-accepted (structured (events_at ls)) last c (rw (← accepted-same b.1) at k) (λ es d r.
    then-accepted (each_property f es) (λ ps. accepted (tree_of ps)) c r (λ ps e g.
    let w = structured-is (events_at ls) es d in
    record { are-clean = a.0; are-formed = b.0; close = w.close; found = ps; read = ap (each_property f) w.stay ∙ e; grown = accepted-same g })))

pub taken-lines : (f : Line → Answer Property) (ls : List (List ℕ)) (c : Component) → Taken f ls c → read_lines_by f ls ≡ accepted c
unfolding read_lines_by content_lines unless then
taken-lines f ls c t = rw (t.are-clean, t.are-formed, is-structured (events_at ls) t.close, t.read, t.grown)

-- a text under the table of a file
pub record Short (s : List ℕ) (t : Table) (c : Component) : Type 0 where
  pub short : length s ≤ most_text
  pub lines : read_lines t (lines_of s) ≡ accepted c

module _ (rows s : List ℕ) (t : Table) (c : Component) (e : table_of rows ≡ accepted t) where
  pub reading-is : reading rows s ≡ accepted c → Short s t c
  unfolding reading
  reading-is h =
      let a = unless-accepted 1 (leb (length s) most_text) (λ _. then (table_of rows) (λ t. read_lines t (lines_of s))) c h in
      then-accepted (table_of rows) (λ t. read_lines t (lines_of s)) c a.1 (λ u f r.
      record { short = leb-true (length s) most_text a.0; lines = ap (λ (x : Table). read_lines x (lines_of s)) (accepted-same (sym e ∙ f)) ∙ r })

  pub is-reading : Short s t c → reading rows s ≡ accepted c
  unfolding reading unless then
  is-reading h = rw (le-leb (length s) most_text h.short, e) h.lines

-- what 3 and 4 say of events
module _ (law : LineLaw) where
  bound-known : (l : Line) → bounds l ≡ true → is_lower_name (lower l.value) ≡ true
  unfolding bounds
  bound-known l e = name-lower l.value (both (not (filled l.params)) (is_name l.value) e).1

  line_known : (s : List ℕ) → clean s ≡ true → formed s ≡ true → Known LineFine (event_of (line_of s))
  unfolding event_of
  line_known s c f =
      cases (same_name (line_of s).name (octets "BEGIN"))
      (λ e. rw e (cases (bounds (line_of s)) (λ d. rw d (bound-known (line_of s) d)) (λ d. rw d tt)))
      (λ e. cases (same_name (line_of s).name (octets "END"))
      (λ g. rw (e, g) (cases (bounds (line_of s)) (λ d. rw d tt) (λ d. rw d tt)))
      (λ g. rw (e, g) (law s c f (rw (e, g)))))

  pub lines-known : (ls : List (List ℕ)) → all clean ls ≡ true → all formed ls ≡ true → All (Known LineFine) (events_at ls)
  unfolding all
  lines-known [] c f = tt
  lines-known (l ∷ ls) c f =
      let x = both (clean l) (all clean ls) c in
      let y = both (formed l) (all formed ls) f in
      (line_known l x.0 y.0, lines-known ls x.1 y.1)
