-- The routes: to jCal under one file of rows, back under another, and the newer's reading of what came back.
use Prim.Native.Nat.{ℕ, ◌≤◌}
use mathlib.Core.Path.{◌≡◌, refl, sym, ap, ◌∙◌}
use mathlib.Core.List.{List, [], ◌∷◌, ◌++◌, append_assoc, append-nil}
use native.Mathlib.Omega.{arith}
use borrow.Author.Tests.{le-leb}
use lib.ListN.{length, take, drop, length-append}
use lib.Seq.{take-append_seam}
use Rattle.octets.specs.Basics.{All}
use Rattle.octets.specs.Limits.{most_text}
use Rattle.octets.specs.Answers.{Answer, accepted, then, unless, Settled, settled, answer}
use Rattle.types.specs.Table.{Table, find}
use Rattle.types.specs.Rows.{table_of}
use Rattle.json_text.specs.Print.{print}
use Rattle.content.specs.Fold.{text_of}
use Rattle.content.specs.Lines.{lines_of}
use Rattle.conversion_theory.specs.Tree.{Property, Component, Forest, properties_of, properties_in}
use Rattle.conversion_theory.specs.Jcal.{jcal_of}
use Rattle.conversion_theory.specs.Return.{checked}
use Rattle.conversion_theory.specs.ToJcal.{read_lines, reading, to_jcal}
use Rattle.conversion_theory.specs.ToIcal.{json_of, checked_all, component_lines, written, to_ical}
use Rattle.conversion_theory.specs.Claim.{Writes}
use Rattle.conversion_theory.proofs.PropertyLaws.{Told, Returned, Carried}
use Rattle.conversion_theory.proofs.Shapes.{Alike, Made, made, MadeIn, nothing-more, made_more, alike-made, alike-weaker}
use Rattle.conversion_theory.proofs.Skeletons.{jcal-utf8, jcal-parsed, jcal-back}
use Rattle.conversion_theory.proofs.Nesting.{Top}
use Rattle.conversion_theory.proofs.Readings.{is-reading}
use Rattle.conversion_theory.proofs.WrittenLines.{lines-unfold, lines-read}
use Rattle.conversion_theory.proofs.OlderLines.{Held}

-- an accepted text in a buffer with room
pub accepted-writes : (a : Answer (List ℕ)) (t : List ℕ) → a ≡ accepted t → Writes a t
unfolding answer
accepted-writes a t e out h = rw (e, le-leb (length t) (length out) h)

-- and no other text than the accepted one
pub writes-once : (a : Answer (List ℕ)) (t u : List ℕ) → a ≡ accepted u → Writes a t → t ≡ u
writes-once a t u e w =
    let l = length-append t u in
    let x = drop (length t) (t ++ u) in
    let y = drop (length u) (t ++ u) in
    let s : settled 0 (length t) (t ++ x) ≡ settled 0 (length u) (u ++ y) = sym (w (t ++ u) (omega arith)) ∙ accepted-writes a u e (t ++ u) (omega arith) in
    let n : length t ≡ length u = ap (λ (z : Settled). z.length) s in
    let b : t ++ x ≡ u ++ y = ap (λ (z : Settled). z.buffer) s in
    sym (take-append_seam t x) ∙ ap (λ (k : ℕ). take k (t ++ x)) n ∙ ap (take (length u)) b ∙ take-append_seam u y

-- it passes 7, 8 and 9 on its way back
abbrev pub Passes : Table → Property → Type 0
Passes b q = (p : Property) × (checked (find b q.name) q ≡ accepted p)

module _ (b : Table) where
  checked-append : (ps qs : List Property) → All (Passes b) ps → checked_all b qs ≡ accepted tt → checked_all b (ps ++ qs) ≡ accepted tt
  unfolding checked_all then
  checked-append [] qs h k = k
  checked-append (p ∷ ps) qs h k = rw h.0.1 (checked-append ps qs h.1 k)

  mutual
    unfolding properties_of

    component-passes : {c : Component} → Made (Passes b) c → (qs : List Property) → checked_all b qs ≡ accepted tt → checked_all b (properties_of c ++ qs) ≡ accepted tt
    component-passes (made {ps = ps} {cs = cs} n h m) qs k =
        rw (append_assoc ps (properties_in cs) qs) (checked-append ps (properties_in cs ++ qs) h (forest-passes m qs k))

    forest-passes : {cs : Forest} → MadeIn (Passes b) cs → (qs : List Property) → checked_all b qs ≡ accepted tt → checked_all b (properties_in cs ++ qs) ≡ accepted tt
    forest-passes nothing-more qs k = k
    forest-passes (made_more {c} {cs} m ms) qs k = rw (append_assoc (properties_of c) (properties_in cs) qs) (component-passes m (properties_in cs ++ qs) (forest-passes ms qs k))

  all_pass : (c : Component) → Made (Passes b) c → checked_all b (properties_of c) ≡ accepted tt
  all_pass c m = ap (checked_all b) (sym (append-nil (properties_of c))) ∙ component-passes m [] (unfold checked_all in refl)

-- a component whose properties are told and pass goes back
pub goes_back : (rows : List ℕ) (b : Table) (c : Component) → table_of rows ≡ accepted b → Made Told c → Made (Passes b) c → Top c
    → length (print (jcal_of c)) ≤ most_text → to_ical rows (print (jcal_of c)) ≡ accepted (text_of (component_lines b c))
unfolding to_ical json_of written unless then
goes_back rows b c e t p top l =
    rw (le-leb (length (print (jcal_of c))) most_text l, e, jcal-utf8 t top.deep, jcal-parsed t top.deep, jcal-back c t top.deep top.named, all_pass b c p)

goes-forth : (rows s : List ℕ) (c : Component) → reading rows s ≡ accepted c → to_jcal rows s ≡ accepted (print (jcal_of c))
unfolding to_jcal then
goes-forth rows s c e = rw e

-- THE LAWS
pub forth : (there s : List ℕ) (a new : Table) (c : Component) → table_of there ≡ accepted a → length s ≤ most_text → (h : Held a new (lines_of s) c) → Writes (to_jcal there s) (print (jcal_of h.held))
forth there s a new c ta l h = accepted-writes _ _ (goes-forth there s h.held (is-reading there s a h.held ta (record { short = l; lines = h.read })))

module _ (a b new : Table) (laws : Carried a b new) (ls : List (List ℕ)) (c : Component) (h : Held a new ls c) where
  abbrev jcal : List ℕ
  jcal = print (jcal_of h.held)

  abbrev again : List ℕ
  again = text_of (component_lines b h.held)

  returned : Alike (Returned b new) h.held c
  returned = alike-weaker (λ q p t. laws.returned t) h.shape

  pub return : (back : List ℕ) → table_of back ≡ accepted b → length jcal ≤ most_text → Writes (to_ical back jcal) again
  return back tb k =
      accepted-writes _ _ (goes_back back b h.held tb (alike-made (λ q p t. laws.told t) h.shape) (alike-made (λ q p r. (r.passed, r.passes)) returned) h.top k)

  pub kept : (newest : List ℕ) → table_of newest ≡ accepted new → length again ≤ most_text → reading newest again ≡ accepted c
  kept newest tn m = is-reading newest again new c tn (record { short = m; lines = ap (read_lines new) (lines-unfold returned) ∙ lines-read returned h.top-new })
