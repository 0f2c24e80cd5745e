-- From one test of the conversion to the next: what a test that fails answers, and what one that passes leaves to the next.
use Prim.Native.Nat.{ℕ, ◌+◌, ◌-◌, ◌≤◌, ◌<◌}
use mathlib.Core.Path.{◌≡◌, refl, sym, ap, ◌∙◌}
use mathlib.Core.Bool.{Bool, true, false}
use mathlib.Core.List.{List, [], ◌∷◌}
use native.Mathlib.Omega.{arith}
use borrow.Author.Tests.{le-leb, lt-leb}
use lib.ListN.{length, take, drop}
use Rattle.std.specs.declared.result.Result.{Result}
use Rattle.std.specs.Prelude.{Ok, Err}
use Rattle.octets.specs.Basics.{all}
use Rattle.octets.specs.Limits.{most_text, most_levels}
use Rattle.octets.specs.Pen.{pen}
use Rattle.octets.specs.Answers.{answered, Answer, refused, accepted, then, unless, number, answer, outcome, finished}
use Rattle.octets.specs.declared.Refusal.{Refusal}
use Rattle.std.specs.Prelude.{Ok, Err}
use Rattle.octets.proofs.Cases.{never}
use Rattle.octets.proofs.Positions.{upto}
use Rattle.octets.proofs.Answers.{not-accepted, accepted-same, finished-answer, refused-alike}
use Rattle.json_text.specs.Print.{print}
use Rattle.types.specs.Rows.{table_of}
use Rattle.types.specs.Table.{Table}
use Rattle.types.specs.Laid.{table_in, laid_of, room_for_rows}
use Rattle.types.proofs.Reading.{Read_table, rows_written, rows-refused}
use Rattle.content.specs.Line.{Line}
use Rattle.content.specs.Buffer.{laid_out}
use Rattle.content.specs.Lines.{lines_of, cut_lines}
use Rattle.content.specs.Form.{content_lines}
use Rattle.content.specs.Reading.{lines_told, LaidWithin, ReadLines}
use Rattle.std.specs.Prelude.{Ok}
use Rattle.std.specs.declared.result.Result as ended
use Rattle.content.proofs.LineRuns.{laid-short}
use Rattle.conversion_theory.specs.Tree.{Property, levels}
use Rattle.conversion_theory.specs.Structure.{Event, begins, Nest, fresh, closed, inside, fault, nest_after, verdict, structured}
use Rattle.conversion_theory.specs.Growth.{behind_event, each_property, tree_of}
use Rattle.conversion_theory.specs.Jcal.{jcal_of}
use Rattle.conversion_theory.specs.Property.{read_property}
use Rattle.conversion_theory.specs.ToJcal.{read_lines_by, read_lines, reading, to_jcal}
use Rattle.jcal.specs.Events.{events_in, LineAt, name_from, line_told, TellsLine}
use Rattle.jcal.specs.Components.{is_accepted, reads, event_tested, each_tested, behind_end, next_of, component_at}
use Rattle.jcal.specs.Placing.{ready, place_of, PartWritten}
use Rattle.jcal.specs.declared.components.NextItem.{NextItem}
use Rattle.jcal.specs.Order.{may_stand, ends_here, ordered_from, ordered}
use Rattle.jcal.specs.Stages.{properties_jcal, events_jcal, lines_jcal}
use Rattle.jcal.specs.declared.events.LineKind.{LineKind}
use Rattle.jcal.specs.declared.events.LineKind.TheVariants.{Opens, Closes, Plain, Broken}
use Rattle.jcal.proofs.Levels.{grown, tree_is}
use Rattle.jcal.proofs.Depths.{not-fresh, Passes, passes}
use Rattle.jcal.proofs.OpenComponents.{events-told}
use Rattle.jcal.proofs.PropertyTests.{turn-passed}

refused-same : {A : Type 0} {m n : ℕ} → ◌≡◌ {A = Answer A} (refused m) (refused n) → m ≡ n
refused-same e = cc

-- a refusal zeroes whatever stands in the buffer
-- a refusal stands, whatever comes behind
then-refused : {A B C : Type 0} (a : Answer A) (g : A → B) (h : A → Answer C) (n : ℕ) → refused n ≡ then a (λ x. accepted (g x)) → refused n ≡ then a h
unfolding then
then-refused (refused m) g h n e = ap refused (refused-same e)
then-refused (accepted x) g h n e = not-accepted e

then-accepts : {A B : Type 0} (a : Answer A) (g : A → B) (b : B) → accepted b ≡ then a (λ x. accepted (g x)) → is_accepted a ≡ true
unfolding then is_accepted
then-accepts (refused m) g b e = not-accepted (sym e)
then-accepts (accepted x) g b e = refl

accepted-is {ℓ} : {P : Type ℓ} {A : Type 0} (a : Answer A) → is_accepted a ≡ true → ((x : A) → a ≡ accepted x → P) → P
unfolding is_accepted
accepted-is (refused n) h k = never h refl
accepted-is (accepted x) h k = k x refl

-- 7, 8 and 9
module _ (f : Line → Answer Property) (es : List (Event Line)) where
  properties-passed : accepted tt ≡ each_tested f es → is_accepted (each_property f es) ≡ true
  properties-passed e = then-accepts (each_property f es) (λ _. tt {0}) tt e

  pub properties-failed : (n : ℕ) → refused n ≡ each_tested f es → refused n ≡ properties_jcal f es
  unfolding properties_jcal
  properties-failed n e = then-refused (each_property f es) (λ _. tt {0}) _ n e

  -- lines that can be written
  pub ready-tested : (b : Bool) → b ≡ false → accepted tt ≡ each_tested f es → ready f b false es ≡ true
  unfolding ready
  ready-tested b o e = rw o (accepted-is (each_property f es) (properties-passed e) (λ ps a. (grown f es ps a).accepts))

  pub ready-ordered : (b : Bool) → b ≡ true → b ≡ ordered es → ready f b false es ≡ true
  unfolding ready ordered
  ready-ordered b o e = rw o (sym e ∙ o)

-- 5 and 6
verdict-refused : {A B C : Type 0} (s : Nest) (a : A) (b : B) (h : B → Answer C) (n : ℕ) → refused n ≡ verdict s a → refused n ≡ then (verdict s b) h
unfolding verdict then
verdict-refused fresh a b h n e = ap refused (refused-same e)
verdict-refused closed a b h n e = not-accepted e
verdict-refused (inside m ms) a b h n e = ap refused (refused-same e)
verdict-refused (fault k) a b h n e = ap refused (refused-same e)

verdict-closed : {A : Type 0} (s : Nest) (a b : A) → accepted b ≡ verdict s a → (s ≡ closed) × (b ≡ a)
unfolding verdict
verdict-closed fresh a b e = not-accepted (sym e)
verdict-closed closed a b e = (refl, accepted-same e)
verdict-closed (inside m ms) a b e = not-accepted (sym e)
verdict-closed (fault k) a b e = not-accepted (sym e)

-- what is answered, where it is known which
pub structure-passed : {r : Result Bool Refusal} {b : Bool} (es : List (Event Line)) → answered r ≡ verdict (nest_after fresh es) (ordered es) → r ≡ Ok b → (nest_after fresh es ≡ closed) × (b ≡ ordered es)
structure-passed {r} {b} es e q = verdict-closed (nest_after fresh es) (ordered es) b (rw q at e)

module _ (f : Line → Answer Property) (es : List (Event Line)) where
  pub structure-failed : {r : Result Bool Refusal} {w : Refusal} → answered r ≡ verdict (nest_after fresh es) (ordered es) → r ≡ Err w → refused (number w) ≡ events_jcal f es
  unfolding events_jcal structured
  structure-failed {r} {w} e q = verdict-refused (nest_after fresh es) (ordered es) es (properties_jcal f) (number w) (rw q at e)

  pub pairs : nest_after fresh es ≡ closed → properties_jcal f es ≡ events_jcal f es
  unfolding events_jcal structured verdict then
  pairs h = rw h

-- 3 and 4
module _ (f : Line → Answer Property) where
  properties-tree : (a : Answer (List (Event Property))) → then (then a (λ ps. accepted (tree_of ps))) (λ c. accepted (print (jcal_of c))) ≡ then a (λ ps. accepted (print (jcal_of (tree_of ps))))
  unfolding then
  properties-tree (refused n) = refl
  properties-tree (accepted ps) = refl

  events-tree : (a : Answer (List (Event Line)))
      → then (then a (λ es. then (each_property f es) (λ ps. accepted (tree_of ps)))) (λ c. accepted (print (jcal_of c))) ≡ then a (properties_jcal f)
  unfolding properties_jcal then
  events-tree (refused n) = refl
  events-tree (accepted es) = properties-tree (each_property f es)

  module _ (text b after : List ℕ) (r : ended.Result ℕ Refusal) (l : length text < length b) (k : ReadLines text b after r) where
    told-tested : lines_told after r ≡ content_lines (lines_of text)
    told-tested = rw (le-leb (length (laid_out (lines_of text))) (length b) (omega (arith, laid-short text))) at k.told

    pub lines-failed : (n : ℕ) → lines_told after r ≡ refused n → refused n ≡ lines_jcal f (lines_of text)
    unfolding lines_jcal read_lines_by then
    lines-failed n e = rw (sym told-tested ∙ e)

    pub lines-laid : (n : ℕ) → r ≡ Ok n → events_jcal f (events_in (take (n - 0) (drop 0 after))) ≡ lines_jcal f (lines_of text)
    unfolding lines_jcal read_lines_by then events_jcal events_in
    lines-laid n q =
        let t : content_lines (lines_of text) ≡ accepted (cut_lines (take n after)) = sym told-tested ∙ (unfold lines_told in rw q) in
        rw (t, upto after n) (sym (events-tree (structured (events_in (take n after)))))

pub laid-within : (m n : ℕ) (r : ended.Result ℕ Refusal) → LaidWithin m r → r ≡ Ok n → n ≤ m
laid-within m n r h q = rw q at h

-- 1 and 2
module _ (hex text : List ℕ) where
  pub text-long : most_text < length text → refused 1 ≡ to_jcal hex text
  unfolding to_jcal reading unless then
  text-long h = rw (lt-leb (length text) most_text h)

  module _ (h : length text ≤ most_text) where
    rows-wrong : (n : ℕ) → table_of hex ≡ refused n → refused n ≡ to_jcal hex text
    unfolding to_jcal reading unless then
    rows-wrong n e = rw (le-leb (length text) most_text h, e)

    rows_right : (t : Table) → table_of hex ≡ accepted t → lines_jcal (read_property t) (lines_of text) ≡ to_jcal hex text
    unfolding to_jcal reading unless then lines_jcal read_lines
    rows_right t e = rw (le-leb (length text) most_text h, e)

-- the rows that are read
module _ (hex o b : List ℕ) (r : Result ℕ Refusal) (h : room_for_rows ≤ length o) (k : outcome r b ≡ answer (laid_of hex) o) where
  pub rows-read : (n : ℕ) → r ≡ Ok n → Read_table hex b n
  rows-read n q = rows_written hex o b h n (rw q at k)

  module _ (text : List ℕ) (l : length text ≤ most_text) where
    pub rows-laid : (n : ℕ) → r ≡ Ok n → lines_jcal (read_property (table_in (take (n - 0) (drop 0 b)))) (lines_of text) ≡ to_jcal hex text
    rows-laid n q = rows_right hex text l _ (rw (upto b n) (rows-read n q).table)

    pub rows-malformed : (w : Refusal) → r ≡ Err w → refused (number w) ≡ to_jcal hex text
    rows-malformed w q = let e = rows-refused hex o b h w (rw q at k) in rw e.1 (rows-wrong hex text l 2 e.0)

-- the calendar
pub some-line : (s : List ℕ) → nest_after fresh (events_in s) ≡ closed → 0 < length s
unfolding events_in cut_lines nest_after
some-line [] h = not-fresh h
some-line (c ∷ s) h = omega arith

-- the first line is a BEGIN
module _ (s : List ℕ) (e : ℕ) (h : LineAt s 0 e) (p : nest_after fresh (events_in s) ≡ closed) where
  not-begins {ℓ} : {P : Type ℓ} (v : Event Line) → events_in s ≡ v ∷ events_in (drop (e + 1) s) → ((n : List ℕ) → v ≡ begins n → ⊥) → P
  not-begins v q k =
      let g = passes (λ _. refused 0) (events_in s) p in
      let a : begins g.name ∷ g.body ≡ v ∷ events_in (drop (e + 1) s) = sym g.begun ∙ q in
      absurd (k g.name (cc))

  pub first-not {ℓ} : {P : Type ℓ} (k : LineKind) → ((n : ℕ) → k ≡ Opens n → ⊥) → TellsLine s 0 e k → P
  unfolding line_told
  first-not (Opens n) o t = absurd (o n refl)
  first-not (Closes n) o t = not-begins _ (events-told s 0 e (Closes n) h t) (λ m q. let z : ◌≡◌ {A = ℕ} 0 1 = cc in omega arith)
  first-not Plain o t = not-begins _ (events-told s 0 e Plain h t) (λ m q. let z : ◌≡◌ {A = ℕ} 0 1 = cc in omega arith)
  first-not Broken o t = not-begins _ (events-told s 0 e Broken h t) (λ m q. let z : ◌≡◌ {A = ℕ} 0 1 = cc in omega arith)

module _ (f : Line → Answer Property) (s : List ℕ) (e : ℕ) (h : LineAt s 0 e) (p : nest_after fresh (events_in s) ≡ closed) where
  abbrev next : List (Event Line)
  next = events_in (drop (e + 1) s)

  begun : Passes f (events_in s)
  begun = passes f (events_in s) p

  module _ (n : ℕ) (t : TellsLine s 0 e (Opens n)) where
    first-opens : events_in s ≡ begins (name_from s n) ∷ next
    unfolding line_told
    first-opens = events-told s 0 e (Opens n) h t

    begun_first : (begun.name ≡ name_from s n) × (begun.body ≡ next)
    begun_first = let a : begins begun.name ∷ begun.body ≡ begins (name_from s n) ∷ next = sym begun.begun ∙ first-opens in ((cc), (cc))

    pub calendar-few : levels (component_at f (name_from s n) next) ≤ most_levels
    calendar-few = rw (← begun_first.0, ← begun_first.1) begun.few

    calendar-alone : behind_end 0 next ≡ []
    calendar-alone = rw (← begun_first.1) begun.alone

    calendar-grows : is_accepted (each_property f (events_in s)) ≡ true → accepted (print (jcal_of (component_at f (name_from s n) next))) ≡ properties_jcal f (events_in s)
    unfolding properties_jcal then
    calendar-grows q = accepted-is (each_property f (events_in s)) q (λ ps a. rw (a, tree_is f (name_from s n) next ps (grown f (begins (name_from s n) ∷ next) ps (rw first-opens at a))))

    pub calendar-ready : (b : Bool) → ready f b false (events_in s) ≡ true → ready f b false next ≡ true
    unfolding ready ordered_from may_stand ends_here all reads
    calendar-ready b h = rw first-opens at h

    calendar-tested : each_tested f (events_in s) ≡ each_tested f next
    unfolding event_tested
    calendar-tested = ap (each_tested f) first-opens ∙ turn-passed f (begins (name_from s n)) next refl

    pub calendar-refused : (k : ℕ) → each_tested f next ≡ refused k → (o out : List ℕ) → length out ≡ length o → answer (refused k) out ≡ answer (properties_jcal f (events_in s)) o
    calendar-refused k r o out l = refused-alike k out o l ∙ ap (λ (a : Answer (List ℕ)). answer a o) (properties-failed f (events_in s) k (sym (calendar-tested ∙ r)))

    calendar-text : each_tested f next ≡ each_tested f (next_of (behind_end 0 next)) → accepted (print (jcal_of (component_at f (name_from s n) next))) ≡ properties_jcal f (events_in s)
    calendar-text r =
        let a : each_tested f (next_of (behind_end 0 next)) ≡ accepted tt = ap (λ (es : List (Event Line)). each_tested f (next_of es)) calendar-alone ∙ (unfold next_of each_property behind_event then in refl) in
        calendar-grows (properties-passed f (events_in s) (sym (calendar-tested ∙ r ∙ a)))

    pub calendar-placed : (o out : List ℕ) (r : NextItem) → PartWritten f s (e + 1) next (behind_end 0 next) (pen o 0) (print (jcal_of (component_at f (name_from s n) next))) out r
        → finished (place_of r) out ≡ answer (properties_jcal f (events_in s)) o
    calendar-placed o out r z = finished-answer o (print (jcal_of (component_at f (name_from s n) next))) out (place_of r) z.wrote ∙ ap (λ (a : Answer (List ℕ)). answer a o) (calendar-text z.tested)
