-- The stages of the conversion over a tape are those of the definition over the value that was parsed.
use Prim.Native.Nat.{ℕ, ◌+◌, ◌*◌, ◌-◌, ◌≤◌, ◌<◌}
use mathlib.Core.Path.{◌≡◌, refl, sym}
use mathlib.Core.Bool.{true, false}
use mathlib.Core.List.{List}
use native.Mathlib.Omega.{arith}
use borrow.Author.Tests.{le-leb, lt-leb}
use lib.Dec.{leb}
use lib.ListN.{length, take, drop}
use Rattle.octets.specs.Basics.{octets, ◌and◌, same}
use Rattle.octets.specs.Limits.{most_text, most_levels, most_open}
use Rattle.octets.specs.Utf8.{utf8}
use Rattle.octets.specs.Answers.{refused, accepted, then, unless, answer, outcome}
use Rattle.octets.specs.declared.Refusal.{Refusal}
use Rattle.std.specs.declared.result.Result.{Result}
use Rattle.std.specs.Prelude.{Ok, Err}
use Rattle.octets.proofs.Positions.{upto}
use Rattle.octets.proofs.Limits.{most-text, most-levels}
use Rattle.octets.proofs.Cases.{cases, both}
use Rattle.types.specs.Table.{Table}
use Rattle.types.specs.Rows.{table_of}
use Rattle.types.specs.Laid.{table_in, laid_of, room_for_rows}
use Rattle.types.proofs.Reading.{rows_written, rows-refused}
use Rattle.json_text.specs.Parse.{most_tape}
use Rattle.json_text.specs.Tree.{Json, element, octets_of}
use Rattle.json_text.specs.Reads.{Out, deep, bad}
use Rattle.json_text.specs.Reader.{parse_text}
use Rattle.json_text.specs.Tape.{ser}
use Rattle.json_text.proofs.Decoding.{parse-fine}
use Rattle.tape.specs.Decode.{value_at}
use Rattle.tape.specs.Sound.{sound}
use Rattle.tape.specs.Scan.{sound_tape}
use Rattle.tape.proofs.Laid.{tape-back, laid-back, sound_back}
use Rattle.content.specs.Fold.{text_of}
use Rattle.conversion_theory.specs.Tree.{levels, properties_of}
use Rattle.conversion_theory.specs.Skeleton.{is_component, is_calendar, component_from, calendar_of}
use Rattle.conversion_theory.specs.ToIcal.{json_of, checked_all, component_lines, written, to_ical}
use Rattle.ical.specs.Stages.{component_on, judged, tape_text, parsed_text}
use Rattle.ical.proofs.PropertyTests.{ok}
use Rattle.ical.proofs.Levels.{fewer}
use Rattle.ical.proofs.ParseAnswers.{IsTape}

-- the component on a tape, which has at most eight levels
module _ (t : List ℕ) (c : is_calendar (value_at t 0) ≡ true) {n : ℕ} (l : n ≡ levels (component_from most_open (value_at t 0))) (h : n ≤ 8) where
  eight-levels : (is_component 8 (value_at t 0) ≡ true) × (component_from 8 (value_at t 0) ≡ component_from most_open (value_at t 0))
  unfolding is_calendar
  eight-levels = fewer most_open 8 (value_at t 0) (both (is_component most_open (value_at t 0)) (same (octets_of (element 0 (value_at t 0))) (octets "vcalendar")) c).0 (omega arith)

  pub component-there : is_component 8 (value_at t 0) ≡ true
  component-there = eight-levels.0

  pub component-on : component_on t ≡ component_from 8 (value_at t 0)
  unfolding component_on
  component-on = sym eight-levels.1

-- the tests of a tape
module _ (T : Table) (t : List ℕ) where
  pub unsound : sound_tape t ≡ false → judged T t ≡ refused 12
  unfolding judged unless
  unsound h = rw h

  module _ (s : sound_tape t ≡ true) where
    pub other-shape : is_calendar (value_at t 0) ≡ false → judged T t ≡ refused 12
    unfolding judged unless
    other-shape h = rw (s, h)

    module _ (c : is_calendar (value_at t 0) ≡ true) {n : ℕ} (l : n ≡ levels (component_from most_open (value_at t 0))) where
      pub too-deep : 8 < n → judged T t ≡ refused 6
      unfolding judged unless component_on
      too-deep h = rw (s, c, lt-leb (levels (component_from most_open (value_at t 0))) most_levels (omega (arith, most-levels)))

      pub shallow : n ≤ 8 → judged T t ≡ checked_all T (properties_of (component_from 8 (value_at t 0)))
      unfolding judged unless component_on
      shallow h = rw (s, c, le-leb (levels (component_from most_open (value_at t 0))) most_levels (omega (arith, most-levels)), (eight-levels t c l h).1)

  -- the text
  pub text-refused : {m : ℕ} → judged T t ≡ refused m → tape_text T t ≡ refused m
  unfolding tape_text then
  text-refused e = rw e

  pub text-accepted : judged T t ≡ ok → tape_text T t ≡ accepted (text_of (component_lines T (component_on t)))
  unfolding tape_text then
  text-accepted e = rw e

-- a tape that shows the value
by_value : (T : Table) (t : List ℕ) (j : Json) → value_at t 0 ≡ j → sound_tape t ≡ sound j → tape_text T t ≡ then (calendar_of j) (written T)
unfolding tape_text judged component_on calendar_of written unless then
by_value T t j v s = rw (v, s) (cases (sound j and is_calendar j)
    (λ a. cases (leb (levels (component_from most_open j)) most_levels) (λ b. rw (a, b)) (λ b. rw (a, b)))
    (λ a. rw a))

pub parsed-text : (T : Table) (s t₀ t : List ℕ) (n : ℕ) → utf8 s ≡ true → IsTape (parse_text s) t₀ t n → tape_text T (take (n - 0) (drop 0 t)) ≡ parsed_text T s
unfolding parsed_text json_of then
parsed-text T s t₀ t n u w =
    let f = parse-fine s w.left w.it u w.is in
    rw (laid-back w.it t n (drop n t₀) w.count w.tape, w.is) (by_value T (ser w.it) w.it (tape-back f) (sound_back f))

pub parsed-deep : (T : Table) (s : List ℕ) → parse_text s ≡ deep → parsed_text T s ≡ refused 6
unfolding parsed_text json_of then
parsed-deep T s e = rw e

pub parsed-bad : (T : Table) (s : List ℕ) → parse_text s ≡ bad → parsed_text T s ≡ refused 11
unfolding parsed_text json_of then
parsed-bad T s e = rw e

-- room for a tape, and its front
pub laid-within : {o : Out Json} {t₀ t : List ℕ} {n m : ℕ} → IsTape o t₀ t n → length t₀ ≤ m → length (take (n - 0) (drop 0 t)) ≤ m
laid-within {t₀ = t₀} {t = t} {n = n} w h = rw (laid-back w.it t n (drop n t₀) w.count w.tape) (omega (arith, w.count, w.room))

pub tape-is : (n : ℕ) → most_tape n ≡ 2 * n + 2
unfolding most_tape
tape-is n = refl

-- the added rows, by what was read of them
module _ (hex o b : List ℕ) {r : Result ℕ Refusal} (h : room_for_rows ≤ length o) (e : outcome r b ≡ answer (laid_of hex) o) where
  pub table-read : {n : ℕ} → r ≡ Ok n → (table_of hex ≡ accepted (table_in (take (n - 0) (drop 0 b)))) × (n ≤ length b)
  table-read {n} q = let w = rows_written hex o b h n (rw q at e) in (rw (upto b n) w.table, w.within)

  pub table-refused : {w : Refusal} → r ≡ Err w → table_of hex ≡ refused 2
  table-refused {w} q = (rows-refused hex o b h w (rw q at e)).0

-- the whole conversion
module _ (rows text : List ℕ) where
  pub too_long : 65536 < length text → to_ical rows text ≡ refused 1
  unfolding to_ical unless
  too_long h = rw (lt-leb (length text) most_text (omega (arith, most-text)))

  module _ (h : length text ≤ most_text) where
    short : leb (length text) most_text ≡ true
    short = le-leb (length text) most_text h

    pub malformed : table_of rows ≡ refused 2 → to_ical rows text ≡ refused 2
    unfolding to_ical unless then
    malformed e = rw (short, e)

    module _ {T : Table} (e : table_of rows ≡ accepted T) where
      pub not-clean : utf8 text ≡ false → to_ical rows text ≡ refused 3
      unfolding to_ical unless then
      not-clean u = rw (short, e, u)

      pub text-follows : utf8 text ≡ true → to_ical rows text ≡ parsed_text T text
      unfolding to_ical unless then parsed_text
      text-follows u = rw (short, e, u)
