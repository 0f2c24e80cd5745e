-- Demand 3, proved: tables of different age agree.
use mathlib.Core.Path.{◌≡◌, refl, sym, ap, ◌∙◌}
use Rattle.octets.specs.Answers.{accepted}
use Rattle.octets.proofs.Answers.{accepted-same}
use Rattle.types.specs.Rows.{table_of, Keeps}
use Rattle.types.proofs.Tables.{Well-formed, well-formed}
use Rattle.json_text.specs.Print.{print}
use Rattle.content.specs.Lines.{lines_of}
use Rattle.content.specs.Fold.{text_of}
use Rattle.conversion_theory.specs.Tree.{Component}
use Rattle.conversion_theory.specs.Jcal.{jcal_of}
use Rattle.conversion_theory.specs.ToIcal as Ical
use Rattle.conversion_theory.specs.Claim.{Side, older, newer, side, Demand3}
use Rattle.conversion_theory.proofs.PropertyLaws.{Carried}
use Rattle.conversion_theory.proofs.PropertyCarried.{line-law, carried}
use Rattle.conversion_theory.proofs.Readings.{Short, reading-is, is-reading}
use Rattle.conversion_theory.proofs.OlderLines.{Held, lines-held}
use Rattle.conversion_theory.proofs.Collected.{alike-list}
use Rattle.conversion_theory.proofs.JcalBeside.{excepted-line, alongside}
use Rattle.conversion_theory.proofs.Routes.{forth, return, kept}

pub tables_agree : Demand3
tables_agree old new tₒ tₙ eₒ eₙ k s c e =
    let r = reading-is new s tₙ c eₙ e in
    let o = held r older in
    record {
      held = o.held;
      accepts = is-reading old s tₒ o.held eₒ (record { short = r.short; lines = o.read });
      alike = o.seen;
      jcal = λ x. print (jcal_of (held r x).held);
      again = λ x y. text_of (Ical.component_lines (side tₒ tₙ y) (held r x).held);
      printed = λ x. ap (λ (d : Component). print (jcal_of d)) (own r x);
      differ = alike-list (excepted-line tₒ tₙ) o.shape;
      each = o.each;
      beside = rw (own r newer) (alongside tₒ tₙ o.shape);
      forth = λ x. forth (side old new x) s (side tₒ tₙ x) tₙ c (table x) r.short (held r x);
      return = λ x y. return (side tₒ tₙ x) (side tₒ tₙ y) tₙ (laws x y) (lines_of s) c (held r x) (side old new y) (table y);
      kept = λ x y. kept (side tₒ tₙ x) (side tₒ tₙ y) tₙ (laws x y) (lines_of s) c (held r x) new eₙ;
    }
  where
    table : (x : Side) → table_of (side old new x) ≡ accepted (side tₒ tₙ x)
    table older = eₒ
    table newer = eₙ

    well : Well-formed tₙ
    well = well-formed new tₙ eₙ

    keeps : (x : Side) → Keeps (side tₒ tₙ x) tₙ
    keeps older = k
    keeps newer = λ e m. m

    laws : (x y : Side) → Carried (side tₒ tₙ x) (side tₒ tₙ y) tₙ
    laws x y = carried (side tₒ tₙ x) (side tₒ tₙ y) tₙ well (keeps x) (keeps y)

    held : Short s tₙ c → (x : Side) → Held (side tₒ tₙ x) tₙ (lines_of s) c
    held r x = lines-held (side tₒ tₙ x) tₙ well (keeps x) line-law (lines_of s) c r.lines

    -- what each side holds is its own reading
    own : (r : Short s tₙ c) (x : Side) → (held r x).held ≡ side (held r older).held c x
    own r older = refl
    own r newer = accepted-same (sym (held r newer).read ∙ r.lines)
