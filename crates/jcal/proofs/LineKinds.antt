-- What a line of a buffer is, by its places.
use Prim.Native.Nat.{ℕ, zero, suc, ◌+◌, ◌-◌, ◌≤◌}
use mathlib.Core.Path.{◌≡◌, refl, sym, ap, ◌∙◌}
use mathlib.Core.Bool.{Bool, true, false}
use mathlib.Core.List.{List, [], ◌∷◌}
use native.Mathlib.Omega.{arith}
use lib.ListN.{length, take, drop, length-drop}
use lib.Seq.{drop-drop}
use Rattle.octets.specs.Basics.{octets, pick}
use Rattle.octets.specs.Classes.{same_name}
use Rattle.content.specs.Line.{line_of}
use Rattle.octets.specs.Search.{until}
use Rattle.content.specs.Lines.{is_lf}
use Rattle.octets.proofs.Search.{scan-is}
use Rattle.conversion_theory.specs.Structure.{bounds, event_of}
use Rattle.std.specs.Prelude.{Some, None}
use Rattle.std.specs.declared.option.Option.{Option}
use Rattle.jcal.specs.Events.{line_from, LineAt, name_from, line_told, Named, TellsLine, LinesOut, GivesLine}
use Rattle.jcal.specs.declared.events.ToldLine.{ToldLine}
use Rattle.jcal.specs.declared.events.LineKind.{LineKind}
use Rattle.jcal.specs.declared.events.LineKind.TheVariants.{Opens, Closes, Plain, Broken}
use Rattle.jcal.proofs.Heads.{alike-length, Bound, bound_at}

-- the rest of a line
rest-by : (stop : ℕ → Bool) (b : Bool) (v c : ℕ) (s : List ℕ) → (v ≤ length (until stop s) → until stop (drop v s) ≡ drop v (until stop s))
    → suc v ≤ length (pick b [] (c ∷ until stop s)) → until stop (drop v s) ≡ drop (suc v) (pick b [] (c ∷ until stop s))
rest-by stop true v c s k h = absurd (omega arith)
rest-by stop false v c s k h = k (omega arith)

until-drop : (stop : ℕ → Bool) (v : ℕ) (s : List ℕ) → v ≤ length (until stop s) → until stop (drop v s) ≡ drop v (until stop s)
unfolding until
until-drop stop zero s h = refl
until-drop stop (suc v) [] h = refl
until-drop stop (suc v) (c ∷ s) h = rest-by stop (stop c) v c s (until-drop stop v s) h

-- a kind under another name
pub told-as : {s : List ℕ} {i e : ℕ} {k m : LineKind} → TellsLine s i e k → k ≡ m → TellsLine s i e m
told-as t q = rw q at t

module _ (s : List ℕ) (i e : ℕ) (h : LineAt s i e) where
  pub line-is : take (e - i) (drop i s) ≡ line_from s i
  unfolding line_from
  line-is = scan-is is_lf s i e h.ends

  -- the component's name, behind a name of n octets and a colon
  module _ (n : ℕ) (b : Bound (line_from s i) n) where
    rest-is : until is_lf (drop (i + (n + 1)) s) ≡ drop (n + 1) (line_from s i)
    unfolding line_from
    rest-is = ap (until is_lf) (sym (drop-drop (n + 1) i s)) ∙ until-drop is_lf (n + 1) (drop i s) (omega (arith, b.within))

    value-is : (line_of (line_from s i)).value ≡ line_from s (i + (n + 1))
    value-is = b.value ∙ sym (unfold line_from in rest-is)

    rest-ends : e ≡ i + (n + 1) + length (until is_lf (drop (i + (n + 1)) s))
    rest-ends = rw (rest-is, length-drop (n + 1) (line_from s i)) (unfold line_from in omega (arith, b.within, h.ends))

    rest-named : Named s (i + (n + 1)) e
    rest-named = record { low = omega (arith, rest-ends); high = h.high; ends = rest-ends }

  -- what the tests of the line say
  abbrev named : List ℕ → Bool
  named w = same_name (line_of (take (e - i) (drop i s))).name w

  abbrev bound : Bool
  bound = bounds (line_of (take (e - i) (drop i s)))

  named-is : (w : List ℕ) (t : Bool) → named w ≡ t → same_name (line_of (line_from s i)).name w ≡ t
  named-is w t q = rw line-is at q

  bound-is : (t : Bool) → bound ≡ t → bounds (line_of (line_from s i)) ≡ t
  bound-is t q = rw line-is at q

  bound_of : (w : List ℕ) → named w ≡ true → bound ≡ true → Bound (line_from s i) (length w)
  bound_of w q b = bound_at (line_from s i) (length w) (alike-length _ _ (named-is w true q)) (bound-is true b)

  pub tells-opens : named (octets "BEGIN") ≡ true → bound ≡ true → TellsLine s i e (Opens (i + 6))
  unfolding line_told name_from event_of
  tells-opens q b =
      let k = bound_of (octets "BEGIN") q b in
      record {
        is = rw (named-is (octets "BEGIN") true q, bound-is true b, value-is 5 k);
        names = rest-named 5 k;
      }

  pub tells-broken : named (octets "BEGIN") ≡ true → bound ≡ false → TellsLine s i e Broken
  unfolding line_told event_of
  tells-broken q b = record { is = rw (named-is (octets "BEGIN") true q, bound-is false b); names = tt }

  module _ (n : named (octets "BEGIN") ≡ false) where
    pub tells-closes : named (octets "END") ≡ true → bound ≡ true → TellsLine s i e (Closes (i + 4))
    unfolding line_told name_from event_of
    tells-closes q b =
        let k = bound_of (octets "END") q b in
        record {
          is = rw (named-is (octets "BEGIN") false n, named-is (octets "END") true q, bound-is true b, value-is 3 k);
          names = rest-named 3 k;
        }

    pub tells-broken-end : named (octets "END") ≡ true → bound ≡ false → TellsLine s i e Broken
    unfolding line_told event_of
    tells-broken-end q b =
        record { is = rw (named-is (octets "BEGIN") false n, named-is (octets "END") true q, bound-is false b); names = tt }

    pub tells-plain : named (octets "END") ≡ false → TellsLine s i e Plain
    unfolding line_told event_of
    tells-plain q = record { is = rw (named-is (octets "BEGIN") false n, named-is (octets "END") false q); names = tt }

-- a line that is not given: none is left
pub given_none : {s t : List ℕ} {i j : ℕ} (r : Option ToldLine) → GivesLine s i r t j → ((l : ToldLine) → r ≡ Some l → ⊥) → LinesOut s i t j
given_none None g o = g
given_none (Some l) g o = absurd (o l refl)
