-- A string of plain octets that is tested and written in one loop.
use Prim.Native.Char.{code}
use Prim.Native.Nat.{ℕ, ◌+◌, ◌-◌, ◌≤◌, ◌<◌}
use mathlib.Core.Bool.{true, false}
use mathlib.Core.List.{List, [], ◌∷◌}
use mathlib.Core.Option.{none, some}
use mathlib.Core.Path.{◌≡◌, refl, ap, ◌∙◌}
use lib.ListN.{length, take, drop, get_or}
use Rattle.octets.specs.Basics.{all}
use Rattle.octets.specs.Classes.{plain_octet}
use Rattle.octets.specs.Groups.{text_as_is}
use Rattle.octets.specs.Optional.{when}
use Rattle.octets.specs.Pen.{Pen, Wrote, FrontKept}
use Rattle.octets.specs.Search.{ClassRun}
use Rattle.octets.proofs.Classes.{as-is-plain}
use Rattle.octets.proofs.Pen.{nothing, then, Leads, leads-start, leads-on, leads-last, front-wrote}
use Rattle.octets.proofs.Positions.{here, ended, part-rest}
use Rattle.octets.proofs.Runs.{run-passes}
use Rattle.json_text.specs.Tree.{Json, str}
use Rattle.json_text.specs.Print.{escaped, quoted, print_string, print}
use Rattle.values.specs.Read.{read_plain}
use Rattle.jcal_texts.proofs.TextRuns.{quoted-run}

plain_step : (b : ℕ) (s : List ℕ) → text_as_is b ≡ true → all plain_octet (b ∷ s) ≡ all plain_octet s
unfolding all
plain_step b s h = rw (as-is-plain b h)

-- s is plain if what lies ahead of i is, and to write that from q on, behind what is written so far, is to write all from p on
pub record Plainly (s : List ℕ) (p q : Pen) (i : ℕ) : Type 0 where
  pub holds : all plain_octet s ≡ all plain_octet (drop i s)
  pub leads : Leads p (quoted s) q (quoted (drop i s))
  pub written : (xs : List ℕ) × Wrote p xs q

module _ (s : List ℕ) where
  pub plainly-start : {p : Pen} → Plainly s p p 0
  plainly-start = record { holds = refl; leads = leads-start; written = ([], nothing) }

  module _ {p q : Pen} {i : ℕ} (g : Plainly s p q i) where
    pub plainly-run : {e : ℕ} {r : Pen} → ClassRun text_as_is s i e → Wrote q (take (e - i) (drop i s)) r → Plainly s p r e
    plainly-run {e} v w = record {
      holds = g.holds ∙ run-passes (all plain_octet) plain_step v;
      leads = leads-on g.leads w (ap quoted (part-rest s i e v.above) ∙ quoted-run (take (e - i) (drop i s)) (drop e s) v.inside);
      written = (_, then g.written.1 w);
    }

    pub plainly-end : {o r : Pen} → Wrote o (code "\"" ∷ []) p → length s ≤ i → Wrote q (code "\"" ∷ []) r → (j : Json) × (read_plain s ≡ some j) × Wrote o (print j) r
    unfolding all quoted read_plain when print print_string
    plainly-end u h w = (str s, rw (g.holds ∙ ap (all plain_octet) (ended s i h)), then u (leads-last g.leads w (ap quoted (ended s i h))))

    module _ (h : i < length s) where
      pub plainly-not : {o : Pen} → Wrote o (code "\"" ∷ []) p → plain_octet (get_or s i 0) ≡ false → (read_plain s ≡ none) × FrontKept o q.buf
      unfolding all read_plain when
      plainly-not u x = let n : all plain_octet s ≡ false = g.holds ∙ rw (here s i h, x) in (rw n, front-wrote (then u g.written.1))

      pub plainly-octet : {r : Pen} → plain_octet (get_or s i 0) ≡ true → Wrote q (escaped (get_or s i 0)) r → Plainly s p r (i + 1)
      unfolding all quoted
      plainly-octet x w = record { holds = g.holds ∙ rw (here s i h, x); leads = leads-on g.leads w (ap quoted (here s i h)); written = (_, then g.written.1 w) }
