-- `json_text::strings::unicode` meets its contract.
use Prim.Native.Nat.{◌-◌, ◌≤◌}
use mathlib.Core.Path.{refl, sym, ap, ◌∙◌}
use native.Mathlib.Omega.{arith}
use lib.ListN.{length, take, drop}
use Rattle.octets.proofs.Positions.{from}
use Rattle.json_text.proofs.Outs.{left-by}
use Rattle.json_text.specs.Promise.{read, not-json}
use Rattle.json_text.proofs.StringLaws.{was-zero, was-some, unicode-none, unit-small, unit-inside, one-read, units-paired, two-read}
use Rattle.json_text.proofs.strings.unicode.Goals as goal

pub returns-in_default : goal.returns-in_default
returns-in_default c = not-json (unicode-none c.args.text.now (sym c.hex4.ensures ∙ c.in_default.is))

pub slice_bounds-rest-count : goal.slice_bounds-rest-count
slice_bounds-rest-count c = omega (arith, unit-inside c.args.text.now c.in-Some.u (sym c.hex4.ensures ∙ c.in-Some.is), unit-small c.args.text.now c.in-Some.u (sym c.hex4.ensures ∙ c.in-Some.is))

pub slice_bounds-rest-start : goal.slice_bounds-rest-start
slice_bounds-rest-start c = omega (arith, unit-inside c.args.text.now c.in-Some.u (sym c.hex4.ensures ∙ c.in-Some.is), unit-small c.args.text.now c.in-Some.u (sym c.hex4.ensures ∙ c.in-Some.is))

pub put_char-requires : goal.put_char-requires
put_char-requires c = omega (arith, unit-inside c.args.text.now c.in-Some.u (sym c.hex4.ensures ∙ c.in-Some.is), unit-small c.args.text.now c.in-Some.u (sym c.hex4.ensures ∙ c.in-Some.is))

pub slice_bounds-result-count : goal.slice_bounds-result-count
slice_bounds-result-count c = let s = was-some _ (sym (rw (from c.args.text.now 4) at c.partner.ensures) ∙ c.in-Some-partner.is) in let p = units-paired c.args.text.now c.in-Some.u (sym c.hex4.ensures ∙ c.in-Some.is) c.in-Some-partner.l s.0 s.1 in rw (from c.args.text.now 4) p.long

pub slice_bounds-result-start : goal.slice_bounds-result-start
slice_bounds-result-start c = let s = was-some _ (sym (rw (from c.args.text.now 4) at c.partner.ensures) ∙ c.in-Some-partner.is) in let p = units-paired c.args.text.now c.in-Some.u (sym c.hex4.ensures ∙ c.in-Some.is) c.in-Some-partner.l s.0 s.1 in let k : 6 ≤ length (take (length c.args.text.now - 4) (drop 4 c.args.text.now)) = rw (from c.args.text.now 4) p.long in omega (arith, k)

pub overflow_sub-u : goal.overflow_sub-u
overflow_sub-u c = let s = was-some _ (sym (rw (from c.args.text.now 4) at c.partner.ensures) ∙ c.in-Some-partner.is) in let p = units-paired c.args.text.now c.in-Some.u (sym c.hex4.ensures ∙ c.in-Some.is) c.in-Some-partner.l s.0 s.1 in omega (arith, p.high-from, p.high-to, p.low-from, p.low-to)

pub overflow_mul-u : goal.overflow_mul-u
overflow_mul-u c = let s = was-some _ (sym (rw (from c.args.text.now 4) at c.partner.ensures) ∙ c.in-Some-partner.is) in let p = units-paired c.args.text.now c.in-Some.u (sym c.hex4.ensures ∙ c.in-Some.is) c.in-Some-partner.l s.0 s.1 in omega (arith, p.high-from, p.high-to, p.low-from, p.low-to)

pub overflow_add-u : goal.overflow_add-u
overflow_add-u c = let s = was-some _ (sym (rw (from c.args.text.now 4) at c.partner.ensures) ∙ c.in-Some-partner.is) in let p = units-paired c.args.text.now c.in-Some.u (sym c.hex4.ensures ∙ c.in-Some.is) c.in-Some-partner.l s.0 s.1 in omega (arith, p.high-from, p.high-to, p.low-from, p.low-to)

pub overflow_sub-l : goal.overflow_sub-l
overflow_sub-l c = let s = was-some _ (sym (rw (from c.args.text.now 4) at c.partner.ensures) ∙ c.in-Some-partner.is) in let p = units-paired c.args.text.now c.in-Some.u (sym c.hex4.ensures ∙ c.in-Some.is) c.in-Some-partner.l s.0 s.1 in omega (arith, p.high-from, p.high-to, p.low-from, p.low-to)

pub overflow_add-u-in-Some-partner : goal.overflow_add-u-in-Some-partner
overflow_add-u-in-Some-partner c = let s = was-some _ (sym (rw (from c.args.text.now 4) at c.partner.ensures) ∙ c.in-Some-partner.is) in let p = units-paired c.args.text.now c.in-Some.u (sym c.hex4.ensures ∙ c.in-Some.is) c.in-Some-partner.l s.0 s.1 in omega (arith, p.high-from, p.high-to, p.low-from, p.low-to)

pub put_char-requires-in-Some-partner : goal.put_char-requires-in-Some-partner
put_char-requires-in-Some-partner c = let s = was-some _ (sym (rw (from c.args.text.now 4) at c.partner.ensures) ∙ c.in-Some-partner.is) in let p = units-paired c.args.text.now c.in-Some.u (sym c.hex4.ensures ∙ c.in-Some.is) c.in-Some-partner.l s.0 s.1 in omega (arith, p.high-from, p.high-to, p.low-from, p.low-to)

pub returns-in-None : goal.returns-in-None
returns-in-None c = read _ (left-by (one-read c.args.text.now c.in-Some.u (sym c.hex4.ensures ∙ c.in-Some.is) 0 (sym (was-zero _ (sym (rw (from c.args.text.now 4) at c.partner.ensures) ∙ c.in-None.is))) refl) (sym (from c.args.text.now 4))) c.put_char.ensures

pub returns-in-Some-partner : goal.returns-in-Some-partner
returns-in-Some-partner c = let s = was-some _ (sym (rw (from c.args.text.now 4) at c.partner.ensures) ∙ c.in-Some-partner.is) in
    read _ (left-by (two-read c.args.text.now c.in-Some.u (sym c.hex4.ensures ∙ c.in-Some.is) c.in-Some-partner.l s.0 s.1) (sym (from (take (length c.args.text.now - 4) (drop 4 c.args.text.now)) 6 ∙ ap (drop 6) (from c.args.text.now 4)))) c.put_char-in-Some-partner.ensures
