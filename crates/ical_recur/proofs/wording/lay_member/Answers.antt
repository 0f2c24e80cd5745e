-- `ical_recur::wording::lay_member` meets its contract.
use Prim.Native.Nat.{ℕ, ◌<◌}
use mathlib.Core.Path.{◌≡◌, sym, ap, ◌∙◌}
use native.Mathlib.Omega.{arith}
use Rattle.octets.specs.Classes.{upper}
use Rattle.octets.proofs.Pen.{then, front_same}
use Rattle.tape.specs.Promise.{Next}
use Rattle.calendar.specs.Walk.{key_place, key_at, key_number, key_said}
use Rattle.calendar.proofs.Keys.{key-count, key-small}
use Rattle.ical_recur.proofs.Laying.{laid-behind}
use Rattle.ical_recur.proofs.ObjectTexts.{member-keyed}
use Rattle.ical_recur.proofs.KindTests.{member-case, member-unknown, member-known}
use Rattle.ical_recur.proofs.wording.lay_member.Goals as goal

pub returns-then-not-is_lower_name : goal.returns-then-not-is_lower_name
returns-then-not-is_lower_name c = (member-case _ _ (sym c.is_lower_name.ensures ∙ c.if-not-is_lower_name.true), front_same)

pub returns-in_default : goal.returns-in_default
returns-in_default c =
    (member-unknown _ _ (rw (← c.key_named.ensures, c.in_default.is, key-count) (omega arith)) (sym c.is_lower_name.ensures ∙ c.if-not-is_lower_name.false), front_same)

pub returns : goal.returns
returns c =
    let e : key_number c.in-Some.key ≡ key_place (upper c.args.name.now) = sym (ap key_said c.in-Some.is) ∙ c.key_named.ensures in
    let k : key_place (upper c.args.name.now) < 14 = rw (← e) (key-small c.in-Some.key) in
    let s = c.sort_of.ensures ∙ ap (λ (i : ℕ). (key_at i).sort) e in
    laid-behind _ (Next c.args.t.now c.args.i) (Next c.args.t.now c.args.i) c.lay_values.new.out c.lay_values.result (member-known _ _ s k (sym c.is_lower_name.ensures ∙ c.if-not-is_lower_name.false)) (member-keyed _ _ s k) (λ e x. x) (then c.put_upper-named.ensures c.put-from.ensures) c.lay_values.ensures
