-- `json_text::values::value`, `array`, `object` and `element`, which call each other, meet their contracts. The octets left fall; how deep the calls go is bounded by the levels left.
use Prim.Native.Nat.{ℕ, ◌-◌}
use mathlib.Core.Path.{◌≡◌, refl, sym, ◌∙◌}
use mathlib.Core.List.{List, [], ◌∷◌}
use native.Mathlib.Omega.{arith}
use lib.ListN.{get_or}
use Rattle.octets.specs.Pen.{Pen, Wrote}
use Rattle.json_text.specs.Reads.{skip_space}
use Rattle.json_text.specs.Reader.{pair, value_within}
use Rattle.json_text.specs.Tape.{tag_array, tag_object, ser}
use Rattle.std.proofs.lemmas.Result.{err_from_is_err_and}
use Rattle.json_text.specs.Promise.{Agrees, too-deep}
use Rattle.octets.proofs.Runs.{inside_is}
use Rattle.json_text.proofs.Agreements.{Answer, begins, was_read, agrees-by, going_start}
use Rattle.json_text.proofs.Sizes.{skip-less, key-less}
use Rattle.json_text.proofs.Tapes.{ser_list, ser_pair}
use Rattle.json_text.proofs.Elements.{several, group-none, group-some, element-less, turn-less, element-fails, element-more, element-close, pair-agrees, pair-fails}
use Rattle.json_text.proofs.ValueLaws.{array-deep, array-agrees, object-deep, object-agrees, value-shortens, pair-shortens, value-nil, pair-nil, string-agrees, null-agrees, false-agrees, true-agrees, number-agrees}
use Rattle.json_text.proofs.values.+array_element_object_value.Goals as goal
use Rattle.json_text.proofs.values.+array_element_object_value.Goals.{array-in_default-via-then-other-lt1, array-in_default-via-else-other-lt1+in_default-1, object-in_default-via-then-other-lt1, object-in_default-via-else-other-lt1+in_default-1, value-in_default-via-then-text-lt1, value-in_default-via-else-text-lt1+in_default-1}

-- an array, an object behind its first octet
array-some : (s : List ℕ) (d : ℕ) → ((d ≡ 0) → ⊥) → {p q : Pen} {t : List ℕ} {r : Answer} {v : List ℕ} → v ≡ skip_space s → ((get_or v 0 0 ≡ 93) → ⊥) → Wrote p (tag_array ∷ []) q
    → Agrees (ser_list ser) q t (several 93 (value_within (d - 1)) v) r → Agrees ser p t (value_within d (91 ∷ s)) r
array-some s d n b k w x = array-agrees s d n w (agrees-by (group-some ser 93 _ s b (value-nil _) k) x)

object-some : (s : List ℕ) (d : ℕ) → ((d ≡ 0) → ⊥) → {p q : Pen} {t : List ℕ} {r : Answer} {v : List ℕ} → v ≡ skip_space s → ((get_or v 0 0 ≡ 125) → ⊥) → Wrote p (tag_object ∷ []) q
    → Agrees (ser_list ser_pair) q t (several 125 (pair (value_within (d - 1))) v) r → Agrees ser p t (value_within d (123 ∷ s)) r
object-some s d n b k w x = object-agrees s d n w (agrees-by (group-some ser_pair 125 _ s b (pair-nil _) k) x)

pub array-returns-then-left-eq0 : goal.array-returns-then-left-eq0
array-returns-then-left-eq0 t c = too-deep (array-deep c.args.text.now _ c.if-left-eq0.true)

pub array-returns-then-peek-eq93 : goal.array-returns-then-peek-eq93
array-returns-then-peek-eq93 t c = array-agrees c.args.text.now _ c.if-left-eq0.false c.put-p.ensures (group-none ser 93 _ c.args.text.now c.past_space-rest.ensures (sym c.peek.ensures ∙ c.if-peek-eq93.true) (omega arith) c.close.ensures)

pub array-loop-behind-init : goal.array-loop-behind-init
array-loop-behind-init t c = (rw c.past_space-rest.ensures (skip-less c.args.text.now), refl, going_start)

pub array-overflow_sub-left : goal.array-overflow_sub-left
array-overflow_sub-left t c = omega (arith, c.if-left-eq0.false)

pub array-returns-in_err-behind : goal.array-returns-in_err-behind
array-returns-in_err-behind t c = let p = err_from_is_err_and c.from_residual.result c.from_residual.ensures.1 in rw (p.1, p.2) (array-some c.args.text.now _ c.if-left-eq0.false c.past_space-rest.ensures (λ h. c.if-peek-eq93.false (c.peek.ensures ∙ h)) c.put-p.ensures (element-fails ser 93 _ (value-shortens _) c.loop-behind.invariant.2 (rw c.in_err-behind.was at c.element.ensures)))

pub object-returns-then-left-eq0 : goal.object-returns-then-left-eq0
object-returns-then-left-eq0 t c = too-deep (object-deep c.args.text.now _ c.if-left-eq0.true)

pub object-returns-then-peek-eq125 : goal.object-returns-then-peek-eq125
object-returns-then-peek-eq125 t c = object-agrees c.args.text.now _ c.if-left-eq0.false c.put-p.ensures (group-none ser_pair 125 _ c.args.text.now c.past_space-rest.ensures (sym c.peek.ensures ∙ c.if-peek-eq125.true) (omega arith) c.close.ensures)

pub object-loop-next-init : goal.object-loop-next-init
object-loop-next-init t c = (rw c.past_space-rest.ensures (skip-less c.args.text.now), refl, going_start)

pub object-overflow_sub-left : goal.object-overflow_sub-left
object-overflow_sub-left t c = omega (arith, c.if-left-eq0.false)

pub object-returns-in_err-next : goal.object-returns-in_err-next
object-returns-in_err-next t c = let p = err_from_is_err_and c.from_residual.result c.from_residual.ensures.1 in rw (p.1, p.2) (object-some c.args.text.now _ c.if-left-eq0.false c.past_space-rest.ensures (λ h. c.if-peek-eq125.false (c.peek.ensures ∙ h)) c.put-p.ensures (element-fails ser_pair 125 _ (pair-shortens _) c.loop-next.invariant.2 (pair-fails _ _ (rw c.in_err-next.was at c.key.ensures))))

pub object-returns-in_err-behind : goal.object-returns-in_err-behind
object-returns-in_err-behind t c = let p = err_from_is_err_and c.from_residual-in_err-behind.result c.from_residual-in_err-behind.ensures.1 in rw (p.1, p.2) (object-some c.args.text.now _ c.if-left-eq0.false c.past_space-rest.ensures (λ h. c.if-peek-eq125.false (c.peek.ensures ∙ h)) c.put-p.ensures (element-fails ser_pair 125 _ (pair-shortens _) c.loop-next.invariant.2 (pair-agrees _ _ (was_read c.key.ensures c.in_ok-next.was) (rw c.in_err-behind.was at c.element.ensures))))

pub array-loop-behind-smaller : goal.array-loop-behind-smaller
array-loop-behind-smaller t c = let x = was_read c.element.ensures c.in_ok-behind.was in turn-less c.loop-behind.rest.now c.in_ok-behind.behind.now _ (element-less (value_within _) _ (value-shortens _) x) c.past_space-other.ensures (begins c.past_space-other.result.now 44 (omega arith) (omega arith)) c.past_space-rest-in-loop-behind.ensures

pub array-loop-behind-preserved : goal.array-loop-behind-preserved
array-loop-behind-preserved t c = let x = was_read c.element.ensures c.in_ok-behind.was in let l = turn-less c.loop-behind.rest.now c.in_ok-behind.behind.now _ (element-less (value_within _) _ (value-shortens _) x) c.past_space-other.ensures (begins c.past_space-other.result.now 44 (omega arith) (omega arith)) c.past_space-rest-in-loop-behind.ensures in
    (omega (arith, l, c.loop-behind.invariant.0), omega arith, element-more ser 93 _ (value-shortens _) c.loop-behind.invariant.2 x c.past_space-other.ensures (begins c.past_space-other.result.now 44 (omega arith) (omega arith)) c.past_space-rest-in-loop-behind.ensures)

pub array-returns-in_default : goal.array-returns-in_default
array-returns-in_default t c = array-some c.args.text.now _ c.if-left-eq0.false c.past_space-rest.ensures (λ h. c.if-peek-eq93.false (c.peek.ensures ∙ h)) c.put-p.ensures (element-close ser 93 _ (value-shortens _) c.loop-behind.invariant.2 (was_read c.element.ensures c.in_ok-behind.was) c.past_space-other.ensures (λ h. elim c.in_default.branch [ array-in_default-via-then-other-lt1 w ↦ grind (arith, inside_is c.past_space-other.result.now 0 44 h (omega arith), w) | array-in_default-via-else-other-lt1+in_default-1 w ↦ grind (arith, h, w) ]) c.close-in_default.ensures)

pub object-element-requires : goal.object-element-requires
object-element-requires t c = let x = was_read c.key.ensures c.in_ok-next.was in (omega (arith, key-less _ x.is, c.loop-next.invariant.0), tt)

pub object-loop-next-smaller : goal.object-loop-next-smaller
object-loop-next-smaller t c = let x = was_read (pair-agrees (value_within (c.args.left - 1)) c.loop-next.rest.now (was_read c.key.ensures c.in_ok-next.was) c.element.ensures) c.in_ok-behind.was in turn-less c.loop-next.rest.now c.in_ok-behind.behind.now _ (element-less (pair (value_within _)) _ (pair-shortens _) x) c.past_space-other.ensures (begins c.past_space-other.result.now 44 (omega arith) (omega arith)) c.past_space-rest-in-loop-next.ensures

pub object-loop-next-preserved : goal.object-loop-next-preserved
object-loop-next-preserved t c = let x = was_read (pair-agrees (value_within (c.args.left - 1)) c.loop-next.rest.now (was_read c.key.ensures c.in_ok-next.was) c.element.ensures) c.in_ok-behind.was in let l = turn-less c.loop-next.rest.now c.in_ok-behind.behind.now _ (element-less (pair (value_within _)) _ (pair-shortens _) x) c.past_space-other.ensures (begins c.past_space-other.result.now 44 (omega arith) (omega arith)) c.past_space-rest-in-loop-next.ensures in
    (omega (arith, l, c.loop-next.invariant.0), omega arith, element-more ser_pair 125 _ (pair-shortens _) c.loop-next.invariant.2 x c.past_space-other.ensures (begins c.past_space-other.result.now 44 (omega arith) (omega arith)) c.past_space-rest-in-loop-next.ensures)

pub object-returns-in_default : goal.object-returns-in_default
object-returns-in_default t c = object-some c.args.text.now _ c.if-left-eq0.false c.past_space-rest.ensures (λ h. c.if-peek-eq125.false (c.peek.ensures ∙ h)) c.put-p.ensures (element-close ser_pair 125 _ (pair-shortens _) c.loop-next.invariant.2 (was_read (pair-agrees (value_within (c.args.left - 1)) c.loop-next.rest.now (was_read c.key.ensures c.in_ok-next.was) c.element.ensures) c.in_ok-behind.was) c.past_space-other.ensures (λ h. elim c.in_default.branch [ object-in_default-via-then-other-lt1 w ↦ grind (arith, inside_is c.past_space-other.result.now 0 44 h (omega arith), w) | object-in_default-via-else-other-lt1+in_default-1 w ↦ grind (arith, h, w) ]) c.close-in_default.ensures)

pub element-returns-in-34 : goal.element-returns-in-34
element-returns-in-34 t c = string-agrees _ (begins c.args.text.now 34 (omega arith) (omega arith)) c.string.ensures

pub value-returns-in-34 : goal.value-returns-in-34
value-returns-in-34 t c = string-agrees _ (begins c.args.text.now 34 (omega arith) (omega arith)) c.string.ensures

pub value-returns-in-110 : goal.value-returns-in-110
value-returns-in-110 t c = null-agrees _ (begins c.args.text.now 110 (omega arith) (omega arith)) c.literal.ensures

pub value-returns-in-102 : goal.value-returns-in-102
value-returns-in-102 t c = false-agrees _ (begins c.args.text.now 102 (omega arith) (omega arith)) c.literal-in-102.ensures

pub value-returns-in-116 : goal.value-returns-in-116
value-returns-in-116 t c = true-agrees _ (begins c.args.text.now 116 (omega arith) (omega arith)) c.literal-in-116.ensures

pub value-returns-in_default : goal.value-returns-in_default
value-returns-in_default t c = number-agrees c.args.text.now _ (λ h. elim c.in_default.branch [ value-in_default-via-then-text-lt1 w ↦ grind (arith, inside_is c.args.text.now 0 91 h (omega arith), w) | value-in_default-via-else-text-lt1+in_default-1 w ↦ grind (arith, h, w) ]) (λ h. elim c.in_default.branch [ value-in_default-via-then-text-lt1 w ↦ grind (arith, inside_is c.args.text.now 0 123 h (omega arith), w) | value-in_default-via-else-text-lt1+in_default-1 w ↦ grind (arith, h, w) ]) (λ h. elim c.in_default.branch [ value-in_default-via-then-text-lt1 w ↦ grind (arith, inside_is c.args.text.now 0 34 h (omega arith), w) | value-in_default-via-else-text-lt1+in_default-1 w ↦ grind (arith, h, w) ]) (λ h. elim c.in_default.branch [ value-in_default-via-then-text-lt1 w ↦ grind (arith, inside_is c.args.text.now 0 110 h (omega arith), w) | value-in_default-via-else-text-lt1+in_default-1 w ↦ grind (arith, h, w) ]) (λ h. elim c.in_default.branch [ value-in_default-via-then-text-lt1 w ↦ grind (arith, inside_is c.args.text.now 0 102 h (omega arith), w) | value-in_default-via-else-text-lt1+in_default-1 w ↦ grind (arith, h, w) ]) (λ h. elim c.in_default.branch [ value-in_default-via-then-text-lt1 w ↦ grind (arith, inside_is c.args.text.now 0 116 h (omega arith), w) | value-in_default-via-else-text-lt1+in_default-1 w ↦ grind (arith, h, w) ]) c.number.ensures
