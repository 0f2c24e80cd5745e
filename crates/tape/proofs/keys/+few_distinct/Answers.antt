-- `tape::keys::few_distinct` meets its contract: the keys behind the first are tested before it. The measure is the number of keys to compare.
use Prim.Native.Nat.{ℕ}
use mathlib.Core.Path.{sym, ap, ◌∙◌}
use mathlib.Core.Bool.{not}
use native.Mathlib.Omega.{arith}
use Rattle.tape.proofs.Scans.{Keyed, distinct-end, key-new, keys-twice}
use Rattle.tape.proofs.keys.few_distinct.Reads as few-distinct
use Rattle.tape.proofs.keys.+few_distinct.Lts-few_distinct as few-distinct-lts
use Rattle.tape.proofs.keys.has_key.Reads as has-key-reads
use Rattle.tape.proofs.keys.many_distinct.Reads as many-distinct-reads
use Rattle.tape.proofs.walking.behind.Reads as behind-reads
use Rattle.tape.proofs.walking.tag.Reads as tag-reads
use Rattle.tape.proofs.walking.text_at.Reads as text-at-reads
use Rattle.tape.proofs.keys.+few_distinct.Goals as goal

-- what its calls ask and promise
abbrev claims : ℕ → few-distinct-lts.Claims
claims t =
    (tag-reads.Asked, tag-reads.Learnt, many-distinct-reads.Asked, many-distinct-reads.Learnt, text-at-reads.Asked, text-at-reads.Learnt, behind-reads.Asked, behind-reads.Learnt, goal.few_distinct-below t, few-distinct.Post, has-key-reads.Asked, has-key-reads.Learnt)

-- the member at `at`
keyed :
    (t : ℕ) (c : few-distinct-lts.After-behind (claims t) (goal.few_distinct-at t) few-distinct.Post (goal.the-clauses-few_distinct t)) →
    let b = c.args in
    Keyed b.t.now b.at c.text_at-k.result c.behind-e.result
keyed t c = record { some = λ z. c.if-tag.false (c.tag.ensures ∙ z); key = c.text_at-k.ensures; next = c.behind-e.ensures }

pub returns-then-tag : goal.returns-then-tag
returns-then-tag t c = sym (distinct-end _ _ (sym c.tag.ensures ∙ c.if-tag.true))

pub returns-then-few-eq0 : goal.returns-then-few-eq0
returns-then-few-eq0 t c = c.many_distinct.ensures

pub few_distinct-requires : goal.few_distinct-requires
few_distinct-requires t c = (omega arith, tt)

pub returns-then-few_distinct : goal.returns-then-few_distinct
returns-then-few_distinct t c = ap not c.has_key.ensures ∙ sym (key-new (keyed t c.before.before.before.before.before.before) (sym c.few_distinct.ensures ∙ c.if-few_distinct.true))

pub returns-else-few_distinct : goal.returns-else-few_distinct
returns-else-few_distinct t c = c.if-few_distinct.false ∙ sym (keys-twice (keyed t c.before.before.before) (sym c.few_distinct.ensures ∙ c.if-few_distinct.false))
