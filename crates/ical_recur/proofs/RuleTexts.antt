-- A recurrence object as a rule: its text in lent memory, what the recurrence reader says of it, and its normal form.
use Prim.Native.Nat.{ℕ, ◌-◌, ◌≤◌}
use mathlib.Core.Path.{◌≡◌, ◌∙◌}
use mathlib.Core.Bool.{true, false}
use mathlib.Core.List.{List}
use native.Mathlib.Omega.{arith}
use lib.ListN.{length, take, drop}
use Rattle.octets.specs.Optional.{is_some, holds, given}
use Rattle.octets.specs.Classes.{upper}
use Rattle.octets.specs.Pen.{pen, Wrote}
use Rattle.octets.proofs.Optional.{some_is}
use Rattle.octets.proofs.Pen.{Landed, landed, kept}
use Rattle.octets.proofs.Positions.{upto}
use Rattle.calendar.specs.Recurrence.{parts_of}
use Rattle.calendar.specs.Walk.{rule_shown}
use Rattle.calendar.proofs.WrittenItems.{rule-shown}
use Rattle.json_text.specs.Tape.{tag_object}
use Rattle.tape.specs.Decode.{tag_at, value_at, members_at}
use Rattle.tape.specs.Promise.{After}
use Rattle.tape.proofs.Values.{no-object}
use Rattle.tape.proofs.Walks.{object-some}
use Rattle.values.specs.Sorts.{recur}
use Rattle.values.specs.Recur.{kinds_are, rule_parts, recur_is, recur_text}
use Rattle.values.specs.Write.{value_is, value_text}
use Rattle.ical_recur.specs.Wording.{object_text}
use Rattle.ical_recur.proofs.ObjectLengths.{object-length}

-- where there is no object
module _ (t : List ℕ) (at : ℕ) (n : (tag_at t at ≡ tag_object) → ⊥) where
  pub no-object-rule : value_is recur (value_at t at) ≡ false
  unfolding value_is holds
  no-object-rule = rw (no-object t at n)

-- the members of an object
module _ {t : List ℕ} {at i : ℕ} (o : tag_at t at ≡ tag_object) (x : After t at i) where
  is-rule : value_is recur (value_at t at) ≡ recur_is (members_at t i)
  unfolding value_is holds
  is-rule = rw (object-some x o)

  text_of : value_text recur (value_at t at) ≡ recur_text (members_at t i)
  unfolding value_text given
  text_of = rw (object-some x o)

  pub other-members : kinds_are (members_at t i) ≡ false → value_is recur (value_at t at) ≡ false
  unfolding recur_is
  other-members k = rw (is-rule, k)

  -- its text is laid into lent memory
  module _ {text later : List ℕ} {n : ℕ} (h : length t ≤ length text) (w : Wrote (pen text 0) (object_text (members_at t i)) (pen later n)) where
    land : Landed text (object_text (members_at t i)) later n
    land = landed text (object_text (members_at t i)) later n (omega (arith, object-length t i)) w

    pub laid-within : n ≤ length later
    laid-within = omega (arith, land.count, object-length t i, kept w)

    laid : take (n - 0) (drop 0 later) ≡ object_text (members_at t i)
    laid = upto later n ∙ land.front

    parts : rule_parts (members_at t i) ≡ parts_of (upper (take (n - 0) (drop 0 later)))
    unfolding rule_parts
    parts = rw laid

    pub rule-stands : kinds_are (members_at t i) ≡ true → value_is recur (value_at t at) ≡ is_some (parts_of (upper (take (n - 0) (drop 0 later))))
    unfolding recur_is
    rule-stands k = rw (is-rule, k, parts)

    -- it is a rule, and this is its normal form
    pub normal-text : is_some (parts_of (upper (take (n - 0) (drop 0 later)))) ≡ true → rule_shown (take (n - 0) (drop 0 later)) ≡ value_text recur (value_at t at)
    unfolding recur_text given
    normal-text e = some_is (parts_of (upper (take (n - 0) (drop 0 later)))) e (λ ps q. rw (text_of, parts, q) (rule-shown (take (n - 0) (drop 0 later)) ps q))
