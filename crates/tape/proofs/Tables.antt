-- Keys found again by a table of slots.
use Prim.Native.Nat.{ℕ}
use mathlib.Core.Path.{◌≡◌, refl, sym, ◌∙◌}
use mathlib.Core.Bool.{Bool, true, false, not}
use mathlib.Core.List.{List, [], ◌∷◌, map}
use Rattle.octets.specs.Basics.{◌and◌, ◌or◌, any, among, twice}
use Rattle.octets.specs.Groups.{cased}
use Rattle.octets.specs.Slots.{Blank, name_in, Enters, slot_between}
use Rattle.octets.specs.declared.names.Case.TheVariants.{Exact}
use Rattle.octets.specs.declared.tables.Entering.{Entering}
use Rattle.octets.specs.declared.tables.Entering.TheVariants.{Seen, Stored, Full}
use Rattle.octets.proofs.Classes.{exact}
use Rattle.octets.proofs.Slots.{Noting, noting-start, noting-end, noting-twice, noting-seen, noting-full, noting-stored}
use Rattle.json_text.specs.Tree.{Members, no_members, member}
use Rattle.json_text.specs.Tape.{tag_end}
use Rattle.tape.specs.Sound.{has_key, distinct_keys}
use Rattle.tape.specs.Decode.{tag_at, members_at}
use Rattle.tape.specs.declared.Text.{Text}
use Rattle.tape.proofs.Values.{members-end}
use Rattle.tape.proofs.Scans.{Keyed, part, members-on}

-- the keys of members, as names
abbrev pub keys_in : Members → List (List ℕ)
keys_in no_members = []
keys_in (member k j ms) = k ∷ keys_in ms

key-among : (k : List ℕ) (ms : Members) → has_key k ms ≡ among k (keys_in ms)
unfolding has_key among any
key-among k no_members = refl
key-among k (member l j ms) = rw (key-among k ms)

neither-of : (a b : Bool) → (not a and not b) ≡ not (a or b)
neither-of true b = refl
neither-of false b = refl

key_twice : (ms : Members) → distinct_keys ms ≡ not (twice (keys_in ms))
unfolding distinct_keys twice
key_twice no_members = refl
key_twice (member k j ms) = rw (key-among k ms, key_twice ms) (neither-of (among k (keys_in ms)) (twice (keys_in ms)))

-- The keys up to i are in the table, and differ: what is left tells whether all keys from a on do.
pub record Telling (t table : List ℕ) (a i : ℕ) : Type 0 where
  pub is : Noting (name_in Exact t) table (keys_in (members_at t a)) (keys_in (members_at t i))

pub telling-start : {t table : List ℕ} {a : ℕ} → Blank table → Telling t table a a
telling-start b = record { is = noting-start b }

module _ {t table : List ℕ} {a i : ℕ} (g : Telling t table a i) where
  pub telling-end : tag_at t i ≡ tag_end → distinct_keys (members_at t a) ≡ true
  telling-end z = let n : twice (keys_in (members_at t a)) ≡ false = noting-end (rw (members-end t i z) at g.is) in key_twice (members_at t a) ∙ rw n

  module _ {e : ℕ} {r : Text} (m : Keyed t i r e) where
    at_key : Noting (name_in Exact t) table (keys_in (members_at t a)) (part t r ∷ keys_in (members_at t e))
    at_key = rw (members-on m) at g.is

    repeated : twice (keys_in (members_at t a)) ≡ true → distinct_keys (members_at t a) ≡ false
    repeated n = key_twice (members_at t a) ∙ rw n

    pub telling-twice : has_key (part t r) (members_at t e) ≡ true → distinct_keys (members_at t a) ≡ false
    telling-twice h = repeated (noting-twice at_key (sym (key-among (part t r) (members_at t e)) ∙ h))

    -- what became of the key that is entered
    abbrev Entered : List ℕ → Entering → Type 0
    Entered new s = Enters (name_in Exact t) (map (cased Exact) (part t r)) (slot_between t r.from r.to) table new s

    module _ {new : List ℕ} where
      pub telling-seen : Entered new Seen → distinct_keys (members_at t a) ≡ false
      telling-seen s = let z = rw (exact (part t r)) at s in repeated (noting-seen at_key z.1)

      pub telling-full : Entered new Full → has_key (part t r) (members_at t e) ≡ false → Telling t new a e
      telling-full s h = record { is = noting-full at_key (rw (exact (part t r)) at s) (sym (key-among (part t r) (members_at t e)) ∙ h) }

      pub telling-stored : Entered new Stored → Telling t new a e
      telling-stored s = record { is = noting-stored at_key (rw (exact (part t r)) at s) }
