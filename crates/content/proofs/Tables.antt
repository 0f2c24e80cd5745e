-- Parameter names found again by a table of slots.
use Prim.Native.Nat.{ℕ, ◌+◌, ◌-◌, ◌≤◌, ◌<◌}
use Prim.Native.Char.{code}
use mathlib.Core.Path.{◌≡◌}
use mathlib.Core.Bool.{true, false}
use mathlib.Core.List.{List, ◌∷◌, map}
use lib.ListN.{length, take, drop}
use Rattle.octets.specs.Basics.{among}
use Rattle.octets.specs.Classes.{lower}
use Rattle.octets.specs.Groups.{cased}
use Rattle.octets.specs.Slots.{Blank, name_in, Enters, slot_between}
use Rattle.octets.specs.declared.names.Case.TheVariants.{Lower}
use Rattle.octets.specs.declared.tables.Entering.{Entering}
use Rattle.octets.specs.declared.tables.Entering.TheVariants.{Seen, Stored, Full}
use Rattle.octets.proofs.Positions.{from}
use Rattle.octets.proofs.Slots.{Noting, noting-start, noting-end, noting-twice, noting-seen, noting-full, noting-stored}
use Rattle.content.specs.Line.{name_of}
use Rattle.content.specs.Scan.{until_bare}
use Rattle.content.specs.Parts.{params_in, param_at, CutParam}
use Rattle.content.specs.Parameters.{name_twice}
use Rattle.content.specs.declared.parts.ParamParts.{ParamParts}
use Rattle.content.proofs.Separators.{one_of}
use Rattle.content.proofs.ParamPlaces.{Stands, first-stands, first-params, no-params, param-here, param-next}

-- the names of the parameters from e on
abbrev names : List ℕ → ℕ → List (List ℕ)
names s e = map name_of (params_in (drop e s))

-- a walk over the parameters, at e: the names up to e are in the table, and differ
pub record Walk (s table : List ℕ) (e : ℕ) : Type 0 where
  pub stands : Stands s e
  pub noting : Noting (name_in Lower s) table (map name_of (params_in s)) (names s e)

pub walk_start : (s table : List ℕ) (e : ℕ) → Blank table → e ≡ 0 + length (until_bare (one_of (code ";") (code ";")) false (drop 0 s)) → Walk s table e
walk_start s table e b q = record { stands = first-stands s 0 e q; noting = rw (first-params s 0 e q) (noting-start b) }

module _ {s table : List ℕ} {e : ℕ} (w : Walk s table e) where
  pub walk_end : length s ≤ e → name_twice (params_in s) ≡ false
  unfolding name_twice
  walk_end h = noting-end (rw (no-params s e h) at w.noting)

  module _ (h : e < length s) {p : ParamParts} (k : CutParam s (e + 1) p) where
    -- the name behind the semicolon at e
    abbrev next : List ℕ
    next = lower (take (p.name - (e + 1)) (drop (e + 1) s))

    at_name : Noting (name_in Lower s) table (map name_of (params_in s)) (next ∷ names s p.end)
    unfolding param_at
    at_name = rw (param-here s e w.stands h p k) at w.noting

    pub walk-twice : among next (map name_of (params_in (take (length s - p.end) (drop p.end s)))) ≡ true → name_twice (params_in s) ≡ true
    unfolding name_twice
    walk-twice t = noting-twice at_name (rw (from s p.end) at t)

    -- what became of the name that is entered
    abbrev Entered : List ℕ → Entering → Type 0
    Entered new r = Enters (name_in Lower s) (map (cased Lower) (take (p.name - (e + 1)) (drop (e + 1) s))) (slot_between s (e + 1) p.name) table new r

    module _ {new : List ℕ} where
      pub walk-seen : Entered new Seen → name_twice (params_in s) ≡ true
      unfolding name_twice lower
      walk-seen i = noting-seen at_name i.1

      pub walk-full : Entered new Full → among next (map name_of (params_in (take (length s - p.end) (drop p.end s)))) ≡ false → Walk s new p.end
      unfolding lower
      walk-full i t = record { stands = param-next s (e + 1) p k; noting = noting-full at_name i (rw (from s p.end) at t) }

      pub walk-stored : Entered new Stored → Walk s new p.end
      unfolding lower
      walk-stored i = record { stands = param-next s (e + 1) p k; noting = noting-stored at_name i }
