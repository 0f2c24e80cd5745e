-- The test `sound` as one scan along the octets of a tape: at each string its octets, at each object its keys.
use Rattle.std.specs.Prelude.{ℕ, ◌+◌, ◌≤◌, ◌<◌, ◌≡◌, Bool, true, false, not, List, [], ◌∷◌, eqb, length, drop, Some, None}
use Rattle.octets.specs.Basics.{pick, ◌and◌, ◌or◌}
use Rattle.json_text.specs.Tape.{tag_string, tag_object}
use Rattle.tape.specs.Sound.{has_lone, distinct_keys}
use Rattle.tape.specs.Decode.{top, paired, text_at_front, in_text, groups, text_at}
use Rattle.tape.specs.Promise.{After}
use Rattle.std.specs.declared.option.Option as code

-- the test at the octet b with s behind it; within a text there is none
abbrev pub sound_here : Bool → ℕ → List ℕ → Bool
sound_here true b s = true
sound_here false b s =
    pick (eqb b tag_string) (not (has_lone 0 (text_at_front s)))
    (pick (eqb b tag_object) (distinct_keys (paired (top (groups false s)))) true)

unfoldable pub sound_along : Bool → List ℕ → Bool
sound_along m [] = true
sound_along m (b ∷ s) = sound_here m b s and sound_along (in_text m b) s

-- from a place on, and along a whole tape
unfoldable pub sound_from : List ℕ → ℕ → Bool
sound_from t i = sound_along false (drop i t)

unfoldable pub sound_tape : List ℕ → Bool
sound_tape t = sound_along false t

-- e is behind the string whose text stands at i, or a lone surrogate stands in it
abbrev pub PastString : List ℕ → ℕ → code.Option ℕ → Type 0
PastString t i (Some e) = (has_lone 0 (text_at t i) ≡ false) × After t (i + length (text_at t i)) e
PastString t i None = has_lone 0 (text_at t i) ≡ true

-- the scan from i on is that from e on, or something at i is not sound
abbrev pub Scans : List ℕ → ℕ → code.Option ℕ → Type 0
Scans t i (Some e) = (sound_from t i ≡ sound_from t e) × (i < e) × (e ≤ length t)
Scans t i None = sound_from t i ≡ false

-- behind every octet that may be an object's tag, in a text or not, the keys are all different
unfoldable pub keys_along : List ℕ → Bool
keys_along [] = true
keys_along (b ∷ s) = (not (eqb b tag_object) or distinct_keys (paired (top (groups false s)))) and keys_along s

unfoldable pub keys_from : List ℕ → ℕ → Bool
keys_from t i = keys_along (drop i t)
