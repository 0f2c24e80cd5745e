-- What the walks over a tape promise of the places that they answer.
use Rattle.std.specs.Prelude.{ℕ, ◌+◌, ◌-◌, ◌≤◌, ◌<◌, ◌≡◌, List, length, take, drop}
use Rattle.json_text.specs.Tree.{octets_of}
use Rattle.json_text.specs.Tape.{tag_array, tag_object, tag_end}
use Rattle.tape.specs.Decode.{pop, skip_value, view, tag_at, value_at}
use Rattle.tape.specs.declared.Text.{Text}

-- e is one octet behind i, or the end of the tape
pub record After (t : List ℕ) (i e : ℕ) : Type 0 where
  pub is : view t e ≡ view t (i + 1)
  pub low : i ≤ length t → i ≤ e
  pub more : i < length t → e ≡ i + 1
  pub high : e ≤ length t

-- a value that is no array and no object stands at i
pub record Leaf (t : List ℕ) (i : ℕ) : Type 0 where
  pub inside : i < length t
  pub no_end : (tag_at t i ≡ tag_end) → ⊥
  pub no-array : (tag_at t i ≡ tag_array) → ⊥
  pub no-object : (tag_at t i ≡ tag_object) → ⊥

-- e is behind the value at i; where a group ends at i, it stays
pub record Next (t : List ℕ) (i e : ℕ) : Type 0 where
  pub is : view t e ≡ skip_value (view t i)
  pub low : i ≤ length t → i ≤ e
  pub more : ((tag_at t i ≡ tag_end) → ⊥) → i < e
  pub high : e ≤ length t

-- e is behind the end of the group that i stands in
pub record Left (t : List ℕ) (i e : ℕ) : Type 0 where
  pub is : view t e ≡ pop (view t i)
  pub low : i ≤ length t → i ≤ e
  pub high : e ≤ length t

-- the octets of the number or string at i, and the place behind it
pub record TextAt (t : List ℕ) (i : ℕ) (r : Text) : Type 0 where
  pub part : take (r.to - r.from) (drop r.from t) ≡ octets_of (value_at t i)
  pub order : r.from ≤ r.to
  pub within : r.to ≤ length t
  pub behind : Next t i r.next
