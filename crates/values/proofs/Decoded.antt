-- Decoding base64 at positions: a turn of the loop, what is left behind it, and the whole value.
use Prim.Native.Nat.{ℕ, ◌+◌, ◌-◌, ◌%◌, ◌≤◌, ◌<◌}
use mathlib.Core.Path.{◌≡◌, refl, ap, ◌∙◌}
use mathlib.Core.Bool.{Bool, true, false}
use mathlib.Core.List.{List, [], ◌∷◌, ◌++◌, append-nil}
use mathlib.Core.Option.{Option, none, some}
use native.Mathlib.Numerals.{add-one}
use native.Mathlib.Omega.{arith}
use borrow.Author.Tests.{eq-eqb, ne_eqb}
use lib.Dec.{eqb}
use lib.ListN.{length, get_or, take, drop, set, length-set}
use lib.Seq.{length-take-le, take-suc-set}
use Rattle.octets.specs.Basics.{all}
use Rattle.octets.specs.Optional.{is_some, when, guard}
use Rattle.octets.specs.Utf8.{clean}
use Rattle.octets.proofs.Cases.{cases}
use Rattle.octets.proofs.Optional.{none_is}
use Rattle.octets.proofs.Positions.{here, ended}
use Rattle.values.specs.Simple.{base64_octet, unpadded, binary_is}
use Rattle.values.specs.Base64.{groups_decoded, base64_of, text_sent}
use Rattle.values.specs.Decoding.{DecodedAs, decoded_behind, entry}
use Rattle.std.specs.Prelude.{Some, None}
use Rattle.std.specs.declared.option.Option as code
use Rattle.values.proofs.Sextets.{entry-small, small-entry, first, second, third, no-two, no_third, no-group, two-decoded, three-decoded, four-decoded}

-- octets are stored behind the decoded ones
module _ (o : List ℕ) (to x : ℕ) where
  laid : to < length o → take (to + 1) (set o to x) ≡ take to o ++ x ∷ []
  laid h = rw add-one (take-suc-set o to x h)

  laid-two : (y : ℕ) → to + 1 < length o → take (to + 2) (set (set o to x) (to + 1) y) ≡ take to o ++ x ∷ [] ++ y ∷ []
  laid-two y h =
      let e : to + 2 ≡ to + 1 + 1 = omega arith in
      let l : to + 1 < length (set o to x) = rw length-set h in
      let k : to < length o = omega arith in
      rw (e, add-one (to + 1), take-suc-set (set o to x) (to + 1) y l, laid k)

  laid-three : (y z : ℕ) → to + 2 < length o → take (to + 3) (set (set (set o to x) (to + 1) y) (to + 2) z) ≡ take to o ++ x ∷ [] ++ y ∷ [] ++ z ∷ []
  laid-three y z h =
      let e : to + 3 ≡ to + 2 + 1 = omega arith in
      let l : to + 2 < length (set (set o to x) (to + 1) y) = rw (length-set, length-set) h in
      let k : to + 1 < length o = omega arith in
      rw (e, add-one (to + 2), take-suc-set (set (set o to x) (to + 1) y) (to + 2) z l, laid-two y k)

-- an answer that there is nothing, and one for what is the same
pub absent : {o : Option (List ℕ)} → o ≡ none → is_some o ≡ false
unfolding is_some
absent e = rw e

pub decoded-same : {o p : Option (List ℕ)} (room : Bool) (out : List ℕ) (r : code.Option ℕ) → o ≡ p → DecodedAs room p out r → DecodedAs room o out r
decoded-same room out r e h = rw e h

-- four octets from i on
four-at : (s : List ℕ) (i : ℕ) → i + 4 ≤ length s → drop i s ≡ get_or s i 0 ∷ get_or s (i + 1) 0 ∷ get_or s (i + 2) 0 ∷ get_or s (i + 3) 0 ∷ drop (i + 4) s
four-at s i h =
    let e : i + 1 + 1 ≡ i + 2 = omega arith in
    let f : i + 2 + 1 ≡ i + 3 = omega arith in
    let g : i + 3 + 1 ≡ i + 4 = omega arith in
    rw (here s i (omega arith), here s (i + 1) (omega arith), e, here s (i + 2) (omega arith), f, here s (i + 3) (omega arith), g)

-- a turn of the loop: the entries of four octets are looked up
pub record Looked (s : List ℕ) (i a b c d : ℕ) : Type 0 where
  pub room : i + 4 ≤ length s
  pub one : a ≡ entry (get_or s i 0)
  pub two : b ≡ entry (get_or s (i + 1) 0)
  pub three : c ≡ entry (get_or s (i + 2) 0)
  pub four : d ≡ entry (get_or s (i + 3) 0)

module _ {s : List ℕ} {i a b c d : ℕ} (k : Looked s i a b c d) where
  pub group-stop : (done : List ℕ) → 252 < a + b + c + d → decoded_behind done (drop i s) ≡ none
  group-stop done l = rw (four-at s i k.room) (no-group done (get_or s i 0) (get_or s (i + 1) 0) (get_or s (i + 2) 0) (get_or s (i + 3) 0) (drop (i + 4) s) (omega arith))

  module _ (l : a + b + c + d ≤ 252) where
    in-alphabet : (base64_octet (get_or s i 0) ≡ true) × (base64_octet (get_or s (i + 1) 0) ≡ true) × (base64_octet (get_or s (i + 2) 0) ≡ true) × (base64_octet (get_or s (i + 3) 0) ≡ true)
    in-alphabet = (small-entry (get_or s i 0) (omega arith), small-entry (get_or s (i + 1) 0) (omega arith), small-entry (get_or s (i + 2) 0) (omega arith), small-entry (get_or s (i + 3) 0) (omega arith))

    pub group-small : (a ≤ 63) × (b ≤ 63) × (c ≤ 63) × (d ≤ 63)
    group-small = (
      omega (arith, entry-small (get_or s i 0) in-alphabet.0),
      omega (arith, entry-small (get_or s (i + 1) 0) in-alphabet.1),
      omega (arith, entry-small (get_or s (i + 2) 0) in-alphabet.2),
      omega (arith, entry-small (get_or s (i + 3) 0) in-alphabet.3),
    )

    pub group-on : (o : List ℕ) (to : ℕ) → to + 2 < length o
        → decoded_behind (take to o) (drop i s) ≡ decoded_behind (take (to + 3) (set (set (set o to (first a b)) (to + 1) (second b c)) (to + 2) (third c d))) (drop (i + 4) s)
    group-on o to h =
        rw (laid-three o to (first a b) (second b c) (third c d) h, four-at s i k.room, k.one, k.two, k.three, k.four)
        (four-decoded (take to o) (get_or s i 0) (get_or s (i + 1) 0) in-alphabet.0 in-alphabet.1 (get_or s (i + 2) 0) in-alphabet.2 (get_or s (i + 3) 0) in-alphabet.3 (drop (i + 4) s))

-- what is left behind the whole groups: nothing, or two or three octets
pub rest-none : (done s : List ℕ) → length s ≡ 0 → decoded_behind done s ≡ some done
unfolding decoded_behind when all groups_decoded
rest-none done s h = let e : s ≡ [] = ended s 0 (omega arith) in rw (e, append-nil)

-- two octets, and a third
two_at : (s : List ℕ) → 2 ≤ length s → s ≡ get_or s 0 0 ∷ get_or s 1 0 ∷ drop 2 s
two_at [] h = absurd (omega arith)
two_at (a ∷ []) h = absurd (omega arith)
two_at (a ∷ b ∷ s) h = refl

module _ (s : List ℕ) (a b : ℕ) (ea : a ≡ entry (get_or s 0 0)) (eb : b ≡ entry (get_or s 1 0)) where
  pub rest-stop : (done : List ℕ) → 2 ≤ length s → 126 < a + b → decoded_behind done s ≡ none
  rest-stop done h l = ap (decoded_behind done) (two_at s h) ∙ no-two done (get_or s 0 0) (get_or s 1 0) (drop 2 s) (omega arith)

  module _ (l : a + b ≤ 126) where
    pub rest-small : (a ≤ 63) × (b ≤ 63)
    rest-small = (
      omega (arith, entry-small (get_or s 0 0) (small-entry (get_or s 0 0) (omega arith))),
      omega (arith, entry-small (get_or s 1 0) (small-entry (get_or s 1 0) (omega arith))),
    )

    pub rest-two : (o : List ℕ) (to : ℕ) → to < length o → length s ≡ 2 → decoded_behind (take to o) s ≡ some (take (to + 1) (set o to (first a b)))
    rest-two o to k h =
        let e : drop 2 s ≡ [] = ended s 2 (omega arith) in
        ap (decoded_behind (take to o)) (two_at s (omega arith)) ∙ rw (e, laid o to (first a b) k, ea, eb) (two-decoded (take to o) (get_or s 0 0) (get_or s 1 0) (small-entry (get_or s 0 0) (omega arith)) (small-entry (get_or s 1 0) (omega arith)))

    module _ (c : ℕ) (ec : c ≡ entry (get_or s 2 0)) (h : length s ≡ 3) where
      three-at : s ≡ get_or s 0 0 ∷ get_or s 1 0 ∷ get_or s 2 0 ∷ []
      three-at = let e : drop 3 s ≡ [] = ended s 3 (omega arith) in two_at s (omega arith) ∙ rw (here s 2 (omega arith), e)

      pub third-stop : (done : List ℕ) → 63 < c → decoded_behind done s ≡ none
      third-stop done k = ap (decoded_behind done) three-at ∙ no_third done (get_or s 0 0) (get_or s 1 0) (get_or s 2 0) [] (omega arith)

      pub rest-three : (o : List ℕ) (to : ℕ) → to + 1 < length o → c ≤ 63 → decoded_behind (take to o) s ≡ some (take (to + 2) (set (set o to (first a b)) (to + 1) (second b c)))
      rest-three o to k m =
          ap (decoded_behind (take to o)) three-at
          ∙ rw (laid-two o to (first a b) (second b c) k, ea, eb, ec)
          (three-decoded (take to o) (get_or s 0 0) (get_or s 1 0) (small-entry (get_or s 0 0) (omega arith)) (small-entry (get_or s 1 0) (omega arith)) (get_or s 2 0) (small-entry (get_or s 2 0) (omega arith)))

-- binary's own rule: at most one octet is taken off the end, twice
unpadded-length : (s : List ℕ) → (length (unpadded s) ≤ length s) × (length s ≤ length (unpadded s) + 1)
unfolding unpadded
unpadded-length s = cases (eqb (get_or s (length s - 1) 0) 61)
    (λ e. rw (e, length-take-le (length s - 1) s (omega arith)) (omega arith, omega arith))
    (λ e. rw e (omega arith, omega arith))

module _ (s : List ℕ) where
  pub no-binary : (length s % 4 ≡ 0 → ⊥) → base64_of s ≡ none
  unfolding base64_of binary_is when
  no-binary h = rw (ne_eqb _ _ h)

  module _ (t : List ℕ) (f : t ≡ unpadded (unpadded s)) (h : length s % 4 ≡ 0) where
    pub not-one : length t % 4 ≡ 1 → ⊥
    not-one k = omega (arith, ap length f, unpadded-length s, unpadded-length (unpadded s))

    pub no_longer : length t ≤ length s
    no_longer = omega (arith, ap length f, unpadded-length s, unpadded-length (unpadded s))

    pub binary : base64_of s ≡ decoded_behind [] t
    unfolding base64_of binary_is decoded_behind
    binary = rw (eq-eqb _ _ h, f)

-- what an answer tells
module _ (room : Bool) (o : Option (List ℕ)) (out : List ℕ) (r : code.Option ℕ) (h : DecodedAs room o out r) where
  pub told-some : (n : ℕ) → r ≡ Some n → (n ≤ length out) × (o ≡ some (take n out))
  told-some n e = let k = rw e at h in k.1

  pub told-none : room ≡ true → r ≡ None → o ≡ none
  told-none q e = let k = rw e at h in none_is o (rw q at k)

-- the whole value
module _ (s : List ℕ) where
  pub sent-none : base64_of s ≡ none → text_sent true s ≡ none
  unfolding text_sent guard
  sent-none e = rw e

  module _ {t : List ℕ} (e : base64_of s ≡ some t) where
    pub sent : clean t ≡ true → text_sent true s ≡ some t
    unfolding text_sent guard when
    sent h = rw (e, h)

    pub sent-unclean : clean t ≡ false → text_sent true s ≡ none
    unfolding text_sent guard when
    sent-unclean h = rw (e, h)
