-- The place of a text among words.
use Prim.Native.Nat.{ℕ, suc, ◌<◌}
use mathlib.Core.Path.{◌≡◌, refl, sym, ap, ◌∙◌}
use mathlib.Core.Bool.{true, false}
use mathlib.Core.List.{List, [], ◌∷◌}
use native.Mathlib.Omega.{arith}
use borrow.Author.Tests.{lt-ltb, le-ltb}
use lib.Dec.{ltb}
use lib.ListN.{length}
use Rattle.octets.specs.Basics.{any, same, among}
use Rattle.octets.proofs.Cases.{cases, never, neither, alike}
use Rattle.octets.proofs.Classes.{same-is, same-itself}
use Rattle.calendar.specs.Walk.{word_place}

pub same-turned : (a b : List ℕ) → same a b ≡ same b a
same-turned a b = alike (same a b) (same b a)
    (λ e. rw (same-is a b e) (same-itself b))
    (λ e. rw (same-is b a e) (same-itself a))

-- a text is among the words if its place is one of theirs
module _ (n : List ℕ) where
  pub place_found : (ws : List (List ℕ)) → among n ws ≡ true → word_place ws n < length ws
  unfolding among any word_place
  place_found [] h = never h refl
  place_found (w ∷ ws) h = cases (same w n)
      (λ e. rw e (omega arith))
      (λ e. rw e (let l = place_found ws (rw (same-turned n w, e) at h) in omega arith))

  pub place-missing : (ws : List (List ℕ)) → among n ws ≡ false → word_place ws n ≡ length ws
  unfolding among any word_place
  place-missing [] h = refl
  place-missing (w ∷ ws) h =
      let b = neither (same n w) (any (same n) ws) h in
      rw (same-turned w n, b.0) (ap suc (place-missing ws b.1))

  pub place-among : (ws : List (List ℕ)) → ltb (word_place ws n) (length ws) ≡ among n ws
  place-among ws = cases (among n ws)
      (λ e. lt-ltb (word_place ws n) (length ws) (place_found ws e) ∙ sym e)
      (λ e. le-ltb (word_place ws n) (length ws) (rw (place-missing ws e) (omega arith)) ∙ sym e)
