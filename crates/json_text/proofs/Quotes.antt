-- Strings written: runs, escapes, the closing quote.
use Prim.Native.Nat.{ℕ, ◌+◌, ◌-◌, ◌≤◌, ◌<◌}
use mathlib.Core.Path.{◌≡◌}
use mathlib.Core.Bool.{true}
use mathlib.Core.List.{List, [], ◌∷◌, ◌++◌}
use borrow.Author.Tests.{not-true}
use lib.Dec.{eqb}
use lib.ListN.{length, take, drop, get_or}
use Rattle.octets.specs.Basics.{◌or◌}
use Rattle.octets.proofs.Cases.{neither}
use Rattle.octets.proofs.Positions.{here, ended}
use Rattle.octets.specs.Groups.{as_is_octet}
use Rattle.json_text.specs.Print.{escaped, quoted}
use Rattle.octets.specs.Search.{ClassRun}
use Rattle.octets.proofs.Runs.{run-left}

pub escaped-bare : (b : ℕ) → as_is_octet b ≡ true → escaped b ≡ b ∷ []
unfolding escaped as_is_octet
escaped-bare b e =
    let w = neither (eqb b 34) (eqb b 92 or eqb b 10 or eqb b 9) (not-true _ e) in
    let v = neither (eqb b 92) (eqb b 10 or eqb b 9) w.1 in
    let u = neither (eqb b 10) (eqb b 9) v.1 in
    rw (w.0, v.0, u.0, u.1)

module _ (s : List ℕ) where
  pub quoted-run : {i e : ℕ} → ClassRun as_is_octet s i e → quoted (drop i s) ≡ take (e - i) (drop i s) ++ quoted (drop e s)
  unfolding quoted
  quoted-run w = run-left quoted (λ b r h. rw (escaped-bare b h)) w

  pub quoted-octet : (i : ℕ) → i < length s → quoted (drop i s) ≡ escaped (get_or s i 0) ++ quoted (drop (i + 1) s)
  unfolding quoted
  quoted-octet i h = rw (here s i h)

  pub quoted-end : (i : ℕ) → length s ≤ i → quoted (drop i s) ≡ 34 ∷ []
  unfolding quoted
  quoted-end i h = rw (ended s i h)
