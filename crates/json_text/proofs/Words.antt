-- White space and literal names.
use Prim.Native.Nat.{ℕ, ◌+◌, ◌≤◌, ◌<◌}
use mathlib.Core.Path.{◌≡◌, refl, sym, ap, ◌∙◌}
use mathlib.Core.Bool.{true, false, false≢true}
use native.Mathlib.Omega.{arith}
use mathlib.Core.List.{List, [], ◌∷◌}
use borrow.Author.Tests.{eq-eqb, ne_eqb}
use lib.Dec.{eqb}
use Rattle.std.specs.Cmp.Lexicographic.{pointwise}
use Rattle.std.specs.Borrow.{Bor}
use Rattle.std.specs.Option.{MatchOption}
use Rattle.std.specs.Prelude.{Some, None}
use Rattle.std.specs.declared.option.Option as code
use Rattle.json_text.specs.Promise.{Behind, behind, nothing}
use Rattle.octets.proofs.Cases.{cases}
use lib.ListN.{length, take, drop, get_or}
use Rattle.octets.proofs.Positions.{here, ended}
use Rattle.octets.specs.Classes.{is_space}
use Rattle.json_text.specs.Reads.{ok, bad, skip_space, literal}
use Rattle.octets.specs.Search.{ClassRun}
use Rattle.octets.proofs.Runs.{at_place, run-passes}

skip-space : (b : ℕ) (s : List ℕ) → is_space b ≡ true → skip_space (b ∷ s) ≡ skip_space s
unfolding skip_space
skip-space b s e = rw e

skip-over : (text : List ℕ) (r : ℕ) → (r < length text → is_space (get_or text r 0) ≡ false) → r ≤ length text → skip_space (drop r text) ≡ drop r text
unfolding skip_space
skip-over text r h l = at_place text r l (λ i. rw (here text r i, h i)) (λ e. rw e)

-- behind a run of white space nothing is skipped
pub skip-run : (text : List ℕ) {at r : ℕ} → ClassRun is_space text at r → drop r text ≡ skip_space (drop at text)
skip-run text {at} {r} w = sym (run-passes skip_space skip-space w ∙ skip-over text r w.over w.below)

-- a name that the text begins with, and one that it does not
pub word-begins : (name s : List ℕ) → pointwise eqb (take (length name) s) name ≡ true → literal name s ≡ ok tt (drop (length name) s)
unfolding literal
word-begins [] s h = refl
word-begins (x ∷ name) [] h = absurd (false≢true h)
word-begins (x ∷ name) (b ∷ s) h = cases (eqb b x)
    (λ e. rw e (word-begins name s (rw e at h)))
    (λ n. absurd (false≢true (rw n at h)))

pub word-differs : (name s : List ℕ) → pointwise eqb (take (length name) s) name ≡ false → literal name s ≡ bad
unfolding literal
word-differs [] s h = absurd (false≢true (sym h))
word-differs (x ∷ name) [] h = refl
word-differs (x ∷ name) (b ∷ s) h = cases (eqb b x)
    (λ e. rw e (word-differs name s (rw e at h)))
    (λ n. rw n)

-- what the search for a name tells
pub word-behind : (name s : List ℕ) (r : code.Option (Bor (List ℕ))) → MatchOption r (pointwise eqb (take (length name) s) name ≡ false) (λ x. (pointwise eqb (take (length name) s) name ≡ true) × (x.now ≡ drop (length name) s) × (length x.now + length name ≡ length s)) → Behind (literal name s) r
word-behind name s None h = nothing (word-differs name s h)
word-behind name s (Some x) h = behind (word-begins name s h.0 ∙ ap (ok tt) (sym h.1))

-- a name of one octet
pub octet-differs : (b : ℕ) (s : List ℕ) → ((get_or s 0 0 ≡ b) → ⊥) → literal (b ∷ []) s ≡ bad
unfolding literal
octet-differs b [] n = refl
octet-differs b (c ∷ s) n = rw (ne_eqb c b n)

pub octet-short : (b : ℕ) (s : List ℕ) → length s < 1 → literal (b ∷ []) s ≡ bad
unfolding literal
octet-short b [] h = refl
octet-short b (c ∷ s) h = absurd (omega (arith, h))

pub octet-same : (b : ℕ) {s u : List ℕ} → s ≡ b ∷ u → literal (b ∷ []) s ≡ ok tt u
unfolding literal
octet-same b e = rw (e, eq-eqb b b refl)

-- one octet of a name
module _ (text name : List ℕ) (i k : ℕ) (h : k < length name) where
  pub word_more : i < length text → get_or text i 0 ≡ get_or name k 0 → literal (drop k name) (drop i text) ≡ literal (drop (k + 1) name) (drop (i + 1) text)
  unfolding literal
  word_more l e = rw (here text i l, here name k h, eq-eqb _ _ e)

  pub word-short : length text ≤ i → literal (drop k name) (drop i text) ≡ bad
  unfolding literal
  word-short l = rw (ended text i l, here name k h)

pub word-whole : (name s : List ℕ) (k : ℕ) → length name ≤ k → literal (drop k name) s ≡ ok tt s
unfolding literal
word-whole name s k h = rw (ended name k h)
