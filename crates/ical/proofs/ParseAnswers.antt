-- What an answer of `parse` tells its caller, who knows `laid r t ≡ parsed o t₀`.
use Prim.Native.Nat.{ℕ, ◌≤◌}
use mathlib.Core.Path.{◌≡◌, refl, ap}
use mathlib.Core.List.{List, ◌++◌}
use native.Mathlib.Omega.{arith}
use borrow.Author.Tests.{le-leb, leb-true}
use lib.Dec.{leb}
use lib.ListN.{length, drop}
use Rattle.octets.proofs.Cases.{cases}
use Rattle.json_text.specs.Tree.{Json}
use Rattle.json_text.specs.Reads.{Out, ok, deep, bad}
use Rattle.json_text.specs.Reader.{parse_text}
use Rattle.json_text.specs.Tape.{ser}
use Rattle.json_text.specs.Parse.{Taped, taped, blank, parsed_onto, most_tape}
use Rattle.std.specs.Prelude.{Result, Ok, Err}
use Rattle.json_text.specs.declared.JsonError.{JsonError}
use Rattle.json_text.specs.declared.JsonError.TheVariants.{TooDeep, NotJson, NoRoom}
use Rattle.json_text.proofs.Sizes.{tape-enough}

pub record IsTape (o : Out Json) (t₀ t : List ℕ) (n : ℕ) : Type 0 where
  pub it : Json
  pub left : List ℕ
  pub is : o ≡ ok it left
  pub count : n ≡ length (ser it)
  pub room : n ≤ length t₀
  pub tape : t ≡ ser it ++ drop n t₀

same_answer : {r q : Result ℕ JsonError} {t u : List ℕ} → taped r t ≡ taped q u → r ≡ q
same_answer e = ap (λ (l : Taped). l.answer) e

-- two different answers are not the same
numbered : Result ℕ JsonError → ℕ
numbered (Ok n) = 0
numbered (Err TooDeep) = 1
numbered (Err NotJson) = 2
numbered (Err NoRoom) = 3

pub told-tape : (o : Out Json) (t₀ : List ℕ) {t : List ℕ} {n : ℕ} → taped (Ok n) t ≡ parsed_onto o t₀ → IsTape o t₀ t n
unfolding parsed_onto blank numbered
told-tape (ok j s) t₀ {t} {n} e = cases (leb (length (ser j)) (length t₀))
    (λ h. let w : taped (Ok n) t ≡ taped (Ok (length (ser j))) (ser j ++ drop (length (ser j)) t₀) = rw h at e in
    let a : Ok n ≡ Ok (length (ser j)) = same_answer w in
    let c : n ≡ length (ser j) = cc in
    let b : t ≡ ser j ++ drop (length (ser j)) t₀ = ap (λ (l : Taped). l.tape) w in
    record { it = j; left = s; is = refl; count = c; room = rw c (leb-true (length (ser j)) (length t₀) h); tape = rw c b })
    (λ h. let w = rw h at e in let z : ◌≡◌ {A = ℕ} 0 3 = ap numbered (same_answer w) in absurd (omega arith))
told-tape deep t₀ e = let z : ◌≡◌ {A = ℕ} 0 1 = ap numbered (same_answer e) in absurd (omega arith)
told-tape bad t₀ e = let z : ◌≡◌ {A = ℕ} 0 2 = ap numbered (same_answer e) in absurd (omega arith)

pub told-deep : (o : Out Json) (t₀ : List ℕ) {t : List ℕ} → taped (Err TooDeep) t ≡ parsed_onto o t₀ → o ≡ deep
unfolding parsed_onto blank numbered
told-deep (ok j s) t₀ e = cases (leb (length (ser j)) (length t₀))
    (λ h. let w = rw h at e in let z : ◌≡◌ {A = ℕ} 1 0 = ap numbered (same_answer w) in absurd (omega arith))
    (λ h. let w = rw h at e in let z : ◌≡◌ {A = ℕ} 1 3 = ap numbered (same_answer w) in absurd (omega arith))
told-deep deep t₀ e = refl
told-deep bad t₀ e = let z : ◌≡◌ {A = ℕ} 1 2 = ap numbered (same_answer e) in absurd (omega arith)

pub told-bad : (o : Out Json) (t₀ : List ℕ) {t : List ℕ} → taped (Err NotJson) t ≡ parsed_onto o t₀ → o ≡ bad
unfolding parsed_onto blank numbered
told-bad (ok j s) t₀ e = cases (leb (length (ser j)) (length t₀))
    (λ h. let w = rw h at e in let z : ◌≡◌ {A = ℕ} 2 0 = ap numbered (same_answer w) in absurd (omega arith))
    (λ h. let w = rw h at e in let z : ◌≡◌ {A = ℕ} 2 3 = ap numbered (same_answer w) in absurd (omega arith))
told-bad deep t₀ e = let z : ◌≡◌ {A = ℕ} 2 1 = ap numbered (same_answer e) in absurd (omega arith)
told-bad bad t₀ e = refl

-- a tape of `most_tape` octets is never too short
pub never-short : (s t₀ : List ℕ) {t : List ℕ} → most_tape (length s) ≤ length t₀ → taped (Err NoRoom) t ≡ parsed_onto (parse_text s) t₀ → ⊥
never-short s t₀ {t} m e = short (parse_text s) refl e
  where
    short : (o : Out Json) → parse_text s ≡ o → taped (Err NoRoom) t ≡ parsed_onto o t₀ → ⊥
    short (ok j u) w k = unfold parsed_onto numbered in
        let l : length (ser j) ≤ length t₀ = omega (arith, tape-enough s u j w) in
        let v = rw (le-leb (length (ser j)) (length t₀) l) at k in
        let z : ◌≡◌ {A = ℕ} 3 0 = ap numbered (same_answer v) in omega arith
    short deep w k = unfold parsed_onto blank numbered in let z : ◌≡◌ {A = ℕ} 3 1 = ap numbered (same_answer k) in omega arith
    short bad w k = unfold parsed_onto blank numbered in let z : ◌≡◌ {A = ℕ} 3 2 = ap numbered (same_answer k) in omega arith

-- by the answer
module _ (o : Out Json) (t₀ : List ℕ) {t : List ℕ} {r : Result ℕ JsonError} (e : taped r t ≡ parsed_onto o t₀) where
  pub tape-told : {n : ℕ} → r ≡ Ok n → IsTape o t₀ t n
  tape-told q = told-tape o t₀ (rw q at e)

  pub deep-told : r ≡ Err TooDeep → o ≡ deep
  deep-told q = told-deep o t₀ (rw q at e)

  pub bad-told : r ≡ Err NotJson → o ≡ bad
  bad-told q = told-bad o t₀ (rw q at e)

pub not_short : (s t₀ : List ℕ) {t : List ℕ} {r : Result ℕ JsonError} → most_tape (length s) ≤ length t₀ → taped r t ≡ parsed_onto (parse_text s) t₀ → r ≡ Err NoRoom → ⊥
not_short s t₀ m e q = never-short s t₀ m (rw q at e)
