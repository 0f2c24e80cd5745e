-- What `parse` leaves: the tape, or zeros.
use Prim.Native.Nat.{ℕ, ◌+◌, ◌≤◌, ◌<◌}
use mathlib.Core.Path.{◌≡◌, ap, ◌∙◌}
use mathlib.Core.List.{List}
use native.Mathlib.Omega.{arith}
use borrow.Author.Tests.{le-leb, lt-leb, leb-true, leb-false}
use lib.Dec.{leb}
use lib.ListN.{length, replicate}
use Rattle.octets.specs.Pen.{Pen, pen, Wrote}
use Rattle.octets.proofs.Cases.{cases}
use Rattle.octets.proofs.Pen.{landed, full, fits, kept}
use Rattle.json_text.specs.Tree.{Json}
use Rattle.json_text.specs.Reads.{Out, ok}
use Rattle.json_text.specs.Tape.{ser}
use Rattle.json_text.specs.Parse.{taped, blank, parsed_onto}
use Rattle.std.specs.Prelude.{Ok, Err}
use Rattle.json_text.specs.Promise.{Agrees, too-deep, not-json}
use Rattle.json_text.specs.declared.JsonError.{JsonError}
use Rattle.json_text.specs.declared.JsonError.TheVariants.{NoRoom}

module _ {o : Out Json} {s t₀ t : List ℕ} {n : ℕ} (j : Json) (e : o ≡ ok j s) (w : Wrote (pen t₀ 0) (ser j) (pen t n)) where
  -- the pen stops within the tape exactly where there is room
  room : n ≤ length t → length (ser j) ≤ length t₀
  room h = cases (leb (length (ser j)) (length t₀)) (λ k. leb-true (length (ser j)) (length t₀) k)
      (λ k. let a : n ≡ length t₀ + 1 = ap (λ (p : Pen). p.at) w.is ∙ full t₀ (ser j) 0 (omega arith) (omega (arith, leb-false (length (ser j)) (length t₀) k)) in absurd (omega (arith, kept w)))

  pub parsed-tape : n ≤ length t → taped (Ok n) t ≡ parsed_onto o t₀
  unfolding parsed_onto
  parsed-tape h =
      let l = landed t₀ (ser j) t n (room h) w in
      rw (e, le-leb (length (ser j)) (length t₀) (room h)) (ap (λ (k : ℕ). taped (Ok k) t) l.count ∙ ap (taped (Ok (length (ser j)))) l.buffer)

  no_room : length t < n → length t₀ < length (ser j)
  no_room h = cases (leb (length (ser j)) (length t₀))
      (λ k. let a : n ≡ 0 + length (ser j) = ap (λ (p : Pen). p.at) (w.is ∙ fits t₀ (ser j) 0 (omega (arith, leb-true (length (ser j)) (length t₀) k))) in absurd (omega (arith, kept w, leb-true (length (ser j)) (length t₀) k)))
      (λ k. leb-false (length (ser j)) (length t₀) k)

  pub parsed-full : {z : List ℕ} → length t < n → z ≡ replicate (length t) 0 → taped (Err NoRoom) z ≡ parsed_onto o t₀
  unfolding parsed_onto blank
  parsed-full h k = rw (e, lt-leb (length (ser j)) (length t₀) (no_room h), k, kept w)

pub parsed-fails : {o : Out Json} {p : Pen} (t₀ t : List ℕ) {z : List ℕ} {w : JsonError} → length t ≡ length t₀ → z ≡ replicate (length t) 0 → Agrees ser p t o (Err w) → taped (Err w) z ≡ parsed_onto o t₀
unfolding parsed_onto blank
parsed-fails t₀ t l k (too-deep e) = rw (e, k, l)
parsed-fails t₀ t l k (not-json e) = rw (e, k, l)
