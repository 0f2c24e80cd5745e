-- Laws of what the readers promise: answers taken apart and put together, and what a loop that reads and writes keeps.
use Prim.Native.Nat.{ℕ, ◌-◌, ◌≤◌}
use mathlib.Core.Path.{◌≡◌, ap, ◌∙◌}
use mathlib.Core.List.{List, ◌∷◌, ◌++◌}
use native.Mathlib.Omega.{arith}
use lib.ListN.{length, take, drop, get_or}
use Rattle.octets.specs.Pen.{Pen, pen, Wrote}
use Rattle.octets.proofs.Pen as pens
use Rattle.octets.proofs.Positions.{here, from}
use Rattle.json_text.specs.Reads.{Out, ok, fmap, and_then}
use Rattle.json_text.specs.Promise.{Agrees, read, too-deep, not-json}
use Rattle.json_text.specs.declared.JsonError.{JsonError}
use Rattle.std.specs.Borrow.{Bor}
use Rattle.std.specs.Prelude.{Result, Ok, Err}

-- what a reader answers
abbrev pub Answer : Type 0
Answer = Result (Bor (List ℕ) × ℕ) JsonError

-- a text that begins with b, and what stands behind it
pub begins : (s : List ℕ) (b : ℕ) → 1 ≤ length s → get_or s 0 0 ≡ b → s ≡ b ∷ take (length s - 1) (drop 1 s)
begins s b h e = here s 0 (omega (arith, h)) ∙ rw (e, from s 1)

-- what `Ok (s, to)` says of the reading
pub record HasRead {A : Type 0} (f : A → List ℕ) (p : Pen) (t : List ℕ) (o : Out A) (s : List ℕ) (to : ℕ) : Type 0 where
  pub it : A
  pub is : o ≡ ok it s
  pub wrote : Wrote p (f it) (pen t to)

pub was_read : {A : Type 0} {f : A → List ℕ} {p : Pen} {t : List ℕ} {o : Out A} {s : Bor (List ℕ)} {to : ℕ} {r : Answer} → Agrees f p t o r → r ≡ Ok (s, to) → HasRead f p t o s.now to
was_read {A} {f} {p} {t} {o} {s} {to} x q = go (rw q at x)
  where
    go : Agrees f p t o (Ok (s, to)) → HasRead f p t o s.now to
    go (read a w wr) = record { it = a; is = w; wrote = wr }

module _ {A : Type 0} {t : List ℕ} {o : Out A} where
  -- the same answer, to another name of the reading
  pub agrees-by : {f : A → List ℕ} {p : Pen} {o' : Out A} {r : Answer} → o' ≡ o → Agrees f p t o r → Agrees f p t o' r
  agrees-by e (read a w wr) = read a (e ∙ w) wr
  agrees-by e (too-deep w) = too-deep (e ∙ w)
  agrees-by e (not-json w) = not-json (e ∙ w)

  -- behind what is written already
  pub agrees-behind : {f : A → List ℕ} {xs : List ℕ} {p q : Pen} {r : Answer} → Wrote p xs q → Agrees f q t o r → Agrees (λ a. xs ++ f a) p t o r
  agrees-behind v (read a w wr) = read a w (pens.then v wr)
  agrees-behind v (too-deep w) = too-deep w
  agrees-behind v (not-json w) = not-json w

  -- the same, where h makes the whole of what is read
  pub agrees_after : {B : Type 0} {f : A → List ℕ} (g : B → List ℕ) {xs : List ℕ} {p q : Pen} {r : Answer} (h : A → B) → Wrote p xs q → ((a : A) → xs ++ f a ≡ g (h a)) → Agrees f q t o r → Agrees g p t (fmap h o) r
  agrees_after g h v e (read a w wr) = read (h a) (ap (fmap h) w) (pens.as-text (pens.then v wr) (e a))
  agrees_after g h v e (too-deep w) = too-deep (ap (fmap h) w)
  agrees_after g h v e (not-json w) = not-json (ap (fmap h) w)

  pub agrees-map : {B : Type 0} {f : A → List ℕ} (g : B → List ℕ) {p : Pen} {r : Answer} (h : A → B) → ((a : A) → f a ≡ g (h a)) → Agrees f p t o r → Agrees g p t (fmap h o) r
  agrees-map g h e x = agrees_after g h pens.nothing e x

-- what is read first fails, and so does the whole
pub agrees-fails : {A B : Type 0} {f : A → List ℕ} {g : B → List ℕ} {p p' : Pen} {t : List ℕ} {o : Out A} {w : JsonError} (k : A → List ℕ → Out B)
    → Agrees f p t o (Err w) → Agrees g p' t (and_then o k) (Err w)
agrees-fails {A} {B} k (too-deep w) = too-deep (ap (λ (x : Out A). and_then x k) w)
agrees-fails {A} {B} k (not-json w) = not-json (ap (λ (x : Out A). and_then x k) w)

-- a loop reads on: whatever answers for the reading of s with the pen q answers for the reading of s₀ with the pen p
pub record Going {A : Type 0} (f : A → List ℕ) (R : List ℕ → Out A) (p : Pen) (s₀ : List ℕ) (q : Pen) (s : List ℕ) : Type 0 where
  pub goes : (t : List ℕ) (r : Answer) → Agrees f q t (R s) r → Agrees f p t (R s₀) r

pub going_start : {A : Type 0} {f : A → List ℕ} {R : List ℕ → Out A} {p : Pen} {s : List ℕ} → Going f R p s p s
going_start = record { goes = λ t r x. x }

-- xs is written, and the rest that is read is s'
pub going_on : {A : Type 0} {f : A → List ℕ} {R : List ℕ → Out A} {p : Pen} {s₀ : List ℕ} {q q' : Pen} {s : List ℕ} {xs : List ℕ} (s' : List ℕ) (h : A → A)
    → Going f R p s₀ q s → Wrote q xs q' → ((a : A) → xs ++ f a ≡ f (h a)) → R s ≡ fmap h (R s') → Going f R p s₀ q' s'
going_on {f = f} s' h g w e step = record { goes = λ t r x. g.goes t r (agrees-by step (agrees_after f h w e x)) }

-- a reading that ends at the place e of the text, and not before low
pub record HasFound (text : List ℕ) (low : ℕ) (o : Out (Unit {0})) (e : ℕ) : Type 0 where
  pub is : o ≡ ok tt (drop e text)
  pub above : low ≤ e
  pub below : e ≤ length text
