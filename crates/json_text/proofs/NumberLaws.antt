-- Numbers read at a place of the text, part by part.
use Prim.Native.Nat.{ℕ, ◌+◌, ◌<◌}
use mathlib.Core.Path.{◌≡◌, refl, sym, ap, ◌∙◌}
use mathlib.Core.Bool.{true, false}
use mathlib.Core.List.{List}
use native.Mathlib.Omega.{arith}
use lib.Dec.{eqb, ltb}
use lib.ListN.{length, drop, get_or}
use lib.Seq.{drop-drop}
use borrow.Author.Tests.{ne_eqb, eqb-true, eqb-false, ltb-true, ltb-false}
use Rattle.octets.specs.Basics.{pick}
use Rattle.octets.specs.Classes.{is_digit, between}
use Rattle.octets.proofs.Cases.{cases}
use Rattle.octets.proofs.Positions.{here, ended, first_of}
use Rattle.json_text.specs.Reads.{Out, ok, bad}
use Rattle.json_text.specs.Numbers.{NumberPlace, start, minus, zero, int, point, frac, e, sign, exp, beyond, is_exponent, is_plus_minus, behind_int, first_digit, advance, is_beyond, number_ends, scan}
use Rattle.octets.specs.Search.{ClassRun}
use Rattle.json_text.specs.Promise.{Digits, some-digits, no-digits, Behind, behind, nothing}
use Rattle.std.specs.Prelude.{Some, None}
use Rattle.std.specs.Borrow.{Bor}
use Rattle.std.specs.declared.option.Option as code
use Rattle.octets.proofs.Runs.{run-passes, run-next, run-first, run-rest, inside, inside_is}

module _ (text : List ℕ) (i : ℕ) (q : NumberPlace) where
  -- the octet at i belongs to the number
  pub scan-on : (q' : NumberPlace) → i < length text → advance q (get_or text i 0) ≡ q' → is_beyond q' ≡ false → scan q (drop i text) ≡ scan q' (drop (i + 1) text)
  unfolding scan
  scan-on q' h a n = rw (here text i h, a, n)

  -- or it does not
  pub scan-over : advance q (get_or text i 0) ≡ beyond → scan q (drop i text) ≡ pick (number_ends q) (ok tt (drop i text)) bad
  unfolding scan is_beyond
  scan-over a = cases (ltb i (length text))
      (λ h. rw (here text i (ltb-true i (length text) h), a))
      (λ h. rw (ended text i (ltb-false i (length text) h)))

-- two places that go on alike
pub scan-alike : (text : List ℕ) (i : ℕ) (q q' : NumberPlace) → advance q (get_or text i 0) ≡ advance q' (get_or text i 0) → number_ends q ≡ number_ends q' → scan q (drop i text) ≡ scan q' (drop i text)
unfolding scan
scan-alike text i q q' a m = cases (ltb i (length text))
    (λ h. rw (here text i (ltb-true i (length text) h), a, m))
    (λ h. rw (ended text i (ltb-false i (length text) h), m))

-- digits
digit-zero : is_digit 0 ≡ false
unfolding is_digit between
digit-zero = refl

-- digits are passed at a place that they lead back to
scan-digits : (text : List ℕ) {at r : ℕ} → ClassRun is_digit text at r → (q : NumberPlace) → ((b : ℕ) → is_digit b ≡ true → advance q b ≡ q) → is_beyond q ≡ false → scan q (drop at text) ≡ scan q (drop r text)
unfolding scan
scan-digits text w q f n = run-passes (scan q) (λ b s h. rw (f b h, n)) w

module _ (text : List ℕ) {at r : ℕ} (w : ClassRun is_digit text at r) where
  -- no digit where one is due
  pub scan-no-digit : (q : NumberPlace) → (is_digit (get_or text at 0) ≡ false → advance q (get_or text at 0) ≡ beyond) → number_ends q ≡ false → r ≡ at → scan q (drop at text) ≡ bad
  scan-no-digit q f m h = scan-over text at q (f (ap (λ (k : ℕ). is_digit (get_or text k 0)) (sym h) ∙ run-next digit-zero w)) ∙ rw m

  -- digits, of which the first leads to q'
  pub scan-some-digits : (q q' : NumberPlace) → (is_digit (get_or text at 0) ≡ true → advance q (get_or text at 0) ≡ q') → ((b : ℕ) → is_digit b ≡ true → advance q' b ≡ q') → is_beyond q' ≡ false → ((r ≡ at) → ⊥) → scan q (drop at text) ≡ scan q' (drop r text)
  scan-some-digits q q' f g n h =
      let l : at < r = omega arith in
      scan-on text at q q' (omega arith) (f (run-first w l)) n ∙ scan-digits text (run-rest w l) q' g n

-- an exponent or none, and the end
abbrev pub tail : List ℕ → ℕ → Out (Unit {0})
tail text i = pick (is_exponent (get_or text i 0)) (scan e (drop (i + 1) text)) (ok tt (drop i text))

scan-tail : (text : List ℕ) (i : ℕ) (q : NumberPlace) → advance q (get_or text i 0) ≡ pick (is_exponent (get_or text i 0)) e beyond → number_ends q ≡ true → scan q (drop i text) ≡ tail text i
scan-tail text i q a m = cases (is_exponent (get_or text i 0))
    (λ x. scan-on text i q e (inside text i is_exponent exponent-zero x) (rw x at a) on-e ∙ rw x)
    (λ x. scan-over text i q (rw x at a) ∙ rw (m, x))
  where
    exponent-zero : is_exponent 0 ≡ false
    exponent-zero = unfold is_exponent in refl

    on-e : is_beyond e ≡ false
    on-e = unfold is_beyond in refl

pub exponent-is : (text : List ℕ) (i n : ℕ) → get_or text i 0 ≡ n → is_exponent n ≡ true → tail text i ≡ scan e (drop (i + 1) text)
exponent-is text i n h x = rw (h, x)

pub exponent-some : (text : List ℕ) (i : ℕ) → (((get_or text i 0 ≡ 101) → ⊥) → get_or text i 0 ≡ 69) → tail text i ≡ scan e (drop (i + 1) text)
unfolding is_exponent
exponent-some text i h = cases (eqb (get_or text i 0) 101) (λ y. exponent-is text i 101 (eqb-true _ 101 y) refl) (λ n. exponent-is text i 69 (h (eqb-false _ 101 n)) refl)

pub exponent-none : (text : List ℕ) (i : ℕ) → ((get_or text i 0 ≡ 101) → ⊥) → ((get_or text i 0 ≡ 69) → ⊥) → tail text i ≡ ok tt (drop i text)
unfolding is_exponent
exponent-none text i h k = rw (ne_eqb _ 101 h, ne_eqb _ 69 k)

-- the parts that begin with digits
module _ (text : List ℕ) {at r : ℕ} (w : ClassRun is_digit text at r) where
  pub last_none : r ≡ at → scan sign (drop at text) ≡ bad
  unfolding advance is_beyond number_ends
  last_none h = scan-no-digit text w sign (λ d. rw d) refl h

  pub last_some : ((r ≡ at) → ⊥) → scan sign (drop at text) ≡ ok tt (drop r text)
  unfolding advance is_beyond number_ends
  last_some h = scan-some-digits text w sign exp (λ d. rw d) (λ b d. rw d) refl h ∙ scan-over text r exp (rw (run-next digit-zero w))

  pub fraction-none : r ≡ at → scan point (drop at text) ≡ bad
  unfolding advance is_beyond number_ends
  fraction-none h = scan-no-digit text w point (λ d. rw d) refl h

  pub fraction-some : ((r ≡ at) → ⊥) → scan point (drop at text) ≡ tail text r
  unfolding advance is_beyond number_ends
  fraction-some h = scan-some-digits text w point frac (λ d. rw d) (λ b d. rw d) refl h ∙ scan-tail text r frac (rw (run-next digit-zero w)) refl

  module _ (n : (get_or text at 0 ≡ 48) → ⊥) where
    pub unsigned-none : r ≡ at → scan minus (drop at text) ≡ bad
    unfolding advance first_digit is_beyond number_ends
    unsigned-none h = scan-no-digit text w minus (λ d. rw (ne_eqb _ 48 n, d)) refl h

    pub unsigned-some : ((r ≡ at) → ⊥) → scan minus (drop at text) ≡ scan zero (drop r text)
    unfolding advance first_digit is_beyond number_ends
    unsigned-some h = scan-some-digits text w minus int (λ d. rw (ne_eqb _ 48 n, d)) (λ b d. rw d) refl h ∙ scan-alike text r int zero (rw (run-next digit-zero w)) refl

-- the parts that begin with one octet
module _ (text : List ℕ) (at : ℕ) where
  pub power-plus : get_or text at 0 ≡ 43 → scan e (drop at text) ≡ scan sign (drop (at + 1) text)
  unfolding advance is_plus_minus is_beyond number_ends
  power-plus h = scan-on text at e sign (inside_is text at 43 h (omega arith)) (rw h) refl

  pub power-minus : get_or text at 0 ≡ 45 → scan e (drop at text) ≡ scan sign (drop (at + 1) text)
  unfolding advance is_plus_minus is_beyond number_ends
  power-minus h = scan-on text at e sign (inside_is text at 45 h (omega arith)) (rw h) refl

  pub power-sign : (((get_or text at 0 ≡ 43) → ⊥) → get_or text at 0 ≡ 45) → scan e (drop at text) ≡ scan sign (drop (at + 1) text)
  power-sign h = cases (eqb (get_or text at 0) 43) (λ y. power-plus (eqb-true _ 43 y)) (λ n. power-minus (h (eqb-false _ 43 n)))

  pub power-bare : ((get_or text at 0 ≡ 43) → ⊥) → ((get_or text at 0 ≡ 45) → ⊥) → scan e (drop at text) ≡ scan sign (drop at text)
  unfolding advance is_plus_minus is_beyond number_ends
  power-bare h k = scan-alike text at e sign (rw (ne_eqb _ 43 h, ne_eqb _ 45 k)) refl

  pub whole-point : get_or text at 0 ≡ 46 → scan zero (drop at text) ≡ scan point (drop (at + 1) text)
  unfolding advance behind_int is_beyond number_ends
  whole-point h = scan-on text at zero point (inside_is text at 46 h (omega arith)) (rw h) refl

  pub whole-bare : ((get_or text at 0 ≡ 46) → ⊥) → scan zero (drop at text) ≡ tail text at
  unfolding advance behind_int is_beyond number_ends
  whole-bare h = scan-tail text at zero (rw (ne_eqb _ 46 h)) refl

  pub unsigned-zero : get_or text at 0 ≡ 48 → scan minus (drop at text) ≡ scan zero (drop (at + 1) text)
  unfolding advance first_digit is_beyond number_ends
  unsigned-zero h = scan-on text at minus zero (inside_is text at 48 h (omega arith)) (rw h) refl

  pub number-minus : get_or text at 0 ≡ 45 → scan start (drop at text) ≡ scan minus (drop (at + 1) text)
  unfolding advance first_digit is_beyond number_ends
  number-minus h = scan-on text at start minus (inside_is text at 45 h (omega arith)) (rw h) refl

  pub number-bare : ((get_or text at 0 ≡ 45) → ⊥) → scan start (drop at text) ≡ scan minus (drop at text)
  unfolding advance first_digit is_beyond number_ends
  number-bare h = scan-alike text at start minus (rw (ne_eqb _ 45 h)) refl

-- the same answer, to another name of the reading
pub behind-by : {o o' : Out (Unit {0})} {r : code.Option (Bor (List ℕ))} → o' ≡ o → Behind o r → Behind o' r
behind-by q (behind w) = behind (q ∙ w)
behind-by q (nothing w) = nothing (q ∙ w)

-- behind digits
pub no-digit : {text : List ℕ} {r : code.Option (Bor (List ℕ))} → Digits text r → r ≡ None → ClassRun is_digit text 0 0
no-digit {text} x q = go (rw q at x)
  where
    go : Digits text None → ClassRun is_digit text 0 0
    go (no-digits w) = w

tail-behind : (text : List ℕ) (n : ℕ) (r : List ℕ) → r ≡ drop n text → tail text n ≡ tail r 0
tail-behind text n r q = rw (q, first_of, drop-drop)

pub sign-behind : {text : List ℕ} {r : code.Option (Bor (List ℕ))} → Digits text r → Behind (scan sign text) r
sign-behind {text} (some-digits w h q) = behind (last_some text w (λ z. omega arith) ∙ ap (ok tt) (sym q))
sign-behind {text} (no-digits w) = nothing (last_none text w refl)

pub fraction-behind : {text : List ℕ} {d : code.Option (Bor (List ℕ))} {r : Bor (List ℕ)} {v : code.Option (Bor (List ℕ))} → Digits text d → d ≡ Some r → Behind (tail r.now 0) v → Behind (scan point text) v
fraction-behind {text} {d} {r} {v} x q y = go (rw q at x)
  where
    go : Digits text (Some r) → Behind (scan point text) v
    go (some-digits {n = n} w h k) = behind-by (fraction-some text w (λ z. omega arith) ∙ tail-behind text n r.now k) y

pub unsigned-behind : {text : List ℕ} {d : code.Option (Bor (List ℕ))} {r : Bor (List ℕ)} {v : code.Option (Bor (List ℕ))} → ((get_or text 0 0 ≡ 48) → ⊥) → Digits text d → d ≡ Some r → Behind (scan zero r.now) v → Behind (scan minus text) v
unsigned-behind {text} {d} {r} {v} m x q y = go (rw q at x)
  where
    go : Digits text (Some r) → Behind (scan minus text) v
    go (some-digits w h k) = behind-by (unsigned-some text w m (λ z. omega arith) ∙ ap (scan zero) (sym k)) y

pub was-behind : {o : Out (Unit {0})} {d : code.Option (Bor (List ℕ))} {r : Bor (List ℕ)} → Behind o d → d ≡ Some r → o ≡ ok tt r.now
was-behind {o} {d} {r} x q = go (rw q at x)
  where
    go : Behind o (Some r) → o ≡ ok tt r.now
    go (behind w) = w

pub was-nothing : {o : Out (Unit {0})} {d : code.Option (Bor (List ℕ))} → Behind o d → d ≡ None → o ≡ bad
was-nothing {o} x q = go (rw q at x)
  where
    go : Behind o None → o ≡ bad
    go (nothing w) = w
