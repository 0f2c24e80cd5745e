-- Strings: hexadecimal digits, surrogates, escapes, runs.
use Prim.Native.Nat.{ℕ, zero, suc, ◌+◌, ◌-◌, ◌*◌, ◌/◌, ◌%◌, ◌≤◌, ◌<◌}
use mathlib.Core.Path.{◌≡◌, refl, sym, ap, ◌∙◌}
use mathlib.Core.Bool.{true, false, not}
use mathlib.Core.List.{List, [], ◌∷◌, ◌++◌}
use native.Mathlib.Omega.{arith}
use lib.Dec.{eqb, leb, ltb}
use lib.ListN.{length, take, drop, get_or, length-drop, take-append-drop}
use lib.Seq.{drop-drop}
use borrow.Author.Tests.{ne_eqb, eq-eqb, ltb-true, ltb-false, lt-ltb, le-ltb, leb-true, leb-false, eqb-false, not-true}
use Rattle.octets.specs.Basics.{pick, ◌and◌, all}
use Rattle.octets.specs.Groups.{json_unescaped}
use Rattle.octets.specs.Classes.{between, is_digit, hex_digit}
use Rattle.octets.specs.Pen.{Pen, Wrote}
use Rattle.octets.proofs.Cases.{cases, both, and-true-right, pick_same}
use Rattle.octets.proofs.Classes.{between-true}
use Rattle.octets.proofs.Positions.{here, ended, past_end}
use Rattle.json_text.specs.Reads.{Out, ok, deep, bad, fmap, and_then}
use Rattle.json_text.specs.Strings.{escape_of, hex1, hex4, utf8_of, low_of, low_surrogate, partner, unit, unicode, escape, piece, string_pieces, string}
use Rattle.octets.specs.Search.{ClassRun}
use Rattle.std.specs.Prelude.{Some, None}
use Rattle.json_text.specs.Promise.{unless_zero, hex_code}
use Rattle.json_text.proofs.Outs.{Gives, gives-weaker, by, then-alike, map-map, map_same}
use Rattle.octets.proofs.Runs.{inside}

-- four hexadecimal digits, or none
pub data Digit (s : List ℕ) : Out ℕ → Type 0 where
  digit-is : {d : ℕ} → d < 16 → 1 ≤ length s → Digit s (ok d (drop 1 s))
  digit_not : Digit s bad

pub data Hex (s : List ℕ) : Out ℕ → Type 0 where
  hex-is : {n : ℕ} → n < 65536 → 4 ≤ length s → Hex s (ok n (drop 4 s))
  hex-not : Hex s bad

digit-view : (s : List ℕ) → Digit s (hex1 s)
unfolding hex1
digit-view [] = digit_not
digit-view (b ∷ s) = by (Digit (b ∷ s)) (ltb (hex_digit b) 16) (λ e. digit-is (ltb-true (hex_digit b) 16 e) (omega arith)) (λ e. digit_not)

after-digit : {s : List ℕ} {o : Out ℕ} (R : Out ℕ → Type 0) (k : ℕ → List ℕ → Out ℕ) → Digit s o → R bad → ((d : ℕ) → d < 16 → 1 ≤ length s → R (k d (drop 1 s))) → R (and_then o k)
after-digit R k (digit-is {d} h l) n f = f d h l
after-digit R k digit_not n f = n

pub hex4-view : (s : List ℕ) → Hex s (hex4 s)
unfolding hex4
hex4-view s = after-digit (Hex s) _ (digit-view s) hex-not (λ a ha la.
    after-digit (Hex s) _ (digit-view (drop 1 s)) hex-not (λ b hb lb.
    after-digit (Hex s) _ (digit-view (drop 1 (drop 1 s))) hex-not (λ c hc lc.
    after-digit (Hex s) _ (digit-view (drop 1 (drop 1 (drop 1 s)))) hex-not (λ d hd ld.
    let e : drop 1 (drop 1 (drop 1 (drop 1 s))) ≡ drop 4 s = rw (drop-drop, drop-drop, drop-drop) in
    rw e (hex-is {n = a * 4096 + b * 256 + c * 16 + d} (omega arith) (omega (arith, length-drop 1 (drop 1 (drop 1 s)), length-drop 1 (drop 1 s), length-drop 1 s)))))))

-- what the code of four digits tells
pub code-none : {s : List ℕ} {o : Out ℕ} → Hex s o → hex_code o ≡ None → o ≡ bad
unfolding hex_code
code-none (hex-is h l) e = cc
code-none hex-not e = refl

pub record Coded (s : List ℕ) (o : Out ℕ) (u : ℕ) : Type 0 where
  pub is : o ≡ ok u (drop 4 s)
  pub small : u < 65536
  pub long : 4 ≤ length s

pub coded : {s : List ℕ} {o : Out ℕ} {u : ℕ} → Hex s o → hex_code o ≡ Some u → Coded s o u
unfolding hex_code
coded {u = u} (hex-is {n} h l) e = let q : n ≡ u = cc in record { is = rw q; small = omega arith; long = l }
coded hex-not e = let z : ⊥ = cc in absurd z

-- a number that is 0, and one that is not
pub was-zero : (n : ℕ) → unless_zero n ≡ None → n ≡ 0
unfolding unless_zero
was-zero zero e = refl
was-zero (suc n) e = cc

pub was-some : (n : ℕ) {l : ℕ} → unless_zero n ≡ Some l → (l ≡ n) × ((l ≡ 0) → ⊥)
unfolding unless_zero
was-some zero e = let z : ⊥ = cc in absurd z
was-some (suc n) {l} e = let q : l ≡ suc n = cc in (q, λ z. omega arith)

pub none-is : (n : ℕ) → n ≡ 0 → None ≡ unless_zero n
unfolding unless_zero
none-is n z = rw z

pub some-is : (n : ℕ) → ((n ≡ 0) → ⊥) → Some n ≡ unless_zero n
unfolding unless_zero
some-is zero h = absurd (h refl)
some-is (suc n) h = refl

-- the code, digit by digit, at a place
abbrev D : List ℕ → ℕ → ℕ
D text i = hex_digit (get_or text i 0)

digit-zero : hex_digit 0 ≡ 16
unfolding hex_digit is_digit between
digit-zero = refl

code_step : (text : List ℕ) (i j : ℕ) (k : ℕ → List ℕ → Out ℕ) → i + 1 ≡ j → hex_code (and_then (hex1 (drop i text)) k) ≡ pick (ltb (D text i) 16) (hex_code (k (D text i) (drop j text))) None
unfolding hex1 hex_code
code_step text i j k e = cases (ltb i (length text))
    (λ h. rw (here text i (ltb-true i (length text) h), e) (by (λ o. hex_code (and_then o k) ≡ pick (ltb (D text i) 16) (hex_code (k (D text i) (drop j text))) None) (ltb (D text i) 16) (λ x. rw x) (λ x. rw x)))
    (λ h. rw (ended text i (ltb-false i (length text) h), past_end text i (ltb-false i (length text) h), digit-zero))

pub hex4-at : (text : List ℕ) (i : ℕ) → hex_code (hex4 (drop i text)) ≡ pick (ltb (D text i) 16) (pick (ltb (D text (i + 1)) 16) (pick (ltb (D text (i + 2)) 16) (pick (ltb (D text (i + 3)) 16) (Some (D text i * 4096 + D text (i + 1) * 256 + D text (i + 2) * 16 + D text (i + 3))) None) None) None) None
unfolding hex4 hex_code
hex4-at text i =
    code_step text i (i + 1) _ refl
    ∙ ap (λ n. pick (ltb (D text i) 16) n None) (code_step text (i + 1) (i + 2) _ (omega arith)
    ∙ ap (λ n. pick (ltb (D text (i + 1)) 16) n None) (code_step text (i + 2) (i + 3) _ (omega arith)
    ∙ ap (λ n. pick (ltb (D text (i + 2)) 16) n None) (code_step text (i + 3) (i + 4) _ (omega arith))))

pub hex4-short : (text : List ℕ) → length text < 4 → hex_code (hex4 text) ≡ None
hex4-short text h = hex4-at text 0 ∙ rw (past_end text 3 (omega arith), digit-zero, pick_same, pick_same, pick_same)

-- the low surrogate at a place
pub low-at : (text : List ℕ) (i : ℕ) → low_surrogate (drop i text) ≡ pick (eqb (get_or text i 0) 92) (pick (eqb (get_or text (i + 1) 0) 117) (low_of (hex4 (drop (i + 2) text))) 0) 0
unfolding low_surrogate
low-at text i = cases (ltb i (length text))
    (λ h. cases (ltb (i + 1) (length text))
    (λ k. let e : i + 1 + 1 ≡ i + 2 = omega arith in rw (here text i (ltb-true i (length text) h), here text (i + 1) (ltb-true (i + 1) (length text) k), e))
    (λ k. rw (here text i (ltb-true i (length text) h), ended text (i + 1) (ltb-false (i + 1) (length text) k), past_end text (i + 1) (ltb-false (i + 1) (length text) k), pick_same)))
    (λ h. rw (ended text i (ltb-false i (length text) h), past_end text i (ltb-false i (length text) h)))

pub low-short : (text : List ℕ) → length text < 2 → low_surrogate text ≡ 0
unfolding low_surrogate
low-short [] h = refl
low-short (b ∷ []) h = refl
low-short (b ∷ c ∷ s) h = absurd (omega arith)

module _ (text : List ℕ) where
  pub low-first : ((get_or text 0 0 ≡ 92) → ⊥) → low_surrogate text ≡ 0
  low-first h = low-at text 0 ∙ rw (ne_eqb _ 92 h)

  pub low-second : ((get_or text 1 0 ≡ 117) → ⊥) → low_surrogate text ≡ 0
  low-second h = low-at text 0 ∙ rw (ne_eqb (get_or text 1 0) 117 h, pick_same)

  pub low-both : get_or text 0 0 ≡ 92 → get_or text 1 0 ≡ 117 → low_surrogate text ≡ low_of (hex4 (drop 2 text))
  low-both h k = low-at text 0 ∙ rw (h, k)

pub low-some : (o : Out ℕ) {l : ℕ} → hex_code o ≡ Some l → low_of o ≡ pick (between 56320 57343 l) l 0
unfolding low_of hex_code
low-some (ok m s) {l} e = let q : m ≡ l = cc in rw q
low-some deep e = cc
low-some bad e = cc

pub low-none : (o : Out ℕ) → hex_code o ≡ None → low_of o ≡ 0
unfolding low_of hex_code
low-none (ok m s) e = cc
low-none deep e = refl
low-none bad e = refl

-- what a low surrogate that was found tells
pub record Pairs (u l : ℕ) (s : List ℕ) : Type 0 where
  pub high-from : 55296 ≤ u
  pub high-to : u ≤ 56319
  pub low-from : 56320 ≤ l
  pub low-to : l ≤ 57343
  pub long : 6 ≤ length s

low-found : (s : List ℕ) → ((low_surrogate s ≡ 0) → ⊥) → (56320 ≤ low_surrogate s) × (low_surrogate s ≤ 57343) × (6 ≤ length s)
unfolding low_surrogate
low-found [] n = absurd (n refl)
low-found (b ∷ []) n = absurd (n refl)
low-found (b ∷ c ∷ s) n = by (λ l. ((l ≡ 0) → ⊥) → (56320 ≤ l) × (l ≤ 57343) × (6 ≤ length (b ∷ c ∷ s))) (eqb b 92)
    (λ _. by (λ l. ((l ≡ 0) → ⊥) → (56320 ≤ l) × (l ≤ 57343) × (6 ≤ length (b ∷ c ∷ s))) (eqb c 117) (λ _. code (hex4-view s)) (λ _ x. absurd (x refl)))
    (λ _ x. absurd (x refl)) n
  where
    code : {o : Out ℕ} → Hex s o → ((low_of o ≡ 0) → ⊥) → (56320 ≤ low_of o) × (low_of o ≤ 57343) × (6 ≤ length (b ∷ c ∷ s))
    code hex-not x = unfold low_of in absurd (x refl)
    code (hex-is {n = m} h l) x = unfold low_of in by (λ k. ((k ≡ 0) → ⊥) → (56320 ≤ k) × (k ≤ 57343) × (6 ≤ length (b ∷ c ∷ s))) (between 56320 57343 m)
        (λ e _. let w = between-true 56320 57343 m e in (w.0, w.1, omega arith)) (λ _ y. absurd (y refl)) x

pub paired : (u : ℕ) (s : List ℕ) → ((partner u s ≡ 0) → ⊥) → Pairs u (partner u s) s
unfolding partner
paired u s n = by (λ l. ((l ≡ 0) → ⊥) → Pairs u l s) (between 55296 56319 u)
    (λ e x. let w = between-true 55296 56319 u e in let v = low-found s x in record { high-from = w.0; high-to = w.1; low-from = v.0; low-to = v.1; long = v.2 })
    (λ _ x. absurd (x refl)) n

-- what follows `\u`: a character of one unit or of two, in UTF-8
pub data Unicode (s : List ℕ) : Out (List ℕ) → Type 0 where
  one_unit : {n : ℕ} → n < 65536 → 4 ≤ length s → Unicode s (ok (utf8_of n) (drop 4 s))
  two-units : {n : ℕ} → 65536 ≤ n → n < 1114112 → 10 ≤ length s → Unicode s (ok (utf8_of n) (drop 10 s))
  no-unit : Unicode s bad

pub unicode-view : (s : List ℕ) → Unicode s (unicode s)
unfolding unicode
unicode-view s = go (hex4-view s)
  where
    go : {o : Out ℕ} → Hex s o → Unicode s (and_then o (λ u t. unit u t (partner u t)))
    go hex-not = no-unit
    go (hex-is {n} h l) = unfold unit in by (Unicode s) (eqb (partner n (drop 4 s)) 0) (λ _. one_unit h l)
        (λ e. let p = paired n (drop 4 s) (eqb-false _ 0 e) in
        rw drop-drop (two-units {n = 65536 + (n - 55296) * 1024 + (partner n (drop 4 s) - 56320)} (omega arith) (omega arith) (omega (arith, length-drop 4 s))))

-- a character has no more octets than it takes in the text
utf8-one : (n : ℕ) → n < 65536 → (1 ≤ length (utf8_of n)) × (length (utf8_of n) ≤ 3)
unfolding utf8_of
utf8-one n h = by Three (ltb n 128) (λ _. (omega arith, omega arith))
    (λ _. by Three (ltb n 2048) (λ _. (omega arith, omega arith)) (λ _. by Three (ltb n 65536) (λ _. (omega arith, omega arith)) (λ e. absurd (omega (arith, ltb-false n 65536 e)))))
  where
    Three : List ℕ → Type 0
    Three xs = (1 ≤ length xs) × (length xs ≤ 3)

utf8-two : (n : ℕ) → 65536 ≤ n → length (utf8_of n) ≡ 4
unfolding utf8_of
utf8-two n h = rw (le-ltb n 128 (omega arith), le-ltb n 2048 (omega arith), le-ltb n 65536 h)

-- what was read is no longer than the text that it took, and not empty
abbrev pub Small : List ℕ → List ℕ → List ℕ → Type 0
Small s xs t = (1 ≤ length xs) × (length xs + length t ≤ length s)

small-unicode : (s : List ℕ) → Gives (Small s) (unicode s)
small-unicode s = go (unicode-view s)
  where
    go : {o : Out (List ℕ)} → Unicode s o → Gives (Small s) o
    go (one_unit {n} h l) = let u = utf8-one n h in (u.0, omega (arith, u.1, length-drop 4 s))
    go (two-units {n} h k l) = (omega (arith, utf8-two n h), omega (arith, utf8-two n h, length-drop 10 s))
    go no-unit = tt

pub small-escape : (s : List ℕ) → Gives (Small s) (escape s)
unfolding escape
small-escape [] = tt
small-escape (b ∷ s) = by (Gives (Small (b ∷ s))) (eqb b 117)
    (λ _. gives-weaker (Small s) (Small (b ∷ s)) (unicode s) (small-unicode s) (λ xs t h. (h.0, omega arith)))
    (λ _. by (Gives (Small (b ∷ s))) (eqb (escape_of b) 0) (λ _. tt) (λ _. (omega arith, omega arith)))

pub small-piece : (s : List ℕ) → Gives (Small s) (piece s)
unfolding piece
small-piece [] = tt
small-piece (b ∷ s) = by (Gives (Small (b ∷ s))) (eqb b 92)
    (λ _. gives-weaker (Small s) (Small (b ∷ s)) (escape s) (small-escape s) (λ xs t h. (h.0, omega arith)))
    (λ _. by (Gives (Small (b ∷ s))) (ltb b 32) (λ _. tt) (λ _. (omega arith, omega arith)))

-- more pieces than octets are as good as any number
pieces-enough : (n m : ℕ) (s : List ℕ) → length s < n → length s < m → string_pieces n s ≡ string_pieces m s
unfolding string_pieces
pieces-enough zero m s h k = absurd (omega arith)
pieces-enough (suc n) zero s h k = absurd (omega arith)
pieces-enough (suc n) (suc m) [] h k = refl
pieces-enough (suc n) (suc m) (b ∷ s) h k = ap (pick (eqb b 34) (ok [] s)) (then-alike (piece (b ∷ s)) _ _
    (gives-weaker (Small (b ∷ s)) _ (piece (b ∷ s)) (small-piece (b ∷ s)) (λ xs t w. ap (fmap (λ ys. xs ++ ys)) (pieces-enough n m t (omega arith) (omega arith)))))

-- a string is a quote, or a piece and a string
abbrev pub onto : Out (List ℕ) → Out (List ℕ)
onto o = and_then o (λ xs t. fmap (λ ys. xs ++ ys) (string t))

pub string-cons : (b : ℕ) (s : List ℕ) → string (b ∷ s) ≡ pick (eqb b 34) (ok [] s) (onto (piece (b ∷ s)))
unfolding string string_pieces
string-cons b s = ap (pick (eqb b 34) (ok [] s)) (then-alike (piece (b ∷ s)) _ _
    (gives-weaker (Small (b ∷ s)) _ (piece (b ∷ s)) (small-piece (b ∷ s)) (λ xs t w. ap (fmap (λ ys. xs ++ ys)) (pieces-enough (suc (length s)) (suc (length t)) t (omega arith) (omega arith)))))

pub string-nil : string [] ≡ bad
unfolding string string_pieces
string-nil = refl

-- by the first octet
plain-is : (b : ℕ) → json_unescaped b ≡ true → (ltb b 32 ≡ false) × (eqb b 34 ≡ false) × (eqb b 92 ≡ false)
unfolding json_unescaped
plain-is b e =
    let w = both (leb 32 b) (not (eqb b 34) and not (eqb b 92)) e in
    let v = both (not (eqb b 34)) (not (eqb b 92)) w.1 in
    (le-ltb b 32 (leb-true 32 b w.0), not-true _ v.0, not-true _ v.1)

plain-not : (b : ℕ) → json_unescaped b ≡ false → eqb b 34 ≡ false → eqb b 92 ≡ false → ltb b 32 ≡ true
unfolding json_unescaped
plain-not b e x y = lt-ltb b 32 (leb-false 32 b (sym (and-true-right (leb 32 b)) ∙ rw (x, y) at e))

string-plain : (b : ℕ) (s : List ℕ) → json_unescaped b ≡ true → string (b ∷ s) ≡ fmap (λ ys. b ∷ ys) (string s)
unfolding piece
string-plain b s h = let w = plain-is b h in string-cons b s ∙ rw (w.1, w.2, w.0)

string-plains : (xs ys : List ℕ) → all json_unescaped xs ≡ true → string (xs ++ ys) ≡ fmap (λ zs. xs ++ zs) (string ys)
unfolding all
string-plains [] ys h = sym (map_same (string ys))
string-plains (x ∷ xs) ys h =
    let b = both (json_unescaped x) (all json_unescaped xs) h in
    string-plain x (xs ++ ys) b.0 ∙ ap (fmap (λ zs. x ∷ zs)) (string-plains xs ys b.1) ∙ map-map (λ zs. x ∷ zs) (λ zs. xs ++ zs) (string ys)

pub string-run : (s : List ℕ) {n : ℕ} → ClassRun json_unescaped s 0 n → string s ≡ fmap (λ zs. take n s ++ zs) (string (drop n s))
string-run s {n} w =
    let e : n - 0 ≡ n = omega arith in
    ap string (sym (take-append-drop n s)) ∙ string-plains (take n s) (drop n s) (rw e at w.inside)

pub string-quote : (s : List ℕ) → string (34 ∷ s) ≡ ok [] s
string-quote s = string-cons 34 s

pub string-escape : (s : List ℕ) → string (92 ∷ s) ≡ onto (escape s)
unfolding piece
string-escape s = string-cons 92 s

pub string-none : (s : List ℕ) → json_unescaped (get_or s 0 0) ≡ false → ((get_or s 0 0 ≡ 34) → ⊥) → ((get_or s 0 0 ≡ 92) → ⊥) → string s ≡ bad
unfolding piece
string-none [] p q b = string-nil
string-none (c ∷ s) p q b = string-cons c s ∙ rw (ne_eqb c 34 q, ne_eqb c 92 b, plain-not c p (ne_eqb c 34 q) (ne_eqb c 92 b))

-- a character written
module _ (n : ℕ) {p q : Pen} where
  pub char-1 : n < 128 → Wrote p (n ∷ []) q → Wrote p (utf8_of n) q
  unfolding utf8_of
  char-1 h w = rw (lt-ltb n 128 h) w

  pub char-2 : 128 ≤ n → n < 2048 → Wrote p ((192 + n / 64) ∷ (128 + n % 64) ∷ []) q → Wrote p (utf8_of n) q
  unfolding utf8_of
  char-2 h k w = rw (le-ltb n 128 h, lt-ltb n 2048 k) w

  pub char-3 : 2048 ≤ n → n < 65536 → Wrote p ((224 + n / 4096) ∷ (128 + n / 64 % 64) ∷ (128 + n % 64) ∷ []) q → Wrote p (utf8_of n) q
  unfolding utf8_of
  char-3 h k w = rw (le-ltb n 128 (omega arith), le-ltb n 2048 h, lt-ltb n 65536 k) w

  pub char-4 : 65536 ≤ n → Wrote p ((240 + n / 262144) ∷ (128 + n / 4096 % 64) ∷ (128 + n / 64 % 64) ∷ (128 + n % 64) ∷ []) q → Wrote p (utf8_of n) q
  unfolding utf8_of
  char-4 h w = rw (le-ltb n 128 (omega arith), le-ltb n 2048 (omega arith), le-ltb n 65536 h) w

-- what follows `\u`: u is what `hex4` answered, l what `partner` did
pub unicode-none : (s : List ℕ) → hex_code (hex4 s) ≡ None → unicode s ≡ bad
unfolding unicode
unicode-none s e = rw (code-none (hex4-view s) e)

module _ (s : List ℕ) (u : ℕ) (is : hex_code (hex4 s) ≡ Some u) where
  unit-coded : Coded s (hex4 s) u
  unit-coded = coded (hex4-view s) is

  pub unit-small : u < 65536
  unit-small = unit-coded.small

  pub unit-inside : 4 ≤ length s
  unit-inside = unit-coded.long

  module _ (l : ℕ) (next : l ≡ partner u (drop 4 s)) where
    unit-read : unicode s ≡ unit u (drop 4 s) l
    unfolding unicode
    unit-read = rw (unit-coded.is, next)

    pub one-read : l ≡ 0 → unicode s ≡ ok (utf8_of u) (drop 4 s)
    unfolding unit
    one-read z = unit-read ∙ rw (eq-eqb l 0 z)

    module _ (two : (l ≡ 0) → ⊥) where
      pub units-paired : Pairs u l (drop 4 s)
      units-paired = rw next (paired u (drop 4 s) (λ z. two (next ∙ z)))

      pub two-read : unicode s ≡ ok (utf8_of (65536 + (u - 55296) * 1024 + (l - 56320))) (drop 6 (drop 4 s))
      unfolding unit
      two-read = unit-read ∙ rw (ne_eqb l 0 two)

-- what follows a backslash, by its first octet
pub escape-short : (s : List ℕ) → length s < 1 → escape s ≡ bad
unfolding escape
escape-short [] h = refl
escape-short (b ∷ s) h = absurd (omega (arith, h))

pub escape_unicode : (s : List ℕ) → escape (117 ∷ s) ≡ unicode s
unfolding escape
escape_unicode s = refl

module _ (b : ℕ) (s : List ℕ) (n : (b ≡ 117) → ⊥) where
  pub escape-none : escape_of b ≡ 0 → escape (b ∷ s) ≡ bad
  unfolding escape
  escape-none z = rw (ne_eqb b 117 n, eq-eqb (escape_of b) 0 z)

  pub escape-one : {x : ℕ} → x ≡ escape_of b → ((x ≡ 0) → ⊥) → escape (b ∷ s) ≡ ok (x ∷ []) s
  unfolding escape
  escape-one q z = rw (q, ne_eqb b 117 n, ne_eqb (escape_of b) 0 (λ w. z (q ∙ w)))

pub small : (d : ℕ) → d ≤ 15 → ltb d 16 ≡ true
small d h = lt-ltb d 16 (omega arith)

-- what follows a backslash, at a place
module _ (text : List ℕ) (i : ℕ) where
  module _ (x : ℕ) (n : (get_or text i 0 ≡ 117) → ⊥) (e : x ≡ escape_of (get_or text i 0)) where
    pub escape-inside : ((x ≡ 0) → ⊥) → i < length text
    unfolding escape_of
    escape-inside z = inside text i (λ b. not (eqb (escape_of b) 0)) refl (rw (← e, ne_eqb x 0 z))
