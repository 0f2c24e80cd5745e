-- Laws of UTF-8 and of clean lines: put together, cut at an ASCII octet, mapped, and bounded.
use Prim.Native.Nat.{ℕ, ◌-◌, ◌≤◌, ◌<◌}
use Prim.Native.Char.{code}
use mathlib.Core.Path.{◌≡◌, refl, sym, ap, ◌∙◌}
use mathlib.Core.Bool.{Bool, true, false}
use mathlib.Core.List.{List, [], ◌∷◌, ◌++◌, map}
use native.Mathlib.Omega.{arith}
use borrow.Author.Tests.{le-leb, lt-leb, leb-true, leb-false, ne_eqb}
use lib.Dec.{leb}
use Rattle.octets.specs.Basics.{pick, ◌and◌, all}
use Rattle.octets.specs.Classes.{between, is_lower, is_control, plain_octet, upper_octet, upper}
use Rattle.octets.specs.Utf8.{Due, start, one, two, three, after_e0, after_ed, after_f0, after_f4, broken, lead, due, due_after, is_start, utf8, clean}
use Rattle.octets.proofs.Cases.{cases, never, both, and-true, and-swap, all_append, all_weaker}
use Rattle.octets.proofs.Classes.{between-true, within-between, below-between, above-between}

-- an octet that is a character of its own
unfoldable pub ascii : ℕ → Bool
ascii c = leb c 127

pub ascii-low : (c : ℕ) → ascii c ≡ true → c ≤ 127
unfolding ascii
ascii-low c e = leb-true c 127 e

pub ascii-high : (c : ℕ) → ascii c ≡ false → 127 < c
unfolding ascii
ascii-high c e = leb-false c 127 e

-- the automaton over two texts, and past the point where a text is broken
pub due-cons : (d : Due) (c : ℕ) (s : List ℕ) → due_after d (c ∷ s) ≡ due_after (due d c) s
unfolding due_after
due-cons d c s = refl

pub due-append : (d : Due) (xs ys : List ℕ) → due_after d (xs ++ ys) ≡ due_after (due_after d xs) ys
unfolding due_after
due-append d [] ys = refl
due-append d (x ∷ xs) ys = due-append (due d x) xs ys

pub broken-stays : (s : List ℕ) → due_after broken s ≡ broken
unfolding due_after due
broken-stays [] = refl
broken-stays (c ∷ s) = broken-stays s

pub broken-start {ℓ} : {P : Type ℓ} → broken ≡ start → P
broken-start e = let z : ◌≡◌ {A = ℕ} 0 1 = cc in absurd (omega arith)

pub start_is : (d : Due) → is_start d ≡ true → d ≡ start
unfolding is_start
start_is start e = refl
start_is one e = never e refl
start_is two e = never e refl
start_is three e = never e refl
start_is after_e0 e = never e refl
start_is after_ed e = never e refl
start_is after_f0 e = never e refl
start_is after_f4 e = never e refl
start_is broken e = never e refl

pub utf8-start : (s : List ℕ) → utf8 s ≡ true → due_after start s ≡ start
unfolding utf8
utf8-start s e = start_is (due_after start s) e

pub start-utf8 : (s : List ℕ) → due_after start s ≡ start → utf8 s ≡ true
unfolding utf8 is_start
start-utf8 s e = rw e

-- an ASCII octet stands at the start of a character, or the text is broken
pub due-ascii : (d : Due) (c : ℕ) → ascii c ≡ true → due d c ≡ pick (is_start d) start broken
unfolding due is_start
due-ascii start c e = unfold lead ascii in rw e
due-ascii one c e = rw (below-between 128 191 c (omega (arith, ascii-low c e)))
due-ascii two c e = rw (below-between 128 191 c (omega (arith, ascii-low c e)))
due-ascii three c e = rw (below-between 128 191 c (omega (arith, ascii-low c e)))
due-ascii after_e0 c e = rw (below-between 160 191 c (omega (arith, ascii-low c e)))
due-ascii after_ed c e = rw (below-between 128 159 c (omega (arith, ascii-low c e)))
due-ascii after_f0 c e = rw (below-between 144 191 c (omega (arith, ascii-low c e)))
due-ascii after_f4 c e = rw (below-between 128 143 c (omega (arith, ascii-low c e)))
due-ascii broken c e = refl

-- a text and one behind it
pub utf8_append : (xs ys : List ℕ) → utf8 xs ≡ true → utf8 (xs ++ ys) ≡ utf8 ys
unfolding utf8
utf8_append xs ys h = rw (due-append start xs ys, start_is (due_after start xs) h)

pub utf8-both : (xs ys : List ℕ) → utf8 xs ≡ true → utf8 ys ≡ true → utf8 (xs ++ ys) ≡ true
utf8-both xs ys h k = utf8_append xs ys h ∙ k

-- ASCII octets are UTF-8
pub utf8-ascii : (c : ℕ) (s : List ℕ) → ascii c ≡ true → utf8 (c ∷ s) ≡ utf8 s
unfolding utf8 due_after
utf8-ascii c s e = rw (due-ascii start c e) (unfold is_start in refl)

pub ascii-utf8 : (s : List ℕ) → all ascii s ≡ true → utf8 s ≡ true
unfolding all
ascii-utf8 [] h = unfold utf8 due_after is_start in refl
ascii-utf8 (c ∷ s) h = let b = both (ascii c) (all ascii s) h in utf8-ascii c s b.0 ∙ ascii-utf8 s b.1

-- cut at an ASCII octet
cut_short : (xs : List ℕ) (c : ℕ) (ys : List ℕ) → ascii c ≡ true → utf8 xs ≡ false → utf8 (xs ++ c ∷ ys) ≡ false
unfolding utf8 due_after
cut_short xs c ys e h = rw (due-append start xs (c ∷ ys), due-ascii (due_after start xs) c e, h, broken-stays ys) (unfold is_start in refl)

pub utf8-cut : (xs : List ℕ) (c : ℕ) (ys : List ℕ) → ascii c ≡ true → utf8 (xs ++ c ∷ ys) ≡ (utf8 xs and utf8 ys)
utf8-cut xs c ys e = cases (utf8 xs)
    (λ h. rw h (utf8_append xs (c ∷ ys) h ∙ utf8-ascii c ys e))
    (λ h. rw h (cut_short xs c ys e h))

-- no octet of a UTF-8 text is above 244
pub lead-above : (c : ℕ) → 244 < c → lead c ≡ broken
unfolding lead
lead-above c h = rw (
  lt-leb c 127 (omega arith),
  lt-leb c 193 (omega arith),
  lt-leb c 223 (omega arith),
  ne_eqb c 224 (λ e. omega arith),
  ne_eqb c 237 (λ e. omega arith),
  lt-leb c 239 (omega arith),
  ne_eqb c 240 (λ e. omega arith),
  lt-leb c 243 (omega arith),
  ne_eqb c 244 (λ e. omega arith),
)

-- a map of octets that keeps ASCII and changes nothing else keeps UTF-8
module _ (f : ℕ → ℕ) (low : (c : ℕ) → ascii c ≡ true → ascii (f c) ≡ true) (high : (c : ℕ) → ascii c ≡ false → f c ≡ c) where
  due-map : (d : Due) (c : ℕ) → due d (f c) ≡ due d c
  due-map d c = cases (ascii c) (λ e. due-ascii d (f c) (low c e) ∙ sym (due-ascii d c e)) (λ e. ap (due d) (high c e))

  after_map : (d : Due) (s : List ℕ) → due_after d (map f s) ≡ due_after d s
  unfolding due_after
  after_map d [] = refl
  after_map d (c ∷ s) = ap (λ (e : Due). due_after e (map f s)) (due-map d c) ∙ after_map (due d c) s

  pub utf8-map : (s : List ℕ) → utf8 (map f s) ≡ utf8 s
  unfolding utf8
  utf8-map s = ap is_start (after_map start s)

-- case keeps UTF-8
upper-low : (c : ℕ) → ascii c ≡ true → ascii (upper_octet c) ≡ true
unfolding upper_octet
upper-low c e = cases (is_lower c)
    (λ h. rw h (unfold ascii in le-leb (c - 32) 127 (omega (arith, ascii-low c e))))
    (λ h. rw h e)

upper-high : (c : ℕ) → ascii c ≡ false → upper_octet c ≡ c
unfolding upper_octet is_lower
upper-high c e = rw (above-between (code "a") (code "z") c (omega (arith, ascii-high c e)))

-- clean: UTF-8 without control characters but tab
pub clean-both : (xs ys : List ℕ) → clean xs ≡ true → clean ys ≡ true → clean (xs ++ ys) ≡ true
unfolding clean
clean-both xs ys h k =
    let a = both (utf8 xs) (all plain_octet xs) h in
    let b = both (utf8 ys) (all plain_octet ys) k in
    and-true (utf8-both xs ys a.0 b.0) (all_append plain_octet xs ys ∙ and-true a.1 b.1)

pub clean-cut : (xs : List ℕ) (c : ℕ) (ys : List ℕ) → ascii c ≡ true → plain_octet c ≡ true → clean (xs ++ c ∷ ys) ≡ (clean xs and clean ys)
unfolding clean all
clean-cut xs c ys e p = rw (utf8-cut xs c ys e, all_append plain_octet xs (c ∷ ys), p) (and-swap (utf8 xs) (utf8 ys) (all plain_octet xs) (all plain_octet ys))

pub plain-above : (c : ℕ) → 31 < c → c < 127 → plain_octet c ≡ true
unfolding plain_octet is_control
plain-above c h k = rw (lt-leb c 31 h, ne_eqb c 127 (λ e. omega arith))

-- octets from 0 to 127 are UTF-8, and those from 32 to 126 are clean
pub low-utf8 : (s : List ℕ) → all (between 0 127) s ≡ true → utf8 s ≡ true
low-utf8 s h = ascii-utf8 s (all_weaker (between 0 127) ascii low s h)
  where
    low : (c : ℕ) → between 0 127 c ≡ true → ascii c ≡ true
    low c e = unfold ascii in le-leb c 127 (between-true 0 127 c e).1

pub printable-clean : (s : List ℕ) → all (between 32 126) s ≡ true → clean s ≡ true
unfolding clean
printable-clean s h = and-true (low-utf8 s (all_weaker (between 32 126) (between 0 127) low s h)) (all_weaker (between 32 126) plain_octet plain s h)
  where
    low : (c : ℕ) → between 32 126 c ≡ true → between 0 127 c ≡ true
    low c e = within-between 0 127 c (omega arith) (omega (arith, (between-true 32 126 c e).1))

    plain : (c : ℕ) → between 32 126 c ≡ true → plain_octet c ≡ true
    plain c e = plain-above c (omega (arith, (between-true 32 126 c e).0)) (omega (arith, (between-true 32 126 c e).1))

-- an octet that a map changes is ASCII, so control characters are all that may come in
module _ (f : ℕ → ℕ) (plain : (c : ℕ) → plain_octet (f c) ≡ plain_octet c) where
  pub plain_map : (s : List ℕ) → all plain_octet (map f s) ≡ all plain_octet s
  unfolding all
  plain_map [] = refl
  plain_map (c ∷ s) = rw (plain c, plain_map s)

upper-plain : (c : ℕ) → plain_octet (upper_octet c) ≡ plain_octet c
unfolding upper_octet
upper-plain c = cases (is_lower c)
    (λ e. let b = between-true (code "a") (code "z") c (unfold is_lower in e) in
    rw e (plain-above (c - 32) (omega arith) (omega arith) ∙ sym (plain-above c (omega arith) (omega arith))))
    (λ e. rw e)

pub clean-upper : (s : List ℕ) → clean (upper s) ≡ clean s
unfolding clean upper
clean-upper s = rw (utf8-map upper_octet upper-low upper-high s, plain_map upper_octet upper-plain s)
