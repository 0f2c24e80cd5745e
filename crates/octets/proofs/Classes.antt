-- Laws of classes, names and case; and of tests over a slice from a position on.
use Prim.Native.Nat.{ℕ, suc, ◌+◌, ◌-◌, ◌≤◌, ◌<◌}
use Prim.Native.Char.{code}
use mathlib.Core.Path.{◌≡◌, refl, sym, ap, ◌∙◌}
use mathlib.Core.Bool.{Bool, true, false, not}
use mathlib.Core.List.{List, [], ◌∷◌, map, map-id}
use native.Mathlib.Omega.{arith}
use borrow.Author.Tests.{le-leb, lt-leb, leb-true, eq-eqb, ne_eqb, eqb-true, eqb-false}
use lib.Dec.{eqb, leb}
use lib.ListN.{length, get_or, drop}
use Rattle.octets.specs.Basics.{◌and◌, ◌or◌, all, filled, same}
use Rattle.octets.specs.Classes.{between, is_digit, is_upper, is_lower, is_letter, name_octet, is_name, lower_name_octet, is_lower_name, is_control, plain_octet, text_octet, upper_octet, lower_octet, upper, lower, same_name}
use Rattle.octets.specs.Groups.{cased, text_bare, text_as_is}
use Rattle.octets.specs.declared.names.Case.TheVariants.{Exact}
use Rattle.octets.proofs.Cases.{cases, same?, never, both, either, apart, or-first, and-true, and_assoc, and-true-right, and-false-right, all_weaker}
use Rattle.octets.proofs.Positions.{here, ended}

-- lo ≤ c ≤ hi, told by the test
pub between-true : (lo hi c : ℕ) → between lo hi c ≡ true → (lo ≤ c) × (c ≤ hi)
unfolding between
between-true lo hi c e = let b = both (leb lo c) (leb c hi) e in (leb-true lo c b.0, leb-true c hi b.1)

pub within-between : (lo hi c : ℕ) → lo ≤ c → c ≤ hi → between lo hi c ≡ true
unfolding between
within-between lo hi c h k = and-true (le-leb lo c h) (le-leb c hi k)

pub below-between : (lo hi c : ℕ) → c < lo → between lo hi c ≡ false
unfolding between
below-between lo hi c h = rw (lt-leb lo c h)

pub above-between : (lo hi c : ℕ) → hi < c → between lo hi c ≡ false
unfolding between
above-between lo hi c h = cases (leb lo c) (λ e. rw (e, lt-leb c hi h)) (λ e. rw e)

-- a test over what lies behind i
module _ (p : ℕ → Bool) (s : List ℕ) (i : ℕ) where
  pub all-on : i < length s → p (get_or s i 0) ≡ true → all p (drop i s) ≡ all p (drop (i + 1) s)
  unfolding all
  all-on h e = rw (here s i h, e)

  pub all-stop : i < length s → p (get_or s i 0) ≡ false → all p (drop i s) ≡ false
  unfolding all
  all-stop h e = rw (here s i h, e)

  -- the test so far, and the element at i
  pub all_more : (so_far : Bool) → i < length s → ((so_far and p (get_or s i 0)) and all p (drop (i + 1) s)) ≡ (so_far and all p (drop i s))
  unfolding all
  all_more so_far h = and_assoc so_far (p (get_or s i 0)) (all p (drop (i + 1) s)) ∙ rw (here s i h)

  pub all_end : length s ≤ i → all p (drop i s) ≡ true
  unfolding all
  all_end h = rw (ended s i h)

  pub all_done : (so_far : Bool) → length s ≤ i → (so_far and all p (drop i s)) ≡ so_far
  all_done so_far h = rw (all_end h) (and-true-right so_far)

  -- n elements of those before i passed the test
  count_next : (n : ℕ) → eqb (n + 1) (i + 1) ≡ eqb n i
  count_next n = same? n i (λ e. rw e (eq-eqb (i + 1) (i + 1) refl ∙ sym (eq-eqb i i refl))) (λ e. ne_eqb (n + 1) (i + 1) (λ z. eqb-false n i e (omega arith)) ∙ sym e)

  pub count-in : (n : ℕ) → i < length s → p (get_or s i 0) ≡ true → (eqb (n + 1) (i + 1) and all p (drop (i + 1) s)) ≡ (eqb n i and all p (drop i s))
  unfolding all
  count-in n h e = rw (here s i h, e, count_next n)

  pub count-out : (n : ℕ) → n ≤ i → i < length s → p (get_or s i 0) ≡ false → (eqb n (i + 1) and all p (drop (i + 1) s)) ≡ (eqb n i and all p (drop i s))
  unfolding all
  count-out n l h e = rw (here s i h, e, ne_eqb n (i + 1) (λ z. omega arith)) (sym (and-false-right (eqb n i)))

-- a slice of length 0 and any other
pub filled_none : (s : List ℕ) → length s ≡ 0 → filled s ≡ false
unfolding filled
filled_none [] e = refl
filled_none (x ∷ s) e = absurd (omega arith)

pub filled-some : (s : List ℕ) → (length s ≡ 0 → ⊥) → filled s ≡ true
unfolding filled
filled-some [] n = absurd (n refl)
filled-some (x ∷ s) n = refl

-- `same` is equality
pub same-itself : (s : List ℕ) → same s s ≡ true
unfolding same
same-itself [] = refl
same-itself (x ∷ s) = and-true (eq-eqb x x refl) (same-itself s)

pub same-is : (a b : List ℕ) → same a b ≡ true → a ≡ b
unfolding same
same-is [] [] h = refl
same-is [] (y ∷ b) h = never h refl
same-is (x ∷ a) [] h = never h refl
same-is (x ∷ a) (y ∷ b) h = same? x y
    (λ e. rw (e, same-is a b (both (eqb x y) (same a b) h).1))
    (λ n. never (both (eqb x y) (same a b) h).0 n)

pub same_length : (a b : List ℕ) → (length a ≡ length b → ⊥) → same a b ≡ false
same_length a b n = cases (same a b) (λ e. absurd (n (ap length (same-is a b e)))) (λ e. e)

-- `same` of what lies behind i in two lists, in the case that f turns octets into
module _ (f : ℕ → ℕ) (a b : List ℕ) where
  module _ (i : ℕ) (h : i < length a) (k : i < length b) where
    pub cased_on : f (get_or a i 0) ≡ f (get_or b i 0) → same (map f (drop i a)) (map f (drop i b)) ≡ same (map f (drop (i + 1) a)) (map f (drop (i + 1) b))
    unfolding same
    cased_on e = rw (here a i h, here b i k, eq-eqb (f (get_or a i 0)) (f (get_or b i 0)) e)

    pub cased-stop : (f (get_or a i 0) ≡ f (get_or b i 0) → ⊥) → same (map f (drop i a)) (map f (drop i b)) ≡ false
    unfolding same
    cased-stop n = rw (here a i h, here b i k, ne_eqb (f (get_or a i 0)) (f (get_or b i 0)) n)

  pub cased-end : (i : ℕ) → length a ≤ i → length b ≤ i → same (map f (drop i a)) (map f (drop i b)) ≡ true
  unfolding same
  cased-end i h k = rw (ended a i h, ended b i k)

pub same_end : (a b : List ℕ) (i : ℕ) → length a ≤ i → length b ≤ i → same (drop i a) (drop i b) ≡ true
unfolding same
same_end a b i h k = rw (ended a i h, ended b i k)

pub map-length : (f : ℕ → ℕ) (s : List ℕ) → length (map f s) ≡ length s
map-length f [] = refl
map-length f (x ∷ s) = ap suc (map-length f s)

pub upper-length : (s : List ℕ) → length (upper s) ≡ length s
unfolding upper
upper-length s = map-length upper_octet s

pub cased-length : (f : ℕ → ℕ) (a b : List ℕ) → (length a ≡ length b → ⊥) → same (map f a) (map f b) ≡ false
cased-length f a b n = same_length (map f a) (map f b) (λ e. n (sym (map-length f a) ∙ e ∙ map-length f b))

pub name-length : (a b : List ℕ) → (length a ≡ length b → ⊥) → same_name a b ≡ false
unfolding same_name upper
name-length a b n = cased-length upper_octet a b n

-- octets as they are
pub exact : (n : List ℕ) → map (cased Exact) n ≡ n
exact n = map-id n

pub same-exact : (a b : List ℕ) → same (map (cased Exact) a) (map (cased Exact) b) ≡ same a b
same-exact a b = ap (λ (l : List ℕ). same l (map (cased Exact) b)) (exact a) ∙ ap (same a) (exact b)

-- octets of texts, and those of a line
pub plain-text : (c : ℕ) → plain_octet c ≡ true → text_octet c ≡ true
unfolding text_octet
plain-text c h = or-first _ h

pub text-plain : (c : ℕ) → text_octet c ≡ true → eqb c (code "\n") ≡ false → plain_octet c ≡ true
unfolding text_octet
text-plain c h n = either (plain_octet c) (eqb c (code "\n")) h (λ e. e) (λ e. never e n)

-- an octet that a text has as it is is plain
pub bare-plain : (c : ℕ) → text_bare c ≡ true → plain_octet c ≡ true
unfolding text_bare plain_octet is_control
bare-plain c h =
    let l : leb c 31 ≡ false = lt-leb c 31 (omega (arith, leb-true 32 c (both (leb 32 c) _ h).0)) in
    rw (l, apart text_bare c 127 h refl)

pub as-is-plain : (c : ℕ) → text_as_is c ≡ true → plain_octet c ≡ true
unfolding text_as_is
as-is-plain c h = bare-plain c (both (not (eqb c (code "\""))) (text_bare c) h).1

-- case
pub upper_octet-twice : (c : ℕ) → upper_octet (upper_octet c) ≡ upper_octet c
unfolding upper_octet is_lower
upper_octet-twice c = cases (between (code "a") (code "z") c)
    (λ e. rw (e, below-between (code "a") (code "z") (c - 32) (let b = between-true (code "a") (code "z") c e in omega arith)))
    (λ e. rw (e, e))

pub upper-twice : (s : List ℕ) → upper (upper s) ≡ upper s
unfolding upper
upper-twice [] = refl
upper-twice (c ∷ s) = rw (upper_octet-twice c) (ap (λ (l : List ℕ). upper_octet c ∷ l) (upper-twice s))

-- upper and lower case, by ranges
pub lower-octet-is : (c : ℕ) → is_upper c ≡ true → lower_octet c ≡ c + 32
unfolding lower_octet
lower-octet-is c e = rw e

pub lower-octet-other : (c : ℕ) → is_upper c ≡ false → lower_octet c ≡ c
unfolding lower_octet
lower-octet-other c e = rw e

pub upper-octet-is : (c : ℕ) → is_lower c ≡ true → upper_octet c ≡ c - 32
unfolding upper_octet
upper-octet-is c e = rw e

pub upper-octet-other : (c : ℕ) → is_lower c ≡ false → upper_octet c ≡ c
unfolding upper_octet
upper-octet-other c e = rw e

pub is_upper-range : (c : ℕ) → is_upper c ≡ true → (code "A" ≤ c) × (c ≤ code "Z")
unfolding is_upper
is_upper-range c e = between-true (code "A") (code "Z") c e

pub is_lower-range : (c : ℕ) → is_lower c ≡ true → (code "a" ≤ c) × (c ≤ code "z")
unfolding is_lower
is_lower-range c e = between-true (code "a") (code "z") c e

range-upper : (c : ℕ) → code "A" ≤ c → c ≤ code "Z" → is_upper c ≡ true
unfolding is_upper
range-upper c h k = within-between (code "A") (code "Z") c h k

range-lower : (c : ℕ) → code "a" ≤ c → c ≤ code "z" → is_lower c ≡ true
unfolding is_lower
range-lower c h k = within-between (code "a") (code "z") c h k

upper-not-lower : (c : ℕ) → c < code "a" → is_lower c ≡ false
unfolding is_lower
upper-not-lower c h = below-between (code "a") (code "z") c h

lower-not-upper : (c : ℕ) → code "Z" < c → is_upper c ≡ false
unfolding is_upper
lower-not-upper c h = above-between (code "A") (code "Z") c h

pub lower_octet-twice : (c : ℕ) → lower_octet (lower_octet c) ≡ lower_octet c
lower_octet-twice c = cases (is_upper c)
    (λ e. let b = is_upper-range c e in rw (lower-octet-is c e, lower-octet-other (c + 32) (lower-not-upper (c + 32) (omega arith))))
    (λ e. rw (lower-octet-other c e, lower-octet-other c e))

pub upper-of-lower : (c : ℕ) → upper_octet (lower_octet c) ≡ upper_octet c
upper-of-lower c = cases (is_upper c)
    (λ e.
    let b = is_upper-range c e in
    rw (lower-octet-is c e, upper-octet-is (c + 32) (range-lower (c + 32) (omega arith) (omega arith)), upper-octet-other c (upper-not-lower c (omega arith))) (omega arith))
    (λ e. rw (lower-octet-other c e))

pub lower-of-upper : (c : ℕ) → lower_octet (upper_octet c) ≡ lower_octet c
lower-of-upper c = cases (is_lower c)
    (λ e.
    let b = is_lower-range c e in
    rw (upper-octet-is c e, lower-octet-is (c - 32) (range-upper (c - 32) (omega arith) (omega arith)), lower-octet-other c (lower-not-upper c (omega arith))) (omega arith))
    (λ e. rw (upper-octet-other c e))

-- two maps, octet by octet
pub map_same : (f g h : ℕ → ℕ) → ((c : ℕ) → f (g c) ≡ h c) → (s : List ℕ) → map f (map g s) ≡ map h s
map_same f g h e [] = refl
map_same f g h e (c ∷ s) = rw (e c) (ap (λ (l : List ℕ). h c ∷ l) (map_same f g h e s))

pub lower-twice : (s : List ℕ) → lower (lower s) ≡ lower s
unfolding lower
lower-twice s = map_same lower_octet lower_octet lower_octet lower_octet-twice s

pub upper-lower : (s : List ℕ) → upper (lower s) ≡ upper s
unfolding upper lower
upper-lower s = map_same upper_octet lower_octet upper_octet upper-of-lower s

pub lower-upper : (s : List ℕ) → lower (upper s) ≡ lower s
unfolding upper lower
lower-upper s = map_same lower_octet upper_octet lower_octet lower-of-upper s

-- names without case
pub name-is : (a b : List ℕ) → same_name a b ≡ true → upper a ≡ upper b
unfolding same_name
name-is a b e = same-is (upper a) (upper b) e

-- names in either case
pub name-of-lower : (c : ℕ) → name_octet c ≡ true → lower_name_octet (lower_octet c) ≡ true
unfolding name_octet is_letter lower_name_octet
name-of-lower c h = cases (is_upper c)
    (λ e. let b = is_upper-range c e in rw (lower-octet-is c e, range-lower (c + 32) (omega arith) (omega arith)))
    (λ e. rw (lower-octet-other c e) (rw e at h))

pub name-of-upper : (c : ℕ) → name_octet c ≡ true → name_octet (upper_octet c) ≡ true
unfolding name_octet is_letter
name-of-upper c h = cases (is_lower c)
    (λ e. let b = is_lower-range c e in rw (upper-octet-is c e, range-upper (c - 32) (omega arith) (omega arith)))
    (λ e. rw (upper-octet-other c e) h)

pub lower-name-octet : (c : ℕ) → lower_name_octet c ≡ true → name_octet c ≡ true
unfolding name_octet is_letter lower_name_octet
lower-name-octet c h = cases (is_upper c) (λ e. rw e) (λ e. rw e h)

below-upper : (c : ℕ) → c < code "A" → is_upper c ≡ false
unfolding is_upper
below-upper c h = below-between (code "A") (code "Z") c h

name-not-upper : (c : ℕ) → lower_name_octet c ≡ true → is_upper c ≡ false
unfolding lower_name_octet is_digit
name-not-upper c h = either (is_lower c) (between (code "0") (code "9") c or eqb c (code "-")) h
    (λ e. lower-not-upper c (omega (arith, (is_lower-range c e).0)))
    (λ k. either (between (code "0") (code "9") c) (eqb c (code "-")) k
    (λ e. below-upper c (omega (arith, (between-true (code "0") (code "9") c e).1)))
    (λ e. below-upper c (omega (arith, eqb-true c (code "-") e))))

lower-stays : (c : ℕ) → lower_name_octet c ≡ true → lower_octet c ≡ c
lower-stays c h = lower-octet-other c (name-not-upper c h)

all_map : (p q : ℕ → Bool) (f : ℕ → ℕ) → ((c : ℕ) → p c ≡ true → q (f c) ≡ true) → (s : List ℕ) → all p s ≡ true → all q (map f s) ≡ true
unfolding all
all_map p q f k [] h = refl
all_map p q f k (c ∷ s) h = let b = both (p c) (all p s) h in and-true (k c b.0) (all_map p q f k s b.1)

filled-map : (f : ℕ → ℕ) (s : List ℕ) → filled (map f s) ≡ filled s
unfolding filled
filled-map f [] = refl
filled-map f (c ∷ s) = refl

pub name-lower : (s : List ℕ) → is_name s ≡ true → is_lower_name (lower s) ≡ true
unfolding is_name is_lower_name lower
name-lower s h = let b = both (filled s) (all name_octet s) h in
    and-true (filled-map lower_octet s ∙ b.0) (all_map name_octet lower_name_octet lower_octet name-of-lower s b.1)

pub name-upper : (s : List ℕ) → is_name s ≡ true → is_name (upper s) ≡ true
unfolding is_name upper
name-upper s h = let b = both (filled s) (all name_octet s) h in
    and-true (filled-map upper_octet s ∙ b.0) (all_map name_octet name_octet upper_octet name-of-upper s b.1)

pub lower-name : (s : List ℕ) → is_lower_name s ≡ true → is_name s ≡ true
unfolding is_name is_lower_name
lower-name s h = let b = both (filled s) (all lower_name_octet s) h in
    and-true b.0 (all_weaker lower_name_octet name_octet lower-name-octet s b.1)

pub lower-name-stays : (s : List ℕ) → all lower_name_octet s ≡ true → lower s ≡ s
unfolding all lower
lower-name-stays [] h = refl
lower-name-stays (c ∷ s) h = let b = both (lower_name_octet c) (all lower_name_octet s) h in
    rw (lower-stays c b.0) (ap (λ (l : List ℕ). c ∷ l) (lower-name-stays s b.1))
