-- Reading one character of several octets, and a text by its characters.
use Prim.Native.Nat.{ℕ, zero, suc, ◌+◌, ◌-◌, ◌≤◌, ◌<◌}
use mathlib.Core.Path.{◌≡◌, refl, sym, ap, ◌∙◌}
use mathlib.Core.Bool.{true, false}
use mathlib.Core.List.{List}
use native.Mathlib.Omega.{arith}
use borrow.Author.Tests.{le-leb, lt-leb, ltb-true, ltb-false, ne_eqb}
use lib.Dec.{ltb}
use lib.ListN.{length, get_or, drop}
use Rattle.std.specs.Prelude.{Some, None}
use Rattle.std.specs.declared.option.Option as code
use Rattle.octets.specs.Classes.{between}
use Rattle.octets.specs.Utf8.{Due, start, one, two, three, after_e0, after_ed, after_f0, after_f4, broken, lead, due, due_after, is_start, utf8}
use Rattle.octets.specs.Characters.{Awaits, Ends, still}
use Rattle.octets.proofs.Cases.{cases}
use Rattle.octets.proofs.Positions.{here, ended, past_end}
use Rattle.octets.proofs.Classes.{between-true}
use Rattle.octets.proofs.Utf8.{ascii, due-cons, broken-stays, utf8-ascii}

-- an octet other than 0 is there
pub seen : (s : List ℕ) (i : ℕ) → 0 < get_or s i 0 → i < length s
seen s i h = cases (ltb i (length s)) (λ e. ltb-true i (length s) e)
    (λ e. let z : get_or s i 0 ≡ 0 = past_end s i (ltb-false i (length s) e) in absurd (omega arith))

module _ (d : Due) (s : List ℕ) (i : ℕ) where
  -- the character is broken at its end, or at the octet at i
  broken-end : is_start d ≡ false → length s ≤ i → is_start (due_after d (drop i s)) ≡ false
  unfolding due_after
  broken-end w h = rw (ended s i h) w

  broken-here : i < length s → due d (get_or s i 0) ≡ broken → is_start (due_after d (drop i s)) ≡ false
  broken-here h e = rw (here s i h, due-cons, e, broken-stays (drop (i + 1) s)) (unfold is_start in refl)

  pub ends-broken : i < length s → due d (get_or s i 0) ≡ broken → Ends d s i None
  ends-broken h e = broken-here h e

  -- the octet at i is one of its octets
  module _ (next : Due) (h : 127 < get_or s i 0) (e : due d (get_or s i 0) ≡ next) where
    pub told-on : is_start (due_after d (drop i s)) ≡ is_start (due_after next (drop (i + 1) s))
    told-on = rw (here s i (seen s i (omega arith)), due-cons, e)

    pub ends_on : (r : code.Option ℕ) → Ends next s (i + 1) r → Ends d s i r
    ends_on None t = told-on ∙ t
    ends_on (Some r) t = record { within = t.within; onward = omega (arith, t.onward); told = told-on ∙ t.told }

-- an octet from lo to hi is due
module _ (d : Due) (lo hi : ℕ) (next : Due) (a : Awaits d lo hi next) (s : List ℕ) (i : ℕ) where
  pub awaited-not : between lo hi (get_or s i 0) ≡ false → Ends d s i None
  awaited-not e = cases (ltb i (length s))
      (λ h. ends-broken d s i (ltb-true i (length s) h) (rw (a.step (get_or s i 0), e)))
      (λ h. broken-end d s i a.waits (ltb-false i (length s) h))

  module _ (e : between lo hi (get_or s i 0) ≡ true) where
    high-enough : 127 < get_or s i 0
    high-enough = omega (arith, (between-true lo hi (get_or s i 0) e).0, a.high)

    comes : due d (get_or s i 0) ≡ next
    comes = rw (a.step (get_or s i 0), e)

    pub awaited : is_start (due_after d (drop i s)) ≡ is_start (due_after next (drop (i + 1) s))
    awaited = told-on d s i next high-enough comes

pub one-awaits : Awaits one 128 191 start
unfolding due is_start
one-awaits = record { step = λ c. refl; waits = refl; high = omega arith }

pub two-awaits : Awaits two 128 191 one
unfolding due is_start
two-awaits = record { step = λ c. refl; waits = refl; high = omega arith }

pub three-awaits : Awaits three 128 191 two
unfolding due is_start
three-awaits = record { step = λ c. refl; waits = refl; high = omega arith }

-- the octets that are still due follow one by one
pub still-awaits : (n : ℕ) → 0 < n → n ≤ 2 → Awaits (still n) 128 191 (still (n - 1))
still-awaits zero h k = absurd (omega arith)
still-awaits (suc zero) h k = one-awaits
still-awaits (suc (suc zero)) h k = two-awaits
still-awaits (suc (suc (suc n))) h k = absurd (omega arith)

-- an octet in a range is there
pub inside-range : (lo hi : ℕ) (s : List ℕ) (i : ℕ) → 0 < lo → between lo hi (get_or s i 0) ≡ true → i < length s
inside-range lo hi s i h e = seen s i (omega (arith, (between-true lo hi (get_or s i 0) e).0))

-- of the character of which d is due at i, n octets more are due at j
abbrev pub Onward : Due → List ℕ → ℕ → ℕ → ℕ → Type 0
Onward d s i n j = is_start (due_after d (drop i s)) ≡ is_start (due_after (still n) (drop j s))

pub onward-first : (d : Due) (s : List ℕ) (i n lo hi : ℕ) → Awaits d lo hi (still n) → between lo hi (get_or s i 0) ≡ true → (m j : ℕ) → m ≡ n → j ≡ i + 1 → Onward d s i m j
onward-first d s i n lo hi a e m j f g = rw (f, g) (awaited d lo hi (still n) a s i e)

module _ (d : Due) (s : List ℕ) (i n j : ℕ) (o : Onward d s i n j) where
  module _ (some : 0 < n) (few : n ≤ 2) where
    pub onward-more : (m k : ℕ) → n ≡ m + 1 → k ≡ j + 1 → between 128 191 (get_or s j 0) ≡ true → Onward d s i m k
    onward-more m k f g e =
        let p : n - 1 ≡ m = omega arith in
        o ∙ rw (g, ← p) (awaited (still n) 128 191 (still (n - 1)) (still-awaits n some few) s j e)

    pub onward-not : between 128 191 (get_or s j 0) ≡ false → Ends d s i None
    onward-not e = o ∙ awaited-not (still n) 128 191 (still (n - 1)) (still-awaits n some few) s j e

  pub onward-end : (r : ℕ) → n ≡ 0 → j ≡ r → i < r → r ≤ length s → Ends d s i (Some r)
  unfolding utf8
  onward-end r z e h k = record { within = k; onward = h; told = o ∙ rw (z, e) }

pub E0-awaits : Awaits after_e0 160 191 one
unfolding due is_start
E0-awaits = record { step = λ c. refl; waits = refl; high = omega arith }

pub ED-awaits : Awaits after_ed 128 159 one
unfolding due is_start
ED-awaits = record { step = λ c. refl; waits = refl; high = omega arith }

pub F0-awaits : Awaits after_f0 144 191 two
unfolding due is_start
F0-awaits = record { step = λ c. refl; waits = refl; high = omega arith }

pub F4-awaits : Awaits after_f4 128 143 two
unfolding due is_start
F4-awaits = record { step = λ c. refl; waits = refl; high = omega arith }

-- what a first octet makes due
pub lead_low : (c : ℕ) → 127 < c → c ≤ 193 → lead c ≡ broken
unfolding lead
lead_low c h k = rw (lt-leb c 127 h, le-leb c 193 k)

pub lead-one : (c : ℕ) → 193 < c → c ≤ 223 → lead c ≡ one
unfolding lead
lead-one c h k = rw (lt-leb c 127 (omega arith), lt-leb c 193 h, le-leb c 223 k)

pub lead-two : (c : ℕ) → 223 < c → c ≤ 239 → (c ≡ 224 → ⊥) → (c ≡ 237 → ⊥) → lead c ≡ two
unfolding lead
lead-two c h k m n = rw (lt-leb c 127 (omega arith), lt-leb c 193 (omega arith), lt-leb c 223 h, ne_eqb c 224 m, ne_eqb c 237 n, le-leb c 239 k)

pub lead-three : (c : ℕ) → 240 < c → c ≤ 243 → lead c ≡ three
unfolding lead
lead-three c h k = rw (
  lt-leb c 127 (omega arith),
  lt-leb c 193 (omega arith),
  lt-leb c 223 (omega arith),
  ne_eqb c 224 (λ e. omega arith),
  ne_eqb c 237 (λ e. omega arith),
  lt-leb c 239 (omega arith),
  ne_eqb c 240 (λ e. omega arith),
  le-leb c 243 k,
)

pub lead_is : (k : ℕ) (d : Due) → lead k ≡ d → (c : ℕ) → c ≡ k → lead c ≡ d
lead_is k d e c f = rw f e

-- a character in front of the rest
module _ (s : List ℕ) (i : ℕ) where
  module _ (c : ℕ) (e : c ≡ get_or s i 0) (h : 127 < get_or s i 0) where
    pub begins : (d : Due) (r : code.Option ℕ) → lead c ≡ d → Ends d s (i + 1) r → Ends start s i r
    begins d r f t = ends_on start s i d h (unfold due in (ap lead (sym e) ∙ f)) r t

    pub begins-not : lead c ≡ broken → Ends start s i None
    begins-not f = ends-broken start s i (seen s i (omega arith)) (unfold due in (ap lead (sym e) ∙ f))

  -- what is known of the text from i on
  pub utf8-on : (r : ℕ) → Ends start s i (Some r) → utf8 (drop i s) ≡ utf8 (drop r s)
  unfolding utf8
  utf8-on r t = t.told

  pub utf8-stop : Ends start s i None → utf8 (drop i s) ≡ false
  unfolding utf8
  utf8-stop t = t

  pub utf8-next : i < length s → get_or s i 0 ≤ 127 → utf8 (drop i s) ≡ utf8 (drop (i + 1) s)
  utf8-next h k = rw (here s i h) (utf8-ascii (get_or s i 0) (drop (i + 1) s) (unfold ascii in le-leb (get_or s i 0) 127 k))

  pub utf8-end : length s ≤ i → utf8 (drop i s) ≡ true
  unfolding utf8 due_after is_start
  utf8-end h = rw (ended s i h)
