-- UTF-8 in which lone surrogates may stand, as strings that escapes make hold them.
use Prim.Native.Nat.{ℕ, ◌+◌, ◌/◌, ◌%◌, ◌≤◌, ◌<◌}
use mathlib.Core.Path.{◌≡◌, refl}
use mathlib.Core.Bool.{Bool, true, false}
use mathlib.Core.List.{List, [], ◌∷◌, ◌++◌}
use native.Mathlib.Omega.{arith}
use borrow.Author.Tests.{le-leb, lt-leb, leb-true, leb-false, ne_eqb, eqb-true, eqb-false, ltb-true, ltb-false}
use lib.Dec.{eqb, leb, ltb}
use Rattle.octets.specs.Basics.{pick, ◌and◌}
use Rattle.octets.specs.Classes.{between}
use Rattle.octets.specs.Utf8.{Due, start, one, two, three, after_e0, after_ed, after_f0, after_f4, broken, lead, due, due_after, is_start}
use Rattle.octets.proofs.Cases.{cases, same?, never, both}
use Rattle.octets.proofs.Classes.{between-true, within-between, below-between, above-between}
use Rattle.octets.proofs.Utf8.{broken-stays}
use Rattle.json_text.specs.Strings.{utf8_of}
use Rattle.json_text.proofs.Outs.{by}
use Rattle.json_text.proofs.Fine.{Clean, clean_end, clean}

unfoldable pub is_ed : Due → Bool
is_ed start = false
is_ed one = false
is_ed two = false
is_ed three = false
is_ed after_e0 = false
is_ed after_ed = true
is_ed after_f0 = false
is_ed after_f4 = false
is_ed broken = false

-- a step of UTF-8 (RFC 3629 4), but that behind ED the octets of a surrogate, from A0 on, may stand
unfoldable pub loose_due : Due → ℕ → Due
loose_due d c = pick (is_ed d and between 160 191 c) one (due d c)

unfoldable pub loose_after : Due → List ℕ → Due
loose_after d [] = d
loose_after d (c ∷ s) = loose_after (loose_due d c) s

-- UTF-8 up to lone surrogates
unfoldable pub loose : List ℕ → Bool
loose s = is_start (loose_after start s)

pub loose-append : (d : Due) (xs ys : List ℕ) → loose_after d (xs ++ ys) ≡ loose_after (loose_after d xs) ys
unfolding loose_after
loose-append d [] ys = refl
loose-append d (x ∷ xs) ys = loose-append (loose_due d x) xs ys

-- where UTF-8 goes on, the two steps are the same
ed-high : (d : Due) (c : ℕ) → is_ed d ≡ true → 160 ≤ c → due d c ≡ broken
unfolding is_ed due
ed-high start c e h = never e refl
ed-high one c e h = never e refl
ed-high two c e h = never e refl
ed-high three c e h = never e refl
ed-high after_e0 c e h = never e refl
ed-high after_ed c e h = rw (above-between 128 159 c h)
ed-high after_f0 c e h = never e refl
ed-high after_f4 c e h = never e refl
ed-high broken c e h = never e refl

pub loose-due : (d : Due) (c : ℕ) (s : List ℕ) → is_start (due_after d (c ∷ s)) ≡ true → loose_due d c ≡ due d c
unfolding loose_due due_after
loose-due d c s h = by (λ x. x ≡ due d c) (is_ed d and between 160 191 c)
    (λ e. let b = both (is_ed d) (between 160 191 c) e in
    let z = ed-high d c b.0 (between-true 160 191 c b.1).0 in
    never h (rw (z, broken-stays s) (unfold is_start in refl)))
    (λ e. refl)

-- no ED before an octet from A0 on: p is the octet before
ed-lead : (c : ℕ) → is_ed (lead c) ≡ true → c ≡ 237
unfolding lead is_ed
ed-lead c = by R (leb c 127) (λ _ h. never h refl) (λ _. by R (leb c 193) (λ _ h. never h refl) (λ _. by R (leb c 223) (λ _ h. never h refl) (λ _. by R (eqb c 224) (λ _ h. never h refl)
    (λ _. by R (eqb c 237) (λ e h. eqb-true c 237 e) (λ _. by R (leb c 239) (λ _ h. never h refl) (λ _. by R (eqb c 240) (λ _ h. never h refl) (λ _. by R (leb c 243) (λ _ h. never h refl)
    (λ _. by R (eqb c 244) (λ _ h. never h refl) (λ _ h. never h refl)))))))))
  where
    R : Due → Type 0
    R d = is_ed d ≡ true → c ≡ 237

pub ed-next : (d : Due) (c : ℕ) → is_ed (due d c) ≡ true → c ≡ 237
unfolding due is_ed
ed-next d c = go d
  where
    R : Due → Type 0
    R x = is_ed x ≡ true → c ≡ 237

    no : (b : Bool) (x : Due) → is_ed x ≡ false → R (pick b x broken)
    no b x e = by R b (λ _ h. never h e) (λ _ h. never h refl)

    go : (d : Due) → R (due d c)
    go start = ed-lead c
    go one = no (between 128 191 c) start refl
    go two = no (between 128 191 c) one refl
    go three = no (between 128 191 c) two refl
    go after_e0 = no (between 160 191 c) one refl
    go after_ed = no (between 128 159 c) one refl
    go after_f0 = no (between 144 191 c) two refl
    go after_f4 = no (between 128 143 c) two refl
    go broken = λ h. never h refl

-- no octet of it is 255
due-255 : (d : Due) → loose_due d 255 ≡ broken
unfolding loose_due is_ed due lead between
due-255 start = refl
due-255 one = refl
due-255 two = refl
due-255 three = refl
due-255 after_e0 = refl
due-255 after_ed = refl
due-255 after_f0 = refl
due-255 after_f4 = refl
due-255 broken = refl

loose-broken : (s : List ℕ) → loose_after broken s ≡ broken
unfolding loose_after loose_due is_ed due
loose-broken [] = refl
loose-broken (c ∷ s) = loose-broken s

pub loose-clean : (d : Due) (s : List ℕ) → is_start (loose_after d s) ≡ true → Clean s
unfolding loose_after
loose-clean d [] h = clean_end
loose-clean d (c ∷ s) h = clean {b = c} (λ e. never h (rw (e, due-255 d, loose-broken s) (unfold is_start in refl))) (loose-clean (loose_due d c) s h)

-- a character in UTF-8, a surrogate too: its first octet and the others
lead-one : (c : ℕ) → 194 ≤ c → c ≤ 223 → lead c ≡ one
unfolding lead
lead-one c h k = rw (lt-leb c 127 (omega arith), lt-leb c 193 h, le-leb c 223 k)

lead-two : (c : ℕ) → 225 ≤ c → c ≤ 239 → eqb c 237 ≡ false → lead c ≡ two
unfolding lead
lead-two c h k n = rw (lt-leb c 127 (omega arith), lt-leb c 193 (omega arith), lt-leb c 223 (omega arith), ne_eqb c 224 (λ e. omega arith), n, le-leb c 239 k)

lead-three : (c : ℕ) → 241 ≤ c → c ≤ 243 → lead c ≡ three
unfolding lead
lead-three c h k = rw (lt-leb c 127 (omega arith), lt-leb c 193 (omega arith), lt-leb c 223 (omega arith), ne_eqb c 224 (λ e. omega arith), ne_eqb c 237 (λ e. omega arith), lt-leb c 239 (omega arith), ne_eqb c 240 (λ e. omega arith), le-leb c 243 k)

-- an octet that goes on with a character
tail-octet : (m : ℕ) → between 128 191 (128 + m % 64) ≡ true
tail-octet m = within-between 128 191 (128 + m % 64) (omega arith) (omega arith)

-- the second octet behind ED: any
ed-any : (m : ℕ) → loose_due after_ed (128 + m % 64) ≡ one
unfolding loose_due is_ed due
ed-any m = cases (leb 160 (128 + m % 64))
    (λ h. rw (within-between 160 191 (128 + m % 64) (leb-true 160 _ h) (omega arith)))
    (λ h. rw (below-between 160 191 (128 + m % 64) (leb-false 160 _ h), within-between 128 159 (128 + m % 64) (omega arith) (omega (arith, leb-false 160 (128 + m % 64) h))))

-- the second octet, where it is bounded
second-E0 : (n : ℕ) → 2048 ≤ n → n / 4096 ≡ 0 → between 160 191 (128 + n / 64 % 64) ≡ true
second-E0 n h e = go (n / 64) (omega arith) (omega arith)
  where
    go : (m : ℕ) → 32 ≤ m → m < 64 → between 160 191 (128 + m % 64) ≡ true
    go m a b = within-between 160 191 (128 + m % 64) (omega arith) (omega arith)

second-F0 : (n : ℕ) → 65536 ≤ n → n / 262144 ≡ 0 → between 144 191 (128 + n / 4096 % 64) ≡ true
second-F0 n h e = go (n / 4096) (omega arith) (omega arith)
  where
    go : (m : ℕ) → 16 ≤ m → m < 64 → between 144 191 (128 + m % 64) ≡ true
    go m a b = within-between 144 191 (128 + m % 64) (omega arith) (omega arith)

second-F4 : (n : ℕ) → n < 1114112 → n / 262144 ≡ 4 → between 128 143 (128 + n / 4096 % 64) ≡ true
second-F4 n h e = go (n / 4096) (omega arith) (omega arith)
  where
    go : (m : ℕ) → 256 ≤ m → m < 272 → between 128 143 (128 + m % 64) ≡ true
    go m a b = within-between 128 143 (128 + m % 64) (omega arith) (omega arith)

lead-ED : loose_due start 237 ≡ after_ed
unfolding loose_due is_ed due lead
lead-ED = refl

last-octet : (m : ℕ) → loose_due one (128 + m % 64) ≡ start
unfolding loose_due is_ed due
last-octet m = rw (tail-octet m)

-- two, three and four octets
abbrev Whole : List ℕ → Type 0
Whole xs = loose_after start xs ≡ start

two-octets : (n : ℕ) → 128 ≤ n → n < 2048 → Whole ((192 + n / 64) ∷ (128 + n % 64) ∷ [])
unfolding loose_after loose_due is_ed due
two-octets n h k = rw (lead-one (192 + n / 64) (omega arith) (omega arith), tail-octet n)

three-octets : (n : ℕ) → 2048 ≤ n → n < 65536 → Whole ((224 + n / 4096) ∷ (128 + n / 64 % 64) ∷ (128 + n % 64) ∷ [])
unfolding loose_after
three-octets n h k = same? (n / 4096) 0
    (λ e. unfold loose_due is_ed due lead in rw (e, second-E0 n h e, tail-octet n))
    (λ a. same? (n / 4096) 13
    (λ e. rw (e, lead-ED, ed-any (n / 64), last-octet n))
    (λ b. unfold loose_due is_ed due in rw (lead-two (224 + n / 4096) (omega (arith, eqb-false (n / 4096) 0 a)) (omega arith) (ne_eqb (224 + n / 4096) 237 (λ z. eqb-false (n / 4096) 13 b (omega arith))), tail-octet (n / 64), tail-octet n)))

four-octets : (n : ℕ) → 65536 ≤ n → n < 1114112 → Whole ((240 + n / 262144) ∷ (128 + n / 4096 % 64) ∷ (128 + n / 64 % 64) ∷ (128 + n % 64) ∷ [])
unfolding loose_after
four-octets n h k = same? (n / 262144) 0
    (λ e. unfold loose_due is_ed due lead in rw (e, second-F0 n h e, tail-octet (n / 64), tail-octet n))
    (λ a. same? (n / 262144) 4
    (λ e. unfold loose_due is_ed due lead in rw (e, second-F4 n k e, tail-octet (n / 64), tail-octet n))
    (λ b. unfold loose_due is_ed due in rw (lead-three (240 + n / 262144) (omega (arith, eqb-false (n / 262144) 0 a)) (omega (arith, eqb-false (n / 262144) 4 b)), tail-octet (n / 4096), tail-octet (n / 64), tail-octet n)))

pub loose-char : (n : ℕ) → n < 1114112 → loose_after start (utf8_of n) ≡ start
unfolding utf8_of
loose-char n h = by Whole (ltb n 128) (λ e. unfold loose_after loose_due is_ed due lead in rw (le-leb n 127 (omega (arith, ltb-true n 128 e))))
    (λ e. by Whole (ltb n 2048) (λ f. two-octets n (ltb-false n 128 e) (ltb-true n 2048 f))
    (λ f. by Whole (ltb n 65536) (λ g. three-octets n (ltb-false n 2048 f) (ltb-true n 65536 g))
    (λ g. four-octets n (ltb-false n 65536 g) h)))
