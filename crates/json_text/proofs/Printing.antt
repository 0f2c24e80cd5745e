-- What is printed is read back, so that no two values are printed alike.
use Prim.Native.Nat.{ℕ, zero, suc, ◌-◌, ◌≤◌, ◌<◌, max}
use Prim.Native.Char.{code}
use mathlib.Core.Path.{◌≡◌, refl, sym, ap, ◌∙◌}
use mathlib.Core.Bool.{Bool, true, false, not}
use mathlib.Core.List.{List, [], ◌∷◌, ◌++◌, append_assoc, append-nil}
use native.Mathlib.Omega.{arith}
use borrow.Author.Tests.{le-ltb, le-leb, leb-true, leb-false, not-true}
use lib.Dec.{eqb, leb, ltb}
use lib.ListN.{length, take, length-append}
use lib.Seq.{take-append_seam}
use Rattle.octets.specs.Basics.{◌or◌, all, All}
use Rattle.octets.specs.Classes.{is_digit, between, is_control, plain_octet, text_octet, is_space}
use Rattle.octets.specs.Limits.{most_open}
use Rattle.octets.proofs.Cases.{cases, same?, never, both, neither, either, or-first, or-second, apart, apart-not}
use Rattle.json_text.specs.Tree.{Json, null, falsity, truth, num, str, arr, obj, Items, no_items, item, Members, no_members, member, items_of, list_of_items}
use Rattle.json_text.specs.Reads.{Out, ok, deep, bad, fmap, and_then, skip_space, literal}
use Rattle.json_text.specs.Numbers.{NumberPlace, start, minus, zero as zero_place, int, point, frac, e, sign, exp, beyond, is_exponent, is_plus_minus, behind_int, first_digit, advance, is_beyond, number_ends, scan, number_read}
use Rattle.json_text.specs.Strings.{escape_of, escape, piece, string_pieces, string}
use Rattle.json_text.specs.Reader.{numeral, opening_of, separator_of, colon, member_key, Pair, pair, members_from, after_element, on_mark, elements_up_to, elements_from, bracketed, value_by, value_with, value_within, nothing_behind, parse_text}
use Rattle.json_text.specs.Print.{escaped, quoted, print_string, print_key, print, first_item, more_items, first_member, more_members}

-- an octet that a printed string may hold: newline and tab, which are escaped, and all from 32 on
unfoldable pub fit_octet : ℕ → Bool
fit_octet b = leb 32 b or eqb b (code "\n") or eqb b (code "\t")

-- values whose strings and numbers can be printed
mutual
  pub data Printable : Json → Type 0 where
    p-null : Printable null
    p-false : Printable falsity
    p-true : Printable truth
    p-num : {t : List ℕ} → number_read t ≡ ok t [] → Printable (num t)
    p-str : {s : List ℕ} → all fit_octet s ≡ true → Printable (str s)
    p-arr : {js : Items} → PrintableItems js → Printable (arr js)
    p-obj : {ms : Members} → PrintableMembers ms → Printable (obj ms)

  pub data PrintableItems : Items → Type 0 where
    p-none : PrintableItems no_items
    p-item : {j : Json} {js : Items} → Printable j → PrintableItems js → PrintableItems (item j js)

  pub data PrintableMembers : Members → Type 0 where
    p-empty : PrintableMembers no_members
    p-member : {k : List ℕ} {j : Json} {ms : Members} → all fit_octet k ≡ true → Printable j → PrintableMembers ms → PrintableMembers (member k j ms)

-- arrays and objects open at once
unfoldable mutual
  pub depth : Json → ℕ
  depth null = 0
  depth falsity = 0
  depth truth = 0
  depth (num t) = 0
  depth (str s) = 0
  depth (arr js) = suc (depth_items js)
  depth (obj ms) = suc (depth_members ms)

  pub depth_items : Items → ℕ
  depth_items no_items = 0
  depth_items (item j js) = max (depth j) (depth_items js)

  pub depth_members : Members → ℕ
  depth_members no_members = 0
  depth_members (member k j ms) = max (depth j) (depth_members ms)

-- what may stand behind a number: nothing, or an octet that no number goes on with
unfoldable pub number_octet : ℕ → Bool
number_octet b = is_digit b or eqb b (code "-") or eqb b (code "+") or eqb b (code ".") or is_exponent b

abbrev pub Stop : List ℕ → Type 0
Stop [] = Unit {0}
Stop (b ∷ s) = number_octet b ≡ false

-- numbers
pub record Alien (b : ℕ) : Type 0 where
  pub digit : is_digit b ≡ false
  pub nought : eqb b 48 ≡ false
  pub hyphen : eqb b 45 ≡ false
  pub plus : eqb b 43 ≡ false
  pub dot : eqb b 46 ≡ false
  pub power : is_exponent b ≡ false

pub alien : (b : ℕ) → number_octet b ≡ false → Alien b
unfolding number_octet
alien b h =
    let a = neither (is_digit b) (eqb b 45 or eqb b 43 or eqb b 46 or is_exponent b) h in
    let m = neither (eqb b 45) (eqb b 43 or eqb b 46 or is_exponent b) a.1 in
    let p = neither (eqb b 43) (eqb b 46 or is_exponent b) m.1 in
    let d = neither (eqb b 46) (is_exponent b) p.1 in
    record { digit = a.0; nought = apart-not is_digit b 48 a.0 digit-48; hyphen = m.0; plus = p.0; dot = d.0; power = d.1 }
  where
    digit-48 : is_digit 48 ≡ true
    digit-48 = unfold is_digit between in refl

pub advance-stop : (q : NumberPlace) (b : ℕ) → Alien b → advance q b ≡ beyond
unfolding advance first_digit behind_int is_plus_minus
advance-stop start b a = rw (a.hyphen, a.nought, a.digit)
advance-stop minus b a = rw (a.nought, a.digit)
advance-stop zero_place b a = rw (a.dot, a.power)
advance-stop int b a = rw (a.digit, a.dot, a.power)
advance-stop point b a = rw a.digit
advance-stop frac b a = rw (a.digit, a.power)
advance-stop e b a = rw (a.plus, a.hyphen, a.digit)
advance-stop sign b a = rw a.digit
advance-stop exp b a = rw a.digit
advance-stop beyond b a = refl

-- what a scan that reaches the end says of its last place
ends : (q : NumberPlace) → scan q [] ≡ ok tt [] → number_ends q ≡ true
unfolding scan
ends q h = cases (number_ends q) (λ y. y) (λ n. let z : ◌≡◌ {A = Out (Unit {0})} bad (ok tt []) = rw n at h in absurd (never-ok z))
  where
    never-ok : ◌≡◌ {A = Out (Unit {0})} bad (ok tt []) → ⊥
    never-ok z = let y : ◌≡◌ {A = ℕ} 0 1 = cc in omega arith

scan-stops : (q : NumberPlace) (r : List ℕ) → number_ends q ≡ true → Stop r → scan q r ≡ ok tt r
unfolding scan is_beyond
scan-stops q [] m st = rw m
scan-stops q (b ∷ s) m st = rw (advance-stop q b (alien b st), m)

scan-goes : (q : NumberPlace) (b : ℕ) (t : List ℕ) → scan q (b ∷ t) ≡ ok tt [] → is_beyond (advance q b) ≡ false
unfolding scan
scan-goes q b t h = cases (is_beyond (advance q b)) (λ y. absurd (cases (number_ends q)
    (λ m. let z : ok tt (b ∷ t) ≡ ok tt [] = rw (y, m) at h in let x : ◌≡◌ {A = ℕ} 0 1 = cc in omega arith)
    (λ m. let z : ◌≡◌ {A = Out (Unit {0})} bad (ok tt []) = rw (y, m) at h in let x : ◌≡◌ {A = ℕ} 0 1 = cc in omega arith))) (λ n. n)

scan-more : (q : NumberPlace) (t r : List ℕ) → scan q t ≡ ok tt [] → Stop r → scan q (t ++ r) ≡ ok tt r
unfolding scan
scan-more q [] r h st = scan-stops q r (ends q h) st
scan-more q (b ∷ t) r h st =
    let n = scan-goes q b t h in
    rw n (scan-more (advance q b) t r (rw n at h) st)

-- the text of a number is scanned to its end
number-scans : (t : List ℕ) → number_read t ≡ ok t [] → scan start t ≡ ok tt []
unfolding number_read
number-scans t h = go (scan start t) refl h
  where
    go : (o : Out (Unit {0})) → scan start t ≡ o → and_then o (λ _ u. ok (take (length t - length u) t) u) ≡ ok t [] → scan start t ≡ ok tt []
    go (ok tt []) w k = w
    go (ok tt (b ∷ s)) w k = let x : ◌≡◌ {A = ℕ} 0 1 = cc in absurd (omega arith)
    go deep w k = let x : ◌≡◌ {A = ℕ} 0 1 = cc in absurd (omega arith)
    go bad w k = let x : ◌≡◌ {A = ℕ} 0 1 = cc in absurd (omega arith)

pub number-stops : (t r : List ℕ) → number_read t ≡ ok t [] → Stop r → number_read (t ++ r) ≡ ok t r
unfolding number_read
number-stops t r h st =
    let n : length (t ++ r) - length r ≡ length t = omega (arith, length-append t r) in
    rw (scan-more start t r (number-scans t h) st, n, take-append_seam)

-- and its first octet says that it is one
numeral-first : (b : ℕ) (s : List ℕ) → number_read (b ∷ s) ≡ ok (b ∷ s) [] → (eqb b 45 or is_digit b) ≡ true
numeral-first b s h = cases (eqb b 45 or is_digit b) (λ y. y) (λ n. never (goes n) (scan-goes start b s (number-scans (b ∷ s) h)))
  where
    goes : (eqb b 45 or is_digit b) ≡ false → is_beyond (advance start b) ≡ true
    goes n = unfold advance first_digit is_beyond in
        let w = neither (eqb b 45) (is_digit b) n in
        rw (w.0, apart-not is_digit b 48 w.1 digit-48, w.1)
      where
        digit-48 : is_digit 48 ≡ true
        digit-48 = unfold is_digit between in refl

numeral-kind : (b : ℕ) → (eqb b 45 or is_digit b) ≡ true → opening_of b ≡ numeral
unfolding opening_of is_digit between
numeral-kind b y = rw (apart numeric b 91 y refl, apart numeric b 123 y refl, apart numeric b 34 y refl, y)
  where
    numeric : ℕ → Bool
    numeric x = eqb x 45 or is_digit x

-- strings
data FitCase : ℕ → Type 0 where
  w-quote : FitCase 34
  w-backslash : FitCase 92
  w-newline : FitCase 10
  w-tab : FitCase 9
  w-bare : {b : ℕ} → eqb b 34 ≡ false → eqb b 92 ≡ false → eqb b 10 ≡ false → eqb b 9 ≡ false → ltb b 32 ≡ false → FitCase b

written : (b : ℕ) → fit_octet b ≡ true → FitCase b
unfolding fit_octet
written b h = same? b 34 (λ q. rw q w-quote) (λ nq. same? b 92 (λ q. rw q w-backslash) (λ nb. same? b 10 (λ q. rw q w-newline) (λ nn. same? b 9 (λ q. rw q w-tab)
    (λ nt. w-bare nq nb nn nt (le-ltb b 32 (either (leb 32 b) (eqb b 10 or eqb b 9) h (λ l. leb-true 32 b l) (λ x. either (eqb b 10) (eqb b 9) x (λ y. never y nn) (λ y. never y nt))))))))

pieces-written : {b : ℕ} (n : ℕ) (s : List ℕ) → FitCase b → string_pieces (suc n) (escaped b ++ s) ≡ fmap (λ ys. b ∷ ys) (string_pieces n s)
unfolding string_pieces escaped piece escape escape_of
pieces-written n s w-quote = refl
pieces-written n s w-backslash = refl
pieces-written n s w-newline = refl
pieces-written n s w-tab = refl
pieces-written n s (w-bare q b c t l) = rw (q, b, c, t, q, b, l)

escaped-length : {b : ℕ} → FitCase b → 1 ≤ length (escaped b)
unfolding escaped
escaped-length w-quote = omega arith
escaped-length w-backslash = omega arith
escaped-length w-newline = omega arith
escaped-length w-tab = omega arith
escaped-length (w-bare q b c t l) = rw (q, b, c, t) (omega arith)

quoted-length : (s : List ℕ) → all fit_octet s ≡ true → length s < length (quoted s)
unfolding quoted all
quoted-length [] h = omega arith
quoted-length (b ∷ s) h =
    let w = both (fit_octet b) (all fit_octet s) h in
    omega (arith, escaped-length (written b w.0), length-append (escaped b) (quoted s), quoted-length s w.1)

pieces-quoted : (s r : List ℕ) (n : ℕ) → length s ≤ n → all fit_octet s ≡ true → string_pieces (suc n) (quoted s ++ r) ≡ ok s r
unfolding quoted all
pieces-quoted [] r n h k = unfold string_pieces in refl
pieces-quoted (b ∷ s) r zero h k = absurd (omega arith)
pieces-quoted (b ∷ s) r (suc n) h k =
    let w = both (fit_octet b) (all fit_octet s) k in
    ap (string_pieces (suc (suc n))) (append_assoc (escaped b) (quoted s) r) ∙ pieces-written (suc n) (quoted s ++ r) (written b w.0) ∙ ap (fmap (λ ys. b ∷ ys)) (pieces-quoted s r n (omega arith) w.1)

pub string-quoted : (s r : List ℕ) → all fit_octet s ≡ true → string (quoted s ++ r) ≡ ok s r
unfolding string
string-quoted s r k = pieces-quoted s r (length (quoted s ++ r)) (omega (arith, quoted-length s k, length-append (quoted s) r)) k

-- the first octet of what is printed is no white space and ends nothing
data Solid : List ℕ → Type 0 where
  solid : {b : ℕ} {s : List ℕ} → is_space b ≡ false → eqb b 93 ≡ false → eqb b 125 ≡ false → Solid (b ∷ s)

numeral-solid : (b : ℕ) (s : List ℕ) → (eqb b 45 or is_digit b) ≡ true → Solid (b ∷ s)
unfolding is_space is_digit between
numeral-solid b s y = solid {b = b} (rw (apart numeric b 32 y refl, apart numeric b 10 y refl, apart numeric b 13 y refl, apart numeric b 9 y refl)) (apart numeric b 93 y refl) (apart numeric b 125 y refl)
  where
    numeric : ℕ → Bool
    numeric x = eqb x 45 or is_digit x

no_number : {X : Type 0} → number_read [] ≡ ok [] [] → X
unfolding number_read scan number_ends
no_number h = let x : ◌≡◌ {A = ℕ} 0 1 = cc in absurd (omega arith)

number-solid : (t : List ℕ) → number_read t ≡ ok t [] → Solid t
number-solid [] h = no_number h
number-solid (b ∷ s) h = numeral-solid b s (numeral-first b s h)

print-solid : {j : Json} → Printable j → Solid (print j)
unfolding print print_string is_space
print-solid p-null = solid refl refl refl
print-solid p-false = solid refl refl refl
print-solid p-true = solid refl refl refl
print-solid (p-num {t} h) = number-solid t h
print-solid (p-str h) = solid refl refl refl
print-solid (p-arr h) = solid refl refl refl
print-solid (p-obj h) = solid refl refl refl

solid-append : {s : List ℕ} (r : List ℕ) → Solid s → Solid (s ++ r)
solid-append r (solid a b c) = solid a b c

skip-solid : {s : List ℕ} (r : List ℕ) → Solid s → skip_space (s ++ r) ≡ s ++ r
unfolding skip_space
skip-solid r (solid a b c) = rw a

-- elements between commas, printed by pr and read by P, up to the octet that ends them
record Back {A : Type 0} (pr : A → List ℕ) (P : List ℕ → Out A) (a : A) : Type 0 where
  firm : Solid (pr a)
  back : (r : List ℕ) → Stop r → P (pr a ++ r) ≡ ok a r

data Ends : ℕ → Type 0 where
  square : Ends 93
  curly : Ends 125

unfoldable more_of : {A : Type 0} → (A → List ℕ) → ℕ → List A → List ℕ
more_of pr end [] = end ∷ []
more_of pr end (a ∷ l) = 44 ∷ pr a ++ more_of pr end l

unfoldable first_of : {A : Type 0} → (A → List ℕ) → ℕ → List A → List ℕ
first_of pr end [] = end ∷ []
first_of pr end (a ∷ l) = pr a ++ more_of pr end l

module _ {A : Type 0} (pr : A → List ℕ) (P : List ℕ → Out A) where
  -- what follows an element
  abbrev After : ℕ → ℕ → A → List ℕ → Out (List A)
  After end n a s = on_mark end (λ m u. after_element m (elements_up_to end P n) a u) (skip_space s)

  after-comma : (end n : ℕ) (a : A) (s : List ℕ) → After end n a (44 ∷ s) ≡ fmap (λ l. a ∷ l) (elements_up_to end P n (skip_space s))
  unfolding on_mark after_element skip_space is_space separator_of
  after-comma end n a s = refl

  after-end : {end : ℕ} → Ends end → (n : ℕ) (a : A) (r : List ℕ) → After end n a (end ∷ r) ≡ ok (a ∷ []) r
  unfolding on_mark after_element skip_space is_space separator_of
  after-end square n a r = refl
  after-end curly n a r = refl

  elements-one : (end n : ℕ) (a : A) (s t : List ℕ) → P s ≡ ok a t → elements_up_to end P (suc n) s ≡ After end n a t
  unfolding elements_up_to
  elements-one end n a s t w = rw w

  more-length : (end : ℕ) (l : List A) (r : List ℕ) → length l ≤ length (more_of pr end l ++ r)
  unfolding more_of
  more-length end [] r = omega arith
  more-length end (a ∷ l) r = omega (arith, more-length end l r, length-append (pr a ++ more_of pr end l) r, length-append (pr a) (more_of pr end l), length-append (more_of pr end l) r)

  more-stop : {end : ℕ} → Ends end → (l : List A) (r : List ℕ) → Stop (more_of pr end l ++ r)
  unfolding more_of number_octet is_digit between is_exponent
  more-stop square [] r = refl
  more-stop curly [] r = refl
  more-stop square (a ∷ l) r = refl
  more-stop curly (a ∷ l) r = refl

  group-solid : {end : ℕ} {s : List ℕ} → Ends end → (r : List ℕ) → Solid s → bracketed end P (s ++ r) ≡ elements_up_to end P (suc (length (s ++ r))) (s ++ r)
  unfolding bracketed elements_from skip_space
  group-solid square r (solid a b c) = rw (a, b)
  group-solid curly r (solid a b c) = rw (a, c)

  rounds : {end : ℕ} → Ends end → (l : List A) → All (Back pr P) l → (r : List ℕ) (n : ℕ) (a : A) → length l ≤ n → After end n a (more_of pr end l ++ r) ≡ ok (a ∷ l) r
  unfolding more_of
  rounds k [] q r n a h = after-end k n a r
  rounds k (b ∷ l) q r zero a h = absurd (omega arith)
  rounds {end} k (b ∷ l) q r (suc n) a h =
      after-comma end (suc n) a ((pr b ++ more_of pr end l) ++ r)
      ∙ ap (λ (s : List ℕ). fmap (λ l. a ∷ l) (elements_up_to end P (suc n) (skip_space s))) (append_assoc (pr b) (more_of pr end l) r)
      ∙ ap (λ (s : List ℕ). fmap (λ l. a ∷ l) (elements_up_to end P (suc n) s)) (skip-solid (more_of pr end l ++ r) q.0.firm)
      ∙ ap (fmap (λ l. a ∷ l)) (elements-one end n b _ _ (q.0.back (more_of pr end l ++ r) (more-stop k l r)) ∙ rounds k l q.1 r n b (omega arith))

  group-round : {end : ℕ} → Ends end → (l : List A) → All (Back pr P) l → (r : List ℕ) → bracketed end P (first_of pr end l ++ r) ≡ ok l r
  unfolding first_of bracketed elements_from skip_space is_space
  group-round square [] q r = refl
  group-round curly [] q r = refl
  group-round {end} k (a ∷ l) q r =
      ap (bracketed end P) (append_assoc (pr a) (more_of pr end l) r) ∙ group-solid k (more_of pr end l ++ r) q.0.firm
      ∙ elements-one end _ a _ _ (q.0.back (more_of pr end l ++ r) (more-stop k l r))
      ∙ rounds k l q.1 r _ a (omega (arith, more-length end l r, length-append (pr a) (more_of pr end l ++ r)))

-- the lists that arrays and objects hold
unfoldable pairs_of : Members → List Pair
pairs_of no_members = []
pairs_of (member k j ms) = record { key = k; it = j } ∷ pairs_of ms

items_back : (js : Items) → items_of (list_of_items js) ≡ js
unfolding items_of list_of_items
items_back no_items = refl
items_back (item j js) = rw (items_back js)

members-back : (ms : Members) → members_from (pairs_of ms) ≡ ms
unfolding members_from pairs_of
members-back no_members = refl
members-back (member k j ms) = rw (members-back ms)

abbrev print_pair : Pair → List ℕ
print_pair m = print_key m.key ++ print m.it

more-items : (js : Items) → more_items js ≡ more_of print 93 (list_of_items js)
unfolding print more_of list_of_items
more-items no_items = refl
more-items (item j js) = rw (more-items js)

first-items : (js : Items) → first_item js ≡ first_of print 93 (list_of_items js)
unfolding print first_of list_of_items
first-items no_items = refl
first-items (item j js) = rw (more-items js)

more-members : (ms : Members) → more_members ms ≡ more_of print_pair 125 (pairs_of ms)
unfolding print more_of pairs_of
more-members no_members = refl
more-members (member k j ms) = rw (more-members ms, append_assoc (print_key k) (print j) (more_of print_pair 125 (pairs_of ms)))

first-members : (ms : Members) → first_member ms ≡ first_of print_pair 125 (pairs_of ms)
unfolding print first_of pairs_of
first-members no_members = refl
first-members (member k j ms) = rw (more-members ms, append_assoc (print_key k) (print j) (more_of print_pair 125 (pairs_of ms)))

-- values: a text that no level matters for
by-levels : (d : ℕ) (s : List ℕ) {o : Out Json} → ((a : List ℕ → Out (List Json)) (m : List ℕ → Out (List Pair)) → value_with a m s ≡ o) → value_within d s ≡ o
unfolding value_within
by-levels zero s h = h _ _
by-levels (suc d) s h = h _ _

module _ (d : ℕ) (r : List ℕ) where
  round-null : value_within d (print null ++ r) ≡ ok null r
  unfolding print value_with value_by opening_of is_digit between literal
  round-null = by-levels d (print null ++ r) (λ a o. refl)

  round-false : value_within d (print falsity ++ r) ≡ ok falsity r
  unfolding print value_with value_by opening_of is_digit between literal
  round-false = by-levels d (print falsity ++ r) (λ a o. refl)

  round-true : value_within d (print truth ++ r) ≡ ok truth r
  unfolding print value_with value_by opening_of is_digit between literal
  round-true = by-levels d (print truth ++ r) (λ a o. refl)

  round-str : {s : List ℕ} → all fit_octet s ≡ true → value_within d (print (str s) ++ r) ≡ ok (str s) r
  unfolding print print_string value_with value_by opening_of
  round-str {s} h = by-levels d (print (str s) ++ r) (λ a o. ap (fmap str) (string-quoted s r h))

  round-num : (t : List ℕ) → number_read t ≡ ok t [] → Stop r → value_within d (print (num t) ++ r) ≡ ok (num t) r
  unfolding print value_with value_by
  round-num [] h st = no_number h
  round-num (b ∷ s) h st = by-levels d (print (num (b ∷ s)) ++ r) (λ a o. rw (numeral-kind b (numeral-first b s h), number-stops (b ∷ s) r h st))

  round-arr : (js : Items) → All (Back print (value_within d)) (list_of_items js) → value_within (suc d) (print (arr js) ++ r) ≡ ok (arr js) r
  unfolding print value_within value_with value_by opening_of
  round-arr js q = rw (first-items js, group-round print (value_within d) square (list_of_items js) q r, items_back js)

  round-obj : (ms : Members) → All (Back print_pair (pair (value_within d))) (pairs_of ms) → value_within (suc d) (print (obj ms) ++ r) ≡ ok (obj ms) r
  unfolding print value_within value_with value_by opening_of
  round-obj ms q = rw (first-members ms, group-round print_pair (pair (value_within d)) curly (pairs_of ms) q r, members-back ms)

round-key : {k : List ℕ} (s : List ℕ) → all fit_octet k ≡ true → Solid s → member_key (print_key k ++ s) ≡ ok k s
unfolding print_key print_string member_key colon skip_space is_space
round-key {k} s h (solid x y z) = rw (append_assoc (quoted k) (58 ∷ []) s, string-quoted k (58 ∷ s) h, x)

round-pair : (d : ℕ) {k : List ℕ} {j : Json} → all fit_octet k ≡ true → Back print (value_within d) j → Back print_pair (pair (value_within d)) (record { key = k; it = j })
unfolding print_key print_string pair is_space
round-pair d {k} {j} h q = record {
  firm = solid refl refl refl;
  back = λ r st.
      ap (pair (value_within d)) (append_assoc (print_key k) (print j) r)
      ∙ ap (λ o. and_then o (λ k t. fmap (λ j. record { key = k; it = j }) (value_within d t))) (round-key (print j ++ r) h (solid-append r q.firm))
      ∙ ap (fmap (λ j. record { key = k; it = j })) (q.back r st);
}

mutual
  unfolding depth list_of_items pairs_of

  pub round : {j : Json} (d : ℕ) → Printable j → depth j ≤ d → (r : List ℕ) → Stop r → value_within d (print j ++ r) ≡ ok j r
  round d p-null l r st = round-null d r
  round d p-false l r st = round-false d r
  round d p-true l r st = round-true d r
  round d (p-num {t} h) l r st = round-num d r t h st
  round d (p-str h) l r st = round-str d r h
  round zero (p-arr {js} h) l r st = absurd (omega arith)
  round (suc d) (p-arr {js} h) l r st = round-arr d r js (round_items d h (omega arith))
  round zero (p-obj {ms} h) l r st = absurd (omega arith)
  round (suc d) (p-obj {ms} h) l r st = round-obj d r ms (round-members d h (omega arith))

  round_items : {js : Items} (d : ℕ) → PrintableItems js → depth_items js ≤ d → All (Back print (value_within d)) (list_of_items js)
  round_items d p-none l = tt
  round_items d (p-item p ps) l = (record { firm = print-solid p; back = λ r st. round d p (omega arith) r st }, round_items d ps (omega arith))

  round-members : {ms : Members} (d : ℕ) → PrintableMembers ms → depth_members ms ≤ d → All (Back print_pair (pair (value_within d))) (pairs_of ms)
  round-members d p-empty l = tt
  round-members d (p-member h p ps) l = (round-pair d h (record { firm = print-solid p; back = λ r st. round d p (omega arith) r st }), round-members d ps (omega arith))

-- a whole text that was printed
pub parse-print : {j : Json} → Printable j → depth j ≤ most_open → parse_text (print j) ≡ ok j []
unfolding parse_text nothing_behind skip_space
parse-print {j} p l =
    ap (λ (s : List ℕ). and_then (value_within most_open (skip_space s)) (λ j t. nothing_behind j (skip_space t))) (sym (append-nil (print j)))
    ∙ ap (λ (s : List ℕ). and_then (value_within most_open s) (λ j t. nothing_behind j (skip_space t))) (skip-solid [] (print-solid p))
    ∙ ap (λ (o : Out Json). and_then o (λ j t. nothing_behind j (skip_space t))) (round most_open p l [] tt)

-- the octets of texts that 01 allows can be printed
pub text-fit : (b : ℕ) → text_octet b ≡ true → fit_octet b ≡ true
unfolding text_octet plain_octet is_control fit_octet
text-fit b h = either (not (leb b 31 or eqb b 127) or eqb b 9) (eqb b 10) h
    (λ x. either (not (leb b 31 or eqb b 127)) (eqb b 9) x
    (λ y. or-first _ (le-leb 32 b (leb-false b 31 (neither (leb b 31) (eqb b 127) (not-true _ y)).0)))
    (λ y. or-second (leb 32 b) (or-second (eqb b 10) y)))
    (λ x. or-second (leb 32 b) (or-first (eqb b 9) x))
