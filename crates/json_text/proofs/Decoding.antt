-- What is read out of a UTF-8 text: strings that are UTF-8 up to lone surrogates, numbers that are JSON numbers, nothing that holds 255.
use Prim.Native.Nat.{ℕ, zero, suc, ◌+◌, ◌-◌, ◌*◌, ◌≤◌, ◌<◌}
use mathlib.Core.Path.{◌≡◌, refl, sym, ap, ◌∙◌}
use mathlib.Core.Bool.{true, false}
use mathlib.Core.List.{List, [], ◌∷◌, ◌++◌}
use native.Mathlib.Omega.{arith}
use borrow.Author.Tests.{le-leb, leb-false, eqb-true, eqb-false, ltb-true, ne_eqb}
use lib.Dec.{eqb, leb, ltb}
use lib.ListN.{length, take, drop, length-append}
use lib.Seq.{take-append_seam, take-length}
use Rattle.octets.specs.Basics.{octets, all, All}
use Rattle.octets.specs.Classes.{between, is_digit, hex_digit, is_space}
use Rattle.octets.specs.Limits.{most_open}
use Rattle.octets.specs.Utf8.{Due, start, lead, due, due_after, is_start, utf8}
use Rattle.octets.proofs.Cases.{cases, never, both, either, and-true}
use Rattle.octets.proofs.Classes.{between-true, above-between}
use Rattle.octets.proofs.Utf8.{ascii, ascii-low, ascii-high, broken-stays, start_is, due-ascii, utf8-ascii, utf8_append, ascii-utf8}
use Rattle.json_text.specs.Tree.{Json, null, falsity, truth, num, str, arr, obj, Items, no_items, item, Members, no_members, member, items_of}
use Rattle.json_text.specs.Reads.{Out, ok, deep, fmap, and_then, skip_space, literal}
use Rattle.json_text.specs.Numbers.{NumberPlace, start as start_place, is_exponent, advance, is_beyond, number_ends, scan, number_read}
use Rattle.json_text.specs.Strings.{escape_of, hex1, hex4, low_of, low_surrogate, partner, unit, unicode, escape, piece, string_pieces, string}
use Rattle.json_text.specs.Reader.{Opening, bracket, brace, quote, numeral, null_word, false_word, true_word, other, opening_of, Separator, comma, close, odd, separator_of, colon, member_key, Pair, pair, members_from, after_element, on_mark, elements_up_to, elements_from, bracketed, value_by, value_with, value_within, nothing_behind, parse_text}
use Rattle.json_text.proofs.Outs.{Gives, gives_then, gives-map, gives-weaker, given, by}
use Rattle.json_text.proofs.StringLaws.{Hex, hex-is, hex-not, hex4-view, paired}
use Rattle.json_text.proofs.Printing.{number_octet, alien, advance-stop}
use Rattle.json_text.proofs.Surrogates.{is_ed, loose_due, loose_after, loose, loose-append, loose-due, loose-clean, loose-char}
use Rattle.json_text.proofs.Fine.{Clean, clean_end, clean, Fine, f-null, f-false, f-true, f-num, f-str, f-arr, f-obj, FineItems, f-none, f-item, FineMembers, f-empty, f-member}

-- values with such strings and numbers
mutual
  pub data Decoded : Json → Type 0 where
    d-null : Decoded null
    d-false : Decoded falsity
    d-true : Decoded truth
    d-num : {t : List ℕ} → number_read t ≡ ok t [] → all ascii t ≡ true → Decoded (num t)
    d-str : {s : List ℕ} → loose s ≡ true → Decoded (str s)
    d-arr : {js : Items} → DecodedItems js → Decoded (arr js)
    d-obj : {ms : Members} → DecodedMembers ms → Decoded (obj ms)

  pub data DecodedItems : Items → Type 0 where
    d-none : DecodedItems no_items
    d-item : {j : Json} {js : Items} → Decoded j → DecodedItems js → DecodedItems (item j js)

  pub data DecodedMembers : Members → Type 0 where
    d-empty : DecodedMembers no_members
    d-member : {k : List ℕ} {j : Json} {ms : Members} → loose k ≡ true → Decoded j → DecodedMembers ms → DecodedMembers (member k j ms)

-- a reader that gives P out of UTF-8, and leaves UTF-8
abbrev Left : {A : Type 0} → (A → Type 0) → Out A → Type 0
Left P o = Gives (λ a t. P a × (utf8 t ≡ true)) o

abbrev Takes : {A : Type 0} → (A → Type 0) → (List ℕ → Out A) → Type 0
Takes P r = (s : List ℕ) → utf8 s ≡ true → Left P (r s)

abbrev Any : {A : Type 0} → A → Type 0
Any a = Unit {0}

-- an ASCII octet is passed
passed : (c : ℕ) (s : List ℕ) → ascii c ≡ true → utf8 (c ∷ s) ≡ true → utf8 s ≡ true
passed c s a h = sym (utf8-ascii c s a) ∙ h

-- an octet of a class that holds ASCII alone
is_ascii : (c k : ℕ) → eqb c k ≡ true → ascii k ≡ true → ascii c ≡ true
is_ascii c k e a = rw (eqb-true c k e) a

space-ascii : (c : ℕ) → is_space c ≡ true → ascii c ≡ true
unfolding is_space ascii
space-ascii c h = either (eqb c 32) _ h (λ e. is_ascii c 32 e refl) (λ h. either (eqb c 10) _ h (λ e. is_ascii c 10 e refl) (λ h. either (eqb c 13) _ h (λ e. is_ascii c 13 e refl) (λ e. is_ascii c 9 e refl)))

skip-left : (s : List ℕ) → utf8 s ≡ true → utf8 (skip_space s) ≡ true
unfolding skip_space
skip-left [] h = h
skip-left (b ∷ s) h = by (λ t. utf8 t ≡ true) (is_space b) (λ e. skip-left s (passed b s (space-ascii b e) h)) (λ e. h)

word-left : (w : List ℕ) → all ascii w ≡ true → Takes Any (literal w)
unfolding literal all
word-left [] a s h = (tt, h)
word-left (x ∷ w) a [] h = tt
word-left (x ∷ w) a (b ∷ s) h =
    let k = both (ascii x) (all ascii w) a in
    by (Left Any) (eqb b x) (λ e. word-left w k.1 s (passed b s (is_ascii b x e k.0) h)) (λ e. tt)

-- numbers: what was scanned is scanned alone, too
record Scanned (q : NumberPlace) (s u : List ℕ) : Type 0 where
  text : List ℕ
  whole : s ≡ text ++ u
  again : scan q text ≡ ok tt []
  low : all ascii text ≡ true

number-ascii : (b : ℕ) → number_octet b ≡ true → ascii b ≡ true
unfolding number_octet is_exponent ascii
number-ascii b h = either (is_digit b) _ h (λ e. digit_low e) (λ h. either (eqb b 45) _ h (λ e. is_ascii b 45 e refl) (λ h. either (eqb b 43) _ h (λ e. is_ascii b 43 e refl)
    (λ h. either (eqb b 46) _ h (λ e. is_ascii b 46 e refl) (λ h. either (eqb b 101) _ h (λ e. is_ascii b 101 e refl) (λ e. is_ascii b 69 e refl)))))
  where
    digit_low : is_digit b ≡ true → leb b 127 ≡ true
    digit_low e = unfold is_digit in le-leb b 127 (omega (arith, (between-true 48 57 b e).1))

goes-ascii : (q : NumberPlace) (b : ℕ) → is_beyond (advance q b) ≡ false → ascii b ≡ true
goes-ascii q b n = cases (number_octet b) (λ y. number-ascii b y) (λ y. never (rw (advance-stop q b (alien b y)) (unfold is_beyond in refl)) n)

scanned : (q : NumberPlace) (s : List ℕ) → Gives (λ _ u. Scanned q s u) (scan q s)
unfolding scan all
scanned q [] = by (Gives (λ _ u. Scanned q [] u)) (number_ends q) (λ m. record { text = []; whole = refl; again = rw m; low = refl }) (λ m. tt)
scanned q (b ∷ s) = by (Gives (λ _ u. Scanned q (b ∷ s) u)) (is_beyond (advance q b))
    (λ _. by (Gives (λ _ u. Scanned q (b ∷ s) u)) (number_ends q) (λ m. record { text = []; whole = refl; again = rw m; low = refl }) (λ m. tt))
    (λ n. gives-weaker _ _ (scan (advance q b) s) (scanned (advance q b) s) (λ _ u w. record { text = b ∷ w.text; whole = ap (λ (l : List ℕ). b ∷ l) w.whole; again = rw n w.again; low = and-true (goes-ascii q b n) w.low }))

-- JSON numbers, as they stand
abbrev Numeral : List ℕ → Type 0
Numeral t = (number_read t ≡ ok t []) × (all ascii t ≡ true)

alone : (t : List ℕ) → scan start_place t ≡ ok tt [] → number_read t ≡ ok t []
unfolding number_read
alone t h = let n : length t - 0 ≡ length t = omega arith in rw (h, n, take-length)

number-left : Takes Numeral number_read
unfolding number_read
number-left s h = gives_then _ _ (scan start_place s) _ (scanned start_place s) (λ _ u w.
    let n : length (w.text ++ u) - length u ≡ length w.text = omega (arith, length-append w.text u) in
    let e : take (length s - length u) s ≡ w.text = rw (w.whole, n, take-append_seam) in
    (rw e (alone w.text w.again, w.low), sym (utf8_append w.text u (ascii-utf8 w.text w.low)) ∙ ap utf8 (sym w.whole) ∙ h))

-- escapes
digit-ascii : (b : ℕ) → hex_digit b < 16 → ascii b ≡ true
unfolding hex_digit is_digit ascii
digit-ascii b h = cases (leb b 127) (λ e. e)
    (λ e. let l = leb-false b 127 e in absurd (omega (arith, high l)))
  where
    high : 127 < b → hex_digit b ≡ 16
    high l = rw (above-between 48 57 b (omega arith), above-between 65 70 b (omega arith), above-between 97 102 b (omega arith))

digit-left : Takes (λ d. d < 16) hex1
unfolding hex1
digit-left [] h = tt
digit-left (b ∷ s) h = by (Left (λ d. d < 16)) (ltb (hex_digit b) 16) (λ e. let l = ltb-true (hex_digit b) 16 e in (l, passed b s (digit-ascii b l) h)) (λ e. tt)

hex4-left : Takes (λ n. n < 65536) hex4
unfolding hex4
hex4-left s h = gives_then _ _ (hex1 s) _ (digit-left s h) (λ a t ha. gives_then _ _ (hex1 t) _ (digit-left t ha.1) (λ b u hb. gives_then _ _ (hex1 u) _ (digit-left u hb.1)
    (λ c v hc. gives_then _ _ (hex1 v) _ (digit-left v hc.1) (λ d w hd. (omega arith, hd.1)))))

-- behind a low surrogate that was found
low-left : (s : List ℕ) → utf8 s ≡ true → ((low_surrogate s ≡ 0) → ⊥) → utf8 (drop 6 s) ≡ true
unfolding low_surrogate
low-left [] h n = absurd (n refl)
low-left (b ∷ []) h n = absurd (n refl)
low-left (b ∷ c ∷ s) h n = by (λ l. ((l ≡ 0) → ⊥) → utf8 (drop 4 s) ≡ true) (eqb b 92)
    (λ e. by (λ l. ((l ≡ 0) → ⊥) → utf8 (drop 4 s) ≡ true) (eqb c 117)
    (λ f. go (hex4-view s) (hex4-left s (passed c s (is_ascii c 117 f (unfold ascii in refl)) (passed b (c ∷ s) (is_ascii b 92 e (unfold ascii in refl)) h))))
    (λ _ x. absurd (x refl)))
    (λ _ x. absurd (x refl)) n
  where
    go : {o : Out ℕ} → Hex s o → Left (λ n. n < 65536) o → ((low_of o ≡ 0) → ⊥) → utf8 (drop 4 s) ≡ true
    go (hex-is k l) w x = w.1
    go hex-not w x = unfold low_of in absurd (x refl)

partner-low : (u : ℕ) (s : List ℕ) → ((partner u s ≡ 0) → ⊥) → (low_surrogate s ≡ 0) → ⊥
unfolding partner
partner-low u s n e = n (by (λ l. l ≡ 0) (between 55296 56319 u) (λ _. e) (λ _. refl))

-- whole characters
abbrev Chars : List ℕ → Type 0
Chars xs = loose_after start xs ≡ start

unit_left : (u : ℕ) → u < 65536 → Takes Chars (λ s. unit u s (partner u s))
unfolding unit
unit_left u k s h = by (Left Chars) (eqb (partner u s) 0) (λ e. (loose-char u (omega arith), h))
    (λ e. let n = eqb-false (partner u s) 0 e in let p = paired u s n in
    (loose-char (65536 + (u - 55296) * 1024 + (partner u s - 56320)) (omega arith), low-left s h (partner-low u s n)))

unicode-left : Takes Chars unicode
unfolding unicode
unicode-left s h = gives_then _ _ (hex4 s) _ (hex4-left s h) (λ u t w. unit_left u w.0 t w.1)

-- an octet that an escape stands for is ASCII, as the octet that says it
escape-zero : (b : ℕ) → 127 < b → escape_of b ≡ 0
unfolding escape_of
escape-zero b h = rw (ne_eqb b 34 (λ e. omega arith), ne_eqb b 92 (λ e. omega arith), ne_eqb b 47 (λ e. omega arith), ne_eqb b 98 (λ e. omega arith), ne_eqb b 102 (λ e. omega arith), ne_eqb b 110 (λ e. omega arith), ne_eqb b 114 (λ e. omega arith), ne_eqb b 116 (λ e. omega arith))

escape-low : (b : ℕ) → escape_of b ≤ 127
unfolding escape_of
escape-low b = by L (eqb b 34) (λ _. omega arith) (λ _. by L (eqb b 92) (λ _. omega arith) (λ _. by L (eqb b 47) (λ _. omega arith) (λ _. by L (eqb b 98) (λ _. omega arith) (λ _. by L (eqb b 102) (λ _. omega arith)
    (λ _. by L (eqb b 110) (λ _. omega arith) (λ _. by L (eqb b 114) (λ _. omega arith) (λ _. by L (eqb b 116) (λ _. omega arith) (λ _. omega arith))))))))
  where
    L : ℕ → Type 0
    L x = x ≤ 127

one_char : (x : ℕ) → x ≤ 127 → Chars (x ∷ [])
unfolding loose_after loose_due is_ed due lead
one_char x h = rw (le-leb x 127 h)

escape_left : Takes Chars escape
unfolding escape
escape_left [] h = tt
escape_left (b ∷ s) h = by (Left Chars) (eqb b 117) (λ e. unicode-left s (passed b s (is_ascii b 117 e (unfold ascii in refl)) h))
    (λ _. by (Left Chars) (eqb (escape_of b) 0) (λ _. tt) (λ e. (one_char (escape_of b) (escape-low b), passed b s (ascii-of e) h)))
  where
    ascii-of : eqb (escape_of b) 0 ≡ false → ascii b ≡ true
    ascii-of e = unfold ascii in cases (leb b 127) (λ y. y) (λ y. absurd (eqb-false (escape_of b) 0 e (escape-zero b (leb-false b 127 y))))

-- a string, from inside a character on: d is what is due
at-start : (d : Due) (b : ℕ) (s : List ℕ) → ascii b ≡ true → is_start (due_after d (b ∷ s)) ≡ true → (d ≡ start) × (utf8 s ≡ true)
unfolding due_after utf8
at-start d b s a h = cases (is_start d)
    (λ e. (start_is d e, rw (due-ascii d b a, e) at h))
    (λ e. never h (rw (due-ascii d b a, e, broken-stays s) (unfold is_start in refl)))

abbrev Rest : Due → List ℕ → List ℕ → Type 0
Rest d ys t = (is_start (loose_after d ys) ≡ true) × (utf8 t ≡ true)

pieces-left : (n : ℕ) (d : Due) (s : List ℕ) → is_start (due_after d s) ≡ true → Gives (Rest d) (string_pieces n s)
unfolding string_pieces piece loose_after due_after utf8 is_start ascii
pieces-left zero d s h = tt
pieces-left (suc n) d [] h = tt
pieces-left (suc n) d (b ∷ s) h = by (Gives (Rest d)) (eqb b 34)
    (λ e. let w = at-start d b s (is_ascii b 34 e refl) h in (rw w.0 refl, w.1))
    (λ _. by (λ o. Gives (Rest d) (and_then o (λ xs t. fmap (λ ys. xs ++ ys) (string_pieces n t)))) (eqb b 92)
    (λ e. let w = at-start d b s (is_ascii b 92 e refl) h in
    gives_then _ _ (escape s) _ (escape_left s w.1) (λ xs t v. gives-map _ _ (λ ys. xs ++ ys) (string_pieces n t) (pieces-left n start t v.1)
    (λ ys u z. (rw (w.0, loose-append start xs ys, v.0) z.0, z.1))))
    (λ _. by (λ o. Gives (Rest d) (and_then o (λ xs t. fmap (λ ys. xs ++ ys) (string_pieces n t)))) (ltb b 32) (λ _. tt)
    (λ _. gives-map _ _ (λ ys. b ∷ ys) (string_pieces n s) (pieces-left n (due d b) s h) (λ ys u z. (rw (loose-due d b s h) z.0, z.1)))))

abbrev Loose : List ℕ → Type 0
Loose s = loose s ≡ true

string-left : Takes Loose string
unfolding string loose utf8
string-left s h = pieces-left (suc (length s)) start s h

-- keys
colon-left : (k : List ℕ) → Loose k → Takes Loose (colon k)
unfolding colon
colon-left k l [] h = tt
colon-left k l (b ∷ s) h = by (Left Loose) (eqb b 58) (λ e. (l, skip-left s (passed b s (is_ascii b 58 e (unfold ascii in refl)) h))) (λ _. tt)

key_left : Takes Loose member_key
unfolding member_key
key_left [] h = tt
key_left (b ∷ s) h = by (Left Loose) (eqb b 34)
    (λ e. gives_then _ _ (string s) _ (string-left s (passed b s (is_ascii b 34 e (unfold ascii in refl)) h)) (λ k t w. colon-left k w.0 (skip_space t) (skip-left t w.1)))
    (λ _. tt)

abbrev DecodedPair : Pair → Type 0
DecodedPair m = Loose m.key × Decoded m.it

pair_left : (P : List ℕ → Out Json) → Takes Decoded P → Takes DecodedPair (pair P)
unfolding pair
pair_left P f s h = gives_then _ _ (member_key s) _ (key_left s h) (λ k t w. gives-map _ _ (λ j. record { key = k; it = j }) (P t) (f t w.1) (λ j u v. ((w.0, v.0), v.1)))

-- elements
mark-ascii : (end b : ℕ) → ascii end ≡ true → (m : Separator) → separator_of end b ≡ m → ((m ≡ odd) → ⊥) → ascii b ≡ true
unfolding separator_of ascii
mark-ascii end b a m e n = cases (eqb b 44) (λ x. is_ascii b 44 x refl) (λ x. cases (eqb b end) (λ y. is_ascii b end y a) (λ y. absurd (n (sym e ∙ rw (x, y)))))

module _ {A : Type 0} (P : A → Type 0) (end : ℕ) (low : ascii end ≡ true) (r : List ℕ → Out A) (f : Takes P r) where
  after-left : (m : Separator) (b : ℕ) → separator_of end b ≡ m → (more : List ℕ → Out (List A)) → Takes (All P) more → (a : A) → P a → (s : List ℕ) → utf8 (b ∷ s) ≡ true → Left (All P) (after_element m more a s)
  unfolding after_element
  after-left comma b e more g a p s h = gives-map _ _ (λ l. a ∷ l) (more (skip_space s)) (g (skip_space s) (skip-left s (passed b s (mark-ascii end b low comma e (λ z. let x : ◌≡◌ {A = ℕ} 0 1 = cc in omega arith)) h))) (λ l t w. ((p, w.0), w.1))
  after-left close b e more g a p s h = ((p, tt), passed b s (mark-ascii end b low close e (λ z. let x : ◌≡◌ {A = ℕ} 0 1 = cc in omega arith)) h)
  after-left odd b e more g a p s h = tt

  mark-left : (more : List ℕ → Out (List A)) → Takes (All P) more → (a : A) → P a → Takes (All P) (on_mark end (λ m u. after_element m more a u))
  unfolding on_mark
  mark-left more g a p [] h = tt
  mark-left more g a p (b ∷ s) h = after-left (separator_of end b) b refl more g a p s h

  elements-left : (n : ℕ) → Takes (All P) (elements_up_to end r n)
  unfolding elements_up_to
  elements-left zero s h = tt
  elements-left (suc n) s h = gives_then _ _ (r s) _ (f s h) (λ a t w. mark-left (elements_up_to end r n) (elements-left n) a w.0 (skip_space t) (skip-left t w.1))

  group-left : Takes (All P) (bracketed end r)
  unfolding bracketed
  group-left s h = from (skip_space s) (skip-left s h)
    where
      from : Takes (All P) (elements_from end r)
      from [] k = unfold elements_from in tt
      from (b ∷ t) k = unfold elements_from in by (Left (All P)) (eqb b end) (λ e. (tt, passed b t (is_ascii b end e low) k)) (λ _. elements-left (suc (length (b ∷ t))) (b ∷ t) k)

items-decoded : (l : List Json) → All Decoded l → DecodedItems (items_of l)
unfolding items_of
items-decoded [] h = d-none
items-decoded (j ∷ l) h = d-item h.0 (items-decoded l h.1)

members-decoded : (l : List Pair) → All DecodedPair l → DecodedMembers (members_from l)
unfolding members_from
members-decoded [] h = d-empty
members-decoded (m ∷ l) h = d-member h.0.0 h.0.1 (members-decoded l h.1)

-- values
kind-ascii : (b : ℕ) → 127 < b → opening_of b ≡ other
unfolding opening_of is_digit
kind-ascii b h = rw (ne_eqb b 91 (λ e. omega arith), ne_eqb b 123 (λ e. omega arith), ne_eqb b 34 (λ e. omega arith), ne_eqb b 45 (λ e. omega arith), above-between 48 57 b (omega arith), ne_eqb b 110 (λ e. omega arith), ne_eqb b 102 (λ e. omega arith), ne_eqb b 116 (λ e. omega arith))

module _ (a : List ℕ → Out (List Json)) (o : List ℕ → Out (List Pair)) (fa : Takes (All Decoded) a) (fo : Takes (All DecodedPair) o) where
  kind-left : (k : Opening) (b : ℕ) (s : List ℕ) → utf8 (b ∷ s) ≡ true → utf8 s ≡ true → Left Decoded (value_by k a o b s)
  unfolding value_by ascii
  kind-left bracket b s h g = gives-map _ _ (λ l. arr (items_of l)) (a s) (fa s g) (λ l t w. (d-arr (items-decoded l w.0), w.1))
  kind-left brace b s h g = gives-map _ _ (λ l. obj (members_from l)) (o s) (fo s g) (λ l t w. (d-obj (members-decoded l w.0), w.1))
  kind-left quote b s h g = gives-map _ _ str (string s) (string-left s g) (λ k t w. (d-str w.0, w.1))
  kind-left numeral b s h g = gives-map _ _ num (number_read (b ∷ s)) (number-left (b ∷ s) h) (λ n t w. (d-num w.0.0 w.0.1, w.1))
  kind-left null_word b s h g = gives-map _ _ (λ _. null) (literal (octets "ull") s) (word-left (octets "ull") (unfold all in refl) s g) (λ _ t w. (d-null, w.1))
  kind-left false_word b s h g = gives-map _ _ (λ _. falsity) (literal (octets "alse") s) (word-left (octets "alse") (unfold all in refl) s g) (λ _ t w. (d-false, w.1))
  kind-left true_word b s h g = gives-map _ _ (λ _. truth) (literal (octets "rue") s) (word-left (octets "rue") (unfold all in refl) s g) (λ _ t w. (d-true, w.1))
  kind-left other b s h g = tt

  with-left : Takes Decoded (value_with a o)
  unfolding value_with
  with-left [] h = tt
  with-left (b ∷ s) h = cases (ascii b)
      (λ e. kind-left (opening_of b) b s h (passed b s e h))
      (λ e. rw (kind-ascii b (ascii-high b e)) (unfold value_by in tt))

value-left : (d : ℕ) → Takes Decoded (value_within d)
unfolding value_within ascii
value-left zero s h = with-left (λ _. deep) (λ _. deep) (λ _ _. tt) (λ _ _. tt) s h
value-left (suc d) s h = with-left (bracketed 93 (value_within d)) (bracketed 125 (pair (value_within d))) (group-left Decoded 93 refl (value_within d) (value-left d)) (group-left DecodedPair 125 refl (pair (value_within d)) (pair_left (value_within d) (value-left d))) s h

-- what a UTF-8 text holds
pub parse-decoded : (s t : List ℕ) (j : Json) → utf8 s ≡ true → parse_text s ≡ ok j t → Decoded j
unfolding parse_text
parse-decoded s t j h e = given (λ j t. Decoded j) e (gives_then _ _ (value_within most_open (skip_space s)) _ (value-left most_open (skip_space s) (skip-left s h)) (λ k u w. end k (skip_space u) w.0))
  where
    end : (k : Json) (u : List ℕ) → Decoded k → Gives (λ j t. Decoded j) (nothing_behind k u)
    end k [] d = unfold nothing_behind in d
    end k (b ∷ u) d = unfold nothing_behind in tt

-- so that its tape can be read back
ascii-clean : (t : List ℕ) → all ascii t ≡ true → Clean t
unfolding all
ascii-clean [] h = clean_end
ascii-clean (c ∷ t) h = let b = both (ascii c) (all ascii t) h in clean {b = c} (λ e. absurd (omega (arith, ascii-low c b.0))) (ascii-clean t b.1)

string-clean : (s : List ℕ) → loose s ≡ true → Clean s
unfolding loose
string-clean s h = loose-clean start s h

mutual
  pub decoded-fine : {j : Json} → Decoded j → Fine j
  decoded-fine d-null = f-null
  decoded-fine d-false = f-false
  decoded-fine d-true = f-true
  decoded-fine (d-num {t} h a) = f-num (ascii-clean t a)
  decoded-fine (d-str {s} h) = f-str (string-clean s h)
  decoded-fine (d-arr h) = f-arr (items-fine h)
  decoded-fine (d-obj h) = f-obj (members-fine h)

  items-fine : {js : Items} → DecodedItems js → FineItems js
  items-fine d-none = f-none
  items-fine (d-item d ds) = f-item (decoded-fine d) (items-fine ds)

  members-fine : {ms : Members} → DecodedMembers ms → FineMembers ms
  members-fine d-empty = f-empty
  members-fine (d-member {k} h d ds) = f-member (string-clean k h) (decoded-fine d) (members-fine ds)

pub parse-fine : (s t : List ℕ) (j : Json) → utf8 s ≡ true → parse_text s ≡ ok j t → Fine j
parse-fine s t j h e = decoded-fine (parse-decoded s t j h e)
