-- What is left of a text is shorter than the text, and what was read has a tape of at most twice what it took.
use Prim.Native.Nat.{ℕ, zero, suc, ◌+◌, ◌-◌, ◌*◌, ◌≤◌, ◌<◌}
use Prim.Native.Char.{code}
use mathlib.Core.Path.{◌≡◌, ap}
use mathlib.Core.List.{List, [], ◌∷◌, ◌++◌}
use native.Mathlib.Omega.{arith}
use lib.Dec.{eqb}
use lib.ListN.{length, take, length-append, length-take}
use Rattle.octets.specs.Basics.{octets}
use Rattle.octets.specs.Limits.{most_open}
use Rattle.octets.specs.Classes.{is_space}
use Rattle.json_text.specs.Tree.{Json, null, falsity, truth, num, str, arr, obj, items_of}
use Rattle.json_text.specs.Reads.{Out, ok, deep, skip_space, literal}
use Rattle.json_text.specs.Numbers.{NumberPlace, start, advance, is_beyond, number_ends, scan, number_read}
use Rattle.json_text.specs.Strings.{piece, string_pieces, string}
use Rattle.json_text.specs.Reader.{Opening, bracket, brace, quote, numeral, null_word, false_word, true_word, other, opening_of, Separator, comma, close, odd, separator_of, colon, member_key, Pair, pair, members_from, after_element, on_mark, elements_up_to, elements_from, bracketed, value_by, value_with, value_within, nothing_behind, parse_text}
use Rattle.json_text.specs.Tape.{ser_string, ser}
use Rattle.json_text.specs.Parse.{most_tape}
use Rattle.json_text.proofs.Outs.{Gives, gives_then, gives-map, gives-weaker, given, by}
use Rattle.json_text.proofs.StringLaws.{Small, small-piece}
use Rattle.json_text.proofs.Tapes.{ser_list, ser_pair, array-tape, object-tape}

-- n octets of the tape stand for what was taken of s, up to t
abbrev pub Sized : ℕ → List ℕ → List ℕ → Type 0
Sized n s t = (length t < length s) × (n + 2 * length t ≤ 2 * length s + 1)

pub skip-less : (s : List ℕ) → length (skip_space s) ≤ length s
unfolding skip_space
skip-less [] = omega arith
skip-less (b ∷ s) = by (λ t. length t ≤ length (b ∷ s)) (is_space b) {x = skip_space s} {y = b ∷ s} (λ _. omega (arith, skip-less s)) (λ _. omega arith)

word-less : (w s : List ℕ) → Gives (λ _ t. length t ≤ length s) (literal w s)
unfolding literal
word-less [] s = omega arith
word-less (x ∷ w) [] = tt
word-less (x ∷ w) (b ∷ s) = by (Gives (λ _ t. length t ≤ length (b ∷ s))) (eqb b x) (λ _. gives-weaker _ _ (literal w s) (word-less w s) (λ _ t h. omega arith)) (λ _. tt)

scan-less : (q : NumberPlace) (s : List ℕ) → Gives (λ _ t. length t ≤ length s) (scan q s)
unfolding scan
scan-less q [] = by (Gives (λ _ t. length t ≤ 0)) (number_ends q) (λ _. omega arith) (λ _. tt)
scan-less q (b ∷ s) = by (Gives (λ _ t. length t ≤ length (b ∷ s))) (is_beyond (advance q b))
    (λ _. by (Gives (λ _ t. length t ≤ length (b ∷ s))) (number_ends q) (λ _. omega arith) (λ _. tt))
    (λ _. gives-weaker _ _ (scan (advance q b) s) (scan-less (advance q b) s) (λ _ t h. omega arith))

-- a number takes an octet at least
pub start-less : (s : List ℕ) → Gives (λ _ t. length t < length s) (scan start s)
unfolding scan number_ends
start-less [] = tt
start-less (b ∷ s) = by (Gives (λ _ t. length t < length (b ∷ s))) (is_beyond (advance start b)) (λ _. tt) (λ _. gives-weaker _ _ (scan (advance start b) s) (scan-less (advance start b) s) (λ _ t h. omega arith))

number-sized : (s : List ℕ) → Gives (λ n t. Sized (length (ser (num n))) s t) (number_read s)
unfolding number_read ser
number-sized s = gives_then (λ _ u. length u < length s) _ (scan start s) _ (start-less s)
    (λ _ u h. (h, omega (arith, length-append (take (length s - length u) s) (255 ∷ []), length-take (length s - length u) s)))

string-sized : (n : ℕ) (s : List ℕ) → Gives (λ k t. length k + length t < length s) (string_pieces n s)
unfolding string_pieces
string-sized zero s = tt
string-sized (suc n) [] = tt
string-sized (suc n) (b ∷ s) = by (Gives (λ k t. length k + length t < length (b ∷ s))) (eqb b 34) (λ _. omega arith)
    (λ _. gives_then (Small (b ∷ s)) _ (piece (b ∷ s)) _ (small-piece (b ∷ s))
    (λ xs t h. gives-map _ _ (λ ys. xs ++ ys) (string_pieces n t) (string-sized n t) (λ ys u k. omega (arith, length-append xs ys))))

string-less : (s : List ℕ) → Gives (λ k t. length k + length t < length s) (string s)
unfolding string
string-less s = string-sized (suc (length s)) s

-- a key takes two quotes and a colon
abbrev Keyed : List ℕ → List ℕ → List ℕ → Type 0
Keyed s k t = length k + length t + 3 ≤ length s

key-sized : (s : List ℕ) → Gives (Keyed s) (member_key s)
unfolding member_key
key-sized [] = tt
key-sized (b ∷ s) = by (Gives (Keyed (b ∷ s))) (eqb b 34) (λ _. gives_then _ _ (string s) _ (string-less s) (λ k t h. behind k (skip_space t) (omega (arith, skip-less t)))) (λ _. tt)
  where
    behind : (k t : List ℕ) → length k + length t < length s → Gives (Keyed (b ∷ s)) (colon k t)
    behind k [] h = unfold colon in tt
    behind k (c ∷ t) h = unfold colon in by (Gives (Keyed (b ∷ s))) (eqb c 58) (λ _. omega (arith, skip-less t)) (λ _. tt)

pub key-less : (s : List ℕ) {k t : List ℕ} → member_key s ≡ ok k t → length t < length s
key-less s e = let w = given (Keyed s) e (key-sized s) in omega (arith, w)

-- a reader of elements
abbrev pub Reads : {A : Type 0} → (A → List ℕ) → (List ℕ → Out A) → Type 0
Reads {A} f P = (s : List ℕ) → Gives (λ a t. Sized (length (f a)) s t) (P s)

pub pair-sized : (P : List ℕ → Out Json) → Reads ser P → Reads ser_pair (pair P)
unfolding pair
pair-sized P h s = gives_then (Keyed s) _ (member_key s) _ (key-sized s) (λ k t w. gives-map _ _ (λ j. record { key = k; it = j }) (P t) (h t)
    (λ j u v. (omega arith, omega (arith, length-append (ser_string k) (ser j), length-append k (255 ∷ [])))))

-- elements between commas
abbrev Row : {A : Type 0} → (A → List ℕ) → List ℕ → List A → List ℕ → Type 0
Row f s l t = (length t < length s) × (length (ser_list f l) + 2 * length t ≤ 2 * length s)

module _ {A : Type 0} (f : A → List ℕ) (end : ℕ) (P : List ℕ → Out A) (h : Reads f P) where
  after-sized : (m : Separator) (more : List ℕ → Out (List A)) (a : A) (s u : List ℕ) → length u + 1 < length s → length (f a) + 2 * length u + 1 ≤ 2 * length s → ((t : List ℕ) → Gives (Row f t) (more t)) → Gives (Row f s) (after_element m more a u)
  unfolding after_element ser_list
  after-sized comma more a s u k l r = gives-map _ _ (λ w. a ∷ w) (more (skip_space u)) (r (skip_space u)) (λ w t v. (omega (arith, skip-less u), omega (arith, skip-less u, length-append (f a) (ser_list f w))))
  after-sized close more a s u k l r = (omega arith, omega (arith, length-append (f a) (255 ∷ [])))
  after-sized odd more a s u k l r = tt

  mark-sized : (more : List ℕ → Out (List A)) (a : A) (s t : List ℕ) → Sized (length (f a)) s t → ((t : List ℕ) → Gives (Row f t) (more t)) → Gives (Row f s) (on_mark end (λ m u. after_element m more a u) (skip_space t))
  mark-sized more a s t w r = go (skip_space t) (skip-less t)
    where
      go : (v : List ℕ) → length v ≤ length t → Gives (Row f s) (on_mark end (λ m u. after_element m more a u) v)
      go [] l = unfold on_mark in tt
      go (b ∷ u) l = unfold on_mark in after-sized (separator_of end b) more a s u (omega arith) (omega arith) r

  pub elements-sized : (n : ℕ) (s : List ℕ) → Gives (Row f s) (elements_up_to end P n s)
  unfolding elements_up_to
  elements-sized zero s = tt
  elements-sized (suc n) s = gives_then _ _ (P s) _ (h s) (λ a t w. mark-sized (elements_up_to end P n) a s t w (λ t. elements-sized n t))

  group-sized : (s : List ℕ) → Gives (Row f s) (bracketed end P s)
  unfolding bracketed
  group-sized s = gives-weaker (Row f (skip_space s)) (Row f s) (elements_from end P (skip_space s)) (from (skip_space s)) (λ l t w. (omega (arith, skip-less s), omega (arith, skip-less s)))
    where
      from : (t : List ℕ) → Gives (Row f t) (elements_from end P t)
      from [] = unfold elements_from in tt
      from (b ∷ t) = unfold elements_from ser_list in by (Gives (Row f (b ∷ t))) (eqb b end) (λ _. (omega arith, omega arith)) (λ _. elements-sized (suc (length (b ∷ t))) (b ∷ t))

-- values
module _ (a : List ℕ → Out (List Json)) (o : List ℕ → Out (List Pair)) (ha : (s : List ℕ) → Gives (Row ser s) (a s)) (ho : (s : List ℕ) → Gives (Row ser_pair s) (o s)) where
  kind-sized : (k : Opening) (b : ℕ) (s : List ℕ) → Gives (λ j t. Sized (length (ser j)) (b ∷ s) t) (value_by k a o b s)
  unfolding value_by ser
  kind-sized bracket b s = gives-map _ _ (λ l. arr (items_of l)) (a s) (ha s) (λ l t w. (omega arith, omega (arith, ap length (array-tape l))))
  kind-sized brace b s = gives-map _ _ (λ l. obj (members_from l)) (o s) (ho s) (λ l t w. (omega arith, omega (arith, ap length (object-tape l))))
  kind-sized quote b s = gives-map _ _ str (string s) (string-less s) (λ k t w. (omega arith, omega (arith, length-append k (255 ∷ []))))
  kind-sized numeral b s = gives-map _ _ num (number_read (b ∷ s)) (number-sized (b ∷ s)) (λ n t w. w)
  kind-sized null_word b s = gives-map _ _ (λ _. null) (literal (octets "ull") s) (word-less (octets "ull") s) (λ _ t w. (omega arith, omega arith))
  kind-sized false_word b s = gives-map _ _ (λ _. falsity) (literal (octets "alse") s) (word-less (octets "alse") s) (λ _ t w. (omega arith, omega arith))
  kind-sized true_word b s = gives-map _ _ (λ _. truth) (literal (octets "rue") s) (word-less (octets "rue") s) (λ _ t w. (omega arith, omega arith))
  kind-sized other b s = tt

  with-sized : (s : List ℕ) → Gives (λ j t. Sized (length (ser j)) s t) (value_with a o s)
  unfolding value_with
  with-sized [] = tt
  with-sized (b ∷ s) = kind-sized (opening_of b) b s

pub value-sized : (d : ℕ) → Reads ser (value_within d)
unfolding value_within
value-sized zero s = with-sized (λ _. deep) (λ _. deep) (λ _. tt) (λ _. tt) s
value-sized (suc d) s = with-sized (bracketed (code "]") (value_within d)) (bracketed (code "}") (pair (value_within d))) (group-sized ser (code "]") (value_within d) (value-sized d)) (group-sized ser_pair (code "}") (pair (value_within d)) (pair-sized (value_within d) (value-sized d))) s

-- a tape of `most_tape` octets is long enough for every value of the text
pub tape-enough : (s t : List ℕ) (j : Json) → parse_text s ≡ ok j t → length (ser j) ≤ most_tape (length s)
unfolding parse_text most_tape
tape-enough s t j e = given (λ j t. length (ser j) ≤ 2 * length s + 2) e (gives_then _ _ (value_within most_open (skip_space s)) _ (value-sized most_open (skip_space s)) (λ k u w. end k (skip_space u) (omega (arith, skip-less s))))
  where
    end : (k : Json) (u : List ℕ) → length (ser k) ≤ 2 * length s + 2 → Gives (λ j t. length (ser j) ≤ 2 * length s + 2) (nothing_behind k u)
    end k [] h = unfold nothing_behind in h
    end k (b ∷ u) h = unfold nothing_behind in tt
