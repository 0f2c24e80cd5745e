-- Values, keys and whole texts, by what they begin with.
use Prim.Native.Nat.{ℕ, zero, suc, ◌-◌, ◌≤◌, ◌<◌, ◌+◌}
use mathlib.Core.Path.{◌≡◌, refl, sym, ap, ◌∙◌}
use mathlib.Core.Bool.{true, false}
use mathlib.Core.List.{List, [], ◌∷◌}
use native.Mathlib.Numerals.{sub-one}
use native.Mathlib.Omega.{arith}
use lib.Dec.{eqb, ltb}
use lib.ListN.{length, take, get_or, drop, length-drop}
use borrow.Author.Tests.{ne_eqb, ltb-true, ltb-false}
use Rattle.octets.specs.Basics.{octets, pick, ◌or◌}
use Rattle.octets.specs.Classes.{is_digit, between}
use Rattle.octets.specs.Limits.{most_open}
use Rattle.octets.specs.Pen.{Pen, Wrote}
use Rattle.octets.proofs.Cases.{cases, neither, apart-not}
use Rattle.json_text.specs.Tree.{Json, null, falsity, truth, num, str, arr, obj, items_of}
use Rattle.json_text.specs.Reads.{Out, ok, deep, bad, fmap, and_then, skip_space, literal}
use Rattle.json_text.specs.Numbers.{start, first_digit, advance, number_ends, scan, number_read}
use Rattle.json_text.specs.Strings.{string}
use Rattle.json_text.specs.Reader.{Opening, bracket, brace, quote, numeral, null_word, false_word, true_word, other, opening_of, colon, member_key, pair, members_from, bracketed, value_by, value_with, value_within, nothing_behind, parse_text, Pair}
use Rattle.json_text.specs.Tape.{tag_null, tag_false, tag_true, tag_number, tag_array, tag_object, ser_text, ser_string, ser}
use Rattle.json_text.specs.Promise.{Agrees}
use Rattle.std.specs.Prelude.{Err}
use Rattle.json_text.specs.declared.JsonError.{JsonError}
use Rattle.json_text.proofs.NumberLaws.{scan-over}
use Rattle.json_text.proofs.Outs.{gives-weaker}
use Rattle.json_text.proofs.Tapes.{ser_list, ser_pair, array-tape, object-tape}
use Rattle.json_text.proofs.Sizes.{value-sized, pair-sized}
use Rattle.json_text.proofs.Elements.{Shortens}
use Rattle.json_text.proofs.Agreements.{Answer, HasRead, agrees-by, agrees-map, agrees_after, agrees-fails, HasFound}
use Rattle.octets.proofs.Positions.{past_end, here, ended}

-- a number's text, up to u
pub number-reads : (s : List ℕ) {u : List ℕ} → scan start s ≡ ok tt u → number_read s ≡ ok (take (length s - length u) s) u
unfolding number_read
number-reads s e = rw e

pub number-none : (s : List ℕ) → scan start s ≡ bad → number_read s ≡ bad
unfolding number_read
number-none s w = rw w

-- a key, by its first octet
pub key-none : (s : List ℕ) → ((get_or s 0 0 ≡ 34) → ⊥) → member_key s ≡ bad
unfolding member_key
key-none [] n = refl
key-none (b ∷ s) n = rw (ne_eqb b 34 n)

pub key-quote : {s u : List ℕ} → s ≡ 34 ∷ u → member_key s ≡ and_then (string u) (λ k t. colon k (skip_space t))
unfolding member_key
key-quote e = rw e

colon-none : (k v : List ℕ) → ((get_or v 0 0 ≡ 58) → ⊥) → colon k v ≡ bad
unfolding colon
colon-none k [] n = refl
colon-none k (b ∷ v) n = rw (ne_eqb b 58 n)

module _ {s u rest v : List ℕ} {to : ℕ} {p : Pen} {t : List ℕ} (q : s ≡ 34 ∷ u) (x : HasRead ser_string p t (string u) rest to) (blank : v ≡ skip_space rest) where
  colon-at : member_key s ≡ colon x.it v
  colon-at = key-quote q ∙ rw (x.is, ← blank)

  pub key-bare : ((get_or v 0 0 ≡ 58) → ⊥) → member_key s ≡ bad
  key-bare c = colon-at ∙ colon-none x.it v c

  pub key-read : {n m : List ℕ} → v ≡ 58 ∷ n → m ≡ skip_space n → member_key s ≡ ok x.it m
  unfolding colon
  key-read c next = colon-at ∙ rw (c, next)

-- arrays and objects, by the levels left
unfoldable pub levels : {A : Type 0} → ℕ → ((List ℕ → Out Json) → List ℕ → Out A) → ℕ → List ℕ → Out (List A)
levels end F zero s = deep
levels end F (suc d) s = bracketed end (F (value_within d)) s

levels-left : {A : Type 0} (end : ℕ) (F : (List ℕ → Out Json) → List ℕ → Out A) (d : ℕ) (s : List ℕ) → ((d ≡ 0) → ⊥) → levels end F d s ≡ bracketed end (F (value_within (d - 1))) s
unfolding levels
levels-left end F zero s n = absurd (n refl)
levels-left end F (suc d) s n = rw sub-one

-- a value, by its first octet
module _ (b : ℕ) (s : List ℕ) (d : ℕ) where
  value-first : value_within d (b ∷ s) ≡ value_by (opening_of b) (levels 93 (λ p. p) d) (levels 125 pair d) b s
  value-first = split d
    where
      split : (d : ℕ) → value_within d (b ∷ s) ≡ value_by (opening_of b) (levels 93 (λ p. p) d) (levels 125 pair d) b s
      split zero = unfold value_within value_with levels in refl
      split (suc d) = unfold value_within value_with levels in refl

  module _ (k : Opening) (e : opening_of b ≡ k) where
    value-kind : value_within d (b ∷ s) ≡ value_by k (levels 93 (λ p. p) d) (levels 125 pair d) b s
    value-kind = value-first ∙ rw e

-- arrays and objects
module _ (s : List ℕ) (d : ℕ) where
  array-is : value_within d (91 ∷ s) ≡ fmap (λ l. arr (items_of l)) (levels 93 (λ p. p) d s)
  unfolding value_by opening_of
  array-is = value-kind 91 s d bracket refl

  pub array-deep : d ≡ 0 → value_within d (91 ∷ s) ≡ deep
  unfolding levels
  array-deep z = array-is ∙ rw z

  pub array-agrees : ((d ≡ 0) → ⊥) → {p q : Pen} {t : List ℕ} {r : Answer} → Wrote p (tag_array ∷ []) q → Agrees (ser_list ser) q t (bracketed 93 (value_within (d - 1)) s) r → Agrees ser p t (value_within d (91 ∷ s)) r
  array-agrees n w x = agrees-by (array-is ∙ ap (fmap (λ l. arr (items_of l))) (levels-left 93 (λ p. p) d s n)) (agrees_after ser (λ l. arr (items_of l)) w array-tape x)

  object-is : value_within d (123 ∷ s) ≡ fmap (λ l. obj (members_from l)) (levels 125 pair d s)
  unfolding value_by opening_of
  object-is = value-kind 123 s d brace refl

  pub object-deep : d ≡ 0 → value_within d (123 ∷ s) ≡ deep
  unfolding levels
  object-deep z = object-is ∙ rw z

  pub object-agrees : ((d ≡ 0) → ⊥) → {p q : Pen} {t : List ℕ} {r : Answer} → Wrote p (tag_object ∷ []) q → Agrees (ser_list ser_pair) q t (bracketed 125 (pair (value_within (d - 1))) s) r → Agrees ser p t (value_within d (123 ∷ s)) r
  object-agrees n w x = agrees-by (object-is ∙ ap (fmap (λ l. obj (members_from l))) (levels-left 125 pair d s n)) (agrees_after ser (λ l. obj (members_from l)) w object-tape x)

-- what their elements are read by
pub value-shortens : (d : ℕ) → Shortens (value_within d)
value-shortens d s = gives-weaker _ _ (value_within d s) (value-sized d s) (λ j t w. w.0)

pub pair-shortens : (d : ℕ) → Shortens (pair (value_within d))
pair-shortens d s = gives-weaker _ _ (pair (value_within d) s) (pair-sized (value_within d) (value-sized d) s) (λ j t w. w.0)

pub value-nil : (d : ℕ) → value_within d [] ≡ bad
unfolding value_within value_with
value-nil zero = refl
value-nil (suc d) = refl

pub pair-nil : (d : ℕ) → pair (value_within d) [] ≡ bad
unfolding pair member_key
pair-nil d = refl

-- the other kinds
module _ {s u : List ℕ} (d : ℕ) {p : Pen} {t : List ℕ} {r : Answer} where
  pub string-agrees : s ≡ 34 ∷ u → Agrees ser_string p t (string u) r → Agrees ser p t (value_within d s) r
  unfolding value_by opening_of ser
  string-agrees e x = agrees-by (ap (value_within d) e ∙ value-kind 34 u d quote refl) (agrees-map ser str (λ _. refl) x)

  pub null-agrees : s ≡ 110 ∷ u → Agrees (λ _. tag_null ∷ []) p t (literal (octets "ull") u) r → Agrees ser p t (value_within d s) r
  unfolding value_by opening_of is_digit between ser
  null-agrees e x = agrees-by (ap (value_within d) e ∙ value-kind 110 u d null_word refl) (agrees-map ser (λ _. null) (λ _. refl) x)

  pub false-agrees : s ≡ 102 ∷ u → Agrees (λ _. tag_false ∷ []) p t (literal (octets "alse") u) r → Agrees ser p t (value_within d s) r
  unfolding value_by opening_of is_digit between ser
  false-agrees e x = agrees-by (ap (value_within d) e ∙ value-kind 102 u d false_word refl) (agrees-map ser (λ _. falsity) (λ _. refl) x)

  pub true-agrees : s ≡ 116 ∷ u → Agrees (λ _. tag_true ∷ []) p t (literal (octets "rue") u) r → Agrees ser p t (value_within d s) r
  unfolding value_by opening_of is_digit between ser
  true-agrees e x = agrees-by (ap (value_within d) e ∙ value-kind 116 u d true_word refl) (agrees-map ser (λ _. truth) (λ _. refl) x)

-- any other octet begins a number or nothing
not-numeral : (b : ℕ) (s : List ℕ) → (eqb b 45 or is_digit b) ≡ false → number_read (b ∷ s) ≡ bad
unfolding advance first_digit number_ends
not-numeral b s n =
    let w = neither (eqb b 45) (is_digit b) n in
    number-none (b ∷ s) (scan-over (b ∷ s) 0 start (rw (w.0, w.1, apart-not is_digit b 48 w.1 digit-48)))
  where
    digit-48 : is_digit 48 ≡ true
    digit-48 = unfold is_digit between in refl

number-kind : (b : ℕ) → ((b ≡ 91) → ⊥) → ((b ≡ 123) → ⊥) → ((b ≡ 34) → ⊥) → ((b ≡ 110) → ⊥) → ((b ≡ 102) → ⊥) → ((b ≡ 116) → ⊥) → opening_of b ≡ pick (eqb b 45 or is_digit b) numeral other
unfolding opening_of
number-kind b a o q n f t = rw (ne_eqb b 91 a, ne_eqb b 123 o, ne_eqb b 34 q, ne_eqb b 110 n, ne_eqb b 102 f, ne_eqb b 116 t)

number_is : (s : List ℕ) (d : ℕ) → ((get_or s 0 0 ≡ 91) → ⊥) → ((get_or s 0 0 ≡ 123) → ⊥) → ((get_or s 0 0 ≡ 34) → ⊥) → ((get_or s 0 0 ≡ 110) → ⊥) → ((get_or s 0 0 ≡ 102) → ⊥) → ((get_or s 0 0 ≡ 116) → ⊥) → value_within d s ≡ fmap num (number_read s)
number_is [] d a o q n f t = value-nil d ∙ sym (ap (fmap num) (number-none [] (unfold scan number_ends in refl)))
number_is (b ∷ s) d a o q n f t = cases (eqb b 45 or is_digit b)
    (λ y. value-kind b s d numeral (number-kind b a o q n f t ∙ rw y) ∙ (unfold value_by in refl))
    (λ y. value-kind b s d other (number-kind b a o q n f t ∙ rw y) ∙ (unfold value_by in sym (ap (fmap num) (not-numeral b s y))))

pub number-agrees : (s : List ℕ) (d : ℕ) → ((get_or s 0 0 ≡ 91) → ⊥) → ((get_or s 0 0 ≡ 123) → ⊥) → ((get_or s 0 0 ≡ 34) → ⊥) → ((get_or s 0 0 ≡ 110) → ⊥) → ((get_or s 0 0 ≡ 102) → ⊥) → ((get_or s 0 0 ≡ 116) → ⊥)
    → {p : Pen} {u : List ℕ} {r : Answer} → Agrees (λ w. tag_number ∷ ser_text w) p u (number_read s) r → Agrees ser p u (value_within d s) r
unfolding ser
number-agrees s d a o q n f t x = agrees-by (number_is s d a o q n f t) (agrees-map ser num (λ _. refl) x)

-- a whole text: a value between white space
module _ (text : List ℕ) {i : List ℕ} (blank : i ≡ skip_space text) where
  text_at : parse_text text ≡ and_then (value_within most_open i) (λ j s. nothing_behind j (skip_space s))
  unfolding parse_text
  text_at = rw blank

  pub text-fails : {p : Pen} {t : List ℕ} {w : JsonError} → Agrees ser p t (value_within most_open i) (Err w) → Agrees ser p t (parse_text text) (Err w)
  text-fails x = agrees-by text_at (agrees-fails _ x)

  module _ {e n : List ℕ} {to : ℕ} {p : Pen} {t : List ℕ} (x : HasRead ser p t (value_within most_open i) e to) (behind : n ≡ skip_space e) where
    text-ended : parse_text text ≡ nothing_behind x.it n
    text-ended = text_at ∙ rw (x.is, ← behind)

    pub text-more : ((length n ≡ 0) → ⊥) → parse_text text ≡ bad
    text-more h = text-ended ∙ go n h
      where
        go : (n : List ℕ) → ((length n ≡ 0) → ⊥) → nothing_behind x.it n ≡ bad
        go [] h = absurd (h refl)
        go (b ∷ n) h = unfold nothing_behind in refl

    pub text-whole : length n ≡ 0 → parse_text text ≡ ok x.it n
    text-whole h = text-ended ∙ go n h
      where
        go : (n : List ℕ) → length n ≡ 0 → nothing_behind x.it n ≡ ok x.it n
        go [] h = unfold nothing_behind in refl
        go (b ∷ n) h = absurd (omega (arith, h))

-- a bracket or a brace stands inside the text
kind-inside : (text : List ℕ) (i : ℕ) → ((opening_of (get_or text i 0) ≡ other) → ⊥) → i < length text
unfolding opening_of is_digit between
kind-inside text i n = cases (ltb i (length text)) (λ h. ltb-true i (length text) h) (λ h. absurd (n (ap opening_of (past_end text i (ltb-false i (length text) h)))))

pub bracket-inside : (text : List ℕ) (i : ℕ) → opening_of (get_or text i 0) ≡ bracket → i < length text
bracket-inside text i e = kind-inside text i (λ o. let z : ◌≡◌ {A = ℕ} 0 1 = cc in omega arith)

pub brace-inside : (text : List ℕ) (i : ℕ) → opening_of (get_or text i 0) ≡ brace → i < length text
brace-inside text i e = kind-inside text i (λ o. let z : ◌≡◌ {A = ℕ} 0 1 = cc in omega arith)

-- a number's text, from `at` to e
pub number_read_lem : (text : List ℕ) (at e : ℕ) {low : ℕ} → HasFound text low (scan start (drop at text)) e → at ≤ e → number_read (drop at text) ≡ ok (take (e - at) (drop at text)) (drop e text)
unfolding number_read
number_read_lem text at e x h =
    let n : length (drop at text) - length (drop e text) ≡ e - at = omega (arith, x.below, length-drop at text, length-drop e text) in
    rw (x.is, n)

-- a value, by the octet at i
module _ (text : List ℕ) (i d : ℕ) where
  pub value-at : value_within d (drop i text) ≡ value_by (opening_of (get_or text i 0)) (levels 93 (λ p. p) d) (levels 125 pair d) (get_or text i 0) (drop (i + 1) text)
  value-at = split d
    where
      with : (a : List ℕ → Out (List Json)) (o : List ℕ → Out (List Pair)) → value_with a o (drop i text) ≡ value_by (opening_of (get_or text i 0)) a o (get_or text i 0) (drop (i + 1) text)
      with a o = unfold value_with in cases (ltb i (length text))
          (λ h. rw (here text i (ltb-true i (length text) h)))
          (λ h. unfold value_by opening_of is_digit between in rw (ended text i (ltb-false i (length text) h), past_end text i (ltb-false i (length text) h)))

      split : (d : ℕ) → value_within d (drop i text) ≡ value_by (opening_of (get_or text i 0)) (levels 93 (λ p. p) d) (levels 125 pair d) (get_or text i 0) (drop (i + 1) text)
      split zero = unfold value_within levels in with (λ _. deep) (λ _. deep)
      split (suc d) = unfold value_within levels in with (bracketed 93 (value_within d)) (bracketed 125 (pair (value_within d)))
