-- The scan along a tape, turn by turn: within a string, along an object's keys, and from value to value.
use Prim.Native.Nat.{ℕ, suc, ◌+◌, ◌-◌, ◌≤◌, ◌<◌}
use mathlib.Core.Path.{◌≡◌, refl, sym, ap, ◌∙◌}
use mathlib.Core.Bool.{Bool, true, false, not}
use mathlib.Core.List.{List, [], ◌∷◌}
use native.Mathlib.Omega.{arith}
use borrow.Author.Tests.{ne_eqb, not-true, lt-leb}
use lib.Dec.{eqb, leb}
use lib.ListN.{length, take, drop, get_or, drop_of_length-le}
use lib.Seq.{drop-drop}
use Rattle.octets.specs.Basics.{pick, ◌and◌, ◌or◌, all, same}
use Rattle.octets.specs.Search.{until}
use Rattle.octets.proofs.Cases.{cases, both, and-true-right, and-false-right, or_true_right}
use Rattle.json_text.specs.Tree.{member}
use Rattle.json_text.specs.Tape.{tag_number, tag_string, tag_object, tag_end}
use Rattle.tape.specs.Sound.{has_lone, has_key, distinct_keys}
use Rattle.tape.specs.Decode.{top, paired, groups, in_text, view, tag_at, text_at, value_at, items_at, members_at, text_at_front}
use Rattle.tape.specs.Promise.{After, Next, TextAt}
use Rattle.tape.specs.Scan.{sound_here, sound_along, sound_from, sound_tape, PastString, Scans, keys_along, keys_from}
use Rattle.tape.specs.declared.Text.{Text}
use Rattle.std.specs.Prelude.{Some, None}
use Rattle.std.specs.declared.option.Option as code
use Rattle.tape.proofs.Tags.{on-or-past, read-tag, here, text-within, text-on}
use Rattle.tape.proofs.Values.{members-end, members-next}

-- where no octet is the one that a surrogate begins with, no string has a lone one
no-lone : (p : ℕ) (s : List ℕ) → eqb p 237 ≡ false → all (λ c. not (eqb c 237)) s ≡ true → has_lone p (text_at_front s) ≡ false
unfolding has_lone text_at_front until all
no-lone p [] q h = refl
no-lone p (x ∷ s) q h =
    let b = both (not (eqb x 237)) (all (λ c. not (eqb c 237)) s) h in
    let r = no-lone x s (not-true (eqb x 237) b.0) b.1 in
    cases (eqb x tag_end) (λ e. rw e) (λ e. rw (e, q) r)

-- an object's keys, from the one at i on
module _ (t : List ℕ) (i : ℕ) (z : tag_at t i ≡ tag_end) where
  pub key-end : (k : List ℕ) → has_key k (members_at t i) ≡ false
  unfolding has_key
  key-end k = rw (members-end t i z)

  pub distinct-end : distinct_keys (members_at t i) ≡ true
  unfolding distinct_keys
  distinct-end = rw (members-end t i z)

abbrev pub part : List ℕ → Text → List ℕ
part t r = take (r.to - r.from) (drop r.from t)

-- a member stands at i, with the key r, and the next one at e
pub record Keyed (t : List ℕ) (i : ℕ) (r : Text) (e : ℕ) : Type 0 where
  pub some : (tag_at t i ≡ tag_end) → ⊥
  pub key : TextAt t i r
  pub next : Next t r.next e

module _ {t : List ℕ} {i e : ℕ} {r : Text} (m : Keyed t i r e) where
  pub members-on : members_at t i ≡ member (part t r) (value_at t r.next) (members_at t e)
  members-on = rw m.key.part (members-next m.some m.key.behind m.next)

  pub key_here : (k : List ℕ) → same k (part t r) ≡ true → has_key k (members_at t i) ≡ true
  unfolding has_key
  key_here k q = rw (members-on, q)

  pub key-next : (k : List ℕ) → same k (part t r) ≡ false → has_key k (members_at t i) ≡ has_key k (members_at t e)
  unfolding has_key
  key-next k q = rw (members-on, q)

  -- the keys behind it are all different, or they are not
  pub key-new : distinct_keys (members_at t e) ≡ true → distinct_keys (members_at t i) ≡ not (has_key (part t r) (members_at t e))
  unfolding distinct_keys
  key-new q = rw (members-on, q) (and-true-right (not (has_key (part t r) (members_at t e))))

  pub keys-twice : distinct_keys (members_at t e) ≡ false → distinct_keys (members_at t i) ≡ false
  unfolding distinct_keys
  keys-twice q = rw (members-on, q) (and-false-right (not (has_key (part t r) (members_at t e))))

  pub member-on : i < e
  member-on = omega (arith, m.key.behind.more m.some, m.next.low m.key.behind.high)

-- the scan from a place on
pub scan-start : (t : List ℕ) → sound_from t 0 ≡ sound_tape t
unfolding sound_from sound_tape
scan-start t = refl

-- behind a text
text-scan : (s : List ℕ) → sound_along true s ≡ sound_along false (drop (suc (length (text_at_front s))) s)
unfolding text_at_front until sound_along in_text
text-scan [] = refl
text-scan (b ∷ s) = let h : sound_along true s ≡ sound_along false (drop (suc (length (text_at_front s))) s) = text-scan s in cases (eqb b tag_end) (λ e. rw e) (λ e. rw e h)

module _ (t : List ℕ) (i : ℕ) where
  pub scan-past : length t ≤ i → sound_from t i ≡ true
  unfolding sound_from sound_along
  scan-past h = rw (drop_of_length-le t {i = i} h)

  scan-text : sound_along true (drop i t) ≡ sound_from t (i + length (text_at t i) + 1)
  unfolding sound_from text_at
  scan-text =
      let n : i + suc (length (text_at_front (drop i t))) ≡ i + length (text_at_front (drop i t)) + 1 = omega arith in
      text-scan (drop i t) ∙ rw (drop-drop, n)

pub scan-after : {t : List ℕ} {i e : ℕ} → i ≤ length t → After t i e → sound_from t e ≡ sound_from t (i + 1)
scan-after {t} {i} {e} l a = on-or-past t i (λ h. ap (sound_from t) (a.more h)) (λ h. scan-past t e (omega (arith, a.low l)) ∙ sym (scan-past t (i + 1) (omega arith)))

module _ (t : List ℕ) (i : ℕ) (h : i < length t) where
  on-scan : sound_from t i ≡ (sound_here false (tag_at t i) (drop (i + 1) t) and sound_along (in_text false (tag_at t i)) (drop (i + 1) t))
  unfolding sound_from sound_along
  on-scan = rw (here t i h)

  -- behind the text of a number, of a string
  behind-text : {e : ℕ} → After t (i + 1 + length (text_at t (i + 1))) e → sound_along true (drop (i + 1) t) ≡ sound_from t e
  behind-text a = scan-text t (i + 1) ∙ sym (scan-after (text-within t (i + 1) (omega arith)) a)

  text-on-from : {e : ℕ} → After t (i + 1 + length (text_at t (i + 1))) e → i < e
  text-on-from a = omega (arith, a.low (text-within t (i + 1) (omega arith)))

  pub scan-number : get_or t i 0 ≡ tag_number → {e : ℕ} → After t (i + 1 + length (text_at t (i + 1))) e → Scans t i (Some e)
  unfolding in_text
  scan-number q a = (on-scan ∙ rw (← (read-tag t i h), q, behind-text a), text-on-from a, a.high)

  pub scan-string : get_or t i 0 ≡ tag_string → (r : code.Option ℕ) → PastString t (i + 1) r → Scans t i r
  unfolding in_text text_at
  scan-string q (Some e) p = (on-scan ∙ rw (← (read-tag t i h), q, behind-text p.1, p.0), text-on-from p.1, p.1.high)
  scan-string q None p = on-scan ∙ rw (← (read-tag t i h), q, p)

  object-scan : get_or t i 0 ≡ tag_object → sound_from t i ≡ (distinct_keys (members_at t (i + 1)) and sound_from t (i + 1))
  unfolding in_text sound_from members_at items_at view
  object-scan q = on-scan ∙ rw (← (read-tag t i h), q)

  pub scan-object : get_or t i 0 ≡ tag_object → distinct_keys (members_at t (i + 1)) ≡ true → Scans t i (Some (i + 1))
  scan-object q f = (object-scan q ∙ rw f, omega arith, omega arith)

  pub scan-twice : get_or t i 0 ≡ tag_object → distinct_keys (members_at t (i + 1)) ≡ false → Scans t i None
  scan-twice q f = object-scan q ∙ rw f

  pub scan-other : ((get_or t i 0 ≡ tag_string) → ⊥) → ((get_or t i 0 ≡ tag_number) → ⊥) → ((get_or t i 0 ≡ tag_object) → ⊥) → Scans t i (Some (i + 1))
  unfolding in_text sound_from
  scan-other s n o = (on-scan ∙ rw (← (read-tag t i h), ne_eqb _ tag_string s, ne_eqb _ tag_number n, ne_eqb _ tag_object o), omega arith, omega arith)

-- the keys from a place on
pub keys-start : (t : List ℕ) → keys_from t 0 ≡ keys_along t
unfolding keys_from
keys-start t = refl

pub keys-past : (t : List ℕ) (i : ℕ) → length t ≤ i → keys_from t i ≡ true
unfolding keys_from keys_along
keys-past t i h = rw (drop_of_length-le t {i = i} h)

module _ (t : List ℕ) (i : ℕ) (h : i < length t) where
  keys-here : keys_from t i ≡ ((not (eqb (tag_at t i) tag_object) or distinct_keys (members_at t (i + 1))) and keys_from t (i + 1))
  unfolding keys_from keys_along members_at items_at view
  keys-here = rw (here t i h)

  pub keys-object : distinct_keys (members_at t (i + 1)) ≡ true → keys_from t (i + 1) ≡ keys_from t i
  keys-object q = sym (keys-here ∙ rw (q, or_true_right (not (eqb (tag_at t i) tag_object))))

-- octets among which there is no object's tag are passed together
keys-until : (s : List ℕ) → keys_along (drop (length (until (λ c. eqb c tag_object) s)) s) ≡ keys_along s
unfolding keys_along until
keys-until [] = refl
keys-until (c ∷ s) = let h = keys-until s in cases (eqb c tag_object)
    (λ e. ap (λ (b : Bool). keys_along (drop (length (pick b [] (c ∷ until (λ x. eqb x tag_object) s))) (c ∷ s))) e)
    (λ e. rw e h)

pub keys_found : (t : List ℕ) (i e : ℕ) → e ≡ i + length (until (λ c. eqb c tag_object) (drop i t)) → (i ≤ e) × (keys_from t e ≡ keys_from t i)
unfolding keys_from
keys_found t i e q = (omega arith, rw (q, ← drop-drop) (keys-until (drop i t)))

-- where no octet begins a surrogate, the keys tell whether the tape is sound
keys-along : (m : Bool) (s : List ℕ) → all (λ c. not (eqb c 237)) s ≡ true → keys_along s ≡ true → sound_along m s ≡ true
unfolding sound_along keys_along all
keys-along m [] h k = refl
keys-along true (x ∷ s) h k =
    let a = both (not (eqb x 237)) (all (λ c. not (eqb c 237)) s) h in
    let b = both (not (eqb x tag_object) or distinct_keys (paired (top (groups false s)))) (keys_along s) k in
    keys-along (in_text true x) s a.1 b.1
keys-along false (x ∷ s) h k =
    let a = both (not (eqb x 237)) (all (λ c. not (eqb c 237)) s) h in
    let b = both (not (eqb x tag_object) or distinct_keys (paired (top (groups false s)))) (keys_along s) k in
    let r = keys-along (in_text false x) s a.1 b.1 in
    cases (eqb x tag_string) (λ e. rw (e, no-lone 0 s refl a.1) r) (λ e. cases (eqb x tag_object) (λ f. rw (e, f, rw f at b.0) r) (λ f. rw (e, f) r))

pub keys-sound : (t : List ℕ) → all (λ c. not (eqb c 237)) t ≡ true → keys_along t ≡ true → true ≡ sound_tape t
unfolding sound_tape
keys-sound t h k = sym (keys-along false t h k)

-- up to e no lone surrogate stands in the string at i; p is the octet before e
pub record Seeking (t : List ℕ) (i e p : ℕ) : Type 0 where
  pub lone : has_lone p (text_at t e) ≡ has_lone 0 (text_at t i)
  pub ends : e + length (text_at t e) ≡ i + length (text_at t i)

pub seek-start : {t : List ℕ} {i : ℕ} → Seeking t i i 0
seek-start = record { lone = refl; ends = refl }

module _ {t : List ℕ} {i e p : ℕ} (s : Seeking t i e p) where
  module _ (h : e < length t) where
    module _ (n : (get_or t e 0 ≡ tag_end) → ⊥) where
      one_more : text_at t e ≡ get_or t e 0 ∷ text_at t (e + 1)
      one_more = rw (read-tag t e h) (text-on t e h (λ z. n (read-tag t e h ∙ z)))

      seek-on : (eqb p 237 and leb 160 (get_or t e 0)) ≡ false → Seeking t i (e + 1) (get_or t e 0)
      unfolding has_lone
      seek-on f = record { lone = rw (one_more, f) at s.lone; ends = omega (arith, rw one_more at s.ends) }

      -- an octet below 160, or one that does not follow 237
      pub seek-low : get_or t e 0 < 160 → Seeking t i (e + 1) (get_or t e 0)
      seek-low l = seek-on (rw (lt-leb 160 (get_or t e 0) l) (and-false-right (eqb p 237)))

      pub seek-other : ((p ≡ 237) → ⊥) → Seeking t i (e + 1) (get_or t e 0)
      seek-other q = seek-on (rw (ne_eqb p 237 q))
