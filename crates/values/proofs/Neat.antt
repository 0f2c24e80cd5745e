-- Values that jCal may hold: strings and keys in UTF-8 without control characters but tab and newline, JSON numbers, distinct keys, and at most d
-- arrays and objects open at once. They are sound, are printed as UTF-8, and what is printed is read back.
use Prim.Native.Nat.{ℕ, zero, suc, ◌≤◌}
use Prim.Native.Char.{code}
use mathlib.Core.Path.{◌≡◌, refl, ◌∙◌}
use mathlib.Core.Bool.{true, false}
use mathlib.Core.List.{List, [], ◌∷◌, ◌++◌}
use native.Mathlib.Omega.{arith}
use borrow.Author.Tests.{eqb-true, leb-true}
use lib.Dec.{eqb, leb}
use Rattle.octets.specs.Basics.{octets, ◌and◌, all, All}
use Rattle.octets.specs.Classes.{between, plain_octet, text_octet}
use Rattle.octets.specs.Utf8.{Due, start, one, two, three, after_e0, after_ed, after_f0, after_f4, broken, lead, due, due_after, is_start, utf8, clean}
use Rattle.octets.proofs.Cases.{cases, never, both, and-true, or-false, apart-not, all_weaker}
use Rattle.octets.proofs.Classes.{above-between, plain-text}
use Rattle.octets.proofs.Utf8.{ascii, broken-stays, utf8-both, utf8-ascii, low-utf8}
use Rattle.octets.proofs.Transducer.{Runs, Keeps, run-utf8}
use Rattle.json_text.specs.Tree.{Json, null, falsity, truth, num, str, arr, obj, Items, no_items, item, Members, no_members, member, items_of}
use Rattle.json_text.specs.Reads.{ok}
use Rattle.json_text.specs.Numbers.{number_read}
use Rattle.json_text.specs.Print.{escaped, quoted, print_string, print_key, print, first_item, more_items, first_member, more_members}
use Rattle.json_text.proofs.Printing.{Printable, p-null, p-false, p-true, p-num, p-str, p-arr, p-obj, PrintableItems, p-none, p-item, PrintableMembers, p-empty, p-member, fit_octet, text-fit, depth, depth_items, depth_members}
use Rattle.tape.specs.Sound.{has_lone, distinct_keys, sound, sound_items, sound_members}

-- UTF-8 without control characters but tab and newline
pub record Textual (t : List ℕ) : Type 0 where
  pub encoded : utf8 t ≡ true
  pub texts : all text_octet t ≡ true

mutual
  pub data Neat : ℕ → Json → Type 0 where
    n_null : {d : ℕ} → Neat d null
    n-false : {d : ℕ} → Neat d falsity
    n-true : {d : ℕ} → Neat d truth
    n-num : {d : ℕ} {t : List ℕ} → number_read t ≡ ok t [] → utf8 t ≡ true → Neat d (num t)
    n-str : {d : ℕ} {t : List ℕ} → Textual t → Neat d (str t)
    n-arr : {d : ℕ} {js : Items} → NeatItems d js → Neat (suc d) (arr js)
    n-obj : {d : ℕ} {ms : Members} → distinct_keys ms ≡ true → NeatMembers d ms → Neat (suc d) (obj ms)

  pub data NeatItems : ℕ → Items → Type 0 where
    n-none : {d : ℕ} → NeatItems d no_items
    n-item : {d : ℕ} {j : Json} {js : Items} → Neat d j → NeatItems d js → NeatItems d (item j js)

  pub data NeatMembers : ℕ → Members → Type 0 where
    n-empty : {d : ℕ} → NeatMembers d no_members
    n-member : {d : ℕ} {k : List ℕ} {j : Json} {ms : Members} → Textual k → Neat d j → NeatMembers d ms → NeatMembers d (member k j ms)

-- a clean text is such a text
pub clean-textual : (t : List ℕ) → clean t ≡ true → Textual t
unfolding clean
clean-textual t h = let b = both (utf8 t) (all plain_octet t) h in
    record { encoded = b.0; texts = all_weaker plain_octet text_octet plain-text t b.1 }

-- items of a list
pub neat-items : (d : ℕ) (js : List Json) → All (Neat d) js → NeatItems d (items_of js)
unfolding items_of
neat-items d [] h = n-none
neat-items d (j ∷ js) h = n-item h.0 (neat-items d js h.1)

-- more may be open
mutual
  pub neat-more : (d e : ℕ) {j : Json} → d ≤ e → Neat d j → Neat e j
  neat-more d e l n_null = n_null
  neat-more d e l n-false = n-false
  neat-more d e l n-true = n-true
  neat-more d e l (n-num h k) = n-num h k
  neat-more d e l (n-str h) = n-str h
  neat-more (suc d) zero l (n-arr h) = absurd (omega arith)
  neat-more (suc d) (suc e) l (n-arr h) = n-arr (items_more d e (omega arith) h)
  neat-more (suc d) zero l (n-obj k h) = absurd (omega arith)
  neat-more (suc d) (suc e) l (n-obj k h) = n-obj k (members-more d e (omega arith) h)

  items_more : (d e : ℕ) {js : Items} → d ≤ e → NeatItems d js → NeatItems e js
  items_more d e l n-none = n-none
  items_more d e l (n-item h k) = n-item (neat-more d e l h) (items_more d e l k)

  members-more : (d e : ℕ) {ms : Members} → d ≤ e → NeatMembers d ms → NeatMembers e ms
  members-more d e l n-empty = n-empty
  members-more d e l (n-member t h k) = n-member t (neat-more d e l h) (members-more d e l k)

-- what is printed is read back
fit : {t : List ℕ} → Textual t → all fit_octet t ≡ true
fit {t} h = all_weaker text_octet fit_octet text-fit t h.texts

mutual
  pub neat-printable : {d : ℕ} {j : Json} → Neat d j → Printable j
  neat-printable n_null = p-null
  neat-printable n-false = p-false
  neat-printable n-true = p-true
  neat-printable (n-num h k) = p-num h
  neat-printable (n-str h) = p-str (fit h)
  neat-printable (n-arr h) = p-arr (items-printable h)
  neat-printable (n-obj k h) = p-obj (members-printable h)

  items-printable : {d : ℕ} {js : Items} → NeatItems d js → PrintableItems js
  items-printable n-none = p-none
  items-printable (n-item h k) = p-item (neat-printable h) (items-printable k)

  members-printable : {d : ℕ} {ms : Members} → NeatMembers d ms → PrintableMembers ms
  members-printable n-empty = p-empty
  members-printable (n-member t h k) = p-member (fit t) (neat-printable h) (members-printable k)

mutual
  unfolding depth

  pub neat-depth : {d : ℕ} {j : Json} → Neat d j → depth j ≤ d
  neat-depth n_null = omega arith
  neat-depth n-false = omega arith
  neat-depth n-true = omega arith
  neat-depth (n-num h k) = omega arith
  neat-depth (n-str h) = omega arith
  neat-depth (n-arr {d} {js} h) = omega (arith, items-depth h)
  neat-depth (n-obj {d} {ms} k h) = omega (arith, members-depth h)

  items-depth : {d : ℕ} {js : Items} → NeatItems d js → depth_items js ≤ d
  items-depth n-none = omega arith
  items-depth (n-item h k) = omega (arith, neat-depth h, items-depth k)

  members-depth : {d : ℕ} {ms : Members} → NeatMembers d ms → depth_members ms ≤ d
  members-depth n-empty = omega arith
  members-depth (n-member t h k) = omega (arith, neat-depth h, members-depth k)

-- UTF-8 has no lone surrogate: behind ED an octet is below A0
ed-next : (d : Due) (s : List ℕ) → is_start (due_after (due d 237) s) ≡ true → due d 237 ≡ after_ed
unfolding due lead between
ed-next start s h = refl
ed-next one s h = never h (rw (broken-stays s) (unfold is_start in refl))
ed-next two s h = never h (rw (broken-stays s) (unfold is_start in refl))
ed-next three s h = never h (rw (broken-stays s) (unfold is_start in refl))
ed-next after_e0 s h = never h (rw (broken-stays s) (unfold is_start in refl))
ed-next after_ed s h = never h (rw (broken-stays s) (unfold is_start in refl))
ed-next after_f0 s h = never h (rw (broken-stays s) (unfold is_start in refl))
ed-next after_f4 s h = never h (rw (broken-stays s) (unfold is_start in refl))
ed-next broken s h = never h (rw (broken-stays s) (unfold is_start in refl))

ed-high : (x : ℕ) (s : List ℕ) → leb 160 x ≡ true → is_start (due_after (due after_ed x) s) ≡ false
unfolding due
ed-high x s h = rw (above-between 128 159 x (omega (arith, leb-true 160 x h)), broken-stays s) (unfold is_start in refl)

no-lone : (d : Due) (p : ℕ) (s : List ℕ) → (eqb p 237 ≡ true → d ≡ after_ed) → is_start (due_after d s) ≡ true → has_lone p s ≡ false
unfolding has_lone due_after
no-lone d p [] f h = refl
no-lone d p (x ∷ s) f h = or-false here (no-lone (due d x) x s next h)
  where
    here : (eqb p 237 and leb 160 x) ≡ false
    here = cases (eqb p 237) (λ e. cases (leb 160 x) (λ k. never h (rw (f e) (ed-high x s k))) (λ k. rw (e, k))) (λ e. rw e)

    next : eqb x 237 ≡ true → due d x ≡ after_ed
    next e = let q = eqb-true x 237 e in rw q (ed-next d s (rw q at h))

pub whole-text : (t : List ℕ) → utf8 t ≡ true → has_lone 0 t ≡ false
unfolding utf8
whole-text t h = no-lone start 0 t (λ e. never e refl) h

mutual
  unfolding sound

  pub neat-sound : {d : ℕ} {j : Json} → Neat d j → sound j ≡ true
  neat-sound n_null = refl
  neat-sound n-false = refl
  neat-sound n-true = refl
  neat-sound (n-num h k) = refl
  neat-sound (n-str {d} {t} h) = rw (whole-text t h.encoded)
  neat-sound (n-arr h) = items-sound h
  neat-sound (n-obj k h) = and-true k (members-sound h)

  items-sound : {d : ℕ} {js : Items} → NeatItems d js → sound_items js ≡ true
  items-sound n-none = refl
  items-sound (n-item h k) = and-true (neat-sound h) (items-sound k)

  members-sound : {d : ℕ} {ms : Members} → NeatMembers d ms → sound_members ms ≡ true
  members-sound n-empty = refl
  members-sound (n-member {d} {k} t h m) = rw (whole-text k t.encoded) (and-true (neat-sound h) (members-sound m))

-- printed as UTF-8; the quoting as a transducer without state
quotes : Runs (Unit {0}) (λ q c. q) (λ q c. escaped c) (λ q. octets "\"") (λ q s. quoted s)
unfolding quoted
quotes = record { ends = λ q. refl; steps = λ q c s. refl }

pub quoted-utf8 : (s : List ℕ) → utf8 s ≡ true → utf8 (quoted s) ≡ true
quoted-utf8 s h = run-utf8 (Unit {0}) (λ q c. q) (λ q c. escaped c) (λ q. octets "\"") (λ q s. quoted s) quotes (λ q. []) keeps s tt h
  where
    high : (c : ℕ) → ascii c ≡ false → escaped c ≡ c ∷ []
    high c h = unfold escaped in rw (
      apart-not ascii c (code "\"") h (unfold ascii in refl),
      apart-not ascii c (code "\\") h (unfold ascii in refl),
      apart-not ascii c (code "\n") h (unfold ascii in refl),
      apart-not ascii c (code "\t") h (unfold ascii in refl),
    )

    low : (c : ℕ) → ascii c ≡ true → all ascii (escaped c) ≡ true
    low c h = unfold escaped all ascii in
        cases (eqb c (code "\"")) (λ e. rw e) λ n₁.
        cases (eqb c (code "\\")) (λ e. rw (n₁, e)) λ n₂.
        cases (eqb c (code "\n")) (λ e. rw (n₁, n₂, e)) λ n₃.
        cases (eqb c (code "\t")) (λ e. rw (n₁, n₂, n₃, e)) λ n₄. rw (n₁, n₂, n₃, n₄, h)

    keeps : Keeps (Unit {0}) (λ q c. q) (λ q c. escaped c) (λ q. octets "\"") (λ q. [])
    keeps = record {
      high = λ q c h. high c h;
      calm = λ q c h. refl;
      lows = λ q c h. low c h;
      pres = λ q. unfold all in refl;
      lasts = λ q. unfold all ascii in refl;
    }

string-utf8 : {t : List ℕ} → Textual t → utf8 (print_string t) ≡ true
unfolding print_string
string-utf8 {t} h = utf8-ascii (code "\"") (quoted t) (unfold ascii in refl) ∙ quoted-utf8 t h.encoded

key-utf8 : {k : List ℕ} → Textual k → utf8 (print_key k) ≡ true
unfolding print_key
key-utf8 {k} h = utf8-both (print_string k) (octets ":") (string-utf8 h) (low-utf8 (octets ":") (unfold all between in refl))

behind : (c : ℕ) (s : List ℕ) → ascii c ≡ true → utf8 s ≡ true → utf8 (c ∷ s) ≡ true
behind c s e h = utf8-ascii c s e ∙ h

mutual
  unfolding print ascii all between

  pub neat-utf8 : {d : ℕ} {j : Json} → Neat d j → utf8 (print j) ≡ true
  neat-utf8 n_null = low-utf8 (octets "null") refl
  neat-utf8 n-false = low-utf8 (octets "false") refl
  neat-utf8 n-true = low-utf8 (octets "true") refl
  neat-utf8 (n-num h k) = k
  neat-utf8 (n-str h) = string-utf8 h
  neat-utf8 (n-arr {d} {js} h) = behind (code "[") (first_item js) refl (first-items h)
  neat-utf8 (n-obj {d} {ms} k h) = behind (code "{") (first_member ms) refl (first-members h)

  first-items : {d : ℕ} {js : Items} → NeatItems d js → utf8 (first_item js) ≡ true
  first-items n-none = low-utf8 (octets "]") refl
  first-items (n-item {d} {j} {js} h k) = utf8-both (print j) (more_items js) (neat-utf8 h) (more-items k)

  more-items : {d : ℕ} {js : Items} → NeatItems d js → utf8 (more_items js) ≡ true
  more-items n-none = low-utf8 (octets "]") refl
  more-items (n-item {d} {j} {js} h k) = behind (code ",") (print j ++ more_items js) refl (utf8-both (print j) (more_items js) (neat-utf8 h) (more-items k))

  first-members : {d : ℕ} {ms : Members} → NeatMembers d ms → utf8 (first_member ms) ≡ true
  first-members n-empty = low-utf8 (octets "}") refl
  first-members (n-member {d} {k} {j} {ms} t h m) =
      utf8-both (print_key k) (print j ++ more_members ms) (key-utf8 t) (utf8-both (print j) (more_members ms) (neat-utf8 h) (more-members m))

  more-members : {d : ℕ} {ms : Members} → NeatMembers d ms → utf8 (more_members ms) ≡ true
  more-members n-empty = low-utf8 (octets "}") refl
  more-members (n-member {d} {k} {j} {ms} t h m) =
      behind (code ",") (print_key k ++ (print j ++ more_members ms)) refl
      (utf8-both (print_key k) (print j ++ more_members ms) (key-utf8 t) (utf8-both (print j) (more_members ms) (neat-utf8 h) (more-members m)))
