-- The laws of text values and of REQUEST-STATUS: texts that are read are in UTF-8 without control characters but tab and newline, are written as clean
-- texts without a bare separator, and are read again.
use Prim.Native.Nat.{ℕ}
use Prim.Native.Char.{code}
use mathlib.Core.Path.{◌≡◌, refl, sym, ap, ◌∙◌}
use mathlib.Core.Bool.{Bool, true, false, not}
use mathlib.Core.List.{List, [], ◌∷◌, ◌++◌, map, append_assoc, append-nil}
use mathlib.Core.Option.{Option, some}
use native.Mathlib.Omega.{arith}
use borrow.Author.Tests.{lt-leb, ne_eqb, eqb-true}
use lib.Dec.{eqb}
use Rattle.octets.specs.Basics.{octets, ◌and◌, ◌or◌, all, All}
use Rattle.octets.specs.Pieces.{onto, cut, joined}
use Rattle.octets.specs.Optional.{map?, both?, when, guard, holds, given}
use Rattle.octets.specs.Classes.{is_control, plain_octet, text_octet}
use Rattle.octets.specs.Utf8.{utf8, clean}
use Rattle.octets.proofs.Cases.{cases, same?, never, both, and-true, apart-not, all_append, all-All, All-all, All-weaker}
use Rattle.octets.proofs.Optional.{some_same, when-is, map_is, both_is, guard-is}
use Rattle.octets.proofs.Utf8.{ascii, ascii-high}
use Rattle.octets.proofs.Transducer.{Runs, Keeps, run-all, run-utf8}
use Rattle.octets.proofs.Classes.{text-plain}
use Rattle.json_text.specs.Tree.{Json, str, arr, string?, number?, array?, items_of, list_of_items, octets_of, elements}
use Rattle.values.specs.Sorts.{text, status}
use Rattle.values.specs.Texts.{escapes_next, bare_from, bare_split, unescaped_octet, unescaped_from, unescaped, fields, text_is, escaped_octet, text_text}
use Rattle.values.specs.Read.{two_or_three, read_status, read_text}
use Rattle.values.specs.Write.{is_string, is_two_or_three, is_array, value_is, elements_text, value_text}
use Rattle.values.proofs.Neat.{Textual, Neat, n-str, n-arr, neat-items}
use Rattle.content.proofs.WrittenClean.{clean-joined}
use Rattle.values.proofs.TextWalk.{Separators, commas, semicolons, nothing-more, bare-filled}
use Rattle.values.proofs.ListLaws.{Item, ItemLaw, Cuts, each-written, each-All, All-map}

abbrev Text : List ℕ → Type 0
Text t = all text_octet t ≡ true

-- What is written is one piece between bare separators.
abbrev prefixed : List ℕ → List (List ℕ) → List (List ℕ)
prefixed [] ls = ls
prefixed (x ∷ xs) ls = onto x (prefixed xs ls)

prefixed-append : (xs ys : List ℕ) (ls : List (List ℕ)) → prefixed (xs ++ ys) ls ≡ prefixed xs (prefixed ys ls)
prefixed-append [] ys ls = refl
prefixed-append (x ∷ xs) ys ls = ap (onto x) (prefixed-append xs ys ls)

prefixed-piece : (xs l : List ℕ) (ls : List (List ℕ)) → prefixed xs (l ∷ ls) ≡ (xs ++ l) ∷ ls
prefixed-piece [] l ls = refl
prefixed-piece (x ∷ xs) l ls = ap (onto x) (prefixed-piece xs l ls) ∙ (unfold onto in refl)

octet-bare : {sep other : ℕ} → Separators sep other → (c : ℕ) (rest : List ℕ) → bare_from sep false (escaped_octet c ++ rest) ≡ prefixed (escaped_octet c) (bare_from sep false rest)
unfolding bare_from escapes_next cut escaped_octet
octet-bare commas c rest =
    same? c (code "\\") (λ e. rw e) λ n₁.
    same? c (code ";") (λ e. rw e) λ n₂.
    same? c (code ",") (λ e. rw e) λ n₃.
    cases (eqb c (code "\n")) (λ e. rw (n₁, n₂, n₃, e)) (λ n₄. rw (n₁, n₂, n₃, n₄, n₃, n₁))
octet-bare semicolons c rest =
    same? c (code "\\") (λ e. rw e) λ n₁.
    same? c (code ";") (λ e. rw e) λ n₂.
    same? c (code ",") (λ e. rw e) λ n₃.
    cases (eqb c (code "\n")) (λ e. rw (n₁, n₂, n₃, e)) (λ n₄. rw (n₁, n₂, n₃, n₄, n₂, n₁))

next-bare : {sep other : ℕ} → Separators sep other → (rest : List ℕ) → bare_from sep false (sep ∷ rest) ≡ [] ∷ bare_from sep false rest
unfolding bare_from escapes_next cut
next-bare commas rest = refl
next-bare semicolons rest = refl

module _ (sep other : ℕ) (seps : Separators sep other) where
  text-bare : (t rest : List ℕ) → bare_from sep false (text_text t ++ rest) ≡ prefixed (text_text t) (bare_from sep false rest)
  unfolding text_text
  text-bare [] rest = refl
  text-bare (c ∷ t) rest =
      ap (bare_from sep false) (append_assoc (escaped_octet c) (text_text t) rest) ∙ octet-bare seps c (text_text t ++ rest)
      ∙ ap (prefixed (escaped_octet c)) (text-bare t rest) ∙ sym (prefixed-append (escaped_octet c) (text_text t) (bare_from sep false rest))

  bare-again : (t : List ℕ) (ts : List (List ℕ)) → bare_split sep (joined sep (map text_text (t ∷ ts))) ≡ map text_text (t ∷ ts)
  unfolding bare_split joined bare_from
  bare-again t [] = rw (append-nil (text_text t)) at (text-bare t [] ∙ prefixed-piece (text_text t) [] [])
  bare-again t (u ∷ ts) =
      text-bare t (sep ∷ joined sep (map text_text (u ∷ ts))) ∙ ap (prefixed (text_text t)) (next-bare seps (joined sep (map text_text (u ∷ ts))))
      ∙ prefixed-piece (text_text t) [] (bare_from sep false (joined sep (map text_text (u ∷ ts)))) ∙ rw (append-nil (text_text t))
      (ap (λ (ls : List (List ℕ)). text_text t ∷ ls) (bare-again u ts))

  -- the pieces are the whole
  piece-whole : (b : Bool) (c : ℕ) (ls : List (List ℕ)) → (b ≡ true → c ≡ sep) → (ls ≡ [] → ⊥) → joined sep (cut b c ls) ≡ c ∷ joined sep ls
  unfolding cut onto joined
  piece-whole b c [] e n = absurd (n refl)
  piece-whole true c (l ∷ ls) e n = rw (e refl)
  piece-whole false c (l ∷ []) e n = refl
  piece-whole false c (l ∷ m ∷ ls) e n = refl

  pieces_whole : (e : Bool) (s : List ℕ) → joined sep (bare_from sep e s) ≡ s
  unfolding bare_from
  pieces_whole e [] = unfold joined in refl
  pieces_whole e (c ∷ s) =
      piece-whole (not e and eqb c sep) c (bare_from sep (escapes_next e c) s) (λ h. eqb-true c sep (both (not e) (eqb c sep) h).1) (bare-filled sep (escapes_next e c) s)
      ∙ ap (λ (l : List ℕ). c ∷ l) (pieces_whole (escapes_next e c) s)

  bare-whole : (s : List ℕ) → joined sep (bare_split sep s) ≡ s
  unfolding bare_split
  bare-whole s = pieces_whole false s

-- It is read again.
octet-again : (c : ℕ) → text_octet c ≡ true → (rest : List ℕ) → unescaped_from false (escaped_octet c ++ rest) ≡ both? ◌++◌ (some (c ∷ [])) (unescaped_from false rest)
unfolding unescaped_from unescaped_octet escapes_next escaped_octet when
octet-again c h rest =
    same? c (code "\\") (λ e. rw e (nothing-more _)) λ n₁.
    same? c (code ";") (λ e. rw e (nothing-more _)) λ n₂.
    same? c (code ",") (λ e. rw e (nothing-more _)) λ n₃.
    same? c (code "\n") (λ e. rw e (nothing-more _)) λ n₄.
    rw (n₁, n₂, n₃, n₄, n₁, n₃, n₂, text-plain c h n₄)

text-again : (t : List ℕ) → Text t → unescaped (text_text t) ≡ some t
unfolding unescaped text_text all
text-again [] h = unfold unescaped_from when in refl
text-again (c ∷ t) h =
    let b = both_of c t h in
    octet-again c b.0 (text_text t) ∙ rw (text-again t b.1) (unfold both? in refl)
  where
    both_of : (c : ℕ) (t : List ℕ) → (text_octet c and all text_octet t) ≡ true → (text_octet c ≡ true) × Text t
    both_of c t h = both (text_octet c) (all text_octet t) h

-- What is read is text.
octet-text : (e : Bool) (c : ℕ) (x : List ℕ) → unescaped_octet e c ≡ some x → Text x
unfolding unescaped_octet text_octet plain_octet is_control
octet-text true c x q =
    same? c (code "\\") (λ e. bare (code "\\") refl (rw e at q)) λ n₁.
    same? c (code ";") (λ e. bare (code ";") refl (rw e at q)) λ n₂.
    same? c (code ",") (λ e. bare (code ",") refl (rw e at q)) λ n₃.
    rw (← (when-is (eqb c (code "n") or eqb c (code "N")) (octets "\n") x (rw (n₁, n₂, n₃) at q)).1) (unfold all text_octet plain_octet is_control in refl)
  where
    bare : (c : ℕ) → text_octet c ≡ true → ◌≡◌ {A = Option (List ℕ)} (some (c ∷ [])) (some x) → Text x
    bare c h q = rw (← some_same q) (unfold all in rw h)
octet-text false c x q =
    cases (eqb c (code "\\")) (λ e. rw (← some_same (rw e at q)) (unfold all in refl)) λ n.
    let w = when-is (not (eqb c (code ",") or eqb c (code ";")) and plain_octet c) (c ∷ []) x (rw n at q) in
    rw (← w.1) (plain c (both (not (eqb c (code ",") or eqb c (code ";"))) (plain_octet c) w.0).1)
  where
    plain : (c : ℕ) → plain_octet c ≡ true → Text (c ∷ [])
    plain c h = unfold all text_octet in rw h

read-text : (e : Bool) (s t : List ℕ) → unescaped_from e s ≡ some t → Text t
unfolding unescaped_from
read-text e [] t q = rw (← (when-is (not e) [] t q).1) (unfold all in refl)
read-text e (c ∷ s) t q =
    both_is ◌++◌ (unescaped_octet e c) (unescaped_from (escapes_next e c) s) t q (λ x y p r w.
    rw (← w) (all_append text_octet x y ∙ and-true (octet-text e c x p) (read-text (escapes_next e c) s y r)))

-- It is in UTF-8, as what a transducer makes of the text.
unfoldable made : Bool → ℕ → List ℕ
made e c = given (c ∷ []) (λ x. x) (unescaped_octet e c)

unfoldable run : Bool → List ℕ → List ℕ
run e [] = []
run e (c ∷ s) = made e c ++ run (escapes_next e c) s

read-run : (e : Bool) (s t : List ℕ) → unescaped_from e s ≡ some t → t ≡ run e s
unfolding unescaped_from run made
read-run e [] t q = sym (when-is (not e) [] t q).1
read-run e (c ∷ s) t q =
    both_is ◌++◌ (unescaped_octet e c) (unescaped_from (escapes_next e c) s) t q (λ x y p r w.
    rw (← w, p, read-run (escapes_next e c) s y r) (unfold given in refl))

high : (e : Bool) (c : ℕ) → ascii c ≡ false → made e c ≡ c ∷ []
unfolding made unescaped_octet when given ascii
high false c h = rw (other (code "\\") refl, other (code ",") refl, other (code ";") refl, plain)
  where
    other : (k : ℕ) → ascii k ≡ true → eqb c k ≡ false
    other k l = apart-not ascii c k h l

    plain : plain_octet c ≡ true
    plain = let l = ascii-high c h in unfold plain_octet is_control in rw (lt-leb c 31 (omega arith), ne_eqb c 127 (λ e. omega arith))
high true c h = rw (other (code "\\") refl, other (code ";") refl, other (code ",") refl, other (code "n") refl, other (code "N") refl)
  where
    other : (k : ℕ) → ascii k ≡ true → eqb c k ≡ false
    other k l = apart-not ascii c k h l

low : (e : Bool) (c : ℕ) → ascii c ≡ true → all ascii (made e c) ≡ true
unfolding made unescaped_octet when given all
low false c h =
    cases (eqb c (code "\\")) (λ e. rw e) λ n.
    cases (not (eqb c (code ",") or eqb c (code ";")) and plain_octet c) (λ e. rw (n, e, h)) (λ e. rw (n, e, h))
low true c h =
    cases (eqb c (code "\\") or eqb c (code ";") or eqb c (code ",")) (λ e. rw (e, h)) λ n.
    cases (eqb c (code "n") or eqb c (code "N")) (λ e. rw (n, e) (unfold ascii in refl)) (λ e. rw (n, e, h))

read-utf8 : (s t : List ℕ) → unescaped_from false s ≡ some t → utf8 s ≡ true → utf8 t ≡ true
read-utf8 s t q h =
    ap utf8 (read-run false s t q) ∙ run-utf8 Bool escapes_next made (λ e. []) run (record { ends = λ e. unfold run in refl; steps = λ e c s. unfold run in refl }) (λ e. [])
    (record { high = high; calm = λ e c h. refl; lows = low; pres = λ e. unfold all in refl; lasts = λ e. unfold all in refl }) s false h

-- What is written is clean: escaping as a transducer without state.
escapes-runs : Runs (Unit {0}) (λ q c. q) (λ q c. escaped_octet c) (λ q. []) (λ q s. text_text s)
unfolding text_text
escapes-runs = record { ends = λ q. refl; steps = λ q c s. refl }

escaped-all : (r : ℕ → Bool) (c : ℕ) → all r (octets "\\\\") ≡ true → all r (octets "\\;") ≡ true → all r (octets "\\,") ≡ true → all r (octets "\\n") ≡ true
    → (eqb c (code "\n") ≡ false → r c ≡ true) → all r (escaped_octet c) ≡ true
unfolding escaped_octet
escaped-all r c h₁ h₂ h₃ h₄ f =
    cases (eqb c (code "\\")) (λ e. rw e h₁) λ n₁.
    cases (eqb c (code ";")) (λ e. rw (n₁, e) h₂) λ n₂.
    cases (eqb c (code ",")) (λ e. rw (n₁, n₂, e) h₃) λ n₃.
    cases (eqb c (code "\n")) (λ e. rw (n₁, n₂, n₃, e) h₄) λ n₄. rw (n₁, n₂, n₃, n₄) (unfold all in rw (f n₄))

escaped-utf8 : (t : List ℕ) → utf8 t ≡ true → utf8 (text_text t) ≡ true
escaped-utf8 t h = run-utf8 (Unit {0}) (λ q c. q) (λ q c. escaped_octet c) (λ q. []) (λ q s. text_text s) escapes-runs (λ q. []) holds t tt h
  where
    bare : (c : ℕ) → ascii c ≡ false → escaped_octet c ≡ c ∷ []
    bare c h = unfold escaped_octet in rw (
      apart-not ascii c (code "\\") h (unfold ascii in refl),
      apart-not ascii c (code ";") h (unfold ascii in refl),
      apart-not ascii c (code ",") h (unfold ascii in refl),
      apart-not ascii c (code "\n") h (unfold ascii in refl),
    )

    holds : Keeps (Unit {0}) (λ q c. q) (λ q c. escaped_octet c) (λ q. []) (λ q. [])
    holds = record {
      high = λ q c h. bare c h;
      calm = λ q c h. refl;
      lows = λ q c h. escaped-all ascii c (unfold all ascii in refl) (unfold all ascii in refl) (unfold all ascii in refl) (unfold all ascii in refl) (λ n. h);
      pres = λ q. unfold all in refl;
      lasts = λ q. unfold all in refl;
    }

escaped-plain : (t : List ℕ) → Text t → all plain_octet (text_text t) ≡ true
escaped-plain t h = run-all (Unit {0}) (λ q c. q) (λ q c. escaped_octet c) (λ q. []) (λ q s. text_text s) escapes-runs text_octet plain_octet each (λ q. unfold all in refl) t tt h
  where
    each : (q : Unit {0}) (c : ℕ) → text_octet c ≡ true → all plain_octet (escaped_octet c) ≡ true
    each q c h =
        escaped-all plain_octet c (unfold all plain_octet is_control in refl) (unfold all plain_octet is_control in refl) (unfold all plain_octet is_control in refl)
        (unfold all plain_octet is_control in refl) (text-plain c h)

pub text-clean : (t : List ℕ) → Textual t → clean (text_text t) ≡ true
unfolding clean
text-clean t h = and-true (escaped-utf8 t h.encoded) (escaped-plain t h.texts)

-- no condition
units : (ls : List (List ℕ)) → All (λ s. Unit {0}) ls
units [] = tt
units (l ∷ ls) = (tt, units ls)

-- A text that is read.
module _ (s t : List ℕ) (q : unescaped s ≡ some t) where
  is-text : Text t
  unfolding unescaped
  is-text = read-text false s t q

  textual : clean s ≡ true → Textual t
  textual c = record { encoded = unfold unescaped in read-utf8 s t q (unfold clean in (both (utf8 s) (all plain_octet s) c).0); texts = is-text }

-- Text values
string-text : (t : List ℕ) → value_text text (str t) ≡ text_text t
unfolding value_text octets_of number? string? given
string-text t = refl

string-is : (t : List ℕ) → Text t → is_string text_is (str t) ≡ true
unfolding is_string holds string? text_is
string-is t h = h

text-again-read : (t : List ℕ) → Text t → read_text (text_text t) ≡ some (str t)
unfolding read_text map?
text-again-read t h = rw (text-again t h)

pub text-law : ItemLaw text read_text
unfolding read_text
text-law s j e = map_is str (unescaped s) j e (λ t q w. rw (← w) (record {
  again = rw (string-text t) (text-again-read t (is-text s t q));
  is = unfold value_is in string-is t (is-text s t q);
  line = λ c. rw (string-text t) (text-clean t (textual s t q c));
  neat = λ c. n-str (textual s t q c);
}))

-- what is written is a text with its escapes
abbrev pub Escaped : List ℕ → Type 0
Escaped l = (t : List ℕ) × (text_text t ≡ l)

pub text-escaped : (s : List ℕ) (j : Json) → Unit {0} → read_text s ≡ some j → Escaped (value_text text j)
unfolding read_text
text-escaped s j u e = map_is str (unescaped s) j e (λ t q w. (t, sym (string-text t) ∙ ap (value_text text) w))

pub at-bare-commas : Cuts (bare_split (code ",")) (λ s. Unit {0}) Escaped
at-bare-commas = record { pieces = λ s. units (bare_split (code ",") s); filled = λ s. unfold bare_split in bare-filled (code ",") false s; again = again; whole = bare-whole (code ",") (code ";") commas }
  where
    texts : (ls : List (List ℕ)) → All Escaped ls → (ts : List (List ℕ)) × (map text_text ts ≡ ls)
    texts [] h = ([], refl)
    texts (l ∷ ls) h = let r = texts ls h.1 in (h.0.0 ∷ r.0, rw (h.0.1, r.1))

    again : (l : List ℕ) (ls : List (List ℕ)) → All Escaped (l ∷ ls) → bare_split (code ",") (joined (code ",") (l ∷ ls)) ≡ l ∷ ls
    again l ls h = let r = texts ls h.1 in rw (← h.0.1, ← r.1) (bare-again (code ",") (code ";") commas h.0.0 r.0)

-- REQUEST-STATUS
pub list-items : (js : List Json) → list_of_items (items_of js) ≡ js
unfolding list_of_items items_of
list-items [] = refl
list-items (j ∷ js) = ap (λ (l : List Json). j ∷ l) (list-items js)

field-texts : (ts : List (List ℕ)) → map (λ e. text_text (octets_of e)) (map str ts) ≡ map text_text ts
unfolding octets_of number? string? given
field-texts [] = refl
field-texts (t ∷ ts) = ap (λ (ls : List (List ℕ)). text_text t ∷ ls) (field-texts ts)

module _ (ts : List (List ℕ)) where
  abbrev fields_of : Json
  fields_of = arr (items_of (map str ts))

  status-text : value_text status fields_of ≡ joined (code ";") (map text_text ts)
  unfolding value_text elements_text elements array? given
  status-text = rw (list-items (map str ts)) (ap (joined (code ";")) (field-texts ts))

  status-is : All Text ts → two_or_three ts ≡ true → value_is status fields_of ≡ true
  unfolding value_is is_array holds array?
  status-is h k = rw (list-items (map str ts)) (tests ts h k)
    where
      tests : (ts : List (List ℕ)) → All Text ts → two_or_three ts ≡ true → is_two_or_three (is_string text_is) (map str ts) ≡ true
      tests [] h k = unfold two_or_three is_two_or_three in k
      tests (a ∷ []) h k = unfold two_or_three is_two_or_three in k
      tests (a ∷ b ∷ []) h k = unfold is_two_or_three in and-true (string-is a h.0) (string-is b h.1.0)
      tests (a ∷ b ∷ c ∷ []) h k = unfold is_two_or_three in and-true (string-is a h.0) (and-true (string-is b h.1.0) (string-is c h.1.1.0))
      tests (a ∷ b ∷ c ∷ d ∷ ts) h k = unfold two_or_three is_two_or_three in k

  status-again : fields (joined (code ";") (map text_text ts)) ≡ some ts → two_or_three ts ≡ true → read_status (joined (code ";") (map text_text ts)) ≡ some fields_of
  unfolding read_status map? guard when
  status-again e k = rw (e, k)

semicolon-plain : plain_octet (code ";") ≡ true
unfolding plain_octet is_control
semicolon-plain = refl

strings-neat : (d : ℕ) (ts : List (List ℕ)) → All Textual ts → All (Neat d) (map str ts)
strings-neat d [] h = tt
strings-neat d (t ∷ ts) h = (n-str h.0, strings-neat d ts h.1)

fields-item : (s : List ℕ) (ts : List (List ℕ)) → fields s ≡ some ts → two_or_three ts ≡ true → Item status read_status s (arr (items_of (map str ts)))
unfolding fields
fields-item s ts q k = record {
  again = rw (status-text ts) (status-again ts (fields-again ts k are) k);
  is = status-is ts are k;
  line = λ c. rw (status-text ts) (clean-joined (code ";") (unfold ascii in refl) semicolon-plain (map text_text ts)
      ∙ All-all clean (map text_text ts) (All-map (λ t. clean t ≡ true) text_text ts (All-weaker text-clean ts (textuals c))));
  neat = λ c. n-arr (neat-items 1 (map str ts) (strings-neat 1 ts (textuals c)));
}
  where
    are : All Text ts
    are = each-All unescaped (λ l. Unit {0}) Text (λ l t u e. is-text l t e) (bare_split (code ";") s) ts (units (bare_split (code ";") s)) q

    textuals : clean s ≡ true → All Textual ts
    textuals c = each-All unescaped (λ l. clean l ≡ true) Textual (λ l t d e. textual l t e d) (bare_split (code ";") s) ts
        (all-All clean (bare_split (code ";") s) (sym (clean-joined (code ";") (unfold ascii in refl) semicolon-plain (bare_split (code ";") s)) ∙ ap clean (bare-whole (code ";") (code ",") semicolons s) ∙ c)) q

    fields-again : (ts : List (List ℕ)) → two_or_three ts ≡ true → All Text ts → fields (joined (code ";") (map text_text ts)) ≡ some ts
    fields-again [] k h = never k (unfold two_or_three in refl)
    fields-again (t ∷ ts) k h = unfold fields in rw (bare-again (code ";") (code ",") semicolons t ts) (each-written unescaped text_text (t ∷ ts) (All-weaker text-again (t ∷ ts) h))

pub status-law : ItemLaw status read_status
unfolding read_status
status-law s j e = map_is (λ ts. arr (items_of (map str ts))) (guard two_or_three (fields s)) j e (λ ts q w.
    let g = guard-is two_or_three (fields s) ts q in
    rw (← w) (fields-item s ts g.0 g.1))
