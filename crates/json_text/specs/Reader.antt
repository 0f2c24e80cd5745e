-- A JSON text read (RFC 8259 2 to 5; 01, numbers 6 and 11): values nest by the levels left, elements follow one another.
use Rattle.std.specs.Prelude.{ℕ, zero, suc, List, [], ◌∷◌, eqb, length}
use Prim.Native.Char.{code}
use Rattle.octets.specs.Basics.{octets, pick, ◌or◌}
use Rattle.octets.specs.Classes.{is_digit}
use Rattle.octets.specs.Limits.{most_open}
use Rattle.json_text.specs.Tree.{Json, null, falsity, truth, num, str, arr, obj, Members, no_members, member, items_of}
use Rattle.json_text.specs.Reads.{Out, ok, deep, bad, fmap, and_then, skip_space, literal}
use Rattle.json_text.specs.Numbers.{number_read}
use Rattle.json_text.specs.Strings.{string}

-- what a value's first octet begins
pub data Opening : Type 0 where
  bracket brace quote numeral null_word false_word true_word other : Opening

unfoldable pub opening_of : ℕ → Opening
opening_of b =
    pick (eqb b (code "[")) bracket
    (pick (eqb b (code "{")) brace
    (pick (eqb b (code "\"")) quote
    (pick (eqb b (code "-") or is_digit b) numeral
    (pick (eqb b (code "n")) null_word
    (pick (eqb b (code "f")) false_word
    (pick (eqb b (code "t")) true_word other))))))

-- what stands behind an element
pub data Separator : Type 0 where
  comma close odd : Separator

unfoldable pub separator_of : ℕ → ℕ → Separator
separator_of end b = pick (eqb b (code ",")) comma (pick (eqb b end) close odd)

-- a key, up to its value
unfoldable pub colon : List ℕ → List ℕ → Out (List ℕ)
colon k [] = bad
colon k (b ∷ s) = pick (eqb b (code ":")) (ok k (skip_space s)) bad

unfoldable pub member_key : List ℕ → Out (List ℕ)
member_key [] = bad
member_key (b ∷ s) = pick (eqb b (code "\"")) (and_then (string s) (λ k t. colon k (skip_space t))) bad

-- a member: a key and its value
pub record Pair : Type 0 where
  pub key : List ℕ
  pub it : Json

unfoldable pub pair : (List ℕ → Out Json) → List ℕ → Out Pair
pair p s = and_then (member_key s) (λ k t. fmap (λ j. record { key = k; it = j }) (p t))

unfoldable pub members_from : List Pair → Members
members_from [] = no_members
members_from (m ∷ l) = member m.key m.it (members_from l)

-- elements between commas, one at least and n at most, up to the octet that ends them; each takes an octet at least
unfoldable pub after_element : {A : Type 0} → Separator → (List ℕ → Out (List A)) → A → List ℕ → Out (List A)
after_element comma more a s = fmap (λ l. a ∷ l) (more (skip_space s))
after_element close more a s = ok (a ∷ []) s
after_element odd more a s = bad

unfoldable pub on_mark : {A : Type 0} → ℕ → (Separator → List ℕ → Out A) → List ℕ → Out A
on_mark end f [] = bad
on_mark end f (b ∷ s) = f (separator_of end b) s

unfoldable pub elements_up_to : {A : Type 0} → ℕ → (List ℕ → Out A) → ℕ → List ℕ → Out (List A)
elements_up_to end p zero s = bad
elements_up_to end p (suc n) s = and_then (p s) (λ a t. on_mark end (λ m u. after_element m (elements_up_to end p n) a u) (skip_space t))

unfoldable pub elements_from : {A : Type 0} → ℕ → (List ℕ → Out A) → List ℕ → Out (List A)
elements_from end p [] = bad
elements_from end p (b ∷ s) = pick (eqb b end) (ok [] s) (elements_up_to end p (suc (length (b ∷ s))) (b ∷ s))

-- what follows `[` or `{`
unfoldable pub bracketed : {A : Type 0} → ℕ → (List ℕ → Out A) → List ℕ → Out (List A)
bracketed end p s = elements_from end p (skip_space s)

unfoldable pub value_by : Opening → (List ℕ → Out (List Json)) → (List ℕ → Out (List Pair)) → ℕ → List ℕ → Out Json
value_by bracket a o b s = fmap (λ l. arr (items_of l)) (a s)
value_by brace a o b s = fmap (λ l. obj (members_from l)) (o s)
value_by quote a o b s = fmap str (string s)
value_by numeral a o b s = fmap num (number_read (b ∷ s))
value_by null_word a o b s = fmap (λ _. null) (literal (octets "ull") s)
value_by false_word a o b s = fmap (λ _. falsity) (literal (octets "alse") s)
value_by true_word a o b s = fmap (λ _. truth) (literal (octets "rue") s)
value_by other a o b s = bad

unfoldable pub value_with : (List ℕ → Out (List Json)) → (List ℕ → Out (List Pair)) → List ℕ → Out Json
value_with a o [] = bad
value_with a o (b ∷ s) = value_by (opening_of b) a o b s

-- a value in which at most d arrays and objects are open at once
unfoldable pub value_within : ℕ → List ℕ → Out Json
value_within zero s = value_with (λ _. deep) (λ _. deep) s
value_within (suc d) s = value_with (bracketed (code "]") (value_within d)) (bracketed (code "}") (pair (value_within d))) s

-- nothing but white space behind it
unfoldable pub nothing_behind : Json → List ℕ → Out Json
nothing_behind j [] = ok j []
nothing_behind j (b ∷ s) = bad

-- JSON-text
unfoldable pub parse_text : List ℕ → Out Json
parse_text s = and_then (value_within most_open (skip_space s)) (λ j t. nothing_behind j (skip_space t))
