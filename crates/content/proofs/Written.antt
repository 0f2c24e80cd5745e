-- A content line that is written is read again: its name in uppercase, its parameters and its value.
use Prim.Native.Nat.{ℕ}
use Prim.Native.Char.{code}
use mathlib.Core.Path.{◌≡◌, refl, ap, ◌∙◌}
use mathlib.Core.Bool.{Bool, true, false, false≢true}
use mathlib.Core.List.{List, [], ◌∷◌, ◌++◌, map, append-nil, append_assoc}
use lib.Dec.{eqb}
use Rattle.octets.specs.Basics.{all, any, filled, All}
use Rattle.octets.specs.Pieces.{joined}
use Rattle.octets.specs.Classes.{between, is_digit, is_upper, is_lower, is_letter, name_octet, is_name, is_lower_name, upper}
use Rattle.octets.proofs.Cases.{cases, neither, both, apart, apart-not, all-All}
use Rattle.octets.proofs.Pieces.{Free}
use Rattle.content.specs.Carets.{decoded, encoded}
use Rattle.content.specs.Line.{Param, front, unquote, param_value, pieces, param_of, headed, line_of}
use Rattle.content.specs.Write.{asks_quotes, quoted_if, param_value_text, param_text, params_text, line_text}
use Rattle.octets.proofs.Classes.{lower-name, name-upper}
use Rattle.content.proofs.Names.{lower-upper}
use Rattle.content.proofs.Encoded.{decoded-encoded, no-quotes, asks-alike}
use Rattle.content.proofs.Bare.{Closed, Inner, before-closed, behind-closed, pieces-last, pieces-part, pieces-joined, closed-append, closed-cons, closed_all, closed-quoted, closed-joined}

-- values: a quoted one is unquoted, and no double quote begins another

front-last : (v : List ℕ) (c : ℕ) → front (v ++ c ∷ []) ≡ v
unfolding front
front-last [] c = refl
front-last (x ∷ []) c = refl
front-last (x ∷ y ∷ v) c = ap (λ l. x ∷ l) (front-last (y ∷ v) c)

unquoted : (b : Bool) (v : List ℕ) → Free (code "\"") v → unquote (quoted_if b v) ≡ v
unfolding unquote quoted_if
unquoted true v h = front-last v (code "\"")
unquoted false [] h = refl
unquoted false (x ∷ v) h = rw h.0

-- any octets: what is written is read again
pub value-back : (v : List ℕ) → param_value (param_value_text v) ≡ v
unfolding param_value param_value_text
value-back v = ap decoded (unquoted (any asks_quotes v) (encoded v) (no-quotes v)) ∙ decoded-encoded v

pub values-back : (vs : List (List ℕ)) → map param_value (map param_value_text vs) ≡ vs
values-back [] = refl
values-back (v ∷ vs) = rw (value-back v, values-back vs)

-- a value without colon, semicolon, comma and quotes
unasked : (sep : ℕ) → asks_quotes sep ≡ true → (v : List ℕ) → Free (code "\"") v → any asks_quotes v ≡ false → All (Inner sep) v
unfolding any
unasked sep s [] f n = tt
unasked sep s (x ∷ v) f n =
    let o = neither (asks_quotes x) (any asks_quotes v) n in
    ((apart-not asks_quotes x sep o.0 s, f.0), unasked sep s v f.1 o.1)

-- no bare colon, semicolon or comma in a written value
value-closed : (sep : ℕ) → asks_quotes sep ≡ true → (v : List ℕ) → Closed sep false (param_value_text v)
unfolding param_value_text quoted_if
value-closed sep s v = cases (any asks_quotes v)
    (λ e. rw e (closed-quoted sep (apart-not asks_quotes (code "\"") sep (unfold asks_quotes in refl) s) (encoded v) (no-quotes v)))
    (λ e. rw e (closed_all sep (encoded v) (unasked sep s (encoded v) (no-quotes v) (asks-alike v ∙ e))))

pub values-closed : (sep : ℕ) → asks_quotes sep ≡ true → (vs : List (List ℕ)) → All (Closed sep false) (map param_value_text vs)
values-closed sep s [] = tt
values-closed sep s (v ∷ vs) = (value-closed sep s v, values-closed sep s vs)

-- a separator in no name
name-inner : (sep : ℕ) → name_octet sep ≡ false → (n : List ℕ) → All (λ x. name_octet x ≡ true) n → All (Inner sep) n
name-inner sep s [] h = tt
name-inner sep s (x ∷ n) h =
    ((apart name_octet x sep h.0 s, apart name_octet x (code "\"") h.0 (unfold name_octet is_letter is_upper is_lower is_digit between in refl)), name-inner sep s n h.1)

pub name-closed : (sep : ℕ) → name_octet sep ≡ false → (n : List ℕ) → is_name n ≡ true → Closed sep false n
unfolding is_name
name-closed sep s n h = closed_all sep n (name-inner sep s n (all-All name_octet n (both (filled n) (all name_octet n) h).1))

-- what a parameter must be to be written: its name is lowercase, and it has values
pub record Writable (p : Param) : Type 0 where
  pub named : is_lower_name p.name ≡ true
  pub valued : filled p.values ≡ true

-- its text behind the semicolon
abbrev pub body : Param → List ℕ
body p = upper p.name ++ code "=" ∷ joined (code ",") (map param_value_text p.values)

pub caps : (p : Param) → Writable p → is_name (upper p.name) ≡ true
caps p w = name-upper p.name (lower-name p.name w.named)

pieces-values : (vs : List (List ℕ)) → filled vs ≡ true → map param_value (pieces (code ",") false (joined (code ",") (map param_value_text vs))) ≡ vs
unfolding filled
pieces-values [] h = absurd (false≢true h)
pieces-values (v ∷ vs) h =
    rw (pieces-joined (code ",") refl (param_value_text v) (map param_value_text vs) (values-closed (code ",") (unfold asks_quotes in refl) (v ∷ vs))) (values-back (v ∷ vs))

pub equals-closed : (p : Param) → Writable p → Closed (code "=") false (upper p.name)
equals-closed p w = name-closed (code "=") (unfold name_octet is_letter is_upper is_lower is_digit between in refl) (upper p.name) (caps p w)

param-back : (p : Param) → Writable p → param_of (body p) ≡ p
unfolding param_of
param-back p w =
    let vs = joined (code ",") (map param_value_text p.values) in
    let c = equals-closed p w in
    rw (before-closed (code "=") false (upper p.name) vs c, behind-closed (code "=") false (upper p.name) vs c, pieces-values p.values w.valued, lower-upper p.name w.named)

params-back : (ps : List Param) → All Writable ps → map param_of (map body ps) ≡ ps
params-back [] h = refl
params-back (p ∷ ps) h = rw (param-back p h.0, params-back ps h.1)

-- the separators of a line's head: no octet of a name, and none within a parameter but in quotes
pub record Separator (sep : ℕ) : Type 0 where
  pub asks : asks_quotes sep ≡ true
  pub outside : name_octet sep ≡ false
  equals : eqb (code "=") sep ≡ false
  comma : eqb (code ",") sep ≡ false

colon : Separator (code ":")
unfolding asks_quotes name_octet is_letter is_upper is_lower is_digit between
colon = record { asks = refl; outside = refl; equals = refl; comma = refl }

pub semicolon : Separator (code ";")
unfolding asks_quotes name_octet is_letter is_upper is_lower is_digit between
semicolon = record { asks = refl; outside = refl; equals = refl; comma = refl }

body_closed : (sep : ℕ) → Separator sep → (p : Param) → Writable p → Closed sep false (body p)
body_closed sep s p w =
    let vs = map param_value_text p.values in
    closed-append sep false (upper p.name) (code "=" ∷ joined (code ",") vs) (name-closed sep s.outside (upper p.name) (caps p w))
    (closed-cons sep (code "=") (joined (code ",") vs) (s.equals, refl) (closed-joined sep (code ",") (s.comma, refl) vs (values-closed sep s.asks p.values)))

-- the parameters behind the text l
pub pieces-params : (l : List ℕ) (ps : List Param) → Closed (code ";") false l → All Writable ps → pieces (code ";") false (l ++ params_text ps) ≡ l ∷ map body ps
unfolding params_text param_text
pieces-params l [] c h = rw (append-nil l) (pieces-last (code ";") false l c)
pieces-params l (p ∷ ps) c h =
    rw (pieces-part (code ";") refl false l (body p ++ params_text ps) c)
    (ap (λ r. l ∷ r) (pieces-params (body p) ps (body_closed (code ";") semicolon p h.0) h.1))

params-closed : (ps : List Param) → All Writable ps → Closed (code ":") false (params_text ps)
unfolding params_text param_text
params-closed [] h = refl
params-closed (p ∷ ps) h =
    closed-cons (code ":") (code ";") (body p ++ params_text ps) (refl, refl)
    (closed-append (code ":") false (body p) (params_text ps) (body_closed (code ":") colon p h.0) (params-closed ps h.1))

pub head-closed : (n : List ℕ) (ps : List Param) → is_name n ≡ true → All Writable ps → Closed (code ":") false (upper n ++ params_text ps)
head-closed n ps h w = closed-append (code ":") false (upper n) (params_text ps) (name-closed (code ":") colon.outside (upper n) (name-upper n h)) (params-closed ps w)

-- THE LAW: a written line is read again, whatever the octets of its values
pub line-back : (n : List ℕ) (ps : List Param) (v : List ℕ) → is_name n ≡ true → All Writable ps → line_of (line_text n ps v) ≡ record { name = upper n; params = ps; value = v }
unfolding line_of line_text headed
line-back n ps v h w =
    let head = upper n ++ params_text ps in
    let c = head-closed n ps h w in
    rw (
      ← (append_assoc (upper n) (params_text ps) (code ":" ∷ v)),
      before-closed (code ":") false head v c,
      behind-closed (code ":") false head v c,
      pieces-params (upper n) ps (name-closed (code ";") semicolon.outside (upper n) (name-upper n h)) w,
      params-back ps w,
    )
