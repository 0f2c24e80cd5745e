-- A content line that is written has the form of number 4.
use Prim.Native.Nat.{ℕ}
use Prim.Native.Char.{code}
use mathlib.Core.Path.{◌≡◌, refl}
use mathlib.Core.Bool.{true, false}
use mathlib.Core.List.{List, [], ◌∷◌, ◌++◌, map, append_assoc}
use Rattle.octets.specs.Basics.{all, any, filled, All}
use Rattle.octets.specs.Pieces.{joined}
use Rattle.octets.specs.Classes.{is_name, upper}
use Rattle.octets.proofs.Cases.{cases, never, and-true}
use Rattle.octets.proofs.Pieces.{Free}
use Rattle.content.specs.Carets.{encoded}
use Rattle.content.specs.Line.{Param, pieces}
use Rattle.content.specs.Form.{quote_free, quote_last, in_quotes, value_formed, param_formed, head_formed, formed}
use Rattle.content.specs.Write.{asks_quotes, quoted_if, param_value_text, line_text, params_text}
use Rattle.octets.proofs.Classes.{name-upper}
use Rattle.content.proofs.Encoded.{no-quotes}
use Rattle.content.proofs.Bare.{has-closed, before-closed, behind-closed, pieces-joined}
use Rattle.content.proofs.Written.{Writable, body, caps, equals-closed, head-closed, semicolon, name-closed, values-closed, pieces-params}

-- a value, in quotes or without
free-value : (v : List ℕ) → Free (code "\"") v → quote_free v ≡ true
unfolding quote_free all
free-value [] h = refl
free-value (c ∷ v) h = rw h.0 (free-value v h.1)

last-value : (v : List ℕ) → Free (code "\"") v → quote_last (v ++ code "\"" ∷ []) ≡ true
unfolding quote_last filled
last-value [] h = refl
last-value (c ∷ v) h = rw h.0 (last-value v h.1)

value-formed : (v : List ℕ) → value_formed (param_value_text v) ≡ true
unfolding value_formed param_value_text quoted_if
value-formed v = cases (any asks_quotes v)
    (λ e. rw e (unfold quote_free in_quotes all in last-value (encoded v) (no-quotes v)))
    (λ e. rw (e, free-value (encoded v) (no-quotes v)))

values-formed : (vs : List (List ℕ)) → all value_formed (map param_value_text vs) ≡ true
unfolding all
values-formed [] = refl
values-formed (v ∷ vs) = and-true (value-formed v) (values-formed vs)

pieces-formed : (vs : List (List ℕ)) → filled vs ≡ true → all value_formed (pieces (code ",") false (joined (code ",") (map param_value_text vs))) ≡ true
unfolding filled
pieces-formed [] h = never h refl
pieces-formed (v ∷ vs) h =
    rw (pieces-joined (code ",") refl (param_value_text v) (map param_value_text vs) (values-closed (code ",") (unfold asks_quotes in refl) (v ∷ vs))) (values-formed (v ∷ vs))

param-formed : (p : Param) → Writable p → param_formed (body p) ≡ true
unfolding param_formed
param-formed p w =
    let vs = joined (code ",") (map param_value_text p.values) in
    let c = equals-closed p w in
    rw (has-closed (code "=") false (upper p.name) vs c, before-closed (code "=") false (upper p.name) vs c, behind-closed (code "=") false (upper p.name) vs c)
    (and-true (caps p w) (pieces-formed p.values w.valued))

params-formed : (ps : List Param) → All Writable ps → all param_formed (map body ps) ≡ true
unfolding all
params-formed [] h = refl
params-formed (p ∷ ps) h = and-true (param-formed p h.0) (params-formed ps h.1)

-- THE LAW: a written line has the form, whatever the octets of its values
pub line-formed : (n : List ℕ) (ps : List Param) (v : List ℕ) → is_name n ≡ true → All Writable ps → formed (line_text n ps v) ≡ true
unfolding formed line_text head_formed
line-formed n ps v h w =
    let head = upper n ++ params_text ps in
    let c = head-closed n ps h w in
    rw (
      ← (append_assoc (upper n) (params_text ps) (code ":" ∷ v)),
      has-closed (code ":") false head v c,
      before-closed (code ":") false head v c,
      pieces-params (upper n) ps (name-closed (code ";") semicolon.outside (upper n) (name-upper n h)) w,
    )
    (and-true (name-upper n h) (params-formed ps w))
