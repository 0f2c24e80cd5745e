-- What parameters say: VALUE, ENCODING, and a name twice (01, numbers 7 and 8, Parameters, Which type); and their jCal object (RFC 7265 3.5).
use Rattle.std.specs.Prelude.{ℕ, Bool, false, not, List, [], ◌∷◌, map}
use Rattle.std.proofs.Math.Option.{Option, none, some}
use Rattle.octets.specs.Basics.{octets, pick, ◌and◌, all, any, same, twice}
use Rattle.octets.specs.Classes.{is_name, upper, lower, text_octet}
use Rattle.octets.specs.Answers.{Answer, refused, accepted}
use Rattle.json_text.specs.Tree.{Json, str, arr, Members, no_members, member, items_of}
use Rattle.content.specs.Line.{Param, name_of}

unfoldable pub called : List ℕ → Param → Bool
called n p = same p.name n

-- number 7: a parameter name twice
unfoldable pub name_twice : List Param → Bool
name_twice ps = twice (map name_of ps)

-- VALUE's type in lowercase: one token, and not UNKNOWN
unfoldable pub token : List (List ℕ) → Answer (Option (List ℕ))
token [] = refused 7
token (v ∷ []) = pick (is_name v and not (same (lower v) (octets "unknown"))) (accepted (some (lower v))) (refused 7)
token (v ∷ w ∷ vs) = refused 7

-- the type that VALUE names, if there is a VALUE
unfoldable pub value_type : List Param → Answer (Option (List ℕ))
value_type [] = accepted none
value_type (p ∷ ps) = pick (called (octets "value") p) (token p.values) (value_type ps)

unfoldable pub without_value : List Param → List Param
without_value [] = []
without_value (p ∷ ps) = pick (called (octets "value") p) (without_value ps) (p ∷ without_value ps)

-- ENCODING=BASE64: one value, in either case
unfoldable pub is_base64 : List (List ℕ) → Bool
is_base64 [] = false
is_base64 (v ∷ []) = same (upper v) (octets "BASE64")
is_base64 (v ∷ w ∷ vs) = false

unfoldable pub encodes : Param → Bool
encodes p = called (octets "encoding") p and is_base64 p.values

unfoldable pub is_encoded : List Param → Bool
is_encoded ps = any encodes ps

-- 02, [2]: the parameters without it
unfoldable pub without_encoding : List Param → List Param
without_encoding [] = []
without_encoding (p ∷ ps) = pick (encodes p) (without_encoding ps) (p ∷ without_encoding ps)

-- 02, [2]: what of the parameters stays, where the value is decoded or not
unfoldable pub staying : Bool → List Param → List Param
staying decodes ps = pick decodes (without_encoding ps) ps

-- number 7 in jCal: a "value" key, or a control character other than tab and newline
unfoldable pub may_return : Param → Bool
may_return p = not (called (octets "value") p) and all (all text_octet) p.values

-- one value plain, several an array
unfoldable pub plain_or : List Json → Json
plain_or [] = arr (items_of [])
plain_or (j ∷ []) = j
plain_or (j ∷ k ∷ js) = arr (items_of (j ∷ k ∷ js))

unfoldable pub members_of : List Param → Members
members_of [] = no_members
members_of (p ∷ ps) = member p.name (plain_or (map str p.values)) (members_of ps)
