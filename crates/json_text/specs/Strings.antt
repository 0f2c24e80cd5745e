-- JSON strings (RFC 8259 7), decoded to octets; a pair of surrogates is one character (RFC 8259 7, RFC 3629).
use Rattle.std.specs.Prelude.{ℕ, zero, suc, ◌+◌, ◌-◌, ◌*◌, ◌/◌, ◌%◌, List, [], ◌∷◌, ◌++◌, eqb, ltb, length, drop}
use Prim.Native.Char.{code}
use Rattle.octets.specs.Basics.{pick}
use Rattle.octets.specs.Classes.{between, hex_digit}
use Rattle.json_text.specs.Reads.{Out, ok, deep, bad, fmap, and_then}

-- the octet that a backslash and b stand for; 0 where there is none
unfoldable pub escape_of : ℕ → ℕ
escape_of b =
    pick (eqb b (code "\"")) (code "\"")
    (pick (eqb b (code "\\")) (code "\\")
    (pick (eqb b (code "/")) (code "/")
    (pick (eqb b (code "b")) 8
    (pick (eqb b (code "f")) 12
    (pick (eqb b (code "n")) (code "\n")
    (pick (eqb b (code "r")) (code "\r")
    (pick (eqb b (code "t")) (code "\t") 0)))))))

unfoldable pub hex1 : List ℕ → Out ℕ
hex1 [] = bad
hex1 (b ∷ s) = pick (ltb (hex_digit b) 16) (ok (hex_digit b) s) bad

-- 4HEXDIG
unfoldable pub hex4 : List ℕ → Out ℕ
hex4 s = and_then (hex1 s) (λ a t. and_then (hex1 t) (λ b u. and_then (hex1 u) (λ c v. and_then (hex1 v) (λ d w. ok (a * 4096 + b * 256 + c * 16 + d) w))))

-- RFC 3629 3. A lone surrogate gets the three octets that it would have; no UTF-8 text holds them, and they are 12 (01, Values)
unfoldable pub utf8_of : ℕ → List ℕ
utf8_of n =
    pick (ltb n 128) (n ∷ [])
    (pick (ltb n 2048) ((192 + n / 64) ∷ (128 + n % 64) ∷ [])
    (pick (ltb n 65536) ((224 + n / 4096) ∷ (128 + n / 64 % 64) ∷ (128 + n % 64) ∷ [])
    ((240 + n / 262144) ∷ (128 + n / 4096 % 64) ∷ (128 + n / 64 % 64) ∷ (128 + n % 64) ∷ [])))

-- the low surrogate (DC00 to DFFF) that stands next as an escape, or 0
unfoldable pub low_of : Out ℕ → ℕ
low_of (ok l s) = pick (between 56320 57343 l) l 0
low_of deep = 0
low_of bad = 0

unfoldable pub low_surrogate : List ℕ → ℕ
low_surrogate [] = 0
low_surrogate (b ∷ []) = 0
low_surrogate (b ∷ c ∷ s) = pick (eqb b (code "\\")) (pick (eqb c (code "u")) (low_of (hex4 s)) 0) 0

-- behind a high surrogate (D800 to DBFF) only
unfoldable pub partner : ℕ → List ℕ → ℕ
partner u s = pick (between 55296 56319 u) (low_surrogate s) 0

-- a pair of surrogates is one character; any other unit stands for itself
unfoldable pub unit : ℕ → List ℕ → ℕ → Out (List ℕ)
unit u s l = pick (eqb l 0) (ok (utf8_of u) s) (ok (utf8_of (65536 + (u - 55296) * 1024 + (l - 56320))) (drop 6 s))

unfoldable pub unicode : List ℕ → Out (List ℕ)
unicode s = and_then (hex4 s) (λ u t. unit u t (partner u t))

unfoldable pub escape : List ℕ → Out (List ℕ)
escape [] = bad
escape (b ∷ s) = pick (eqb b (code "u")) (unicode s) (pick (eqb (escape_of b) 0) bad (ok (escape_of b ∷ []) s))

-- a character or an escape; octets below 32 must be escaped
unfoldable pub piece : List ℕ → Out (List ℕ)
piece [] = bad
piece (b ∷ s) = pick (eqb b (code "\\")) (escape s) (pick (ltb b 32) bad (ok (b ∷ []) s))

-- n pieces at most, up to the closing quote; each takes an octet at least, so that the text's length is enough
unfoldable pub string_pieces : ℕ → List ℕ → Out (List ℕ)
string_pieces zero s = bad
string_pieces (suc n) [] = bad
string_pieces (suc n) (b ∷ s) = pick (eqb b (code "\"")) (ok [] s) (and_then (piece (b ∷ s)) (λ xs t. fmap (λ ys. xs ++ ys) (string_pieces n t)))

-- what follows the opening quote
unfoldable pub string : List ℕ → Out (List ℕ)
string s = string_pieces (suc (length s)) s
