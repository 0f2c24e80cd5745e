-- What the crate's own readers promise each other; `parse` promises what Parse says.
use Rattle.std.specs.Prelude.{ℕ, zero, suc, ◌<◌, ◌≡◌, List, [], ◌∷◌, drop, Some, None, Result, Ok, Err}
use Rattle.std.specs.Borrow.{Bor}
use Prim.Native.Char.{code as octet}
use Rattle.octets.specs.Classes.{is_digit}
use Rattle.octets.specs.Search.{ClassRun}
use Rattle.octets.specs.Pen.{Pen, pen, Wrote}
use Rattle.json_text.specs.Reads.{Out, ok, deep, bad}
use Rattle.json_text.specs.Print.{escaped}
use Rattle.json_text.specs.declared.JsonError.{JsonError}
use Rattle.json_text.specs.declared.JsonError.TheVariants.{TooDeep, NotJson}
use Rattle.std.specs.declared.option.Option as code

-- one digit or more stand before the answer
pub data Digits (text : List ℕ) : code.Option (Bor (List ℕ)) → Type 0 where
  some-digits : {n : ℕ} {r : Bor (List ℕ)} → ClassRun is_digit text 0 n → 0 < n → r.now ≡ drop n text → Digits text (Some r)
  no-digits : ClassRun is_digit text 0 0 → Digits text None

-- the answer is where the reading o ends
pub data Behind (o : Out (Unit {0})) : code.Option (Bor (List ℕ)) → Type 0 where
  behind : {r : Bor (List ℕ)} → o ≡ ok tt r.now → Behind o (Some r)
  nothing : o ≡ bad → Behind o None

-- the answer is the reading o: what it read has the tape f, which was written with the pen p; t is the buffer then
pub data Agrees {A : Type 0} (f : A → List ℕ) (p : Pen) (t : List ℕ) (o : Out A) : Result (Bor (List ℕ) × ℕ) JsonError → Type 0 where
  read : {r : Bor (List ℕ)} {to : ℕ} (a : A) → o ≡ ok a r.now → Wrote p (f a) (pen t to) → Agrees f p t o (Ok (r, to))
  too-deep : o ≡ deep → Agrees f p t o (Err TooDeep)
  not-json : o ≡ bad → Agrees f p t o (Err NotJson)

-- a number, where it is not 0
unfoldable pub unless_zero : ℕ → code.Option ℕ
unless_zero zero = None
unless_zero (suc n) = Some (suc n)

-- the number that four hexadecimal digits gave
unfoldable pub hex_code : Out ℕ → code.Option ℕ
hex_code (ok n s) = Some n
hex_code deep = None
hex_code bad = None

-- a string has r behind a backslash for c; none, where c stands as it is
abbrev pub WrittenAs : ℕ → code.Option ℕ → Type 0
WrittenAs c None = escaped c ≡ c ∷ []
WrittenAs c (Some r) = escaped c ≡ octet "\\" ∷ r ∷ []

-- a text that begins with what opens an array, an object
abbrev pub on_bracket : List ℕ → List ℕ
on_bracket s = octet "[" ∷ s

abbrev pub on_brace : List ℕ → List ℕ
on_brace s = octet "{" ∷ s
