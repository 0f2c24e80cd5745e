-- Values that are tested and written.
use Prim.Native.Nat.{ℕ}
use mathlib.Core.Bool.{Bool, true, false}
use mathlib.Core.List.{List}
use mathlib.Core.Option.{Option, some}
use mathlib.Core.Path.{◌≡◌, sym}
use Rattle.octets.specs.Optional.{is_some}
use Rattle.octets.specs.Pen.{Pen, pen, Wrote}
use Rattle.octets.proofs.Optional.{some_is, none_is}
use Rattle.octets.proofs.Pen.{as-text, front-wrote}
use Rattle.json_text.specs.Tree.{Json}
use Rattle.json_text.specs.Print.{print}
use Rattle.jcal_texts.specs.Trying.{Tried}
use Rattle.std.specs.Bool.{then_some}
use Rattle.std.specs.Prelude.{Some, None, is_some as answers}
use Rattle.std.specs.declared.option.Option as code

-- a test, and a text that is the value's where the test is passed
pub tested : {p : Pen} {xs : List ℕ} (o : Option Json) (out : List ℕ) (q : ℕ) (stands : Bool) (r : code.Option ℕ) → stands ≡ is_some o → ((j : Json) → o ≡ some j → xs ≡ print j)
    → Wrote p xs (pen out q) → r ≡ then_some stands q → Tried o print p out r
tested o out q true r is e w a = rw a (some_is o (sym is) (λ j f. (j, f, as-text w (e j f))))
tested o out q false r is e w a = rw a (none_is o (sym is), front-wrote w)

-- there is an answer where the value stands
pub tried-some : {A : Type 0} (read : Option A) (text : A → List ℕ) (p : Pen) (out : List ℕ) (r : code.Option ℕ) → Tried read text p out r → answers r ≡ is_some read
unfolding is_some
tried-some read text p out None t = rw t.0
tried-some read text p out (Some q) t = rw t.1
