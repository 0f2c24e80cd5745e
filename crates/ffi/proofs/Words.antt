-- The word of an answer: a refusal's number is never 0, so its word tells it.
use Prim.Native.Nat.{ℕ, ◌-◌}
use mathlib.Core.Path.{◌≡◌, refl, ap, ◌∙◌}
use mathlib.Core.List.{List}
use Rattle.octets.specs.Answers.{number, Settled, settled, outcome}
use Rattle.octets.specs.declared.Refusal.{Refusal}
use Rattle.octets.specs.declared.Refusal.TheVariants.{TextTooLong, RowsMalformed, NotClean, NotContentLine, NotPaired, TooDeep, BadParameter, BadEncoding, BadValue, NoRoom, NotJson, NotJcal, BadStart, BadRule, NotServed}
use Rattle.std.specs.declared.result.Result.{Result}
use Rattle.std.specs.Prelude.{Ok, Err}
use Rattle.ffi.specs.Words.{most_word, word, Worded, Returns}

pub refused-word : (r : Refusal) (out : List ℕ) → most_word - number r ≡ word (settled (number r) 0 out)
unfolding word
refused-word TextTooLong out = refl
refused-word RowsMalformed out = refl
refused-word NotClean out = refl
refused-word NotContentLine out = refl
refused-word NotPaired out = refl
refused-word TooDeep out = refl
refused-word BadParameter out = refl
refused-word BadEncoding out = refl
refused-word BadValue out = refl
refused-word NoRoom out = refl
refused-word NotJson out = refl
refused-word NotJcal out = refl
refused-word BadStart out = refl
refused-word BadRule out = refl
refused-word NotServed out = refl

same-buffer : (c : Result ℕ Refusal) (out : List ℕ) → out ≡ (outcome c out).buffer
unfolding outcome
same-buffer (Ok n) out = refl
same-buffer (Err r) out = refl

-- what a conversion answers, as a word
pub returns : (c : Result ℕ Refusal) (r : ℕ) (out : List ℕ) (s : Settled) → Worded c r → outcome c out ≡ s → Returns s r out
returns c r out s w e = record { is = w out ∙ ap word e; buffer = same-buffer c out ∙ ap (λ (x : Settled). x.buffer) e }
