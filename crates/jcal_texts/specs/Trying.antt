-- What writers that test promise.
use Rattle.std.specs.Prelude.{ℕ, ◌+◌, ◌≤◌, ◌<◌, ◌≡◌, true, false, List, [], ◌∷◌, ◌++◌, map, length, drop, Some, None}
use Rattle.std.specs.declared.option.Option as code
use Rattle.std.proofs.Math.Option.{Option, none, some}
use Rattle.octets.specs.Optional.{map?}
use Rattle.octets.specs.Pen.{Pen, pen, Wrote, FrontKept}
use Rattle.octets.specs.Pieces.{onto}
use Rattle.values.specs.TextWalk.{add, stop, act, texts_from}
use Rattle.json_text.specs.Tree.{str}
use Rattle.json_text.specs.Print.{quoted, values_json}
use Rattle.jcal_texts.specs.declared.Step.{Step}
use Rattle.jcal_texts.specs.declared.Step.TheVariants.{Octet, Separator}

-- what is read is written; or nothing is read, what stands in front of the pen is as it was, and the rest of the buffer is the code's choice
abbrev pub Tried : {A : Type 0} → Option A → (A → List ℕ) → Pen → List ℕ → code.Option ℕ → Type 0
Tried {A} read text p out (Some q) = (a : A) × (read ≡ some a) × Wrote p (text a) (pen out q)
Tried read text p out None = (read ≡ none) × FrontKept p out

-- the texts that are read, one at least, are written behind their first quote, as strings with a comma between them, and counted; or one is no text
abbrev pub WroteTexts : Option (List (List ℕ)) → Pen → List ℕ → code.Option (ℕ × ℕ) → Type 0
WroteTexts read p out (Some (q, n)) =
    (t : List ℕ) × (ts : List (List ℕ)) × (read ≡ some (t ∷ ts)) × (length ts + 1 ≡ n) × Wrote p (quoted t ++ values_json (map str ts)) (pen out q)
WroteTexts read p out None = (read ≡ none) × FrontKept p out

-- behind a backslash c stands for an octet, or may not stand there
abbrev pub StandsFor : ℕ → code.Option ℕ → Type 0
StandsFor c (Some d) = (sep other : ℕ) → act sep other true c ≡ add d
StandsFor c None = (sep other : ℕ) → act sep other true c ≡ stop

-- what stands at i, as texts are read from there
abbrev pub StepsAt : ℕ → ℕ → List ℕ → ℕ → code.Option Step → Type 0
StepsAt sep other s i (Some (Octet c j)) = (i < j) × (j ≤ length s) × (texts_from sep other false (drop i s) ≡ map? (onto c) (texts_from sep other false (drop j s)))
StepsAt sep other s i (Some Separator) = texts_from sep other false (drop i s) ≡ map? (λ ts. [] ∷ ts) (texts_from sep other false (drop (i + 1) s))
StepsAt sep other s i None = texts_from sep other false (drop i s) ≡ none
