-- Values between separators, written one after another with a comma between them.
use Prim.Native.Nat.{ℕ, ◌+◌, ◌-◌, ◌≤◌, ◌<◌}
use Prim.Native.Char.{code}
use mathlib.Core.Path.{◌≡◌, refl, sym, ap, ◌∙◌}
use mathlib.Core.List.{List, [], ◌∷◌, ◌++◌, map, append_assoc, append-nil}
use mathlib.Core.Option.{Option, some}
use native.Mathlib.Omega.{arith}
use lib.ListN.{length, take, drop}
use lib.Seq.{drop-drop}
use Rattle.octets.specs.Pieces.{split, joined}
use Rattle.octets.specs.Optional.{each}
use Rattle.octets.proofs.Optional.{each_none, each-is}
use Rattle.octets.proofs.Pieces.{split-filled}
use Rattle.octets.proofs.Positions.{from, upto}
use Rattle.calendar.specs.Walk.{before_first}
use Rattle.calendar.proofs.Pieces.{before-take, split-more, split-last, scanned}
use Rattle.json_text.specs.Tree.{Json, arr, items_of}
use Rattle.json_text.specs.Print.{print, first_item, values_json}
use Rattle.values.specs.Shown.{list_shown}
use Rattle.values.proofs.Arrays.{items-json}

-- a turn, which passes the piece at i
module _ (sep : ℕ) (s : List ℕ) (i e : ℕ) (is : e ≡ length (before_first sep (take (length s - i) (drop i s)))) where
  abbrev rest : List ℕ
  rest = drop i s

  piece : before_first sep rest ≡ take (e - 0) (drop 0 (take (length s - i) rest))
  piece = before-take sep rest ∙ ap (λ (n : ℕ). take n rest) (sym (scanned sep s i e is)) ∙ sym (ap (λ (l : List ℕ). take (e - 0) (drop 0 l)) (from s i) ∙ upto rest e)

  pub pieces_more : e < length (take (length s - i) (drop i s)) → split sep (drop i s) ≡ take (e - 0) (drop 0 (take (length s - i) (drop i s))) ∷ split sep (drop (i + e + 1) s)
  pieces_more h =
      let is' = scanned sep s i e is in
      let h' : e < length rest = rw (from s i) at h in
      let n : i + (e + 1) ≡ i + e + 1 = omega arith in
      let d : drop (length (before_first sep rest) + 1) rest ≡ drop (i + e + 1) s = ap (λ (m : ℕ). drop (m + 1) rest) (sym is') ∙ drop-drop (e + 1) i s ∙ ap (λ (m : ℕ). drop m s) n in
      split-more sep rest (rw (← is') h')
      ∙ ap (λ (l : List ℕ). before_first sep rest ∷ split sep l) d
      ∙ ap (λ (l : List ℕ). l ∷ split sep (drop (i + e + 1) s)) piece

  pub pieces-last : length (take (length s - i) (drop i s)) ≤ e → split sep (drop i s) ≡ take (e - 0) (drop 0 (take (length s - i) (drop i s))) ∷ []
  pieces-last h =
      let h' : length rest ≤ e = rw (from s i) at h in
      split-last sep rest (rw (← (scanned sep s i e is)) h') ∙ ap (λ (l : List ℕ). l ∷ []) piece

  -- and writes what f makes of it
  module _ (f : List ℕ → List ℕ) where
    others : (l : List ℕ) (ls : List (List ℕ)) → (ls ≡ [] → ⊥) → joined (code ",") (map f (l ∷ ls)) ≡ f l ++ code "," ∷ [] ++ joined (code ",") (map f ls)
    unfolding joined
    others l [] n = absurd (n refl)
    others l (m ∷ ls) n = sym (append_assoc (f l) (code "," ∷ []) (joined (code ",") (map f (m ∷ ls))))

    pub list-more : e < length (take (length s - i) (drop i s))
        → list_shown f sep (drop i s) ≡ f (take (e - 0) (drop 0 (take (length s - i) (drop i s)))) ++ code "," ∷ [] ++ list_shown f sep (drop (i + e + 1) s)
    unfolding list_shown
    list-more h = ap (λ (ls : List (List ℕ)). joined (code ",") (map f ls)) (pieces_more h) ∙ others _ (split sep (drop (i + e + 1) s)) (split-filled sep _)

    pub list-last : length (take (length s - i) (drop i s)) ≤ e → list_shown f sep (drop i s) ≡ f (take (e - 0) (drop 0 (take (length s - i) (drop i s))))
    unfolding list_shown joined
    list-last h = ap (λ (ls : List (List ℕ)). joined (code ",") (map f ls)) (pieces-last h)

-- pieces that are read, each written as it is
module _ {A : Type 0} (R : List ℕ → Option A) (W : List ℕ → List ℕ) (J : A → Json) (law : (l : List ℕ) (a : A) → R l ≡ some a → W l ≡ print (J a)) where
  pub listed-json : (l : List ℕ) (ls : List (List ℕ)) (vs : List A) → each R (l ∷ ls) ≡ some vs → code "," ∷ joined (code ",") (map W (l ∷ ls)) ≡ values_json (map J vs)
  unfolding joined values_json
  listed-json l [] vs h = each-is R l [] vs h (λ c cs a b q. rw (← q, each_none R cs b, law l c a) (ap (λ (x : List ℕ). code "," ∷ x) (sym (append-nil (print (J c))))))
  listed-json l (m ∷ ls) vs h = each-is R l (m ∷ ls) vs h (λ c cs a b q. rw (← q, law l c a, listed-json m ls cs b))

-- values in an array
behind-comma : (j : Json) (js : List Json) (xs : List ℕ) → code "," ∷ xs ≡ values_json (j ∷ js) → xs ≡ print j ++ values_json js
unfolding values_json
behind-comma j js xs e = cc

array-first : (j : Json) (js : List Json) → code "[" ∷ (print j ++ values_json js ++ code "]" ∷ []) ≡ print (arr (items_of (j ∷ js)))
unfolding print first_item items_of
array-first j js = rw (items-json js) (ap (λ (l : List ℕ). code "[" ∷ l) (append_assoc (print j) (values_json js) (code "]" ∷ [])))

pub array-json : (js : List Json) (xs : List ℕ) → (js ≡ [] → ⊥) → code "," ∷ xs ≡ values_json js → code "[" ∷ (xs ++ code "]" ∷ []) ≡ print (arr (items_of js))
array-json [] xs n e = absurd (n refl)
array-json (j ∷ js) xs n e = ap (λ (l : List ℕ). code "[" ∷ (l ++ code "]" ∷ [])) (behind-comma j js xs e) ∙ array-first j js
