-- Values that are read and written one after another.
use Prim.Native.Nat.{ℕ, zero, suc, ◌+◌, ◌≤◌, ◌<◌}
use Prim.Native.Char.{code}
use mathlib.Core.Path.{◌≡◌, refl, sym, ap, ◌∙◌}
use mathlib.Core.Logic.{◌⊎◌, inl, inr}
use mathlib.Core.Bool.{Bool, true, false, not}
use mathlib.Core.List.{List, [], ◌∷◌}
use mathlib.Core.Option.{Option, none, some}
use native.Mathlib.Numerals.{add-one}
use native.Mathlib.Omega.{arith}
use lib.Dec.{eqb}
use lib.ListN.{length, drop, get_or}
use Rattle.std.specs.Prelude.{None}
use Rattle.std.specs.List.{slice_split, onto_first, enumerate_from}
use Rattle.std.proofs.lemmas.List.{drop_more, drop_all}
use Rattle.std.proofs.lemmas.List.FromFn.{length-enumerate_from, get_or-enumerate_from}
use Rattle.octets.specs.Basics.{◌and◌, ◌or◌, filled, single}
use Rattle.octets.specs.Optional.{map?, both?, when, guard, each}
use Rattle.octets.specs.Pen.{Pen, Wrote}
use Rattle.octets.proofs.Pen.{nothing, then, Leads, leads-start, leads-on, leads-end, front-behind, front-wrote}
use Rattle.octets.proofs.Pieces.{split-filled}
use Rattle.calendar.proofs.Pieces.{pieces-are}
use Rattle.json_text.specs.Tree.{Json}
use Rattle.json_text.specs.Print.{print, values_json}
use Rattle.jcal_texts.specs.Trying.{Tried}
use Rattle.jcal_texts.proofs.Reading.{Going, going_start, going_on}
use Rattle.jcal_values.specs.Parts.{value_pieces}

-- the pieces of a chain of iterators are those of the definition
one-piece : (s : List ℕ) → slice_split (λ x. false and eqb x 44) s ≡ s ∷ []
one-piece [] = refl
one-piece (x ∷ s) = ap (onto_first x) (one-piece s)

pieces-tested : (b : Bool) (s : List ℕ) → slice_split (λ x. b and eqb x 44) s ≡ value_pieces b s
unfolding value_pieces
pieces-tested true s = pieces-are 44 s
pieces-tested false s = one-piece s

some-piece : (ls : List (List ℕ)) → (ls ≡ [] → ⊥) → 0 ≡ length ls → ⊥
some-piece [] n e = n refl
some-piece (l ∷ ls) n e = omega arith

pieces-filled : (b : Bool) (s : List ℕ) → value_pieces b s ≡ [] → ⊥
unfolding value_pieces
pieces-filled true s e = split-filled (code ",") s e
pieces-filled false s e = let z : ◌≡◌ {A = ℕ} 0 1 = cc in omega arith

-- what may be left at the n-th value, one value only where there may not be many
abbrev room : Bool → ℕ → List Json → Bool
room many zero vs = many or single vs
room many (suc n) vs = many or not (filled vs)

module _ (many : Bool) where
  abbrev fit : ℕ → Option (List Json) → Option (List Json)
  fit n r = guard (room many n) r

  first-wrong : (n : ℕ) (r : Option (List Json)) → fit n (both? ◌∷◌ none r) ≡ none
  unfolding both? guard
  first-wrong n r = refl

  nothing-left : (n : ℕ) → (n ≡ 0 → ⊥) → fit n (some []) ≡ some []
  unfolding guard filled when
  nothing-left zero e = absurd (e refl)
  nothing-left (suc n) e = by many
    where
      by : (b : Bool) → guard (room b (suc n)) (some []) ≡ some []
      by true = refl
      by false = refl

  not-alone : (n : ℕ) (o : Option Json) (r : Option (List Json)) → 0 < n → many ≡ false → fit n (both? ◌∷◌ o r) ≡ none
  unfolding both? guard filled when
  not-alone zero o r h m = absurd (omega arith)
  not-alone (suc n) none r h m = refl
  not-alone (suc n) (some j) none h m = refl
  not-alone (suc n) (some j) (some vs) h m = rw m

  others-left : (n : ℕ) (j : Json) (r : Option (List Json)) → ((0 < n) × (many ≡ true)) ⊎ (n ≤ 0) → fit n (both? ◌∷◌ (some j) r) ≡ map? (λ vs. j ∷ vs) (fit (n + 1) r)
  unfolding both? guard when map? single
  others-left zero j none m = refl
  others-left zero j (some vs) m = by (many or not (filled vs))
    where
      by : (b : Bool) → when b (j ∷ vs) ≡ map? (λ us. j ∷ us) (when b vs)
      by true = refl
      by false = refl
  others-left (suc n) j none m = refl
  others-left (suc n) j (some vs) (inr e) = absurd (omega arith)
  others-left (suc n) j (some vs) (inl e) = rw (e.1, add-one)

module _ (f : List ℕ → Option Json) (many b : Bool) (s : List ℕ) where
  -- what is read from the n-th piece on
  abbrev values : ℕ → Option (List Json)
  values n = fit many n (each f (drop n (value_pieces b s)))

  -- what is read and written up to the n-th piece
  pub record Listed (p q : Pen) (n : ℕ) : Type 0 where
    pub going : Going (λ us vs. Leads p (values_json us) q (values_json vs)) (guard (λ vs. many or single vs) (each f (value_pieces b s))) (values n)
    pub written : (xs : List ℕ) × Wrote p xs q

  abbrev all : Option (List Json)
  all = guard (λ vs. many or single vs) (each f (value_pieces b s))

  pub listed_start : {p : Pen} → Listed p p 0
  listed_start = record { going = going_start (λ vs. leads-start); written = ([], nothing) }

  abbrev counted : List (ℕ × List ℕ)
  counted = enumerate_from 0 (slice_split (λ x. b and eqb x 44) s)

  pub listed_end : {p q : Pen} {n : ℕ} → Listed p q n → n ≡ length counted → (vs : List Json) × (all ≡ some vs) × Wrote p (values_json vs) q
  unfolding each values_json
  listed_end {p} {q} {n} g h =
      let e : n ≡ length (value_pieces b s) = rw (pieces-tested b s) at (h ∙ length-enumerate_from 0 (slice_split (λ x. b and eqb x 44) s)) in
      let d : drop n (value_pieces b s) ≡ [] = drop_all n (value_pieces b s) (omega (arith, e)) in
      let v = g.going.stands [] (rw d (nothing-left many n (λ z. some-piece (value_pieces b s) (pieces-filled b s) (sym z ∙ e)))) in
      (v.0, v.1, leads-end v.2 refl)

  -- a turn, at the value x.1
  module _ {p q : Pen} {n : ℕ} (g : Listed p q n) (x : ℕ × List ℕ) (t : (n < length counted) × (x ≡ get_or counted n x)) where
    within : n < length (slice_split (λ y. b and eqb y 44) s)
    within = omega (arith, t.0, length-enumerate_from 0 (slice_split (λ y. b and eqb y 44) s))

    this : x ≡ (0 + n, get_or (slice_split (λ y. b and eqb y 44) s) n x.1)
    this = t.1 ∙ get_or-enumerate_from 0 (slice_split (λ y. b and eqb y 44) s) n x within

    place : x.0 ≡ n
    place = let e : x.0 ≡ 0 + n = ap (λ (y : ℕ × List ℕ). y.0) this in omega arith

    ahead : drop n (value_pieces b s) ≡ x.1 ∷ drop (n + 1) (value_pieces b s)
    ahead = rw (pieces-tested b s) at (drop_more (slice_split (λ y. b and eqb y 44) s) n x.1 within
        ∙ ap (λ (z : List ℕ). z ∷ drop (n + 1) (slice_split (λ y. b and eqb y 44) s)) (sym (ap (λ (y : ℕ × List ℕ). y.1) this)))

    more : each f (drop n (value_pieces b s)) ≡ both? ◌∷◌ (f x.1) (each f (drop (n + 1) (value_pieces b s)))
    unfolding each
    more = rw ahead

    pub value-alone : 0 < x.0 → many ≡ false → Tried all values_json p q.buf None
    value-alone h m = (g.going.fails (ap (fit many n) more ∙ not-alone many n _ _ (omega (arith, place)) m), front-wrote g.written.1)

    pub value-wrong : {r : Pen} (out : List ℕ) → Wrote q (code "," ∷ []) r → Tried (f x.1) print r out None → Tried all values_json p out None
    value-wrong out u w = (g.going.fails (ap (fit many n) (rw w.0 at more) ∙ first-wrong many n _), front-behind (then g.written.1 u) w.1)

    pub value_on : {r : Pen} (j : Json) → f x.1 ≡ some j → Wrote q (code "," ∷ print j) r → ((0 < x.0) × (many ≡ true)) ⊎ (x.0 ≤ 0) → Listed p r (n + 1)
    unfolding values_json
    value_on j w u m = record {
      going = going_on (λ vs. j ∷ vs) _ g.going (ap (fit many n) (rw w at more) ∙ others-left many n j _ (rw place at m)) (λ vs us a l. leads-on l u refl);
      written = (_, then g.written.1 u);
    }
