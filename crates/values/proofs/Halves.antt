-- Values in two parts: GEO and periods.
use Prim.Native.Nat.{ℕ, ◌+◌, ◌-◌, ◌≤◌, ◌<◌}
use Prim.Native.Char.{code}
use mathlib.Core.Path.{◌≡◌, refl, sym, ap, ◌∙◌}
use mathlib.Core.Bool.{true, false}
use mathlib.Core.List.{List, [], ◌∷◌, ◌++◌, map, append_assoc}
use mathlib.Core.Option.{Option, none, some}
use native.Mathlib.Omega.{arith}
use borrow.Author.Tests.{ltb-true, ltb-false, le-leb, lt-leb}
use lib.Dec.{leb, ltb}
use lib.ListN.{length, take, drop}
use Rattle.octets.specs.Basics.{◌and◌}
use Rattle.octets.specs.Pieces.{split}
use Rattle.octets.specs.Optional.{both?, is_some}
use Rattle.octets.specs.Classes.{between, is_lower, is_upper, upper}
use Rattle.octets.specs.Pen.{Pen, Wrote}
use Rattle.octets.proofs.Cases.{cases, never}
use Rattle.octets.proofs.Pen.{then, as-text}
use Rattle.octets.proofs.Pieces.{split-filled}
use Rattle.octets.proofs.Positions.{ended, from, upto}
use Rattle.calendar.specs.Dates.{date_time_of}
use Rattle.calendar.specs.Durations.{period_end_of}
use Rattle.calendar.specs.Walk.{before_first}
use Rattle.calendar.proofs.Pieces.{before-le, before-take, before-all, split-more, split-last, Uncased, uncased, split-upper}
use Rattle.values.specs.Simple.{float_of}
use Rattle.values.specs.Read.{geo_of, read_geo, period_of, read_period}
use Rattle.values.specs.Shown.{behind_first, is_pair, array_shown}

pub found-le : (sep : ℕ) (s : List ℕ) (e : ℕ) → e ≡ length (before_first sep s) → e ≤ length s
found-le sep s e is = rw is (before-le sep s)

-- where what lies behind a place begins
pub past-in : (s : List ℕ) (e : ℕ) → length s ≤ e → drop (length s) s ≡ drop (e + 1) s
past-in s e h = ended s (length s) (omega arith) ∙ sym (ended s (e + 1) (omega arith))

-- the two parts as the code has them
module _ (sep : ℕ) (s : List ℕ) (e : ℕ) (is : e ≡ length (before_first sep s)) where
  pub first-half : take (e - 0) (drop 0 s) ≡ before_first sep s
  first-half = upto s e ∙ ap (λ (n : ℕ). take n s) is ∙ sym (before-take sep s)

  pub second-half : (r : ℕ) → drop r s ≡ drop (e + 1) s → take (length s - r) (drop r s) ≡ behind_first sep s
  unfolding behind_first
  second-half r d = from s r ∙ d ∙ ap (λ (n : ℕ). drop (n + 1) s) is

  -- one separator, and no other
  pub no-pair : length s ≤ e → is_pair (split sep s) ≡ false
  unfolding is_pair
  no-pair h = rw (split-last sep s (rw (← is) h))

  module _ (h : e < length s) (r : ℕ) (found : r ≡ length (before_first sep (take (length s - (e + 1)) (drop (e + 1) s)))) where
    rest : List ℕ
    rest = take (length s - (e + 1)) (drop (e + 1) s)

    pieces : split sep s ≡ before_first sep s ∷ split sep rest
    unfolding rest
    pieces = rw (from s (e + 1)) (split-more sep s (rw (← is) h) ∙ ap (λ (n : ℕ). before_first sep s ∷ split sep (drop (n + 1) s)) (sym is))

    pub pair-more : leb (length (take (length s - (e + 1)) (drop (e + 1) s))) r ≡ is_pair (split sep s)
    unfolding rest is_pair
    pair-more = cases (ltb r (length rest))
        (λ t. let l = ltb-true r (length rest) t in
        rw (lt-leb (length rest) r l, pieces, split-more sep rest (rw (← found) l)) (several (split sep (drop (length (before_first sep rest) + 1) rest)) (split-filled sep _)))
        (λ t. let l = ltb-false r (length rest) t in
        rw (le-leb (length rest) r l, pieces, split-last sep rest (rw (← found) l)))
      where
        several : (ls : List (List ℕ)) → (ls ≡ [] → ⊥) → false ≡ is_pair (before_first sep s ∷ before_first sep rest ∷ ls)
        several [] n = absurd (n refl)
        several (l ∷ ls) n = unfold is_pair in refl

-- exactly two pieces are what stands before the separator and behind it
pub pair-split : (sep : ℕ) (s : List ℕ) → is_pair (split sep s) ≡ true → split sep s ≡ before_first sep s ∷ behind_first sep s ∷ []
unfolding behind_first is_pair
pair-split sep s p = cases (ltb (length (before_first sep s)) (length s))
    (λ t. let m = split-more sep s (ltb-true _ (length s) t) in m ∙ ap (λ (ls : List (List ℕ)). before_first sep s ∷ ls) (alone (drop (length (before_first sep s) + 1) s) (rw m at p)))
    (λ t. never p (rw (split-last sep s (ltb-false _ (length s) t)) (unfold is_pair in refl)))
  where
    alone : (v : List ℕ) → is_pair (before_first sep s ∷ split sep v) ≡ true → split sep v ≡ v ∷ []
    alone v q = cases (ltb (length (before_first sep v)) (length v))
        (λ t. never q (rw (split-more sep v (ltb-true _ (length v) t)) (several (split sep (drop (length (before_first sep v) + 1) v)) (split-filled sep _))))
        (λ t. let l = ltb-false (length (before_first sep v)) (length v) t in split-last sep v l ∙ ap (λ (x : List ℕ). x ∷ []) (before-all sep v l))
      where
        several : (ls : List (List ℕ)) → (ls ≡ [] → ⊥) → is_pair (before_first sep s ∷ before_first sep v ∷ ls) ≡ false
        several [] n = absurd (n refl)
        several (l ∷ ls) n = unfold is_pair in refl

some-two : {A B C : Type 0} (f : A → B → C) (o : Option A) (p : Option B) → is_some (both? f o p) ≡ (is_some o and is_some p)
unfolding is_some both?
some-two f none p = refl
some-two f (some a) none = refl
some-two f (some a) (some b) = refl

-- GEO
geo-other : (ls : List (List ℕ)) → is_pair ls ≡ false → is_some (geo_of ls) ≡ false
unfolding geo_of is_pair is_some
geo-other [] h = refl
geo-other (a ∷ []) h = refl
geo-other (a ∷ b ∷ []) h = never refl h
geo-other (a ∷ b ∷ c ∷ l) h = refl

pub geo-none : (s : List ℕ) → is_pair (split (code ";") s) ≡ false → is_some (read_geo s) ≡ false
unfolding read_geo
geo-none s h = geo-other (split (code ";") s) h

pub geo-some : (s : List ℕ) → is_pair (split (code ";") s) ≡ true → is_some (read_geo s) ≡ (is_some (float_of (before_first (code ";") s)) and is_some (float_of (behind_first (code ";") s)))
unfolding read_geo geo_of
geo-some s h = rw (pair-split (code ";") s h) (some-two _ _ _)

-- periods
pub slash-uncased : Uncased (code "/")
unfolding is_lower is_upper between
slash-uncased = uncased (code "/") refl refl

period-other : (ls : List (List ℕ)) → is_pair ls ≡ false → is_some (period_of (map upper ls)) ≡ false
unfolding period_of is_pair is_some
period-other [] h = refl
period-other (a ∷ []) h = refl
period-other (a ∷ b ∷ []) h = never refl h
period-other (a ∷ b ∷ c ∷ l) h = refl

pub period-none : (s : List ℕ) → is_pair (split (code "/") s) ≡ false → is_some (read_period s) ≡ false
unfolding read_period
period-none s h = rw (split-upper (code "/") slash-uncased s) (period-other (split (code "/") s) h)

pub period-some : (s : List ℕ) → is_pair (split (code "/") s) ≡ true
    → is_some (read_period s) ≡ (is_some (date_time_of (upper (before_first (code "/") s))) and is_some (period_end_of (upper (behind_first (code "/") s))))
unfolding read_period period_of
period-some s h = rw (split-upper (code "/") slash-uncased s, pair-split (code "/") s h) (some-two _ _ _)

-- an array of two as it is written
pub arrayed : {p q r t u v : Pen} (a b : List ℕ) → Wrote p (code "[" ∷ []) q → Wrote q a r → Wrote r (code "," ∷ []) t → Wrote t b u → Wrote u (code "]" ∷ []) v → Wrote p (array_shown a b) v
unfolding array_shown
arrayed a b w x y z k = as-text (then (then (then (then w x) y) z) k) (simp append_assoc)

-- a text between what opens and what closes it
pub wrapped : {p q r t : Pen} {x : ℕ} (a ys : List ℕ) → Wrote p (x ∷ []) q → Wrote q a r → Wrote r ys t → Wrote p (x ∷ (a ++ ys)) t
wrapped a ys w y z = as-text (then (then w y) z) refl
