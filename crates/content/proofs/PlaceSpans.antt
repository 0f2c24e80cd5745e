-- The form of a content line by spans: what each step of the walk passes.
use Prim.Native.Nat.{ℕ, ◌+◌, ◌-◌, ◌≤◌, ◌<◌}
use Prim.Native.Char.{code}
use mathlib.Core.Path.{◌≡◌, refl, sym, ap, ◌∙◌}
use mathlib.Core.Bool.{Bool, true, false, not}
use mathlib.Core.List.{List, [], ◌∷◌, ◌++◌}
use native.Mathlib.Omega.{arith}
use borrow.Author.Tests.{ne_eqb, ltb-true, ltb-false, not-true, not-false}
use lib.Dec.{eqb, ltb}
use lib.ListN.{length, get_or, take, drop, length-drop}
use lib.Seq.{drop-drop}
use Rattle.octets.specs.Basics.{pick, ◌and◌, All}
use Rattle.octets.specs.Classes.{name_octet}
use Rattle.octets.specs.Groups.{safe_octet}
use Rattle.octets.proofs.Cases.{cases, never, both}
use Rattle.octets.proofs.Positions.{here, ended, past_end, from}
use Rattle.content.specs.Form.{formed}
use Rattle.content.specs.LinePlaces.{LinePlace, start, name, param_start, param_name, value_start, plain, quoted, unquoted, value, nowhere, behind_value, in_value, place_behind, place_after, is_value, Passes}
use Rattle.octets.specs.Search.{until}
use Rattle.content.proofs.LinePlaces.{formed-walked}
use Rattle.octets.proofs.Search.{until_none, until-here, until-free, scan-low, scan-high, scan-stop, scan-split, scan-whole}

-- the form from place p at i
abbrev Formed : List ℕ → LinePlace → ℕ → Bool
Formed s p i = is_value (place_after p (drop i s))

value_stays : (s : List ℕ) → place_after value s ≡ value
unfolding place_after place_behind
value_stays [] = refl
value_stays (c ∷ s) = value_stays s

nowhere-stays : (s : List ℕ) → place_after nowhere s ≡ nowhere
unfolding place_after place_behind
nowhere-stays [] = refl
nowhere-stays (c ∷ s) = nowhere-stays s

place-append : (p : LinePlace) (xs ys : List ℕ) → place_after p (xs ++ ys) ≡ place_after (place_after p xs) ys
unfolding place_after
place-append p [] ys = refl
place-append p (x ∷ xs) ys = place-append (place_behind p x) xs ys

-- a place is within the line, or behind it
within : {P : Type 0} (i : ℕ) (s : List ℕ) → (i < length s → P) → (length s ≤ i → P) → P
within i s f g = cases (ltb i (length s)) (λ e. f (ltb-true i (length s) e)) (λ e. g (ltb-false i (length s) e))

-- one octet
module _ (s : List ℕ) (p : LinePlace) (i : ℕ) where
  pub step : i < length s → Formed s p i ≡ Formed s (place_behind p (get_or s i 0)) (i + 1)
  unfolding place_after
  step h = rw (here s i h)

  pub at-end : length s ≤ i → Formed s p i ≡ is_value p
  unfolding place_after
  at-end h = rw (ended s i h)

-- octets that keep the place
stays : (p : LinePlace) (stop : ℕ → Bool) → ((c : ℕ) → stop c ≡ false → place_behind p c ≡ p) → (xs : List ℕ) → All (λ c. stop c ≡ false) xs → place_after p xs ≡ p
unfolding place_after
stays p stop f [] h = refl
stays p stop f (x ∷ xs) h = rw (f x h.0) (stays p stop f xs h.1)

module _ (p : LinePlace) (stop : ℕ → Bool) (f : (c : ℕ) → stop c ≡ false → place_behind p c ≡ p) (s : List ℕ) (i e : ℕ) (q : e ≡ i + length (until stop (drop i s))) where
  span-on : e < length s → place_after p (drop i s) ≡ place_after p (drop e s)
  span-on h = rw (scan-split stop s i e q h, place-append p (until stop (drop i s)) (get_or s e 0 ∷ drop (e + 1) s), stays p stop f (until stop (drop i s)) (until-free stop (drop i s)), here s e h)

  span-end : length s ≤ e → place_after p (drop i s) ≡ place_after p (drop e s)
  unfolding place_after
  span-end h = rw (ended s e h, ← scan-whole stop s i e q h) (stays p stop f (until stop (drop i s)) (until-free stop (drop i s)))

  pub span : Formed s p i ≡ Formed s p e
  span = within e s (λ h. ap is_value (span-on h)) (λ h. ap is_value (span-end h))

-- to the place nowhere, and to the value
module _ (s : List ℕ) (p : LinePlace) (i : ℕ) where
  lost : i < length s → place_behind p (get_or s i 0) ≡ nowhere → Formed s p i ≡ false
  lost h e = step s p i h ∙ rw (e, nowhere-stays (drop (i + 1) s)) (unfold is_value in refl)

  won : i < length s → place_behind p (get_or s i 0) ≡ value → Formed s p i ≡ true
  won h e = step s p i h ∙ rw (e, value_stays (drop (i + 1) s)) (unfold is_value in refl)

  moved : (q : LinePlace) → i < length s → place_behind p (get_or s i 0) ≡ q → Formed s p i ≡ Formed s q (i + 1)
  moved q h e = step s p i h ∙ rw e

-- two places that the next octet makes alike
alike : (s : List ℕ) (p q : LinePlace) (i : ℕ) → is_value p ≡ is_value q → (i < length s → place_behind p (get_or s i 0) ≡ place_behind q (get_or s i 0)) → Formed s p i ≡ Formed s q i
alike s p q i v f = within i s
    (λ h. step s p i h ∙ rw (f h) (sym (step s q i h)))
    (λ h. at-end s p i h ∙ v ∙ sym (at-end s q i h))

-- a name at i ends at n
abbrev pub off_name : ℕ → Bool
off_name c = not (name_octet c)

module _ (p q : LinePlace) (first : (c : ℕ) → place_behind p c ≡ pick (name_octet c) q nowhere) (more : (c : ℕ) → name_octet c ≡ true → place_behind q c ≡ q)
    (not-p : is_value p ≡ false) (s : List ℕ) (i n : ℕ) (e : n ≡ i + length (until off_name (drop i s))) where
  named_none : n ≡ i → Formed s p i ≡ false
  named_none z = within i s
      (λ h. lost s p i h (first (get_or s i 0) ∙ rw (not-true (name_octet (get_or s i 0)) (rw z at (scan-stop off_name s i n e (omega arith))))))
      (λ h. at-end s p i h ∙ not-p)

  named-on : i < n → Formed s p i ≡ Formed s q n
  named-on g =
      let h : i < length s = within i s (λ h. h) (λ h. absurd (omega (arith, until_none off_name s i h))) in
      let c : name_octet (get_or s i 0) ≡ true = cases (name_octet (get_or s i 0)) (λ k. k) (λ k. absurd (omega (arith, until-here off_name s i h (rw k)))) in
      step s p i h
      ∙ rw (first (get_or s i 0), c) (sym (step s q i h ∙ rw (more (get_or s i 0) c)))
      ∙ span q off_name (λ c k. more c (not-false (name_octet c) k)) s i n e

-- the name of a line
name-more : (c : ℕ) → name_octet c ≡ true → place_behind name c ≡ name
unfolding place_behind
name-more c e = rw e

pub line-none : (s : List ℕ) (n : ℕ) → n ≡ 0 + length (until off_name (drop 0 s)) → n ≡ 0 → formed s ≡ false
line-none s n e z = formed-walked s ∙ named_none start name (λ c. unfold place_behind in refl) name-more (unfold is_value in refl) s 0 n e z

-- behind the name the line goes on as it does behind a parameter value, but for a comma
module _ (s : List ℕ) (n : ℕ) (e : n ≡ 0 + length (until off_name (drop 0 s))) (g : 0 < n) where
  line_on : formed s ≡ Formed s name n
  line_on = formed-walked s ∙ named-on start name (λ c. unfold place_behind in refl) name-more (unfold is_value in refl) s 0 n e g

  off : n < length s → name_octet (get_or s n 0) ≡ false
  off h = not-true (name_octet (get_or s n 0)) (scan-stop off_name s 0 n e h)

  pub line-comma : get_or s n 0 ≡ code "," → formed s ≡ false
  line-comma c = line_on ∙ within n s
      (λ h. lost s name n h (unfold place_behind in rw (off h, c)))
      (λ h. at-end s name n h ∙ unfold is_value in refl)

  pub line-tail : (get_or s n 0 ≡ code "," → ⊥) → formed s ≡ Formed s unquoted n
  line-tail c = line_on ∙ alike s name unquoted n (unfold is_value in refl) (λ h. unfold place_behind behind_value in rw (off h, ne_eqb (get_or s n 0) (code ",") c))

-- a parameter value without quotes
abbrev off_safe : ℕ → Bool
off_safe c = not (safe_octet c)

plain_more : (c : ℕ) → off_safe c ≡ false → place_behind plain c ≡ plain
unfolding place_behind in_value behind_value safe_octet
plain_more c e =
    let a = both (not (eqb c (code ","))) _ (not-false _ e) in
    let b = both (not (eqb c (code ";"))) _ a.1 in
    let d = both (not (eqb c (code ":"))) _ b.1 in
    rw (not-true (eqb c (code ",")) a.0, not-true (eqb c (code ";")) b.0, not-true (eqb c (code ":")) d.0, not-true (eqb c (code "\"")) d.1)

plain_over : (c : ℕ) → off_safe c ≡ true → place_behind plain c ≡ place_behind unquoted c
unfolding place_behind in_value behind_value safe_octet
plain_over c e = by (eqb c (code ",")) (eqb c (code ";")) (eqb c (code ":")) (eqb c (code "\"")) e
  where
    by : (a b d q : Bool) → not (not a and not b and not d and not q) ≡ true
        → pick a value_start (pick b param_start (pick d value (pick q nowhere plain))) ≡ pick a value_start (pick b param_start (pick d value nowhere))
    by true b d q e = refl
    by false true d q e = refl
    by false false true q e = refl
    by false false false true e = refl
    by false false false false e = never e refl

module _ (s : List ℕ) (i : ℕ) (l : i ≤ length s) where
  pub value-plain : (r : ℕ) → (get_or s i 0 ≡ code "\"" → ⊥) → r ≡ i + length (until off_safe (drop i s)) → Passes s value_start i unquoted r
  value-plain r c e = record {
    low = scan-low off_safe s i r e;
    high = scan-high off_safe s i r e l;
    told = alike s value_start plain i (unfold is_value in refl) (λ h. unfold place_behind in rw (ne_eqb (get_or s i 0) (code "\"") c))
        ∙ span plain off_safe plain_more s i r e
        ∙ alike s plain unquoted r (unfold is_value in refl) (λ h. plain_over (get_or s r 0) (scan-stop off_safe s i r e h));
  }

  -- in quotes, to the quote at e or to the end of the line
  module _ (c : get_or s i 0 ≡ code "\"") (e : ℕ) (q : e ≡ i + 1 + length (until (λ x. eqb x (code "\"")) (drop (i + 1) s))) where
    opened : i < length s
    opened = within i s (λ h. h) (λ h. absurd (omega (arith, past_end s i h)))

    in-quotes : Formed s value_start i ≡ Formed s quoted e
    in-quotes =
        moved s value_start i quoted opened (unfold place_behind in rw c)
        ∙ span quoted (λ x. eqb x (code "\"")) (λ x k. unfold place_behind in rw k) s (i + 1) e q

    pub value-quoted : e < length s → Passes s value_start i unquoted (e + 1)
    value-quoted h = record {
      low = omega arith;
      high = omega arith;
      told = in-quotes ∙ moved s quoted e unquoted h (unfold place_behind in rw (scan-stop (λ x. eqb x (code "\"")) s (i + 1) e q h));
    }

    pub value-open : length s ≤ e → Passes s value_start i unquoted e
    value-open h =
        let z : is_value quoted ≡ is_value unquoted = unfold is_value in refl in
        record {
          low = omega arith;
          high = scan-high (λ x. eqb x (code "\"")) s (i + 1) e q (omega (arith, opened));
          told = in-quotes ∙ at-end s quoted e h ∙ z ∙ sym (at-end s unquoted e h);
        }

-- a parameter's name, equals sign and first value
pub beyond : (i n : ℕ) → i ≤ n → (n ≡ i → ⊥) → i < n
beyond i n h g = cases (ltb i n) (λ e. ltb-true i n e) (λ e. absurd (g (omega (arith, ltb-false i n e))))

pub nonzero : (n : ℕ) → (n ≡ 0 → ⊥) → 0 < n
nonzero n g = beyond 0 n (omega arith) g

param-more : (c : ℕ) → name_octet c ≡ true → place_behind param_name c ≡ param_name
unfolding place_behind
param-more c e = rw e

module _ (s : List ℕ) (i : ℕ) (l : i ≤ length s) (n : ℕ) (e : n ≡ i + length (until off_name (drop i s))) where
  failed : Formed s param_start i ≡ false → Passes s param_start i unquoted (length s)
  failed f = record { low = l; high = omega arith; told = f ∙ sym (at-end s unquoted (length s) (omega arith) ∙ unfold is_value in refl) }

  pub param-none : n ≡ i → Passes s param_start i unquoted (length s)
  param-none z = failed (named_none param_start param_name (λ c. unfold place_behind in refl) param-more (unfold is_value in refl) s i n e z)

  module _ (g : n ≡ i → ⊥) where
    on : Formed s param_start i ≡ Formed s param_name n
    on = named-on param_start param_name (λ c. unfold place_behind in refl) param-more (unfold is_value in refl) s i n e (beyond i n (omega arith) g)

    pub param-not : (get_or s n 0 ≡ code "=" → ⊥) → Passes s param_start i unquoted (length s)
    param-not c = failed (on ∙ within n s
        (λ h. lost s param_name n h (unfold place_behind in rw (not-true (name_octet (get_or s n 0)) (scan-stop off_name s i n e h), ne_eqb (get_or s n 0) (code "=") c)))
        (λ h. at-end s param_name n h ∙ unfold is_value in refl))

    pub param-inside : get_or s n 0 ≡ code "=" → n < length s
    param-inside c = within n s (λ h. h) (λ h. absurd (omega (arith, past_end s n h)))

    pub param-on : (r : ℕ) → get_or s n 0 ≡ code "=" → Passes s value_start (n + 1) unquoted r → Passes s param_start i unquoted r
    param-on r c p = record {
      low = omega (arith, p.low);
      high = p.high;
      told = on ∙ moved s param_name n value_start (param-inside c) (unfold place_behind in rw (not-true (name_octet (get_or s n 0)) (scan-stop off_name s i n e (param-inside c)), c)) ∙ p.told;
    }

-- what a text passes, a longer text passes behind its first n octets
pub behind-first : (s : List ℕ) (p q : LinePlace) (n e : ℕ) → n ≤ length s → Passes (take (length s - n) (drop n s)) p 0 q e → Passes s p n q (n + e)
behind-first s p q n e h k =
    let f = from s n in
    let l : length (take (length s - n) (drop n s)) ≡ length s - n = rw (f, length-drop n s) in
    let d : drop e (drop n s) ≡ drop (n + e) s = drop-drop e n s in
    record { low = omega arith; high = omega (arith, k.high, l); told = rw (f) at k.told ∙ ap (λ r. is_value (place_after q r)) d }

-- behind a value
module _ (s : List ℕ) (i : ℕ) where
  pub tail-end : length s ≤ i → Formed s unquoted i ≡ false
  tail-end h = at-end s unquoted i h ∙ unfold is_value in refl

  module _ (h : i < length s) where
    pub tail-colon : get_or s i 0 ≡ code ":" → Formed s unquoted i ≡ true
    tail-colon c = won s unquoted i h (unfold place_behind behind_value in rw c)

    pub tail-lost : (get_or s i 0 ≡ code "," → ⊥) → (get_or s i 0 ≡ code ";" → ⊥) → (get_or s i 0 ≡ code ":" → ⊥) → Formed s unquoted i ≡ false
    tail-lost a b c = lost s unquoted i h (unfold place_behind behind_value in rw (ne_eqb _ (code ",") a, ne_eqb _ (code ";") b, ne_eqb _ (code ":") c))

-- behind the octet that a text begins with
abbrev behind_one : List ℕ → List ℕ
behind_one s = take (length s - 1) (drop 1 s)

module _ (s : List ℕ) (h : 0 < length s) where
  on-from : (p : LinePlace) (e : ℕ) → place_behind unquoted (get_or s 0 0) ≡ p → Passes (behind_one s) p 0 unquoted e
      → is_value (place_after unquoted s) ≡ is_value (place_after unquoted (take (length (behind_one s) - e) (drop e (behind_one s))))
  on-from p e c k =
      moved s unquoted 0 p h c
      ∙ ap (λ r. is_value (place_after p r)) (sym (from s 1))
      ∙ k.told
      ∙ ap (λ r. is_value (place_after unquoted r)) (sym (from (behind_one s) e))

  pub tail-comma : get_or s 0 0 ≡ code "," → (e : ℕ) → Passes (behind_one s) value_start 0 unquoted e
      → is_value (place_after unquoted s) ≡ is_value (place_after unquoted (take (length (behind_one s) - e) (drop e (behind_one s))))
  tail-comma c e k = on-from value_start e (unfold place_behind behind_value in rw c) k

  pub tail-semicolon : get_or s 0 0 ≡ code ";" → (e : ℕ) → Passes (behind_one s) param_start 0 unquoted e
      → is_value (place_after unquoted s) ≡ is_value (place_after unquoted (take (length (behind_one s) - e) (drop e (behind_one s))))
  tail-semicolon c e k = on-from param_start e (unfold place_behind behind_value in rw c) k
