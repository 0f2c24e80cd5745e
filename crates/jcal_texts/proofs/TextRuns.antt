-- Texts, read step by step: runs, octets and separators, and what is written for them.
use Prim.Native.Nat.{ℕ, ◌+◌, ◌-◌, ◌≤◌, ◌<◌}
use Prim.Native.Char.{code}
use mathlib.Core.Path.{◌≡◌, refl, ap, ◌∙◌}
use mathlib.Core.Bool.{Bool, true, false}
use mathlib.Core.List.{List, [], ◌∷◌, ◌++◌, map, append_assoc}
use mathlib.Core.Option.{Option, none, some}
use native.Mathlib.Omega.{arith}
use borrow.Author.Tests.{eq-eqb, ne_eqb, ltb-true, ltb-false}
use lib.Dec.{eqb, ltb}
use lib.ListN.{length, take, drop, get_or}
use Rattle.octets.specs.Basics.{octets, all}
use Rattle.octets.specs.Classes.{plain_octet}
use Rattle.octets.specs.Groups.{text_bare, text_as_is}
use Rattle.octets.specs.Optional.{map?}
use Rattle.octets.specs.Pen.{Pen, pen, Wrote}
use Rattle.octets.specs.Pieces.{onto}
use Rattle.octets.specs.Search.{ClassRun}
use Rattle.octets.proofs.Runs.{all_left}
use Rattle.octets.proofs.Cases.{cases, apart, both}
use Rattle.octets.proofs.Classes.{as-is-plain}
use Rattle.octets.proofs.Pen.{nothing, then, Leads, leads-start, leads-on, leads-last, front-wrote}
use Rattle.octets.proofs.Positions.{here, ended, part-rest, past_end}
use Rattle.values.specs.TextWalk.{Act, add, next, escape, stop, act, escapes, done, texts_from}
use Rattle.json_text.specs.Tree.{str}
use Rattle.json_text.specs.Print.{escaped, quoted, print_string, print, values_json}
use Rattle.jcal_texts.specs.Trying.{WroteTexts, StepsAt}
use Rattle.jcal_texts.specs.declared.Step.TheVariants.{Octet, Separator}
use Rattle.std.specs.Prelude.{Some, None}
use Rattle.jcal_texts.proofs.Reading.{Going, going_start, going_on}

-- an octet of a run is none that is written otherwise
run-escaped : (c : ℕ) → text_as_is c ≡ true → escaped c ≡ c ∷ []
unfolding text_as_is text_bare escaped
run-escaped c h =
    let no : (k : ℕ) → text_as_is k ≡ false → eqb c k ≡ false = λ k n. apart text_as_is c k h n in
    rw (no (code "\"") refl, no (code "\\") refl, no (code "\n") refl, no (code "\t") refl)

pub quoted-run : (xs ys : List ℕ) → all text_as_is xs ≡ true → quoted (xs ++ ys) ≡ xs ++ quoted ys
unfolding quoted
quoted-run xs ys h = all_left quoted (λ c s e. rw (run-escaped c e)) xs ys h

-- there is one text at least
onto-filled : (c : ℕ) (r : Option (List (List ℕ))) → map? (onto c) r ≡ some [] → ⊥
unfolding map? onto
onto-filled c none e = let z : ◌≡◌ {A = ℕ} 0 1 = cc in omega arith
onto-filled c (some []) e = let z : ◌≡◌ {A = ℕ} 0 1 = cc in omega arith
onto-filled c (some (t ∷ ts)) e = let z : ◌≡◌ {A = ℕ} 0 1 = cc in omega arith

next-filled : (r : Option (List (List ℕ))) → map? (λ ts. [] ∷ ts) r ≡ some [] → ⊥
unfolding map?
next-filled none e = let z : ◌≡◌ {A = ℕ} 0 1 = cc in omega arith
next-filled (some ts) e = let z : ◌≡◌ {A = ℕ} 0 1 = cc in omega arith

done-filled : (a : Act) (r : Option (List (List ℕ))) → (r ≡ some [] → ⊥) → done a r ≡ some [] → ⊥
unfolding done
done-filled (add c) r n e = onto-filled c r e
done-filled next r n e = next-filled r e
done-filled escape r n e = n e
done-filled stop r n e = let z : ◌≡◌ {A = ℕ} 0 1 = cc in omega arith

texts-filled : (sep other : ℕ) (b : Bool) (s : List ℕ) → texts_from sep other b s ≡ some [] → ⊥
unfolding texts_from
texts-filled sep other true [] e = let z : ◌≡◌ {A = ℕ} 0 1 = cc in omega arith
texts-filled sep other false [] e = let z : ◌≡◌ {A = ℕ} 0 1 = cc in omega arith
texts-filled sep other b (c ∷ s) e = done-filled (act sep other b c) _ (texts-filled sep other (escapes (act sep other b c)) s) e

-- octets in front of the first text
unfoldable prefixed : List ℕ → List (List ℕ) → List (List ℕ)
prefixed xs [] = []
prefixed xs (t ∷ ts) = (xs ++ t) ∷ ts

-- texts behind their first quote
unfoldable pub strings_behind : List (List ℕ) → List ℕ
strings_behind [] = []
strings_behind (t ∷ ts) = quoted t ++ values_json (map str ts)

-- to write the strings of ts from q on is to write those of us from p on, of which n - 1 are written
pub record Through (p q : Pen) (n : ℕ) (us ts : List (List ℕ)) : Type 0 where
  pub leads : Leads p (strings_behind us) q (strings_behind ts)
  pub count : length us + 1 ≡ n + length ts

module _ {p q r : Pen} {n : ℕ} {us : List (List ℕ)} where
  front-written : (xs zs : List ℕ) (ts : List (List ℕ)) → (ts ≡ [] → ⊥) → ((t : List ℕ) → quoted (xs ++ t) ≡ zs ++ quoted t) → Wrote q zs r → Through p q n us (prefixed xs ts) → Through p r n us ts
  unfolding prefixed strings_behind
  front-written xs zs [] f k w t = absurd (f refl)
  front-written xs zs (x ∷ ts) f k w t = record {
    leads = leads-on t.leads w (ap (λ (l : List ℕ). l ++ values_json (map str ts)) (k x) ∙ append_assoc zs (quoted x) (values_json (map str ts)));
    count = t.count;
  }

  octet-written : (c : ℕ) (ts : List (List ℕ)) → (ts ≡ [] → ⊥) → Wrote q (escaped c) r → Through p q n us (onto c ts) → Through p r n us ts
  unfolding onto prefixed quoted
  octet-written c [] f w t = absurd (f refl)
  octet-written c (x ∷ ts) f w t = front-written (c ∷ []) (escaped c) (x ∷ ts) f (λ y. refl) w t

  next-written : (ts : List (List ℕ)) → (ts ≡ [] → ⊥) → Wrote q (octets "\",\"") r → Through p q n us ([] ∷ ts) → Through p r (n + 1) us ts
  unfolding strings_behind quoted values_json print print_string
  next-written [] f w t = absurd (f refl)
  next-written (x ∷ ts) f w t = record { leads = leads-on t.leads w refl; count = omega arith }

last_written : {p q : Pen} {out : List ℕ} {e n : ℕ} {o : Option (List (List ℕ))} (us : List (List ℕ)) → (us ≡ [] → ⊥) → o ≡ some us → Wrote q (code "\"" ∷ []) (pen out e) → Through p q n us ([] ∷ []) → WroteTexts o p out (Some (e, n))
unfolding strings_behind quoted values_json
last_written [] f a w t = absurd (f refl)
last_written (u ∷ us) f a w t = (u, us, a, omega (arith, t.count), leads-last t.leads w refl)

one_more : (x : ℕ) (xs : List ℕ) (r : Option (List (List ℕ))) → (r ≡ some [] → ⊥) → map? (onto x) (map? (prefixed xs) r) ≡ map? (prefixed (x ∷ xs)) r
unfolding map? onto prefixed
one_more x xs none f = refl
one_more x xs (some []) f = absurd (f refl)
one_more x xs (some (t ∷ ts)) f = refl

none_more : (r : Option (List (List ℕ))) → r ≡ map? (prefixed []) r
unfolding map? prefixed
none_more none = refl
none_more (some []) = refl
none_more (some (t ∷ ts)) = refl

module _ (sep other : ℕ) where
  -- one octet by what it does
  octet-read : (b : Bool) (c d : ℕ) (s : List ℕ) → act sep other b c ≡ add d → texts_from sep other b (c ∷ s) ≡ map? (onto d) (texts_from sep other false s)
  unfolding texts_from done escapes
  octet-read b c d s e = rw e

  none_read : (b : Bool) (c : ℕ) (s : List ℕ) → act sep other b c ≡ stop → texts_from sep other b (c ∷ s) ≡ none
  unfolding texts_from done
  none_read b c s e = rw e

  -- a run
  module _ (k : text_as_is sep ≡ false) (l : text_as_is other ≡ false) where
    run-adds : (c : ℕ) → text_as_is c ≡ true → act sep other false c ≡ add c
    unfolding act text_as_is
    run-adds c h = rw (apart text_as_is c (code "\\") h (unfold text_as_is text_bare in refl), apart text_as_is c sep h k, apart text_as_is c other h l, as-is-plain c h)

    run-read : (xs ys : List ℕ) → all text_as_is xs ≡ true → texts_from sep other false (xs ++ ys) ≡ map? (prefixed xs) (texts_from sep other false ys)
    unfolding all
    run-read [] ys h = none_more (texts_from sep other false ys)
    run-read (x ∷ xs) ys h =
        let b = both (text_as_is x) (all text_as_is xs) h in
        octet-read false x x (xs ++ ys) (run-adds x b.0) ∙ ap (map? (onto x)) (run-read xs ys b.1) ∙ one_more x xs (texts_from sep other false ys) (texts-filled sep other false ys)

  -- a place, and what stands there
  module _ (s : List ℕ) (i : ℕ) (h : i < length s) where
    behind-backslash : get_or s i 0 ≡ code "\\" → texts_from sep other false (drop i s) ≡ texts_from sep other true (drop (i + 1) s)
    unfolding texts_from act done escapes
    behind-backslash x = rw (here s i h, x)

    -- the end does not stand for an octet
    no_end : {d : ℕ} → get_or s (i + 1) 0 ≡ 0 → act sep other true (get_or s (i + 1) 0) ≡ add d → ⊥
    unfolding act
    no_end {d} u v = let w : stop ≡ add d = rw u at v in let z : ◌≡◌ {A = ℕ} 0 1 = cc in omega arith

    module _ (x : get_or s i 0 ≡ code "\\") where
      pub step-escape : (d : ℕ) → act sep other true (get_or s (i + 1) 0) ≡ add d → StepsAt sep other s i (Some (Octet d (i + 2)))
      step-escape d a =
          let m : i + 1 + 1 ≡ i + 2 = omega arith in
          cases (ltb (i + 1) (length s))
          (λ t. let g = ltb-true (i + 1) (length s) t in
          (omega arith, omega arith, behind-backslash x ∙ rw (here s (i + 1) g, m) (octet-read true (get_or s (i + 1) 0) d (drop (i + 2) s) a)))
          (λ t. absurd (no_end (past_end s (i + 1) (ltb-false (i + 1) (length s) t)) a))

      pub step-wrong : act sep other true (get_or s (i + 1) 0) ≡ stop → StepsAt sep other s i None
      step-wrong a = behind-backslash x ∙ cases (ltb (i + 1) (length s))
          (λ t. rw (here s (i + 1) (ltb-true (i + 1) (length s) t)) (none_read true (get_or s (i + 1) 0) (drop (i + 1 + 1) s) a))
          (λ t. rw (ended s (i + 1) (ltb-false (i + 1) (length s) t)) (unfold texts_from in refl))

    module _ (b : get_or s i 0 ≡ code "\\" → ⊥) where
      pub step-separator : get_or s i 0 ≡ sep → StepsAt sep other s i (Some Separator)
      unfolding texts_from act done escapes
      step-separator x = rw (here s i h, ne_eqb (get_or s i 0) (code "\\") b, eq-eqb (get_or s i 0) sep x)

      module _ (x : get_or s i 0 ≡ sep → ⊥) where
        pub step_other : get_or s i 0 ≡ other → StepsAt sep other s i None
        step_other y = rw (here s i h) (none_read false _ _ (unfold act in rw (ne_eqb (get_or s i 0) (code "\\") b, ne_eqb (get_or s i 0) sep x, eq-eqb (get_or s i 0) other y)))

        module _ (y : get_or s i 0 ≡ other → ⊥) where
          pub step-control : plain_octet (get_or s i 0) ≡ false → StepsAt sep other s i None
          step-control z = rw (here s i h) (none_read false _ _ (unfold act in rw (ne_eqb (get_or s i 0) (code "\\") b, ne_eqb (get_or s i 0) sep x, ne_eqb (get_or s i 0) other y, z)))

          pub step-octet : plain_octet (get_or s i 0) ≡ true → StepsAt sep other s i (Some (Octet (get_or s i 0) (i + 1)))
          step-octet z = (omega arith, omega arith, rw (here s i h) (octet-read false _ (get_or s i 0) _ (unfold act in rw (ne_eqb (get_or s i 0) (code "\\") b, ne_eqb (get_or s i 0) sep x, ne_eqb (get_or s i 0) other y, z))))

module _ (sep other : ℕ) (s : List ℕ) where
  -- what is read and written up to i, and how many texts that are
  pub record Walked (p q : Pen) (n i : ℕ) : Type 0 where
    pub going : Going (Through p q n) (texts_from sep other false s) (texts_from sep other false (drop i s))
    pub written : (xs : List ℕ) × Wrote p xs q

  pub walked_start : {p : Pen} → Walked p p 1 0
  walked_start = record { going = going_start (λ ts. record { leads = leads-start; count = omega arith }); written = ([], nothing) }

  -- a text is left
  left : (j : ℕ) (ts : List (List ℕ)) → texts_from sep other false (drop j s) ≡ some ts → ts ≡ [] → ⊥
  left j ts e z = texts-filled sep other false (drop j s) (e ∙ ap some z)

  module _ {p q : Pen} {n i : ℕ} (g : Walked p q n i) where
    pub walked-run : {e : ℕ} {r : Pen} → text_as_is sep ≡ false → text_as_is other ≡ false → ClassRun text_as_is s i e → Wrote q (take (e - i) (drop i s)) r → Walked p r n e
    walked-run {e} k l v w =
        let xs = take (e - i) (drop i s) in
        record {
          going = going_on (prefixed xs) _ g.going (ap (texts_from sep other false) (part-rest s i e v.above) ∙ run-read sep other k l xs (drop e s) v.inside)
              (λ ts us f t. front-written xs xs ts (left e ts f) (λ y. quoted-run xs y v.inside) w t);
          written = (_, then g.written.1 w);
        }

    pub walked-octet : {r : Pen} (c j : ℕ) → StepsAt sep other s i (Some (Octet c j)) → Wrote q (escaped c) r → Walked p r n j
    walked-octet c j v w = record { going = going_on (onto c) _ g.going v.2 (λ ts us f t. octet-written c ts (left j ts f) w t); written = (_, then g.written.1 w) }

    pub walked_next : {r : Pen} → StepsAt sep other s i (Some Separator) → Wrote q (octets "\",\"") r → Walked p r (n + 1) (i + 1)
    walked_next v w = record { going = going_on (λ ts. [] ∷ ts) _ g.going v (λ ts us f t. next-written ts (left (i + 1) ts f) w t); written = (_, then g.written.1 w) }

    pub walked_end : (out : List ℕ) (e : ℕ) → length s ≤ i → Wrote q (code "\"" ∷ []) (pen out e) → WroteTexts (texts_from sep other false s) p out (Some (e, n))
    unfolding texts_from
    walked_end out e h w =
        let b = g.going.stands ([] ∷ []) (ap (texts_from sep other false) (ended s i h)) in
        last_written b.0 (left 0 b.0 b.1) b.1 w b.2

    pub walked-wrong : StepsAt sep other s i None → WroteTexts (texts_from sep other false s) p q.buf None
    walked-wrong v = (g.going.fails v, front-wrote g.written.1)
