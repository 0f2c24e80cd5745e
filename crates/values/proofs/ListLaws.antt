-- The laws of a property's values from the law of one value: of a value that stands alone, and of values between commas.
use Prim.Native.Nat.{ℕ}
use Prim.Native.Char.{code}
use mathlib.Core.Path.{◌≡◌, refl, sym, ap, ◌∙◌}
use mathlib.Core.Bool.{true, false}
use mathlib.Core.List.{List, [], ◌∷◌, map}
use mathlib.Core.Option.{Option, some}
use Rattle.octets.specs.Basics.{all, filled, single, All}
use Rattle.octets.specs.Pieces.{split, joined}
use Rattle.octets.specs.Optional.{both?, each}
use Rattle.octets.specs.Classes.{is_control, plain_octet}
use Rattle.octets.specs.Utf8.{clean}
use Rattle.octets.proofs.Cases.{and-true, never, all-All, All-all}
use Rattle.octets.proofs.Optional.{each_none, each-is}
use Rattle.octets.proofs.Pieces.{Free, split-joined, split-free, split-filled, joined-split}
use Rattle.octets.proofs.Utf8.{ascii}
use Rattle.json_text.specs.Tree.{Json}
use Rattle.content.proofs.WrittenClean.{clean-joined}
use Rattle.values.specs.Sorts.{Sort, sort_splits}
use Rattle.values.specs.Read.{read_values}
use Rattle.values.specs.Write.{value_is, value_text, values_text}
use Rattle.values.proofs.Neat.{Neat}

-- a value j of a sort that the rule R reads from s: what is written is read again, and passes the tests of jCal; of a clean text it is neat, and
-- what is written is clean
pub record Item (sort : Sort) (R : List ℕ → Option Json) (s : List ℕ) (j : Json) : Type 0 where
  pub again : R (value_text sort j) ≡ some j
  pub is : value_is sort j ≡ true
  pub line : clean s ≡ true → clean (value_text sort j) ≡ true
  pub neat : clean s ≡ true → Neat 2 j

abbrev pub ItemLaw : Sort → (List ℕ → Option Json) → Type 0
ItemLaw sort R = (s : List ℕ) (j : Json) → R s ≡ some j → Item sort R s j

-- and no comma comes in
abbrev pub CommaLaw : Sort → (List ℕ → Option Json) → Type 0
CommaLaw sort R = (s : List ℕ) (j : Json) → Free (code ",") s → R s ≡ some j → Free (code ",") (value_text sort j)

abbrev pub ListLaw : Sort → (List ℕ → Option Json) → Type 0
ListLaw sort R = ItemLaw sort R × CommaLaw sort R

-- the same of all values of a property
pub record Held (sort : Sort) (raw : List ℕ) (vs : List Json) : Type 0 where
  pub again : read_values sort (values_text sort vs) ≡ some vs
  -- no value's text runs into another's: each is read as that value alone
  pub pieces : All (λ j. read_values sort (value_text sort j) ≡ some (j ∷ [])) vs
  pub are : all (value_is sort) vs ≡ true
  pub one-or-more : filled vs ≡ true
  pub only : sort_splits sort ≡ false → single vs ≡ true
  pub line : clean raw ≡ true → clean (values_text sort vs) ≡ true
  pub neat : clean raw ≡ true → All (Neat 2) vs

-- the separators of values
pub comma-low : ascii (code ",") ≡ true
unfolding ascii
comma-low = refl

pub comma-plain : plain_octet (code ",") ≡ true
unfolding plain_octet is_control
comma-plain = refl

-- what each element tells
pub each-All : {A B : Type 0} (f : A → Option B) (P : A → Type 0) (Q : B → Type 0) → ((a : A) (b : B) → P a → f a ≡ some b → Q b)
    → (xs : List A) (bs : List B) → All P xs → each f xs ≡ some bs → All Q bs
each-All f P Q k [] bs h e = rw (each_none f bs e) tt
each-All f P Q k (a ∷ xs) bs h e = each-is f a xs bs e (λ b cs p q w. rw (← w) (k a b h.0 p, each-All f P Q k xs cs h.1 q))

pub All-map : {A B : Type 0} (P : B → Type 0) (f : A → B) (xs : List A) → All (λ a. P (f a)) xs → All P (map f xs)
All-map P f [] h = tt
All-map P f (a ∷ xs) h = (h.0, All-map P f xs h.1)

pub each-filled : {A B : Type 0} (f : A → Option B) (xs : List A) (bs : List B) → (xs ≡ [] → ⊥) → each f xs ≡ some bs → filled bs ≡ true
each-filled f [] bs n e = absurd (n refl)
each-filled f (a ∷ xs) bs n e = each-is f a xs bs e (λ b cs p q w. rw (← w) (unfold filled in refl))

-- a value that stands alone
module _ (sort : Sort) (R : List ℕ → Option Json) (law : ItemLaw sort R) (reads : (s : List ℕ) → read_values sort s ≡ each R (s ∷ [])) where
  single-text : (j : Json) → values_text sort (j ∷ []) ≡ value_text sort j
  unfolding values_text joined
  single-text j = refl

  single-piece : (j : Json) → R (value_text sort j) ≡ some j → read_values sort (value_text sort j) ≡ some (j ∷ [])
  unfolding each both?
  single-piece j e = reads (value_text sort j) ∙ rw e

  single-held : (raw : List ℕ) (j : Json) → Item sort R raw j → Held sort raw (j ∷ [])
  unfolding all filled single
  single-held raw j h = record {
    again = rw (single-text j) (single-piece j h.again);
    pieces = (single-piece j h.again, tt);
    are = and-true h.is refl;
    one-or-more = refl;
    only = λ n. refl;
    line = λ c. rw (single-text j) (h.line c);
    neat = λ c. (h.neat c, tt);
  }

  pub alone-held : (raw : List ℕ) (vs : List Json) → read_values sort raw ≡ some vs → Held sort raw vs
  alone-held raw vs e = each-is R raw [] vs (sym (reads raw) ∙ e) (λ j ws q u w. rw (← w, each_none R ws u) (single-held raw j (law raw j q)))

-- a way to cut values at commas: what is cut is `From`, and pieces that are `To`, with commas between them, are cut into the same
pub record Cuts (cuts : List ℕ → List (List ℕ)) (From To : List ℕ → Type 0) : Type 0 where
  pub pieces : (s : List ℕ) → All From (cuts s)
  pub filled : (s : List ℕ) → cuts s ≡ [] → ⊥
  pub again : (l : List ℕ) (ls : List (List ℕ)) → All To (l ∷ ls) → cuts (joined (code ",") (l ∷ ls)) ≡ l ∷ ls
  pub whole : (s : List ℕ) → joined (code ",") (cuts s) ≡ s

pub at-commas : Cuts (split (code ",")) (Free (code ",")) (Free (code ","))
at-commas = record { pieces = split-free (code ","); filled = split-filled (code ","); again = split-joined (code ","); whole = joined-split (code ",") }

-- values between commas
pub each-written : {A : Type 0} (R : List ℕ → Option A) (W : A → List ℕ) (vs : List A) → All (λ v. R (W v) ≡ some v) vs → each R (map W vs) ≡ some vs
unfolding each both?
each-written R W [] h = refl
each-written R W (v ∷ vs) h = rw (h.0, each-written R W vs h.1)

module _ (sort : Sort) (R : List ℕ → Option Json) (cuts : List ℕ → List (List ℕ)) {From To : List ℕ → Type 0} (way : Cuts cuts From To) (law : ItemLaw sort R)
    (comma : (s : List ℕ) (j : Json) → From s → R s ≡ some j → To (value_text sort j)) (reads : (s : List ℕ) → read_values sort s ≡ each R (cuts s)) (many : sort_splits sort ≡ true) where
  one_piece : (j : Json) → R (value_text sort j) ≡ some j → To (value_text sort j) → read_values sort (value_text sort j) ≡ some (j ∷ [])
  unfolding each both? joined
  one_piece j e f = reads (value_text sort j) ∙ rw (way.again (value_text sort j) [] (f, tt), e)

  module _ (raw : List ℕ) (vs : List Json) (e : each R (cuts raw) ≡ some vs) where
    -- what each value tells
    told : (P : List ℕ → Type 0) (Q : Json → Type 0) → ((s : List ℕ) (j : Json) → P s → R s ≡ some j → Q j) → All P (cuts raw) → All Q vs
    told P Q f h = each-All R P Q f (cuts raw) vs h e

    from : (Q : Json → Type 0) → ((s : List ℕ) (j : Json) → From s → R s ≡ some j → Q j) → All Q vs
    from Q f = told From Q f (way.pieces raw)

    clean-pieces : clean raw ≡ true → All (λ s. clean s ≡ true) (cuts raw)
    clean-pieces c = all-All clean (cuts raw) (sym (clean-joined (code ",") comma-low comma-plain (cuts raw)) ∙ ap clean (way.whole raw) ∙ c)

    list-line : clean raw ≡ true → clean (values_text sort vs) ≡ true
    unfolding values_text
    list-line c =
        clean-joined (code ",") comma-low comma-plain (map (value_text sort) vs)
        ∙ All-all clean (map (value_text sort) vs) (All-map (λ s. clean s ≡ true) (value_text sort) vs
        (told (λ s. clean s ≡ true) (λ j. clean (value_text sort j) ≡ true) (λ s j d q. (law s j q).line d) (clean-pieces c)))

    again : read_values sort (values_text sort vs) ≡ some vs
    unfolding values_text
    again = reads (joined (code ",") (map (value_text sort) vs)) ∙ cut_again vs (each-filled R (cuts raw) vs (way.filled raw) e) (from (λ j. To (value_text sort j)) comma)
        ∙ each-written R (value_text sort) vs (from (λ j. R (value_text sort j) ≡ some j) (λ s j f q. (law s j q).again))
      where
        cut_again : (vs : List Json) → filled vs ≡ true → All (λ j. To (value_text sort j)) vs → each R (cuts (joined (code ",") (map (value_text sort) vs))) ≡ each R (map (value_text sort) vs)
        cut_again [] h f = never h (unfold filled in refl)
        cut_again (v ∷ vs) h f = rw (way.again (value_text sort v) (map (value_text sort) vs) (f.0, All-map To (value_text sort) vs f.1))

  pub listed-held : (raw : List ℕ) (vs : List Json) → read_values sort raw ≡ some vs → Held sort raw vs
  listed-held raw vs e =
      let f = sym (reads raw) ∙ e in
      record {
        again = again raw vs f;
        pieces = from raw vs f (λ j. read_values sort (value_text sort j) ≡ some (j ∷ [])) (λ s j h q. one_piece j (law s j q).again (comma s j h q));
        are = All-all (value_is sort) vs (from raw vs f (λ j. value_is sort j ≡ true) (λ s j h q. (law s j q).is));
        one-or-more = each-filled R (cuts raw) vs (way.filled raw) f;
        only = λ n. never many n;
        line = list-line raw vs f;
        neat = λ c. told raw vs f (λ s. clean s ≡ true) (Neat 2) (λ s j d q. (law s j q).neat d) (clean-pieces raw vs f c);
      }

-- values between any commas
pub split-held : (sort : Sort) (R : List ℕ → Option Json) → ListLaw sort R → ((s : List ℕ) → read_values sort s ≡ each R (split (code ",") s)) → sort_splits sort ≡ true
    → (raw : List ℕ) (vs : List Json) → read_values sort raw ≡ some vs → Held sort raw vs
split-held sort R law = listed-held sort R (split (code ",")) at-commas law.0 law.1
