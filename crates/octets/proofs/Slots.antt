-- Names found again by a table of slots.
use Prim.Native.Nat.{ℕ, zero, suc, ◌+◌, ◌-◌, ◌*◌, ◌/◌, ◌%◌, ◌≤◌, ◌<◌, min}
use mathlib.Core.Path.{◌≡◌, refl, sym, ap, ◌∙◌}
use mathlib.Core.Bool.{Bool, true, false}
use mathlib.Core.Logic.{inl, inr}
use mathlib.Core.List.{List, [], ◌∷◌, map}
use native.Mathlib.Omega.{arith}
use borrow.Author.Tests.{ne_eqb, eqb-true, eqb-false, ltb-true, ltb-false, leb-true, leb-false}
use lib.Dec.{eqb, ltb, leb}
use lib.ListN.{length, take, drop, get_or, set, replicate, length-drop}
use lib.Seq.{take_all, drop-set-lt, drop-set-add, get_or-drop, get_or-set_same, get_or-set_other}
use Rattle.octets.specs.Basics.{◌and◌, ◌or◌, any, same, among, twice}
use Rattle.octets.specs.Groups.{cased}
use Rattle.octets.specs.Slots.{slot_from, slot_of, passed, slot_in, stands, in_table, Blank, wide, slot_for, name_in, Enters}
use Rattle.octets.specs.declared.names.Case.{Case}
use Rattle.octets.specs.declared.tables.Entering.TheVariants.{Seen, Stored, Full}
use Rattle.octets.proofs.Cases.{cases, same?, never, both, or-first, or-second, or-false, either, neither}
use Rattle.octets.proofs.Classes.{same-itself, same-is}
use Rattle.octets.proofs.Positions.{here, ended, from, past_end}

-- the slot of a name, octet by octet; f turns its octets into one case
module _ (f : ℕ → ℕ) (n : List ℕ) where
  pub slot-start : slot_from 0 (map f (drop 0 n)) ≡ slot_of (map f n)
  unfolding slot_of
  slot-start = refl

  module _ (i h : ℕ) where
    pub slot-on : i < length n → slot_from ((h * 15541 + f (get_or n i 0)) % 16381) (map f (drop (i + 1) n)) ≡ slot_from h (map f (drop i n))
    unfolding slot_from
    slot-on l = rw (here n i l)

    pub slot-end : length n ≤ i → h ≡ slot_from h (map f (drop i n))
    unfolding slot_from
    slot-end l = rw (ended n i l)

take_none : (n : ℕ) → take {A = ℕ} n [] ≡ []
take_none zero = refl
take_none (suc n) = refl

-- the octets between two places, which need not stand in s
between-places : (s : List ℕ) (a b : ℕ) → take (min b (length s) - min a (min b (length s))) (drop (min a (min b (length s))) s) ≡ take (b - a) (drop a s)
between-places s a b = cases (leb a (min b (length s)))
    (λ e.
    let l : a ≤ min b (length s) = leb-true a (min b (length s)) e in
    let m : min a (min b (length s)) ≡ a = omega arith in
    rw m (cases (leb b (length s))
    (λ f. let n : min b (length s) ≡ b = (let k = leb-true b (length s) f in omega arith) in rw n)
    (λ f.
    let k : length s < b = leb-false b (length s) f in
    let n : min b (length s) ≡ length s = omega arith in
    rw (n, from s a) (sym (take_all (b - a) (drop a s) (rw (length-drop a s) (omega arith)))))))
    (λ e.
    let l : min b (length s) < a = leb-false a (min b (length s)) e in
    let m : min a (min b (length s)) ≡ min b (length s) = omega arith in
    let z : min b (length s) - min b (length s) ≡ 0 = omega arith in
    rw (m, z) (cases (leb a b)
    (λ f.
    let k : length s ≤ a = (let g = leb-true a b f in omega arith) in
    rw (ended s a k) (sym (take_none (b - a))))
    (λ f.
    let y : b - a ≡ 0 = (let g = leb-false a b f in omega arith) in
    rw y)))

pub cut-to : (s : List ℕ) (a b i j : ℕ) → j ≡ min b (length s) → i ≡ min a j → take (j - i) (drop i s) ≡ take (b - a) (drop a s)
cut-to s a b i j e f = rw (f, e) (between-places s a b)

-- a slot holds the name whose ends it was made for
module _ (case : Case) (s : List ℕ) (a b : ℕ) (z : (slot_for a b ≡ 0) → ⊥) where
  pub slot-holds : name_in case s (slot_for a b) ≡ map (cased case) (take (b - a) (drop a s))
  unfolding slot_for name_in
  slot-holds = cases (leb a b and ltb b wide)
      (λ e.
      let l : b < wide = ltb-true b wide (both (leb a b) (ltb b wide) e).1 in
      let q : (a * wide + b) / wide ≡ a = omega arith in
      let r : (a * wide + b) % wide ≡ b = omega arith in
      rw (e, q, r))
      (λ e. absurd (z (rw e)))

-- n is looked for from the slot q on
module _ (name : ℕ → List ℕ) (n table : List ℕ) where
  pub seeking-start : slot_in name n table ≡ slot_of n + passed name n (drop (slot_of n) table)
  unfolding slot_in
  seeking-start = refl

  module _ (q : ℕ) where
    pub seeking-end : length table ≤ q → q ≡ q + passed name n (drop q table)
    unfolding passed
    seeking-end h = rw (ended table q h) (omega arith)

    module _ (h : q < length table) where
      pub seeking-free : get_or table q 0 ≡ 0 → q ≡ q + passed name n (drop q table)
      unfolding passed
      seeking-free z = rw (here table q h, z) (omega arith)

      pub seeking-there : same n (name (get_or table q 0)) ≡ true → q ≡ q + passed name n (drop q table)
      unfolding passed
      seeking-there e = rw (here table q h, or-second (eqb (get_or table q 0) 0) e) (omega arith)

      pub seeking-on : ((get_or table q 0 ≡ 0) → ⊥) → same n (name (get_or table q 0)) ≡ false → q + passed name n (drop q table) ≡ q + 1 + passed name n (drop (q + 1) table)
      unfolding passed
      seeking-on z e = rw (here table q h, or-false (ne_eqb _ 0 z) e) (omega arith)

-- what stands in the slot at which the search ends
module _ (name : ℕ → List ℕ) (n : List ℕ) where
  ends_there : (ps : List ℕ) → ((get_or ps (passed name n ps) 0 ≡ 0) → ⊥) → same n (name (get_or ps (passed name n ps) 0)) ≡ true
  unfolding passed
  ends_there [] z = absurd (z refl)
  ends_there (p ∷ ps) z = cases (eqb p 0 or same n (name p))
      (λ e. either (eqb p 0) (same n (name p)) e
      (λ f. absurd (z (rw e (eqb-true p 0 f))))
      (λ f. rw e f))
      (λ e. rw e (ends_there ps (rw e at z)))

  ends-absent : (ps : List ℕ) → get_or ps (passed name n ps) 0 ≡ 0 → stands name n ps ≡ false
  unfolding passed stands
  ends-absent [] z = refl
  ends-absent (p ∷ ps) z = cases (eqb p 0)
      (λ e. rw e)
      (λ e. cases (same n (name p))
      (λ f. never (rw (or-second (eqb p 0) f) at (ap (λ x. eqb x 0) z)) e)
      (λ f. rw (e, f) (ends-absent ps (rw (or-false e f) at z))))

  ends-filled : (ps : List ℕ) (p : ℕ) → ((p ≡ 0) → ⊥) → name p ≡ n → passed name n ps < length ps → stands name n (set ps (passed name n ps) p) ≡ true
  unfolding passed stands
  ends-filled [] p z k h = absurd (omega arith)
  ends-filled (q ∷ ps) p z k h = cases (eqb q 0 or same n (name q))
      (λ e. rw (e, ne_eqb p 0 z, k, same-itself n))
      (λ e. let b = neither (eqb q 0) (same n (name q)) e in rw (e, b.0, b.1) (ends-filled ps p z k (let l = rw e at h in omega arith)))

  module _ (table : List ℕ) (r : ℕ) (e : r ≡ slot_in name n table) where
    slot-octet : get_or (drop (slot_of n) table) (passed name n (drop (slot_of n) table)) 0 ≡ get_or table r 0
    slot-octet = get_or-drop (slot_of n) table (passed name n (drop (slot_of n) table)) 0 ∙ rw (e ∙ seeking-start name n table)

    pub slot-there : ((get_or table r 0 ≡ 0) → ⊥) → same n (name (get_or table r 0)) ≡ true
    slot-there z = rw slot-octet at (ends_there (drop (slot_of n) table) (λ k. z (sym slot-octet ∙ k)))

    pub slot-absent : get_or table r 0 ≡ 0 → in_table name n table ≡ false
    unfolding in_table
    slot-absent z = ends-absent (drop (slot_of n) table) (slot-octet ∙ z)

    pub slot-filled : r < length table → (p : ℕ) → ((p ≡ 0) → ⊥) → name p ≡ n → in_table name n (set table r p) ≡ true
    unfolding in_table
    slot-filled h p z k =
        let q : r ≡ slot_of n + passed name n (drop (slot_of n) table) = e ∙ seeking-start name n table in
        let l : passed name n (drop (slot_of n) table) < length (drop (slot_of n) table) = rw (length-drop (slot_of n) table) (omega arith) in
        rw (q, drop-set-add (slot_of n) table (passed name n (drop (slot_of n) table)) p) (ends-filled (drop (slot_of n) table) p z k l)

-- the search for n ended at the slot q
module _ (name : ℕ → List ℕ) (n old : List ℕ) (q : ℕ) (e : q ≡ slot_in name n old) where
  -- where n is seen, what a slot would hold for it plays no part
  pub enters-seen : ((get_or old q 0 ≡ 0) → ⊥) → Enters name n 0 old old Seen
  enters-seen z = rw (sym e) (refl, z)

  pub enters_none : (p : ℕ) → length old ≤ q → Enters name n p old old Full
  enters_none p l = rw (sym e) (refl, past_end old q l, inl l)

  pub enters-not : (p : ℕ) → get_or old q 0 ≡ 0 → p ≡ 0 → Enters name n p old old Full
  enters-not p z o = rw (sym e) (refl, z, inr o)

  pub enters-stored : (p : ℕ) → ((p ≡ 0) → ⊥) → name p ≡ n → q < length old → get_or old q 0 ≡ 0 → Enters name n p old (set old q p) Stored
  enters-stored p o k h z = rw (sym e) (o, k, h, z, refl)

-- a name that stands in a table stands there after a free slot is filled
stands_set : (name : ℕ → List ℕ) (n ps : List ℕ) (m p : ℕ) → get_or ps m 0 ≡ 0 → stands name n ps ≡ true → stands name n (set ps m p) ≡ true
unfolding stands
stands_set name n [] m p z h = h
stands_set name n (q ∷ ps) zero p z h = never h (rw z)
stands_set name n (q ∷ ps) (suc m) p z h = cases (eqb q 0)
    (λ e. never h (rw e))
    (λ e. rw e (either (same n (name q)) (stands name n ps) (rw e at h) (λ f. or-first _ f) (λ f. or-second (same n (name q)) (stands_set name n ps m p z f))))

table-set : (name : ℕ → List ℕ) (n table : List ℕ) (r p : ℕ) → get_or table r 0 ≡ 0 → in_table name n table ≡ true → in_table name n (set table r p) ≡ true
unfolding in_table
table-set name n table r p z h = cases (ltb r (slot_of n))
    (λ e. rw (drop-set-lt (slot_of n) table r p (ltb-true r (slot_of n) e)) h)
    (λ e.
    let l : slot_of n ≤ r = ltb-false r (slot_of n) e in
    let q : slot_of n + (r - slot_of n) ≡ r = omega arith in
    rw (← q, drop-set-add (slot_of n) table (r - slot_of n) p) (stands_set name n (drop (slot_of n) table) (r - slot_of n) p (get_or-drop (slot_of n) table (r - slot_of n) 0 ∙ rw q z) h))

-- none of these names stands in the table
abbrev Fresh : (ℕ → List ℕ) → List ℕ → List (List ℕ) → Type 0
Fresh name table [] = Unit {0}
Fresh name table (n ∷ ns) = (in_table name n table ≡ false) × Fresh name table ns

fresh-before : (name : ℕ → List ℕ) (table : List ℕ) (r p : ℕ) → get_or table r 0 ≡ 0 → (ns : List (List ℕ)) → Fresh name (set table r p) ns → Fresh name table ns
fresh-before name table r p z [] f = tt
fresh-before name table r p z (n ∷ ns) f =
    (cases (in_table name n table) (λ e. never (table-set name n table r p z e) f.0) (λ e. e), fresh-before name table r p z ns f.1)

fresh-name : (name : ℕ → List ℕ) (table n : List ℕ) → in_table name n table ≡ true → (ns : List (List ℕ)) → Fresh name table ns → among n ns ≡ false
unfolding among any
fresh-name name table n h [] f = refl
fresh-name name table n h (m ∷ ns) f = cases (same n m)
    (λ e. never h (ap (λ (x : List ℕ). in_table name x table) (same-is n m e) ∙ f.0))
    (λ e. rw (e, fresh-name name table n h ns f.1))

-- Those of all the names that are not left are in the table, and differ: the names left tell whether one of all stands twice.
pub record Noting (name : ℕ → List ℕ) (table : List ℕ) (all left : List (List ℕ)) : Type 0 where
  pub rest : twice all ≡ false → twice left ≡ false
  pub noted : (q : ℕ) → ((get_or table q 0 ≡ 0) → ⊥) → twice all ≡ false → among (name (get_or table q 0)) left ≡ false
  pub whole : Fresh name table left → twice left ≡ false → twice all ≡ false

pub blank : (n : ℕ) → Blank (replicate n 0)
blank zero q = refl
blank (suc n) zero = refl
blank (suc n) (suc q) = blank n q

pub noting-start : {name : ℕ → List ℕ} {table : List ℕ} {all : List (List ℕ)} → Blank table → Noting name table all all
noting-start b = record { rest = λ d. d; noted = λ q n d. absurd (n (b q)); whole = λ f d. d }

pub noting-end : {name : ℕ → List ℕ} {table : List ℕ} {all : List (List ℕ)} → Noting name table all [] → twice all ≡ false
unfolding twice
noting-end g = g.whole tt refl

-- a test that cannot fail passes
passes : (b : Bool) → (b ≡ false → b ≡ true) → b ≡ true
passes b f = cases b (λ e. e) f

module _ {name : ℕ → List ℕ} {table n : List ℕ} {all left : List (List ℕ)} (g : Noting name table all (n ∷ left)) where
  once : twice all ≡ false → (among n left ≡ false) × (twice left ≡ false)
  unfolding twice
  once d = neither (among n left) (twice left) (g.rest d)

  later : (m : List ℕ) → among m (n ∷ left) ≡ false → among m left ≡ false
  unfolding among any
  later m h = (neither (same m n) (any (same m) left) h).1

  joined : among n left ≡ false → twice left ≡ false → twice (n ∷ left) ≡ false
  unfolding twice
  joined a d = rw (a, d)

  -- the name stands behind, among those left
  pub noting-twice : among n left ≡ true → twice all ≡ true
  noting-twice h = passes _ (λ d. never h (once d).0)

  -- what became of the name that is entered
  pub noting-seen : ((get_or table (slot_in name n table) 0 ≡ 0) → ⊥) → twice all ≡ true
  unfolding among any
  noting-seen z = passes _ (λ d.
      let q = slot_in name n table in
      let e : same n (name (get_or table q 0)) ≡ true = slot-there name n table q refl z in
      let f : among n (n ∷ left) ≡ false = ap (λ (x : List ℕ). among x (n ∷ left)) (same-is n _ e) ∙ g.noted q z d in
      never (same-itself n) (neither (same n n) (any (same n) left) f).0)

  module _ {p : ℕ} {new : List ℕ} where
    pub noting-full : Enters name n p table new Full → among n left ≡ false → Noting name new all left
    noting-full (c, z, o) h = rw c (record {
      rest = λ d. (once d).1;
      noted = λ q y d. later _ (g.noted q y d);
      whole = λ w d. g.whole (slot-absent name n table (slot_in name n table) refl z, w) (joined h d);
    })

    pub noting-stored : Enters name n p table new Stored → Noting name new all left
    noting-stored (o, k, h, z, c) =
        let r = slot_in name n table in
        let i : in_table name n (set table r p) ≡ true = slot-filled name n table r refl h p o k in
        rw c (record {
          rest = λ d. (once d).1;
          noted = λ q y d. same? q r
              (λ e. rw (e, get_or-set_same table r p 0 h, k) (once d).0)
              (λ e. let w = get_or-set_other table r q p 0 (eqb-false q r e) in rw w (later _ (g.noted q (rw w at y) d)));
          whole = λ f d. g.whole (slot-absent name n table r refl z, fresh-before name table r p z left f) (joined (fresh-name name (set table r p) n i left f) d);
        })
