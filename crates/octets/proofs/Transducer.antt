-- A transducer: a state, a step and what is put out for one octet. It keeps UTF-8 if it changes, drops and puts in ASCII octets only.
use Prim.Native.Nat.{ℕ}
use mathlib.Core.Path.{◌≡◌, refl, sym, ◌∙◌}
use mathlib.Core.Bool.{Bool, true, false}
use mathlib.Core.List.{List, [], ◌∷◌, ◌++◌}
use Rattle.octets.specs.Basics.{all}
use Rattle.octets.specs.Utf8.{Due, start, due, due_after, is_start, utf8}
use Rattle.octets.proofs.Cases.{cases, both, all_append}
use Rattle.octets.proofs.Utf8.{ascii, due-append, broken-stays, broken-start, start_is, utf8-start, start-utf8, due-ascii, ascii-utf8}

module _ (Q : Type 0) (next : Q → ℕ → Q) (out : Q → ℕ → List ℕ) (last : Q → List ℕ) where
  -- `run` is the transducer
  pub record Runs (run : Q → List ℕ → List ℕ) : Type 0 where
    pub ends : (q : Q) → run q [] ≡ last q
    pub steps : (q : Q) (c : ℕ) (s : List ℕ) → run q (c ∷ s) ≡ out q c ++ run (next q c) s

  -- `pre` is what waits to be put out in front of an octet of 128 and more
  pub record Keeps (pre : Q → List ℕ) : Type 0 where
    pub high : (q : Q) (c : ℕ) → ascii c ≡ false → out q c ≡ pre q ++ c ∷ []
    pub calm : (q : Q) (c : ℕ) → ascii c ≡ false → pre (next q c) ≡ []
    pub lows : (q : Q) (c : ℕ) → ascii c ≡ true → all ascii (out q c) ≡ true
    pub pres : (q : Q) → all ascii (pre q) ≡ true
    pub lasts : (q : Q) → all ascii (last q) ≡ true

  module _ (run : Q → List ℕ → List ℕ) (runs : Runs run) where
    -- a test that every octet put out passes, where the octets read pass theirs
    pub run-all : (p r : ℕ → Bool) → ((q : Q) (c : ℕ) → p c ≡ true → all r (out q c) ≡ true) → ((q : Q) → all r (last q) ≡ true)
        → (s : List ℕ) (q : Q) → all p s ≡ true → all r (run q s) ≡ true
    unfolding all
    run-all p r each end [] q h = rw (runs.ends q) (end q)
    run-all p r each end (c ∷ s) q h =
        let b = both (p c) (all p s) h in
        rw (runs.steps q c s, all_append r (out q c) (run (next q c) s), each q c b.0) (run-all p r each end s (next q c) b.1)

    module _ (pre : Q → List ℕ) (k : Keeps pre) where
      -- nothing waits, or a character begins here
      data Calm (d : Due) (q : Q) : Type 0 where
        quiet : pre q ≡ [] → Calm d q
        begin : d ≡ start → Calm d q

      before-high : (d : Due) (q : Q) → Calm d q → due_after d (pre q) ≡ d
      before-high d q (quiet e) = rw e (unfold due_after in refl)
      before-high d q (begin e) = rw e (utf8-start (pre q) (ascii-utf8 (pre q) (k.pres q)))

      step-high : (d : Due) (q : Q) (c : ℕ) (r : List ℕ) → Calm d q → ascii c ≡ false → due_after d (out q c ++ r) ≡ due_after (due d c) r
      step-high d q c r m h =
          rw (k.high q c h, due-append d (pre q ++ c ∷ []) r, due-append d (pre q) (c ∷ []), before-high d q m) (unfold due_after in refl)

      -- at an ASCII octet a character begins, or the text is broken
      step-low : (d : Due) (q : Q) (c : ℕ) (s r : List ℕ) → ascii c ≡ true → due_after (due d c) s ≡ start
          → (due_after start s ≡ start → due_after start r ≡ start) → due_after d (out q c ++ r) ≡ start
      step-low d q c s r h e ih = cases (is_start d)
          (λ a. rw (start_is d a, due-append start (out q c) r, utf8-start (out q c) (ascii-utf8 (out q c) (k.lows q c h)))
          (ih (rw (due-ascii d c h, a) at e)))
          (λ a. broken-start (sym (broken-stays s) ∙ (rw (due-ascii d c h, a) at e)))

      run-due : (s : List ℕ) (d : Due) (q : Q) → Calm d q → due_after d s ≡ start → due_after d (run q s) ≡ start
      unfolding due_after
      run-due [] d q m e = rw (runs.ends q, e) (utf8-start (last q) (ascii-utf8 (last q) (k.lasts q)))
      run-due (c ∷ s) d q m e = cases (ascii c)
          (λ h. rw (runs.steps q c s) (step-low d q c s (run (next q c) s) h e (run-due s start (next q c) (begin refl))))
          (λ h. rw (runs.steps q c s, step-high d q c (run (next q c) s) m h) (run-due s (due d c) (next q c) (quiet (k.calm q c h)) e))

      pub run-utf8 : (s : List ℕ) (q : Q) → utf8 s ≡ true → utf8 (run q s) ≡ true
      run-utf8 s q h = start-utf8 (run q s) (run-due s start q (begin refl) (utf8-start s h))
