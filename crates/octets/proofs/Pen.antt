-- The laws of the pen: two writes are one, what fits stands at its place, and what a loop has left to write.
use Prim.Native.Nat.{ℕ, suc, ◌+◌, ◌≤◌, ◌<◌}
use mathlib.Core.Path.{◌≡◌, refl, sym, ap, ◌∙◌}
use mathlib.Core.List.{List, [], ◌∷◌, ◌++◌}
use native.Mathlib.Numerals.{add-one}
use native.Mathlib.Nat.{add-zero, zero-add}
use native.Mathlib.Omega.{arith}
use borrow.Author.Tests.{lt-ltb, le-ltb, ltb-true, ltb-false}
use borrow.Rule.Slice.PartMut.{put_mid}
use lib.Dec.{ltb}
use lib.ListN.{length, set, take, drop, length-set}
use lib.Seq.{sets, sets-eq, take-append_seam, take_all, take-take, take-set-le}
use Rattle.std.proofs.lemmas.Slice.{put_mid-paste}
use Rattle.octets.specs.Pen.{Pen, pen, wrote_one, wrote, Wrote, FrontKept}
use Rattle.octets.proofs.Cases.{cases}

pub wrote-append : (p : Pen) (xs ys : List ℕ) → wrote p (xs ++ ys) ≡ wrote (wrote p xs) ys
unfolding wrote
wrote-append p [] ys = refl
wrote-append p (x ∷ xs) ys = wrote-append (wrote_one p x) xs ys

pub nothing : {p : Pen} → Wrote p [] p
unfolding wrote
nothing = record { is = refl }

pub then : {p q r : Pen} {xs ys : List ℕ} → Wrote p xs q → Wrote q ys r → Wrote p (xs ++ ys) r
then {p} {q} {r} {xs} {ys} a b = record { is = b.is ∙ rw a.is (sym (wrote-append p xs ys)) }

-- the same text under another name
pub as-text : {p q : Pen} {xs ys : List ℕ} → Wrote p xs q → xs ≡ ys → Wrote p ys q
as-text w e = rw (← e) w

-- an octet where there is room, and where there is none
pub one : (o : List ℕ) (at x : ℕ) → at < length o → Wrote (pen o at) (x ∷ []) (pen (set o at x) (at + 1))
unfolding wrote wrote_one
one o at x h = record { is = rw (lt-ltb at (length o) h) }

pub none : (o : List ℕ) (at x : ℕ) → length o ≤ at → Wrote (pen o at) (x ∷ []) (pen o (length o + 1))
unfolding wrote wrote_one
none o at x h = record { is = rw (le-ltb at (length o) h) }

-- the length stays
one-length : (p : Pen) (x : ℕ) → length (wrote_one p x).buf ≡ length p.buf
unfolding wrote_one
one-length p x = cases (ltb p.at (length p.buf)) (λ e. rw (e, length-set)) (λ e. rw e)

wrote-length : (p : Pen) (xs : List ℕ) → length (wrote p xs).buf ≡ length p.buf
unfolding wrote
wrote-length p [] = refl
wrote-length p (x ∷ xs) = wrote-length (wrote_one p x) xs ∙ one-length p x

pub kept : {p q : Pen} {xs : List ℕ} → Wrote p xs q → length q.buf ≡ length p.buf
kept {p} {q} {xs} w = ap (λ (r : Pen). length r.buf) w.is ∙ wrote-length p xs

-- the place stays within one past the end
one-within : (p : Pen) (x : ℕ) → (wrote_one p x).at ≤ length p.buf + 1
unfolding wrote_one
one-within p x = cases (ltb p.at (length p.buf))
    (λ e. rw e (omega (arith, ltb-true p.at (length p.buf) e)))
    (λ e. rw e (omega arith))

wrote-within : (p : Pen) (xs : List ℕ) → p.at ≤ length p.buf + 1 → (wrote p xs).at ≤ length p.buf + 1
unfolding wrote
wrote-within p [] h = h
wrote-within p (x ∷ xs) h =
    let l = one-length p x in
    rw l at (wrote-within (wrote_one p x) xs (rw l (one-within p x)))

pub within : {p q : Pen} {xs : List ℕ} → p.at ≤ length p.buf + 1 → Wrote p xs q → q.at ≤ length p.buf + 1
within {p} {q} {xs} h w = rw w.is (wrote-within p xs h)

-- the place does not go back
one-onward : (p : Pen) (x : ℕ) → p.at ≤ length p.buf + 1 → p.at ≤ (wrote_one p x).at
unfolding wrote_one
one-onward p x h = cases (ltb p.at (length p.buf)) (λ e. rw e (omega arith)) (λ e. rw e h)

wrote-onward : (p : Pen) (xs : List ℕ) → p.at ≤ length p.buf + 1 → p.at ≤ (wrote p xs).at
unfolding wrote
wrote-onward p [] h = omega arith
wrote-onward p (x ∷ xs) h =
    omega (arith, one-onward p x h, wrote-onward (wrote_one p x) xs (rw (one-length p x) (one-within p x)))

pub onward : {p q : Pen} {xs : List ℕ} → p.at ≤ length p.buf + 1 → Wrote p xs q → p.at ≤ q.at
onward {p} {q} {xs} h w = rw w.is (wrote-onward p xs h)

-- past the end nothing more is written
pub stuck : (o xs : List ℕ) → wrote (pen o (length o + 1)) xs ≡ pen o (length o + 1)
unfolding wrote wrote_one
stuck o [] = refl
stuck o (x ∷ xs) = rw (le-ltb (length o + 1) (length o) (omega arith)) (stuck o xs)

-- one octet, and then the others
more : (o xs : List ℕ) (at x : ℕ) → at < length o → wrote (pen o at) (x ∷ xs) ≡ wrote (pen (set o at x) (at + 1)) xs
unfolding wrote wrote_one
more o xs at x h = rw (lt-ltb at (length o) h)

no_more : (o xs : List ℕ) (at x : ℕ) → length o ≤ at → wrote (pen o at) (x ∷ xs) ≡ pen o (length o + 1)
unfolding wrote wrote_one
no_more o xs at x h = rw (le-ltb at (length o) h) (stuck o xs)

-- where there is room, the octets stand at their place, and the next place is behind them
at-step : (a n : ℕ) → a + 1 + n ≡ a + suc n
at-step a n = omega arith

pub fits : (o xs : List ℕ) (at : ℕ) → at + length xs ≤ length o → wrote (pen o at) xs ≡ pen (sets o at xs) (at + length xs)
fits o [] at h = unfold wrote in rw add-zero
fits o (x ∷ xs) at h =
    let l : at < length o = omega arith in
    let k : at + 1 + length xs ≤ length (set o at x) = rw length-set (omega arith) in
    rw (more o xs at x l, fits (set o at x) xs (at + 1) k) (cc (add-one at, at-step at (length xs)))

pub fitting : (o xs : List ℕ) (at : ℕ) → at + length xs ≤ length o → Wrote (pen o at) xs (pen (take at o ++ xs ++ drop (at + length xs) o) (at + length xs))
fitting o xs at h = record { is = rw (← (sets-eq xs o at h)) (sym (fits o xs at h)) }

-- what was copied over a part of the buffer is written
pub placed : {o xs ys : List ℕ} {at k n : ℕ} → at + n ≤ length o → ys ≡ xs → n ≡ length xs → n ≡ k → Wrote (pen o at) xs (pen (put_mid at k o ys) (at + n))
placed {o} {xs} {ys} {at} {k} {n} h e l q = rw (put_mid-paste at k o ys xs n e q l, take_all n xs (omega arith), l) (fitting o xs at (omega arith))

-- where there is no room, the next place is one past the end
pub full : (o xs : List ℕ) (at : ℕ) → at ≤ length o + 1 → length o < at + length xs → (wrote (pen o at) xs).at ≡ length o + 1
full o [] at h k = unfold wrote in omega arith
full o (x ∷ xs) at h k = cases (ltb at (length o))
    (λ e. rw (more o xs at x (ltb-true at (length o) e), full (set o at x) xs (at + 1) (rw length-set (omega (arith, ltb-true at (length o) e))) (rw length-set (omega arith)), length-set))
    (λ e. rw (no_more o xs at x (ltb-false at (length o) e)))

-- what was written from the start of a buffer that has room stands at its front, and what lies behind is unchanged
pub record Landed (o xs b : List ℕ) (n : ℕ) : Type 0 where
  pub count : n ≡ length xs
  pub buffer : b ≡ xs ++ drop (length xs) o
  pub front : take n b ≡ xs

pub landed : (o xs b : List ℕ) (n : ℕ) → length xs ≤ length o → Wrote (pen o 0) xs (pen b n) → Landed o xs b n
landed o xs b n h w =
    let e : pen b n ≡ pen (sets o 0 xs) (0 + length xs) = w.is ∙ fits o xs 0 (omega arith) in
    let l : n ≡ length xs = ap (λ (p : Pen). p.at) e ∙ zero-add (length xs) in
    let f : b ≡ xs ++ drop (length xs) o = ap (λ (p : Pen). p.buf) e ∙ sets-eq xs o 0 (omega arith) ∙ rw zero-add in
    record { count = l; buffer = f; front = rw (l, f) (take-append_seam xs (drop (length xs) o)) }

-- For loops: to write `rest` from q on is to write `all` from p on.
pub record Leads (p : Pen) (all : List ℕ) (q : Pen) (rest : List ℕ) : Type 0 where
  pub whole : wrote q rest ≡ wrote p all

pub leads-start : {p : Pen} {all : List ℕ} → Leads p all p all
leads-start = record { whole = refl }

-- a turn writes xs, and ys is left
pub leads-on : {p q r : Pen} {all rest xs ys : List ℕ} → Leads p all q rest → Wrote q xs r → rest ≡ xs ++ ys → Leads p all r ys
leads-on {p} {q} {r} {all} {rest} {xs} {ys} k w e =
    record { whole = rw w.is (sym (wrote-append q xs ys) ∙ ap (wrote q) (sym e) ∙ k.whole) }

-- a turn writes nothing
pub leads-same : {p q : Pen} {all rest ys : List ℕ} → Leads p all q rest → rest ≡ ys → Leads p all q ys
leads-same k e = rw (← e) k

-- nothing is left
pub leads-end : {p q : Pen} {all rest : List ℕ} → Leads p all q rest → rest ≡ [] → Wrote p all q
leads-end {p} {q} {all} {rest} k e = record { is = unfold wrote in (rw e at k.whole) }

-- the last part is written
pub leads-last : {p q r : Pen} {all rest xs : List ℕ} → Leads p all q rest → Wrote q xs r → rest ≡ xs → Wrote p all r
leads-last {p} {q} {r} {all} {rest} {xs} k w e = record { is = w.is ∙ ap (wrote q) (sym e) ∙ k.whole }

-- Where a writer refuses: what stood in front of the pen stands there still, whatever was written from the pen on.
pub front_same : {p : Pen} → FrontKept p p.buf
front_same = record { long = refl; front = refl }

room-front : (o out : List ℕ) (at x : ℕ) → FrontKept (pen (set o at x) (at + 1)) out → FrontKept (pen o at) out
room-front o out at x k = record {
  long = k.long ∙ length-set o at x;
  front = sym (take-take at (at + 1) out (omega arith)) ∙ ap (take at) k.front ∙ take-take at (at + 1) (set o at x) (omega arith) ∙ take-set-le at o at x (omega arith);
}

full-front : (o out : List ℕ) (at : ℕ) → length o ≤ at → FrontKept (pen o (length o + 1)) out → FrontKept (pen o at) out
full-front o out at h k =
    let long : length out ≡ length o = k.long in
    record {
      long = long;
      front = take_all at out (omega arith) ∙ sym (take_all (length o + 1) out (omega arith)) ∙ k.front ∙ take_all (length o + 1) o (omega arith) ∙ sym (take_all at o h);
    }

one-front : (p : Pen) (x : ℕ) (out : List ℕ) → FrontKept (wrote_one p x) out → FrontKept p out
unfolding wrote_one
one-front p x out k = cases (ltb p.at (length p.buf))
    (λ e. room-front p.buf out p.at x (rw e at k))
    (λ e. full-front p.buf out p.at (ltb-false p.at (length p.buf) e) (rw e at k))

wrote-front : (p : Pen) (xs out : List ℕ) → FrontKept (wrote p xs) out → FrontKept p out
unfolding wrote
wrote-front p [] out k = k
wrote-front p (x ∷ xs) out k = one-front p x out (wrote-front (wrote_one p x) xs out k)

-- a writer behind what is written keeps what stood in front of that too
pub front-behind : {p q : Pen} {xs out : List ℕ} → Wrote p xs q → FrontKept q out → FrontKept p out
front-behind {p} {q} {xs} {out} w k = wrote-front p xs out (rw w.is at k)

pub front-wrote : {p q : Pen} {xs : List ℕ} → Wrote p xs q → FrontKept p q.buf
front-wrote w = front-behind w front_same
