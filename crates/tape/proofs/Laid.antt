-- A tape shows the value that was laid onto it, and the scan along it tells whether that value is sound.
use Prim.Native.Nat.{ℕ, ◌-◌}
use mathlib.Core.Path.{◌≡◌, refl, sym, ap, ◌∙◌}
use mathlib.Core.Bool.{Bool, true, false, not}
use mathlib.Core.List.{List, [], ◌++◌, append_assoc, append-nil}
use borrow.Author.Tests.{ne_eqb}
use lib.ListN.{length, take, drop}
use lib.Seq.{take-append_seam}
use Rattle.octets.specs.Basics.{◌and◌}
use Rattle.octets.specs.Search.{until}
use Rattle.octets.proofs.Cases.{and_assoc, and-true-right}
use Rattle.octets.proofs.Positions.{upto}
use Rattle.json_text.specs.Tree.{Json, str, Items, no_items, item, Members, no_members, member}
use Rattle.json_text.specs.Tape.{tag_end, ser_text, ser, ser_items, ser_members}
use Rattle.tape.specs.Sound.{has_lone, distinct_keys, sound, sound_items, sound_members}
use Rattle.tape.specs.Decode.{group, push, paired, text_at_front, in_text, groups, view, value_at}
use Rattle.tape.specs.Scan.{sound_along, sound_tape}
use Rattle.json_text.proofs.Fine.{Clean, clean_end, clean, Fine, f-null, f-false, f-true, f-num, f-str, f-arr, f-obj, FineItems, f-none, f-item, FineMembers, f-empty, f-member}
use Rattle.tape.proofs.Values.{shown, string-octets}

-- a text and what stands behind it
text-back : {t : List ℕ} → Clean t → (r : List ℕ) → text_at_front (ser_text t ++ r) ≡ t
unfolding text_at_front until
text-back clean_end r = refl
text-back (clean {b} n c) r = rw (ne_eqb b tag_end n, text-back c r)

text-past : {t : List ℕ} → Clean t → (r : List ℕ) → groups true (ser_text t ++ r) ≡ groups false r
unfolding groups in_text
text-past clean_end r = refl
text-past (clean {b} n c) r = rw (ne_eqb b tag_end n) (text-past c r)

-- an object's group as it stands on the tape
abbrev flat : Members → Items
flat no_members = no_items
flat (member k j ms) = item (str k) (item j (flat ms))

flat-paired : (ms : Members) → paired (flat ms) ≡ ms
unfolding paired
flat-paired no_members = refl
flat-paired (member k j ms) = rw (flat-paired ms, string-octets k)

mutual
  unfolding ser groups in_text

  pub ser-back : {j : Json} → Fine j → (r : List ℕ) → groups false (ser j ++ r) ≡ push j (groups false r)
  ser-back f-null r = refl
  ser-back f-false r = refl
  ser-back f-true r = refl
  ser-back (f-num c) r = rw (text-past c r, text-back c r)
  ser-back (f-str c) r = rw (text-past c r, text-back c r)
  ser-back (f-arr fs) r = rw (items_back fs r)
  ser-back (f-obj {ms} fs) r = rw (members-back fs r, flat-paired ms)

  items_back : {js : Items} → FineItems js → (r : List ℕ) → groups false (ser_items js ++ r) ≡ group js (groups false r)
  items_back f-none r = refl
  items_back (f-item {j} {js} f fs) r = rw (append_assoc (ser j) (ser_items js) r, ser-back f (ser_items js ++ r), items_back fs r)

  members-back : {ms : Members} → FineMembers ms → (r : List ℕ) → groups false (ser_members ms ++ r) ≡ group (flat ms) (groups false r)
  members-back f-empty r = refl
  members-back (f-member {k} {j} {ms} c f fs) r =
      rw (append_assoc (ser_text k) (ser j ++ ser_members ms) r, append_assoc (ser j) (ser_members ms) r, text-past c (ser j ++ (ser_members ms ++ r)), text-back c (ser j ++ (ser_members ms ++ r)), ser-back f (ser_members ms ++ r), members-back fs r)

-- the value that was laid down at i stands at i
pub value-back : {j : Json} → Fine j → (t : List ℕ) (i : ℕ) (r : List ℕ) → drop i t ≡ ser j ++ r → value_at t i ≡ j
unfolding view
value-back {j} f t i r e = shown {s = groups false r} (record { is = ap (groups false) e ∙ ser-back f r })

-- a whole tape is one value
pub tape-back : {j : Json} → Fine j → value_at (ser j) 0 ≡ j
tape-back {j} f = value-back f (ser j) 0 [] (sym (append-nil (ser j)))

-- what `&t[0..n]` lends, where n octets were laid down
pub laid-back : (j : Json) (t : List ℕ) (n : ℕ) (r : List ℕ) → n ≡ length (ser j) → t ≡ ser j ++ r → take (n - 0) (drop 0 t) ≡ ser j
laid-back j t n r e q = upto t n ∙ rw (e, q, take-append_seam (ser j) r)

-- the scan
text-scan : {t : List ℕ} → Clean t → (r : List ℕ) → sound_along true (ser_text t ++ r) ≡ sound_along false r
unfolding sound_along in_text
text-scan clean_end r = refl
text-scan (clean {b} n c) r = rw (ne_eqb b tag_end n) (text-scan c r)

mutual
  unfolding ser sound sound_along in_text

  pub scan-back : {j : Json} → Fine j → (r : List ℕ) → sound_along false (ser j ++ r) ≡ (sound j and sound_along false r)
  scan-back f-null r = refl
  scan-back f-false r = refl
  scan-back f-true r = refl
  scan-back (f-num c) r = text-scan c r
  scan-back (f-str c) r = rw (text-back c r, text-scan c r)
  scan-back (f-arr fs) r = items-scan fs r
  scan-back (f-obj {ms} fs) r = rw (members-back fs r, flat-paired ms, members-scan fs r) (sym (and_assoc (distinct_keys ms) (sound_members ms) (sound_along false r)))

  items-scan : {js : Items} → FineItems js → (r : List ℕ) → sound_along false (ser_items js ++ r) ≡ (sound_items js and sound_along false r)
  items-scan f-none r = refl
  items-scan (f-item {j} {js} f fs) r = rw (append_assoc (ser j) (ser_items js) r, scan-back f (ser_items js ++ r), items-scan fs r) (sym (and_assoc (sound j) (sound_items js) (sound_along false r)))

  members-scan : {ms : Members} → FineMembers ms → (r : List ℕ) → sound_along false (ser_members ms ++ r) ≡ (sound_members ms and sound_along false r)
  members-scan f-empty r = refl
  members-scan (f-member {k} {j} {ms} c f fs) r =
      rw (append_assoc (ser_text k) (ser j ++ ser_members ms) r, append_assoc (ser j) (ser_members ms) r, text-back c (ser j ++ (ser_members ms ++ r)), text-scan c (ser j ++ (ser_members ms ++ r)), scan-back f (ser_members ms ++ r), members-scan fs r)
      (sym (and_assoc (not (has_lone 0 k)) (sound j and sound_members ms) (sound_along false r) ∙ ap (λ (b : Bool). not (has_lone 0 k) and b) (and_assoc (sound j) (sound_members ms) (sound_along false r))))

-- the tape of a value is sound if the value is
pub sound_back : {j : Json} → Fine j → sound_tape (ser j) ≡ sound j
unfolding sound_tape sound_along
sound_back {j} f = ap (sound_along false) (sym (append-nil (ser j))) ∙ scan-back f [] ∙ and-true-right (sound j)
