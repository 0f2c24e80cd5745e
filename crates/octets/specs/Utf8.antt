-- UTF-8 (RFC 3629 4) as an automaton that takes one octet a step, and clean lines (01, number 3).
use Rattle.std.specs.Prelude.{ℕ, Bool, true, false, List, [], ◌∷◌, eqb, leb}
use Rattle.octets.specs.Basics.{pick, ◌and◌, all}
use Rattle.octets.specs.Classes.{between, plain_octet}

-- what is due: a character; one, two or three octets more; the second octet behind E0, ED, F0 or F4, which has bounds of its own;
-- nothing, where the text is broken
pub data Due : Type 0 where
  start one two three after_e0 after_ed after_f0 after_f4 broken : Due

-- behind the first octet of a character: UTF8-1 to 7F, UTF8-2 from C2, UTF8-3 from E0, UTF8-4 from F0 to F4
unfoldable pub lead : ℕ → Due
lead c =
    pick (leb c 127) start
    (pick (leb c 193) broken
    (pick (leb c 223) one
    (pick (eqb c 224) after_e0
    (pick (eqb c 237) after_ed
    (pick (leb c 239) two
    (pick (eqb c 240) after_f0
    (pick (leb c 243) three
    (pick (eqb c 244) after_f4 broken))))))))

unfoldable pub due : Due → ℕ → Due
due start c = lead c
due one c = pick (between 128 191 c) start broken
due two c = pick (between 128 191 c) one broken
due three c = pick (between 128 191 c) two broken
due after_e0 c = pick (between 160 191 c) one broken
due after_ed c = pick (between 128 159 c) one broken
due after_f0 c = pick (between 144 191 c) two broken
due after_f4 c = pick (between 128 143 c) two broken
due broken c = broken

unfoldable pub due_after : Due → List ℕ → Due
due_after d [] = d
due_after d (c ∷ s) = due_after (due d c) s

unfoldable pub is_start : Due → Bool
is_start start = true
is_start one = false
is_start two = false
is_start three = false
is_start after_e0 = false
is_start after_ed = false
is_start after_f0 = false
is_start after_f4 = false
is_start broken = false

unfoldable pub utf8 : List ℕ → Bool
utf8 s = is_start (due_after start s)

-- 01, number 3: UTF-8 without octets 0 to 8, 10 to 31, 127
unfoldable pub clean : List ℕ → Bool
clean s = utf8 s and all plain_octet s
