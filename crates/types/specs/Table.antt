-- The table of types: a name's type, and whether it may have many values (01, Which type; RFC 5545 3.7, 3.8).
use Rattle.std.specs.Prelude.{ℕ, Bool, true, false, List, [], ◌∷◌, map}
use Prim.Native.String.{String}
use Rattle.std.proofs.Math.Option.{Option, none, some}
use Rattle.octets.specs.Basics.{octets, pick, same}
use Rattle.octets.specs.Classes.{upper}
use Rattle.types.specs.Codes.{cal_address, date_time, duration, float, integer, period, recur, text, uri, utc_offset}

-- a type's code, and whether the name may have many values
pub record Row : Type 0 where
  pub code : ℕ
  pub many : Bool

-- a row under its name in uppercase
pub record Entry : Type 0 where
  pub name : List ℕ
  pub row : Row

abbrev pub entry : List ℕ → ℕ → Bool → Entry
entry n c m = record { name = n; row = record { code = c; many = m } }

abbrev pub Table : Type 0
Table = List Entry

unfoldable pub names_of : Table → List (List ℕ)
names_of t = map (λ (e : Entry). e.name) t

-- what a table says of a name, in either case
unfoldable pub find : Table → List ℕ → Option Row
find [] n = none
find (e ∷ t) n = pick (same e.name (upper n)) (some e.row) (find t n)

abbrev pub one : String → ℕ → Entry
one n c = entry (octets n) c false

abbrev pub many : String → ℕ → Entry
many n c = entry (octets n) c true

-- the default types
unfoldable pub defaults : Table
defaults =
    one "CALSCALE" text ∷ one "METHOD" text ∷ one "PRODID" text ∷ one "VERSION" text ∷ one "CLASS" text ∷ one "COMMENT" text ∷
    one "DESCRIPTION" text ∷ one "LOCATION" text ∷ one "STATUS" text ∷ one "SUMMARY" text ∷ one "TRANSP" text ∷ one "TZID" text ∷
    one "TZNAME" text ∷ one "CONTACT" text ∷ one "RELATED-TO" text ∷ one "UID" text ∷ one "ACTION" text ∷ one "REQUEST-STATUS" text ∷
    many "CATEGORIES" text ∷ many "RESOURCES" text ∷
    one "ATTACH" uri ∷ one "TZURL" uri ∷ one "URL" uri ∷
    one "GEO" float ∷
    one "PERCENT-COMPLETE" integer ∷ one "PRIORITY" integer ∷ one "REPEAT" integer ∷ one "SEQUENCE" integer ∷
    one "COMPLETED" date_time ∷ one "DTEND" date_time ∷ one "DUE" date_time ∷ one "DTSTART" date_time ∷ one "RECURRENCE-ID" date_time ∷
    one "CREATED" date_time ∷ one "DTSTAMP" date_time ∷ one "LAST-MODIFIED" date_time ∷
    many "EXDATE" date_time ∷ many "RDATE" date_time ∷
    one "DURATION" duration ∷ one "TRIGGER" duration ∷
    many "FREEBUSY" period ∷
    one "TZOFFSETFROM" utc_offset ∷ one "TZOFFSETTO" utc_offset ∷
    one "ATTENDEE" cal_address ∷ one "ORGANIZER" cal_address ∷
    one "RRULE" recur ∷ []
