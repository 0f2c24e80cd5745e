-- What is promised of a ruling: the answers of a property's row and type.
use Rattle.std.specs.Prelude.{ℕ, ◌≡◌, Bool, not, List}
use Rattle.std.proofs.Math.Option.{Option}
use Rattle.octets.specs.Basics.{pick, ◌and◌, ◌or◌}
use Rattle.octets.specs.Optional.{is_some}
use Rattle.types.specs.Codes.{code_named}
use Rattle.types.specs.Table.{Row}
use Rattle.values.specs.Base64.{binary_fits, is_decoded}
use Rattle.values.specs.Sorts.{plain, sort_of}
use Rattle.values.specs.Coded.{sort_said}
use Rattle.conversion_theory.specs.Property.{code_of, many_of}
use Rattle.conversion_theory.specs.Return.{is_unknown, stated_type, shown}
use Rattle.ical_properties.specs.declared.Ruling.{Ruling}

pub record Rules (row : Option Row) (name type : List ℕ) (r : Ruling) : Type 0 where
  pub code : r.code ≡ code_of row (stated_type type)
  pub many : r.many ≡ many_of row
  pub sort : sort_said r.sort ≡ pick (is_unknown type) plain (sort_of name (code_named type))
  pub shown : r.shown ≡ is_some (shown row type)
  pub taken : r.taken ≡ (is_unknown type and is_some row)

-- number 8 by a ruling's code, and by whether an "unknown" value must be what its name takes (02, [2])
unfoldable pub fits_by : ℕ → Bool → Bool → Bool
fits_by c taken encoded = binary_fits c encoded and (taken or not (is_decoded c encoded))
