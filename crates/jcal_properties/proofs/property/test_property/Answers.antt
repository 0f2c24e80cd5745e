-- `jcal_properties::property::test_property` meets its contract.
use Rattle.std.proofs.lemmas.Result.{err_from_is_err_and}
use Rattle.jcal_properties.proofs.PropertyParts.{stands-passed, refused-failed}
use Rattle.jcal_properties.proofs.property.test_property.Goals as goal

pub returns-in_err-place_property : goal.returns-in_err-place_property
returns-in_err-place_property c = let p = err_from_is_err_and c.from_residual.result c.from_residual.ensures.1 in
    rw (p.1, p.2) (refused-failed _ _ c.in_err-place_property.ensures.0)

pub returns : goal.returns
returns c = stands-passed _ c.in_ok-place_property.ensures
