-- 01's reading of a calendar: a component is its name, its properties in order, then its sub-components in order, all as jCal holds them.
use Rattle.std.specs.Prelude.{ℕ, zero, suc, max, List, [], ◌∷◌, ◌++◌}
use Rattle.json_text.specs.Tree.{Json}
use Rattle.content.specs.Line.{Param}

-- lowercase name, parameters without VALUE, lowercase type, values
pub record Property : Type 0 where
  pub name : List ℕ
  pub params : List Param
  pub type : List ℕ
  pub values : List Json

abbrev pub property : List ℕ → List Param → List ℕ → List Json → Property
property n ps t vs = record { name = n; params = ps; type = t; values = vs }

mutual
  pub data Component : Type 0 where
    component : List ℕ → List Property → Forest → Component

  pub data Forest : Type 0 where
    leaf : Forest
    grow : Component → Forest → Forest

unfoldable pub forest_of : List Component → Forest
forest_of [] = leaf
forest_of (c ∷ cs) = grow c (forest_of cs)

-- how deep components nest
unfoldable mutual
  pub levels : Component → ℕ
  levels (component n ps cs) = suc (levels_in cs)

  pub levels_in : Forest → ℕ
  levels_in leaf = zero
  levels_in (grow c cs) = max (levels c) (levels_in cs)

-- all properties: those of the component, then those of its sub-components
unfoldable mutual
  pub properties_of : Component → List Property
  properties_of (component n ps cs) = ps ++ properties_in cs

  pub properties_in : Forest → List Property
  properties_in leaf = []
  properties_in (grow c cs) = properties_of c ++ properties_in cs
