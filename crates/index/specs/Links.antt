-- half_number: the number of a half.  link: a link by its parts.
-- links_of: the links of a feature edge, by its form: none, one whole link, or the halves of a weak slash.
-- Assumes nothing.
use Rattle.std.specs.Prelude.{ℕ, Some, None, Option}
use Rattle.index.specs.declared.records.FeatureEdge.{FeatureEdge}
use Rattle.index.specs.declared.records.FeatureEdge.TheVariants.{NamedFeature, FeatureToBase, DependenciesSection, NamedFeatureDepColon, StrongSlash, WeakSlash}
use Rattle.index.specs.declared.links.Half.{Half}
use Rattle.index.specs.declared.links.Half.TheVariants.{Whole, Required, Optional}
use Rattle.index.specs.declared.links.Link.{Link}
use Rattle.index.specs.declared.links.EdgeLinks.{EdgeLinks}
use Rattle.index.specs.declared.links.EdgeLinks.TheVariants.{NonWeak, Weak}

abbrev pub half_number : Half → ℕ
half_number Whole = 0
half_number Required = 1
half_number Optional = 2

abbrev pub link : ℕ → Half → ℕ → Link
link edge half mask = record { edge = edge; half = half; mask = mask }

-- the required half, where there are required declarations
abbrev pub required_of : ℕ → Option ℕ → Option Link
required_of edge None = None
required_of edge (Some mask) = Some (link edge Required mask)

abbrev pub links_of : ℕ → FeatureEdge → Option EdgeLinks
links_of edge NamedFeature = None
links_of edge FeatureToBase = None
links_of edge (DependenciesSection mask) = Some (NonWeak (link edge Whole mask))
links_of edge (NamedFeatureDepColon mask) = Some (NonWeak (link edge Whole mask))
links_of edge (StrongSlash mask) = Some (NonWeak (link edge Whole mask))
links_of edge (WeakSlash required optional index) = Some (Weak (required_of edge required) (link edge Optional optional) index)
