-- four_edges, four_pairs: the edges of the four-node graph, the latest first, and its weak pairs.  Assumes nothing.
use Rattle.std.specs.Prelude.{List, [], ◌∷◌, None}
use Rattle.theory.specs.Edges.{Edge}
use Rattle.theory.specs.Pairs.{Pair}
use Rattle.index.specs.declared.records.FeatureEdge.{FeatureEdge}
use Rattle.index.specs.declared.records.FeatureEdge.TheVariants.{NamedFeature, DependenciesSection, WeakSlash}

-- the weak slash of edge 1
abbrev pub slash : FeatureEdge
slash = WeakSlash None 1 (record { 0 = 0 })

abbrev pub four_edges : List (Edge FeatureEdge)
four_edges =
    record { source = 0; target = 2; number = 2; weight = DependenciesSection 1 }
    ∷ record { source = 1; target = 3; number = 1; weight = slash }
    ∷ record { source = 0; target = 1; number = 0; weight = NamedFeature }
    ∷ []

abbrev pub four_pairs : List Pair
four_pairs = record { package_edge = 7; release = 2 } ∷ []
