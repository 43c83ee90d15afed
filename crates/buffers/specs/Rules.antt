-- feature_rule: the rule of a filter over feature edges, by the links that a verdict accepts, the release nodes of the weak
-- indexes (an index that has none is not registered) and the direction that it is made for.
-- links: the links of an edge.  passing, waiting, waiting_for: whether such links pass, and the node they wait on, if any.
-- wanted: the optional link is accepted.  at_index: the links name this weak index.
-- goes_out, freed, freed_for: what a told node lets out, index by index, first held first.
-- FeatureRuleIsFair: the law.  Assumes nothing.
use Rattle.std.specs.Prelude.{ℕ, zero, suc, Bool, true, false, cond, ◌&&◌, ◌||◌, List, [], ◌++◌, length, Some, None, filter, Option, ◌==◌, slice_index}
use Rattle.std.specs.List.{slice_get}
use Rattle.theory.specs.Edges.{Edge}
use Rattle.theory.specs.Rules.{Rule, Fair}
use Rattle.index.specs.Links.{links_of}
use Rattle.index.specs.declared.direction.DependencyDirection.{DependencyDirection}
use Rattle.index.specs.declared.direction.DependencyDirection.TheVariants.{Forward, Reverse}
use Rattle.index.specs.declared.links.Link.{Link}
use Rattle.index.specs.declared.links.EdgeLinks.{EdgeLinks}
use Rattle.index.specs.declared.links.EdgeLinks.TheVariants.{NonWeak, Weak}
use Rattle.index.specs.declared.records.FeatureEdge.{FeatureEdge}

abbrev pub links : Edge FeatureEdge → Option EdgeLinks
links e = links_of e.number e.weight

-- there is a required link, and it is accepted
abbrev pub needed : (Link → Bool) → Option Link → Bool
needed accepts None = false
needed accepts (Some link) = accepts link

-- in Reverse an optional link is judged at once
abbrev pub at_once : DependencyDirection → Bool
at_once Forward = false
at_once Reverse = true

-- an edge without links passes, one with a whole link if that is accepted, a weak slash if its required link is accepted
-- or, in Reverse, its optional one
abbrev pub passing : (Link → Bool) → DependencyDirection → Option EdgeLinks → Bool
passing accepts d None = true
passing accepts d (Some (NonWeak link)) = accepts link
passing accepts d (Some (Weak required optional index)) = needed accepts required || (at_once d && accepts optional)

-- a weak slash whose optional link is accepted waits on the release node of its index, if that is registered
abbrev pub waiting : (Link → Bool) → List ℕ → Option EdgeLinks → Option ℕ
waiting accepts nodes None = None
waiting accepts nodes (Some (NonWeak link)) = None
waiting accepts nodes (Some (Weak required optional index)) = cond (accepts optional) (slice_get nodes index.0) None

-- in Reverse nothing waits
abbrev pub waiting_for : DependencyDirection → (Link → Bool) → List ℕ → Option EdgeLinks → Option ℕ
waiting_for Forward accepts nodes l = waiting accepts nodes l
waiting_for Reverse accepts nodes l = None

abbrev pub wanted : (Link → Bool) → Option EdgeLinks → Bool
wanted accepts None = false
wanted accepts (Some (NonWeak link)) = false
wanted accepts (Some (Weak required optional index)) = accepts optional

abbrev pub at_index : ℕ → Option EdgeLinks → Bool
at_index i None = false
at_index i (Some (NonWeak link)) = false
at_index i (Some (Weak required optional index)) = index.0 == i

abbrev pub goes_out : (Link → Bool) → ℕ → Edge FeatureEdge → Bool
goes_out accepts i e = at_index i (links e) && wanted accepts (links e)

-- what the indexes below k that node n releases let out of the held edges
abbrev pub freed : (Link → Bool) → List ℕ → ℕ → List (Edge FeatureEdge) → ℕ → List (Edge FeatureEdge)
freed accepts nodes n held zero = []
freed accepts nodes n held (suc k) = freed accepts nodes n held k ++ cond (slice_index nodes k == n) (filter (goes_out accepts k) held) []

abbrev pub freed_for : DependencyDirection → (Link → Bool) → List ℕ → ℕ → List (Edge FeatureEdge) → List (Edge FeatureEdge)
freed_for Forward accepts nodes n held = freed accepts nodes n held (length nodes)
freed_for Reverse accepts nodes n held = []

abbrev pub feature_rule : (Link → Bool) → List ℕ → DependencyDirection → Rule (Edge FeatureEdge)
feature_rule accepts nodes d = record {
  passes = λ e. passing accepts d (links e);
  waits = λ e. waiting_for d accepts nodes (links e);
  frees = λ n held. freed_for d accepts nodes n held;
}

-- such a rule lets out of what is held just what waits on the told node, as often as it is held
abbrev pub FeatureRuleIsFair : Type 0
FeatureRuleIsFair = (accepts : Link → Bool) (nodes : List ℕ) (d : DependencyDirection) → Fair (feature_rule accepts nodes d)
