-- What a feature edge of an order file does to a draft.
-- LaysWith: the edge comes, with the record of its form.  Lays: a weak form registers its pair first; a refused pair
-- drops the edge, and a pair that was registered stays whatever becomes of the edge. Assumes nothing.
use Rattle.std.specs.Prelude.{◌≡◌, ℕ, Ok, Err, Option, Result}
use Rattle.index.specs.declared.records.FeatureEdge.{FeatureEdge}
use Rattle.index.specs.declared.records.FeatureEdge.TheVariants.{NamedFeature, FeatureToBase, DependenciesSection, NamedFeatureDepColon, StrongSlash, WeakSlash}
use Rattle.index.specs.declared.records.WeakIndex.{WeakIndex}
use Rattle.index.specs.declared.refusal.Refusal.{Refusal}
use Rattle.index.specs.Records.{read_feature_edge, weak_of}
use Rattle.draft.specs.Drafting.{State, TakesPair, TakesEdge}
use Rattle.records.specs.declared.Form.{Form}
use Rattle.records.specs.declared.Form.TheVariants.{Named, Base, Section, Colon, Strong, Weak, WeakAt}

abbrev pub LaysWith : FeatureEdge → State → ℕ → ℕ → Result ℕ Refusal → State → Type 0
LaysWith w d s t r d' = TakesEdge read_feature_edge (weak_of w) d s t w r d'

-- the record of an edge that waits for the pair with this index, or the refusal of the pair
abbrev pub awaiting : Option ℕ → ℕ → Result WeakIndex Refusal → Result FeatureEdge Refusal
awaiting required optional (Ok i) = Ok (WeakSlash required optional i)
awaiting required optional (Err f) = Err f

-- a pair that is registered for an edge
pub record Pairs (required : Option ℕ) (optional package_edge release : ℕ) (d : State) (w : Result FeatureEdge Refusal) (d' : State) : Type 0 where
  pub answer : Result WeakIndex Refusal
  pub pair : TakesPair d (record { package_edge = package_edge; release = release }) answer d'
  pub weight : w ≡ awaiting required optional answer

-- the record of a form, and the draft after it: only a weak form changes the draft
abbrev pub Weighs : Form → State → Result FeatureEdge Refusal → State → Type 0
Weighs Named d w d' = (w ≡ Ok NamedFeature) × (d' ≡ d)
Weighs Base d w d' = (w ≡ Ok FeatureToBase) × (d' ≡ d)
Weighs (Section m) d w d' = (w ≡ Ok (DependenciesSection m)) × (d' ≡ d)
Weighs (Colon m) d w d' = (w ≡ Ok (NamedFeatureDepColon m)) × (d' ≡ d)
Weighs (Strong m) d w d' = (w ≡ Ok (StrongSlash m)) × (d' ≡ d)
Weighs (Weak required optional release package_edge) d w d' = Pairs required optional package_edge release d w d'
Weighs (WeakAt required optional index) d w d' = (w ≡ Ok (WeakSlash required optional (record { 0 = index }))) × (d' ≡ d)

-- the edge, or the refusal of its pair
abbrev pub Follows : Result FeatureEdge Refusal → State → ℕ → ℕ → Result ℕ Refusal → State → Type 0
Follows (Ok w) d s t r d' = LaysWith w d s t r d'
Follows (Err f) d s t r d' = (r ≡ Err f) × (d' ≡ d)

-- the record of the form, which took the draft to `between`, and then the edge
pub record Lays (form : Form) (d : State) (s t : ℕ) (r : Result ℕ Refusal) (d' : State) : Type 0 where
  pub weight : Result FeatureEdge Refusal
  pub between : State
  pub weighs : Weighs form d weight between
  pub edge : Follows weight between s t r d'
