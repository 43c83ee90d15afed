-- form_of: the number of a feature edge's form.  weak_of: the weak index that it names, if it names one.
-- read_package_link, read_feature_edge: the record that four words hold.  required_in: the required mask that a word holds.
-- Four words hold a feature edge so: the form's number; the mask, or a weak slash's optional mask; a weak slash's
-- required mask and one, or 0 where it has none; its weak index. Assumes nothing.
use Rattle.std.specs.Prelude.{ℕ, ◌-◌, ◌%◌, cond, List, Some, None, Option, ◌==◌, slice_index}
use Rattle.index.specs.declared.records.WeakIndex.{WeakIndex}
use Rattle.index.specs.declared.records.PackageLink.{PackageLink}
use Rattle.index.specs.declared.records.FeatureEdge.{FeatureEdge}
use Rattle.index.specs.declared.records.FeatureEdge.TheVariants.{NamedFeature, FeatureToBase, DependenciesSection, NamedFeatureDepColon, StrongSlash, WeakSlash}

abbrev pub form_of : FeatureEdge → ℕ
form_of NamedFeature = 0
form_of FeatureToBase = 1
form_of (DependenciesSection mask) = 2
form_of (NamedFeatureDepColon mask) = 3
form_of (StrongSlash mask) = 4
form_of (WeakSlash required optional index) = 5

abbrev pub weak_of : FeatureEdge → Option WeakIndex
weak_of NamedFeature = None
weak_of FeatureToBase = None
weak_of (DependenciesSection mask) = None
weak_of (NamedFeatureDepColon mask) = None
weak_of (StrongSlash mask) = None
weak_of (WeakSlash required optional index) = Some index

abbrev pub read_package_link : List ℕ → PackageLink
read_package_link words = record { mask = slice_index words 0 % 256 }

abbrev pub required_in : ℕ → Option ℕ
required_in word = cond (word == 0) None (Some ((word - 1) % 256))

abbrev formed : ℕ → ℕ → Option ℕ → ℕ → FeatureEdge
formed form mask required index =
    cond (form == 0) NamedFeature
    (cond (form == 1) FeatureToBase
    (cond (form == 2) (DependenciesSection mask)
    (cond (form == 3) (NamedFeatureDepColon mask)
    (cond (form == 4) (StrongSlash mask)
    (WeakSlash required mask (record { 0 = index }))))))

abbrev pub read_feature_edge : List ℕ → FeatureEdge
read_feature_edge words = formed (slice_index words 0) (slice_index words 1 % 256) (required_in (slice_index words 2)) (slice_index words 3)
