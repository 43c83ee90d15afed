-- What the contracts of a feature filter come to, along the calls of the four-node walk. Assumes nothing.
use Rattle.std.proofs.Common.{◌≡◌, ℕ, zero, suc, ◌≤◌, Bool, true, false, cond, ◌||◌, eqb, List, [], ◌∷◌, ◌++◌, length, get_or, take, Some, filter, sym, refl, ap, ◌∙◌, arith}
use Rattle.std.proofs.lemmas.List.{length-map, length-take-le}
use Rattle.theory.specs.Edges.{Edge}
use Rattle.theory.specs.Rules.{Rule, hands, holds, held_for, stays_at}
use Rattle.index.specs.declared.direction.DependencyDirection.TheVariants.{Forward}
use Rattle.index.specs.declared.links.Link.{Link}
use Rattle.index.specs.declared.records.FeatureEdge.{FeatureEdge}
use Rattle.index.specs.declared.records.FeatureEdge.TheVariants.{NamedFeature, DependenciesSection}
use Rattle.bits.specs.Bits.{bit}
use Rattle.verdict.specs.Verdicts.{shares}
use Rattle.filter.specs.Filters.{Untold, Discovers}
use Rattle.buffers.specs.Rules.{feature_rule, goes_out}
use Rattle.buffers.specs.Buffers.{Ref, meaning, handed}
use Rattle.clients.specs.FourNodes.{slash}

-- mask 1 in Forward, where node 2 releases index 0
abbrev pub rule : Rule (Edge FeatureEdge)
rule = feature_rule (λ (link : Link). shares 1 link.mask) (2 ∷ []) Forward

-- an edge is known by its number and its record
abbrev edge : ℕ → ℕ → ℕ → FeatureEdge → Edge FeatureEdge
edge s t n w = record { source = s; target = t; number = n; weight = w }

pub by_section : (r : Rule (Edge FeatureEdge)) (told : ℕ → Bool) (held : List (Edge FeatureEdge)) (e : Edge FeatureEdge) → r ≡ rule → e.weight ≡ DependenciesSection 1 → (hands r told e ≡ true) × (holds r told held e ≡ held)
unfolding bit
by_section r told held e q w = (
  (λ j. hands (q j) told (edge e.source e.target e.number (w j))),
  (λ j. holds (q j) told held (edge e.source e.target e.number (w j))),
)

pub by_name : (r : Rule (Edge FeatureEdge)) (told : ℕ → Bool) (held : List (Edge FeatureEdge)) (e : Edge FeatureEdge) → r ≡ rule → e.weight ≡ NamedFeature → (hands r told e ≡ true) × (holds r told held e ≡ held)
by_name r told held e q w = (
  (λ j. hands (q j) told (edge e.source e.target e.number (w j))),
  (λ j. holds (q j) told held (edge e.source e.target e.number (w j))),
)

-- the slash waits on node 2
waits_slash : (r : Rule (Edge FeatureEdge)) (e : Edge FeatureEdge) → r ≡ rule → e.weight ≡ slash → r.waits e ≡ Some 2
unfolding bit
waits_slash r e q w = λ j. (q j).waits (edge e.source e.target e.number (w j))

pub by_slash : (r : Rule (Edge FeatureEdge)) (told : ℕ → Bool) (held : List (Edge FeatureEdge)) (e : Edge FeatureEdge) → r ≡ rule → e.weight ≡ slash → told 2 ≡ false → (hands r told e ≡ false) × (holds r told held e ≡ held ++ e ∷ [])
unfolding bit
by_slash r told held e q w untold = (
  (λ j. hands (q j) told (edge e.source e.target e.number (w j))) ∙ untold,
  ap (held_for told held e) (waits_slash r e q w) ∙ ap (λ b. cond b held (held ++ e ∷ [])) untold,
)

module _ (r : Rule (Edge FeatureEdge)) (q : r ≡ rule) (n : ℕ) (told told' : ℕ → Bool) (held held' out : List (Edge FeatureEdge)) (d : Discovers r n told told' held held' out) where
  -- a node told while nothing is held
  pub tells_none : held ≡ [] → (out ≡ []) × (held' ≡ [])
  tells_none e = (d.order ∙ (λ j. (q j).frees n (e j)) ∙ none (eqb 2 n), d.rest ∙ ap (filter (stays_at r n)) e)
    where
      none : (b : Bool) → cond {A = List (Edge FeatureEdge)} b [] [] ≡ []
      none true = refl
      none false = refl

  -- node 2 told while the slash is held
  pub tells_slash : (e : Edge FeatureEdge) → n ≡ 2 → held ≡ e ∷ [] → e.weight ≡ slash → out ≡ e ∷ []
  unfolding bit
  tells_slash e two h w =
      d.order ∙ (λ j. (q j).frees (two j) (h j)) ∙ ap (λ b. cond b (e ∷ []) []) (λ j. goes_out (λ (link : Link). shares 1 link.mask) 0 (edge e.source e.target e.number (w j)))

  -- another node told
  pub still_untold : (e : Edge FeatureEdge) → e.weight ≡ slash → eqb 2 n ≡ false → told 2 ≡ false → told' 2 ≡ false
  still_untold e w other untold = d.tells e 2 (waits_slash r e q w) ∙ ap (λ b. b || eqb 2 n) untold ∙ other

pub first_untold : (r : Rule (Edge FeatureEdge)) (told : ℕ → Bool) (e : Edge FeatureEdge) → r ≡ rule → e.weight ≡ slash → Untold r told → told 2 ≡ false
first_untold r told e q w u = u e 2 (waits_slash r e q w)

-- how many edges were handed out
pub counted : (n : ℕ) (hand : List Ref) (es : List (Edge FeatureEdge)) → n ≤ length hand → handed n hand ≡ es → n ≡ length es
counted n hand es l e = sym (length-take-le n hand l) ∙ sym (length-map (take n hand) meaning) ∙ ap length e

-- the first of them
pub first_out : (n : ℕ) (hand : List Ref) (e : Edge FeatureEdge) (d : Ref) → handed n hand ≡ e ∷ [] → (get_or hand 0 d).number ≡ e.number
first_out zero hand e d q = absurd (let a = ap length q in omega arith)
first_out (suc n) [] e d q = absurd (let a = ap length q in omega arith)
first_out (suc n) (x ∷ xs) e d q = ap front q
  where
    front : List (Edge FeatureEdge) → ℕ
    front [] = 0
    front (y ∷ ys) = y.number
