-- From what the calls of a draft promise to the edges of the four-node graph. Assumes nothing.
use Rattle.std.proofs.Common.{◌≡◌, ℕ, ◌+◌, ◌<◌, false, List, [], ◌∷◌, length, None, Result, ap, ◌∙◌, subst, arith}
use Rattle.theory.specs.Edges.{Edge}
use Rattle.theory.specs.Pairs.{Pair}
use Rattle.index.specs.declared.records.FeatureEdge.{FeatureEdge}
use Rattle.index.specs.declared.records.WeakIndex.{WeakIndex}
use Rattle.index.specs.declared.refusal.Refusal.{Refusal}
use Rattle.index.specs.Records.{read_feature_edge, weak_of}
use Rattle.weak.specs.Registered.{registered}
use Rattle.tables.specs.Table.{laid}
use Rattle.draft.specs.State.{State, edges_of}
use Rattle.draft.specs.Drafting.{SetsUp, TakesPair, TakesPairBy, pair_refused, TakesEdge, room_for, unregistered}
use Rattle.draft.proofs.Deciding.{sets_up, edge_fits, takes}

-- a draft of four nodes over 32 words, with these edges, so many, and these pairs
pub record Drawn (d : State) (count : ℕ) (es : List (Edge FeatureEdge)) (ps : List Pair) : Type 0 where
  pub nodes : d.nodes ≡ 4
  pub edges : d.edges ≡ count
  pub pairs : d.pairs ≡ ps
  pub long : length d.words ≡ 32
  pub laid : edges_of read_feature_edge d ≡ es

pub begun : (d d' : State) (r : Result (Unit {0}) Refusal) → length d.words ≡ 32 → SetsUp d 4 r d' → Drawn d' 0 [] []
begun d d' r long h =
    let k = sets_up d 4 r d' (omega arith) (omega arith) h in
    record { nodes = k.1; edges = k.2; pairs = k.3; long = k.4 ∙ long; laid = ap (laid read_feature_edge d'.words d'.nodes) k.2 }

pub paired : (d d' : State) (p n : ℕ) (r : Result WeakIndex Refusal) → n ≡ 2 → Drawn d 0 [] [] → TakesPair d (record { package_edge = p; release = n }) r d' → Drawn d' 0 [] (record { package_edge = p; release = 2 } ∷ [])
paired d d' p n r two a h =
    let fits : pair_refused d.nodes n ≡ None = ap (λ x. pair_refused x n) a.nodes ∙ ap (pair_refused 4) two in
    let k = subst (λ o. TakesPairBy o d (record { package_edge = p; release = n }) r d') fits h in
    let same = k.1 in
    record {
      nodes = ap (λ (x : State). x.nodes) same ∙ a.nodes;
      edges = ap (λ (x : State). x.edges) same ∙ a.edges;
      pairs = ap (λ (x : State). x.pairs) same ∙ ap (λ xs. registered xs (record { package_edge = p; release = n })) a.pairs ∙ ap (λ x. record { package_edge = p; release = x } ∷ []) two;
      long = ap (λ (x : State). length x.words) same ∙ a.long;
      laid = ap (edges_of read_feature_edge) same ∙ a.laid;
    }

module _ (w : FeatureEdge) (s t s' t' e : ℕ) (ps : List Pair) (known : unregistered (length ps) (weak_of w) ≡ false) (is : s ≡ s') (it : t ≡ t') (low : s' < 4) (high : t' < 4) (few : e < 3) where
  pub adds : (d d' : State) (r : Result ℕ Refusal) (es : List (Edge FeatureEdge)) → Drawn d e es ps → TakesEdge read_feature_edge (weak_of w) d s t w r d' → Drawn d' (e + 1) (record { source = s'; target = t'; number = e; weight = w } ∷ es) ps
  adds d d' r es a h =
      let nodes = a.nodes in
      let edges = a.edges in
      let room : room_for (length d.words) d.nodes ≡ 3 = ap (λ x. room_for x d.nodes) a.long ∙ ap (room_for 32) a.nodes in
      let reg : unregistered (length d.pairs) (weak_of w) ≡ false = ap (λ xs. unregistered (length xs) (weak_of w)) a.pairs ∙ known in
      let fits = edge_fits d s t (weak_of w) (omega arith) (omega arith) reg (omega arith) (omega arith) in
      let k = (takes read_feature_edge (weak_of w) d s t w r d' fits h).1 in
      let laid = a.laid in
      let added = k.laid in
      record { nodes = k.nodes ∙ a.nodes; edges = k.edges ∙ ap (λ x. x + 1) a.edges; pairs = k.pairs ∙ a.pairs; long = k.long ∙ a.long; laid = cc }
