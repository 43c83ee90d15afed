-- A table with chains means a graph whose lists have the latest edge first, and a walk along its links gives them.
-- Assumes nothing.
use Rattle.std.proofs.Common.{◌≡◌, ℕ, suc, ◌+◌, ◌-◌, ◌*◌, ◌<◌, ◌≤◌, ltb, List, [], ◌∷◌, take, drop, get_or, Some, filter, sym, refl, ap, ◌∙◌, subst, add-zero, arith, get_or-take, get_or-drop}
use Rattle.std.proofs.lemmas.Bool.{lt-ltb, ltb-true}
use Rattle.theory.specs.Edges.{Edge, In, leaves, enters}
use Rattle.theory.specs.Graphs.{Sound, Tied, Steps}
use Rattle.theory.specs.Chains.{Last, from}
use Rattle.theory.proofs.Chaining.{from_last, in_keyed, keyed_in, once_keyed, link_step}
use Rattle.index.specs.declared.direction.DependencyDirection.{DependencyDirection}
use Rattle.index.specs.declared.direction.DependencyDirection.TheVariants.{Forward, Reverse}
use Rattle.tables.specs.Table.{target_at, edge_at, end_of, end_at, end_among, head_at, next_at, laid, touching, Kept}

module _ {W : Type 0} (held : List ℕ → W) (ws : List ℕ) (nodes edges : ℕ) (c : Kept ws nodes edges) where
  pub table_sound : Sound (λ n. ltb n nodes) nodes edges (λ n. filter (leaves n) (laid held ws nodes edges))
  table_sound = record {
    below = λ n h. ltb-true n nodes h;
    source = λ n e i. let r = in_keyed (end_of Forward) (edge_at held ws nodes) edges n e i in ap (λ (x : Edge W). x.source) r.3 ∙ r.2;
    from = λ n e i. let r = in_keyed (end_of Forward) (edge_at held ws nodes) edges n e i in let b = c.ends Forward r.0 r.1 in let q = r.2 in lt-ltb n nodes (omega arith);
    target = λ n e i. let r = in_keyed (end_of Forward) (edge_at held ws nodes) edges n e i in let b = c.ends Reverse r.0 r.1 in let q : e.target ≡ target_at ws nodes r.0 = ap (λ (x : Edge W). x.target) r.3 in lt-ltb e.target nodes (omega arith);
    number = λ n e i. let r = in_keyed (end_of Forward) (edge_at held ws nodes) edges n e i in let b = r.1 in let q : e.number ≡ r.0 = ap (λ (x : Edge W). x.number) r.3 in omega arith;
    unique = λ n m e f i j same.
        let r = in_keyed (end_of Forward) (edge_at held ws nodes) edges n e i in
        let u = in_keyed (end_of Forward) (edge_at held ws nodes) edges m f j in
        let p : e.number ≡ r.0 = ap (λ (x : Edge W). x.number) r.3 in
        let q : f.number ≡ u.0 = ap (λ (x : Edge W). x.number) u.3 in
        let k : r.0 ≡ u.0 = omega arith in
        r.3 ∙ ap (edge_at held ws nodes) k ∙ sym u.3;
    once = λ n. once_keyed (end_of Forward) (edge_at held ws nodes) (λ _. refl) edges n;
    few_nodes = c.few_nodes;
    few_edges = c.few_edges;
  }

  pub table_tied : Tied (λ n. filter (leaves n) (laid held ws nodes edges)) (λ n. filter (enters n) (laid held ws nodes edges))
  table_tied = record {
    target = λ n e i. let r = in_keyed (end_of Reverse) (edge_at held ws nodes) edges n e i in ap (λ (x : Edge W). x.target) r.3 ∙ r.2;
    out = λ n e i.
        let r = in_keyed (end_of Reverse) (edge_at held ws nodes) edges n e i in
        subst (λ (x : Edge W). In x (filter (leaves x.source) (laid held ws nodes edges))) (sym r.3) (keyed_in (end_of Forward) (edge_at held ws nodes) edges _ r.0 r.1 refl);
    back = λ n e i.
        let r = in_keyed (end_of Forward) (edge_at held ws nodes) edges n e i in
        subst (λ (x : Edge W). In x (filter (enters x.target) (laid held ws nodes edges))) (sym r.3) (keyed_in (end_of Reverse) (edge_at held ws nodes) edges _ r.0 r.1 refl);
    once = λ n. once_keyed (end_of Reverse) (edge_at held ws nodes) (λ _. refl) edges n;
  }

  end_edge : (d : DependencyDirection) (j : ℕ) → end_of d (edge_at held ws nodes j) ≡ end_at d ws nodes j
  end_edge Forward j = refl
  end_edge Reverse j = refl

  last_edge : (d : DependencyDirection) (k n h : ℕ) → Last (end_at d ws nodes) k n h → Last (λ j. end_of d (edge_at held ws nodes j)) k n h
  last_edge Forward k n h l = l
  last_edge Reverse k n h l = l

  -- a head stands for the list of its node, and an index that is no node has none
  pub chain_head : (d : DependencyDirection) (n : ℕ) → n < nodes → from (end_of d) (edge_at held ws nodes) edges (head_at d ws n) ≡ filter (touching d n) (laid held ws nodes edges)
  chain_head d n b = from_last (end_of d) (edge_at held ws nodes) edges edges n _ (omega arith) (last_edge d edges n _ (c.heads d n b))

  pub chain_none : (d : DependencyDirection) (n : ℕ) → nodes ≤ n → from (end_of d) (edge_at held ws nodes) edges 0 ≡ filter (touching d n) (laid held ws nodes edges)
  chain_none d n b =
      from_last (end_of d) (edge_at held ws nodes) edges edges n 0 (omega arith)
      (omega arith, λ j _ high q. let r = c.ends d j high in let z = end_edge d j in omega arith, λ p. absurd (omega arith))

  -- an edge's own link stands for what comes after it
  pub chain_step : (d : DependencyDirection) (e : ℕ) → e < edges → Steps (from (end_of d) (edge_at held ws nodes) edges (suc e)) (Some (edge_at held ws nodes e)) (from (end_of d) (edge_at held ws nodes) edges (next_at d ws nodes e))
  chain_step d e b =
      let q : suc e - 1 ≡ e = omega arith in
      let key : end_at d ws nodes e ≡ end_of d (edge_at held ws nodes e) = sym (end_edge d e) in
      let l = subst (λ k. Last (λ j. end_of d (edge_at held ws nodes j)) e k (next_at d ws nodes e)) key (last_edge d e _ _ (c.nexts d e b)) in
      subst (λ k. Steps (from (end_of d) (edge_at held ws nodes) edges (suc e)) (Some (edge_at held ws nodes k)) (from (end_of d) (edge_at held ws nodes) edges (next_at d ws nodes e))) q
      (link_step (end_of d) (edge_at held ws nodes) edges (suc e) _ (omega arith) (omega arith)
      (subst (λ k. Last (λ j. end_of d (edge_at held ws nodes j)) k (end_of d (edge_at held ws nodes k)) (next_at d ws nodes e)) (sym q) l))

-- the eight words of an edge, as a part of the table
abbrev pub edge_part : List ℕ → ℕ → ℕ → List ℕ
edge_part ws nodes e = take (2 * nodes + 8 * e + 8 - (2 * nodes + 8 * e)) (drop (2 * nodes + 8 * e) ws)

module _ (ws : List ℕ) (nodes e : ℕ) where
  word_read : (k : ℕ) → k < 8 → get_or (edge_part ws nodes e) k 0 ≡ get_or ws (2 * nodes + 8 * e + k) 0
  word_read k b = let b' : k < 2 * nodes + 8 * e + 8 - (2 * nodes + 8 * e) = omega arith in rw (get_or-take, get_or-drop)

  pub edge_read : {W : Type 0} (held : List ℕ → W) → edge_at held ws nodes e ≡ record { source = get_or (edge_part ws nodes e) 0 0; target = get_or (edge_part ws nodes e) 1 0; number = e; weight = held (get_or (edge_part ws nodes e) 4 0 ∷ get_or (edge_part ws nodes e) 5 0 ∷ get_or (edge_part ws nodes e) 6 0 ∷ get_or (edge_part ws nodes e) 7 0 ∷ []) }
  edge_read held =
      let s = rw add-zero at (word_read 0 (omega arith)) in
      let t = word_read 1 (omega arith) in
      let p = word_read 4 (omega arith) in
      let q = word_read 5 (omega arith) in
      let r = word_read 6 (omega arith) in
      let u = word_read 7 (omega arith) in cc

  pub next_read : (d : DependencyDirection) → next_at d ws nodes e ≡ get_or (edge_part ws nodes e) (2 + end_among d 0 1) 0
  next_read Forward = sym (word_read 2 (omega arith))
  next_read Reverse = sym (word_read 3 (omega arith))
