-- A table keeps its chains as an edge is laid, and its edges are then those before with the new one first.
-- Assumes nothing.
use Rattle.std.proofs.Common.{◌≡◌, ℕ, ◌+◌, ◌*◌, ◌<◌, ◌≤◌, List, ◌∷◌, length, get_or, sym, ap, ◌∙◌, subst, inl, inr, arith, below_more}
use std.HLevel.{Π_prop}
use native.Mathlib.Bridge.{le_prop}
use Rattle.std.proofs.lemmas.Bool.{cases_eq}
use Rattle.theory.specs.Limits.{node_limit, edge_limit}
use Rattle.theory.specs.Chains.{Last}
use Rattle.theory.proofs.Chaining.{last_prop, last_none, head_other, head_new, link_old, link_new, newest_more}
use Rattle.index.specs.declared.direction.DependencyDirection.{DependencyDirection}
use Rattle.index.specs.declared.direction.DependencyDirection.TheVariants.{Forward, Reverse}
use Rattle.tables.specs.Table.{end_at, end_among, head_at, next_at, record_at, edge_at, laid, Kept, Kept-prop, Laid}

pub kept_prop : {ws : List ℕ} {nodes edges : ℕ} → IsProp (Kept ws nodes edges)
kept_prop =
    Kept-prop le_prop le_prop le_prop (Π_prop (λ _. Π_prop (λ _. Π_prop (λ _. le_prop)))) (Π_prop (λ _. Π_prop (λ _. Π_prop (λ _. last_prop))))
    (Π_prop (λ _. Π_prop (λ _. Π_prop (λ _. last_prop))))

-- a table whose first words are 0 has chains of no edge
pub kept_clear : (ws : List ℕ) (nodes : ℕ) → nodes ≤ node_limit → 2 * nodes ≤ length ws → ((k : ℕ) → k < 2 * nodes → get_or ws k 0 ≡ 0) → Kept ws nodes 0
kept_clear ws nodes few long z = record {
  few_nodes = few;
  few_edges = omega arith;
  fits = omega arith;
  ends = λ d e b. absurd (omega arith);
  heads = λ d n b. subst (Last (end_at d ws nodes) 0 n) (sym (head d n b)) (last_none (end_at d ws nodes) n);
  nexts = λ d e b. absurd (omega arith);
}
  where
    head : (d : DependencyDirection) (n : ℕ) → n < nodes → head_at d ws n ≡ 0
    head Forward n b = z (2 * n) (omega arith)
    head Reverse n b = z (2 * n + 1) (omega arith)

module _ (ws vs : List ℕ) (nodes e s t : ℕ) (words : List ℕ) (l : Laid ws vs nodes e s t words) (s_in : s < nodes) (t_in : t < nodes) where
  same_end : (d : DependencyDirection) (j : ℕ) → j < e → end_at d vs nodes j ≡ end_at d ws nodes j
  same_end Forward j b = l.old (2 * nodes + 8 * j) (omega arith) (omega arith)
  same_end Reverse j b = l.old (2 * nodes + 8 * j + 1) (omega arith) (omega arith)

  same_next : (d : DependencyDirection) (j : ℕ) → j < e → next_at d vs nodes j ≡ next_at d ws nodes j
  same_next Forward j b = l.old (2 * nodes + 8 * j + 2) (omega arith) (omega arith)
  same_next Reverse j b = l.old (2 * nodes + 8 * j + 3) (omega arith) (omega arith)

  same_record : (j : ℕ) → j < e → record_at vs nodes j ≡ record_at ws nodes j
  same_record j b =
      let p = l.old (2 * nodes + 8 * j + 4) (omega arith) (omega arith) in
      let q = l.old (2 * nodes + 8 * j + 5) (omega arith) (omega arith) in
      let r = l.old (2 * nodes + 8 * j + 6) (omega arith) (omega arith) in
      let u = l.old (2 * nodes + 8 * j + 7) (omega arith) (omega arith) in cc

  end_in : (d : DependencyDirection) → end_among d s t < nodes
  end_in Forward = s_in
  end_in Reverse = t_in

  pub kept_laid : Kept ws nodes e → e < edge_limit → 2 * nodes + 8 * e + 8 ≤ length ws → Kept vs nodes (e + 1)
  kept_laid c few room = record {
    few_nodes = c.few_nodes;
    few_edges = omega arith;
    fits = let long = l.long in omega arith;
    ends = λ d. below_more (λ k. end_at d vs nodes k < nodes) e (λ k b. let p = same_end d k b in let q = c.ends d k b in omega arith) (let p = l.ends d in let q = end_in d in omega arith);
    heads = λ d n b. elim (cases_eq n (end_among d s t)) [
      | inl q ↦ subst (Last (end_at d vs nodes) (e + 1) n) (sym (ap (head_at d vs) q ∙ l.front d)) (head_new (end_at d ws nodes) (end_at d vs nodes) e (same_end d) n (l.ends d ∙ sym q))
      | inr ne ↦ subst (Last (end_at d vs nodes) (e + 1) n) (sym (l.heads d n b ne)) (head_other (end_at d ws nodes) (end_at d vs nodes) e (same_end d) n _ (λ q. ne (sym q ∙ l.ends d)) (c.heads d n b))
    ];
    nexts = λ d. below_more (λ k. Last (end_at d vs nodes) k (end_at d vs nodes k) (next_at d vs nodes k)) e
        (λ k b. link_old (end_at d ws nodes) (end_at d vs nodes) e (same_end d) k b _ _ (same_next d k b) (c.nexts d k b))
        (link_new (end_at d ws nodes) (end_at d vs nodes) e (same_end d) (end_among d s t) _ _ (l.ends d) (l.nexts d) (c.heads d (end_among d s t) (end_in d)));
  }

  pub laid_edges : {W : Type 0} (held : List ℕ → W) (w : W) → held words ≡ w → laid held vs nodes (e + 1) ≡ record { source = s; target = t; number = e; weight = w } ∷ laid held ws nodes e
  laid_edges held w is =
      newest_more (edge_at held ws nodes) (edge_at held vs nodes) e (record { source = s; target = t; number = e; weight = w })
      (λ j b. let p = same_end Forward j b in let q = same_end Reverse j b in let r = ap held (same_record j b) in cc)
      (let p = l.ends Forward in let q = l.ends Reverse in let r = ap held l.held ∙ is in cc)
