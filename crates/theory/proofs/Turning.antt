-- What a turned and a filtered graph keep to. Assumes nothing.
use Rattle.std.proofs.Common.{◌≡◌, ℕ, Bool, true, ◌&&◌, List, [], ◌∷◌, map, filter, ap, subst}
use Rattle.std.proofs.lemmas.Bool.{and_parts, and_from}
use Rattle.theory.specs.Edges.{Edge, In, Once, turn, within}
use Rattle.theory.specs.Graphs.{Sound, Tied}
use Rattle.theory.proofs.Kept.{in_kept, kept_in, once_kept}
use Rattle.theory.proofs.Reaching.{in_cast, in_map, map_in}

in_turned : {W : Type 0} (es : List (Edge W)) (e : Edge W) → In e (map turn es) → In (turn e) es
in_turned es e h = let r = in_map turn es e h in in_cast es (ap turn r.2) r.1

once_turned : {W : Type 0} (es : List (Edge W)) → Once es → Once (map turn es)
once_turned [] h = tt
once_turned (x ∷ xs) h = (λ f i same. h.0 (turn f) (in_turned xs f i) same, once_turned xs h.1)

module _ {W : Type 0} {node : ℕ → Bool} {bound edges : ℕ} {outs ins : ℕ → List (Edge W)} (s : Sound node bound edges outs) (t : Tied outs ins) where
  pub turned_sound : Sound node bound edges (λ n. map turn (ins n))
  turned_sound = record {
    below = s.below;
    source = λ n e i. t.target n (turn e) (in_turned (ins n) e i);
    from = λ n e i. let j = in_turned (ins n) e i in subst (λ k. node k ≡ true) (t.target n (turn e) j) (s.target _ (turn e) (t.out n (turn e) j));
    target = λ n e i. s.from _ (turn e) (t.out n (turn e) (in_turned (ins n) e i));
    number = λ n e i. s.number _ (turn e) (t.out n (turn e) (in_turned (ins n) e i));
    unique = λ n m e f i j same. ap turn (s.unique _ _ (turn e) (turn f) (t.out n (turn e) (in_turned (ins n) e i)) (t.out m (turn f) (in_turned (ins m) f j)) same);
    once = λ n. once_turned (ins n) (t.once n);
    few_nodes = s.few_nodes;
    few_edges = s.few_edges;
  }

  pub turned_tied : Tied (λ n. map turn (ins n)) (λ n. map turn (outs n))
  turned_tied = record {
    target = λ n e i. s.source n (turn e) (in_turned (outs n) e i);
    out = λ n e i. map_in turn (ins e.source) (turn e) (t.back n (turn e) (in_turned (outs n) e i));
    back = λ n e i. map_in turn (outs e.target) (turn e) (t.out n (turn e) (in_turned (ins n) e i));
    once = λ n. once_turned (outs n) (s.once n);
  }

module _ {W : Type 0} (has : ℕ → Bool) where
  pub filtered_sound : {node : ℕ → Bool} {bound edges : ℕ} {outs : ℕ → List (Edge W)} → Sound node bound edges outs → Sound (λ n. node n && has n) bound edges (λ n. filter (within has) (outs n))
  filtered_sound {node} {bound} {edges} {outs} s = record {
    below = λ n h. s.below n (and_parts (node n) (has n) h).0;
    source = λ n e i. s.source n e (in_kept (within has) (outs n) e i).0;
    from = λ n e i.
        let k = in_kept (within has) (outs n) e i in
        and_from (node n) (has n) (s.from n e k.0) (subst (λ m. has m ≡ true) (s.source n e k.0) (and_parts (has e.source) (has e.target) k.1).0);
    target = λ n e i.
        let k = in_kept (within has) (outs n) e i in
        and_from (node e.target) (has e.target) (s.target n e k.0) (and_parts (has e.source) (has e.target) k.1).1;
    number = λ n e i. s.number n e (in_kept (within has) (outs n) e i).0;
    unique = λ n m e f i j same. s.unique n m e f (in_kept (within has) (outs n) e i).0 (in_kept (within has) (outs m) f j).0 same;
    once = λ n. once_kept (within has) (outs n) (s.once n);
    few_nodes = s.few_nodes;
    few_edges = s.few_edges;
  }

  pub filtered_tied : {outs ins : ℕ → List (Edge W)} → Tied outs ins → Tied (λ n. filter (within has) (outs n)) (λ n. filter (within has) (ins n))
  filtered_tied {outs} {ins} t = record {
    target = λ n e i. t.target n e (in_kept (within has) (ins n) e i).0;
    out = λ n e i. let k = in_kept (within has) (ins n) e i in kept_in (within has) (outs e.source) e (t.out n e k.0) k.1;
    back = λ n e i. let k = in_kept (within has) (outs n) e i in kept_in (within has) (ins e.target) e (t.back n e k.0) k.1;
    once = λ n. once_kept (within has) (ins n) (t.once n);
  }
