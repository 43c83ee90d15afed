-- A walk that ends has finished what it reaches. Assumes nothing.
use Rattle.std.proofs.Common.{◌≡◌, ℕ, ◌⊎◌, List, [], ◌∷◌, subst, inl, inr, ⊎_elim}
use Rattle.std.proofs.Math.Logic.{⊎_map}
use Rattle.theory.specs.Edges.{In, Distinct}
use Rattle.theory.specs.Listings.{inside}
use Rattle.theory.specs.PostOrder.{Via, WalkFinishesWhatItReaches, in?, run}
use Rattle.theory.specs.Reach.{here}
use Rattle.theory.proofs.Reaching.{reach_keeps}
use Rattle.theory.proofs.PostRunning.{State-keeps, run_ends, run_keeps, visit_keeps}
use Rattle.theory.proofs.PostWalking.{Cov, Told, Walk}

module _ (out : ℕ → List ℕ) (old : ℕ → Type 0) where
  cov_all : (d k : ℕ → Type 0) (s : List ℕ) → ((g : ℕ) → d g → Told out old k g) → Cov out old d k s
  cov_all d k [] t = tt
  cov_all d k (g ∷ s) t = (
    t g,
    cov_all d (λ x. k x ⊎ (x ≡ g)) s (λ x h. ⊎_map (λ o. o) (λ m w i. inl (m w i)) (t x h)),
  )

  -- a walk with no path, from any stack
  pub walk_start : (d : ℕ → Type 0) (s f : List ℕ) → ((v : ℕ) → d v → In v f) → ((v : ℕ) → In v f → d v) → ((v : ℕ) → In v f → Told out old d v) → Distinct f → Walk out old d s f []
  walk_start d s f a b t o = record {
    lay = tt;
    grey = λ v h. inl (a v h);
    path = λ v h. absurd h;
    done = b;
    cov = cov_all d d s (λ g h. t g (a g h));
    told = t;
    once = o;
  }

  -- at the end the path is empty
  pub walk_end : (d : ℕ → Type 0) (s f p : List ℕ) → s ≡ [] → Walk out old d s f p → (v : ℕ) → d v → In v f
  walk_end d [] f [] e w v h = ⊎_elim (λ i. i) (λ z. absurd z) (w.grey v h)
  walk_end d [] f (g ∷ p) e w v h = absurd w.lay
  walk_end d (x ∷ s) f p e w v h = cc

pub walk_finishes_what_it_reaches : WalkFinishesWhatItReaches
walk_finishes_what_it_reaches out n inside s d f nodes a b o k m =
    let old : ℕ → Type 0 = λ u. In u f in
    let x = run out k s d f in
    let start : State-keeps out old s s d f = (
      ([], walk_start out old (λ v. In v d) s f a b (λ v i. inl i) o),
      record { found = λ v i. inl (a v i); aimed = λ v i. aim v i (in? v f); kept = b; begun = λ v i. inr i },
    ) in
    let kept = run_keeps out (State-keeps out old s) (visit_keeps out old s) k s d f start in
    let ends = run_ends out n inside k s d f nodes m in
    let w = kept.0.1 in
    let same : (v : ℕ) → In v x.disc → In v x.fin = walk_end out old (λ v. In v x.disc) x.stack x.fin kept.0.0 ends w in
    record {
      ends = ends;
      same = same;
      back = w.done;
      only = λ v i. kept.1.found v (w.done v i);
      keeps = λ v i. same v (kept.1.kept v i);
      all = λ v h. same v (reach_keeps Arrives (λ u v g e. (⊎_elim (λ z. absurd (g.1 z)) (λ t. t v e.0) (w.told u (same u g.0)), e.1)) (start_in h.0 (kept.1.begun h.0 h.1) ends, h.2) h.3).0;
      once = w.once;
    }
  where
    aim : (v : ℕ) → In v s → Dec (In v f) → In v f ⊎ Via out (λ u. In u f) s v
    aim v i (yes j) = inl j
    aim v i (no j) = inr (v, i, j, here)

    start_in : (r : ℕ) → In r (run out k s d f).disc ⊎ In r (run out k s d f).stack → (run out k s d f).stack ≡ [] → In r (run out k s d f).disc
    start_in r (inl i) e = i
    start_in r (inr i) e = absurd (subst (In r) e i)

    Arrives : ℕ → Type 0
    Arrives v = In v (run out k s d f).disc × (In v f → ⊥)
