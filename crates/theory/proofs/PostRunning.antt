-- Runs of the post-order walk: with turns enough they end, and they discover nothing but what is reached. Assumes nothing.
use Rattle.std.proofs.Common.{◌≡◌, ℕ, ◌+◌, ◌<◌, ◌≤◌, ◌⊎◌, List, [], ◌∷◌, ◌++◌, length, sym, refl, subst, inl, inr, ⊎_elim, arith}
use Rattle.std.proofs.Math.Logic.{⊎_map}
use Rattle.theory.specs.Edges.{In}
use Rattle.theory.specs.PostOrder.{State, Via, fresh, in?, run, step, visit, weight}
use Rattle.theory.specs.Reach.{Inside, more}
use Rattle.theory.proofs.Machines.{all_keep, comes_to_end}
use Rattle.theory.proofs.Pushing.{adds, fresh_length, pushed, weight_falls}
use Rattle.theory.proofs.Reaching.{in_cases, in_right, popped}
use Rattle.theory.proofs.Steps.{Empty, run_machine, step_stays}
use Rattle.theory.proofs.PostWalking.{Top, Walk, discover, finish, skip, top}

-- a statement on states that every visit keeps is kept by a run
pub run_keeps : (out : ℕ → List ℕ) (P : (s d f : List ℕ) → Type 0)
    → ((v : ℕ) (s d f : List ℕ) (a : Dec (In v d)) (b : Dec (In v f)) → P (v ∷ s) d f → P (visit out v s d f a b).stack (visit out v s d f a b).disc (visit out v s d f a b).fin)
    → (k : ℕ) (s d f : List ℕ) → P s d f → P (run out k s d f).stack (run out k s d f).disc (run out k s d f).fin
run_keeps out P keep k s d f h =
    all_keep (run_machine out) (λ x. P x.stack x.disc x.fin) (λ x. each x.stack x.disc x.fin) k (record { stack = s; disc = d; fin = f }) h
  where
    each : (s d f : List ℕ) → P s d f → P (step out s d f).stack (step out s d f).disc (step out s d f).fin
    each [] d f p = p
    each (v ∷ s) d f p = keep v s d f (in? v d) (in? v f) p

-- every node of the stack is below n
abbrev pub Nodes : ℕ → List ℕ → Type 0
Nodes n s = (y : ℕ) → In y s → y < n

pub one_node : {n i : ℕ} → i < n → Nodes n (i ∷ [])
one_node lt y (inl e) = omega arith
one_node lt y (inr z) = absurd z

module _ (out : ℕ → List ℕ) (n : ℕ) (inside : Inside n out) where
  pub fresh_nodes : (d : List ℕ) (v : ℕ) (s : List ℕ) → Nodes n s → Nodes n (fresh (v ∷ d) (out v) ++ s)
  fresh_nodes d v s h y i = ⊎_elim (λ j. inside v y ((pushed out d v).target y j)) (h y) (in_cases y (fresh (v ∷ d) (out v)) s i)

  -- from the stack s, with d discovered, x has less to do
  abbrev pub Falls : (s d : List ℕ) (x : State) → Type 0
  Falls s d x = Nodes n x.stack × (length x.stack + weight out n x.disc < length s + weight out n d)

  visit_falls : (v : ℕ) (s d f : List ℕ) (a : Dec (In v d)) (b : Dec (In v f)) → Nodes n (v ∷ s) → Falls (v ∷ s) d (visit out v s d f a b)
  visit_falls v s d f (no m) b h = (fresh_nodes d v (v ∷ s) h, omega (arith, fresh_length (v ∷ d) (out v) (v ∷ s), weight_falls out n d v (h v (inl refl)) m))
  visit_falls v s d f (yes i) (yes j) h = (λ y k. h y (inr k), omega arith)
  visit_falls v s d f (yes i) (no j) h = (λ y k. h y (inr k), omega arith)

  step_falls : (s d f : List ℕ) → Nodes n s → (s ≡ []) ⊎ Falls s d (step out s d f)
  step_falls [] d f h = inl refl
  step_falls (v ∷ s) d f h = inr (visit_falls v s d f (in? v d) (in? v f) h)

  -- with enough fuel the stack is empty
  pub run_ends : (k : ℕ) (s d f : List ℕ) → Nodes n s → length s + weight out n d ≤ k → (run out k s d f).stack ≡ []
  run_ends k s d f h m =
      (comes_to_end (run_machine out) Empty (step_stays out) (λ x. Nodes n x.stack) (λ x. length x.stack + weight out n x.disc)
      (λ x. step_falls x.stack x.disc x.fin) k (record { stack = s; disc = d; fin = f }) h m).0

-- each visit keeps a walk, and what was stacked stays discovered or stacked
module _ (out : ℕ → List ℕ) (old : ℕ → Type 0) where
  abbrev pub Walking : (s d f : List ℕ) → Type 0
  Walking s d f = (p : List ℕ) × Walk out old (λ x. In x d) s f p

  pub top_of : (v : ℕ) (s d f : List ℕ) (w : Walking (v ∷ s) d f) → In v d → (In v f → ⊥) → (q : List ℕ) × Top out old s v w.0 q
  top_of v s d f w i n = top out old s v w.0 w.1.lay (⊎_elim (λ k. absurd (n k)) (λ k. k) (w.1.grey v i))

  pub visit_walk : (v : ℕ) (s d f : List ℕ) (a : Dec (In v d)) (b : Dec (In v f)) → Walking (v ∷ s) d f → let x = visit out v s d f a b in Walking x.stack x.disc x.fin
  visit_walk v s d f (no m) b w = (v ∷ w.0, discover out old (λ x. In x d) (λ x. In x (v ∷ d)) v s f w.0 (fresh (v ∷ d) (out v)) w.1 m (adds d v) (pushed out d v))
  visit_walk v s d f (yes i) (yes j) w = (w.0, skip out old (λ x. In x d) v s f w.0 w.1 j)
  visit_walk v s d f (yes i) (no n) w = let q = top_of v s d f w i n in (q.0, finish out old (λ x. In x d) v s f w.0 q.0 w.1 i n q.1)

  pub visit_begun : (x v : ℕ) (s d f : List ℕ) (a : Dec (In v d)) (b : Dec (In v f)) → In x d ⊎ In x (v ∷ s) → let y = visit out v s d f a b in In x y.disc ⊎ In x y.stack
  visit_begun x v s d f (no m) b = ⊎_map (λ i. inr i) (λ i. in_right x (fresh (v ∷ d) (out v)) (v ∷ s) i)
  visit_begun x v s d f (yes i) (yes j) = popped (λ z. In z d) s i
  visit_begun x v s d f (yes i) (no n) = popped (λ z. In z d) s i

-- what a run keeps: nothing but what is old or reached is discovered or stacked
pub record Reached (out : ℕ → List ℕ) (old : ℕ → Type 0) (s0 s d : List ℕ) : Type 0 where
  pub found : (x : ℕ) → In x d → old x ⊎ Via out old s0 x
  pub aimed : (x : ℕ) → In x s → old x ⊎ Via out old s0 x
  pub kept : (x : ℕ) → old x → In x d
  pub begun : (x : ℕ) → In x s0 → In x d ⊎ In x s

module _ (out : ℕ → List ℕ) (old : ℕ → Type 0) (s0 : List ℕ) where
  via_more : (u w : ℕ) → old u ⊎ Via out old s0 u → (old u → ⊥) → In w (out u) → (old w → ⊥) → Via out old s0 w
  via_more u w (inl o) n e m = absurd (n o)
  via_more u w (inr v) n e m = (v.0, v.1, v.2, more v.3 (e, m))

  abbrev pub State-keeps : (s d f : List ℕ) → Type 0
  State-keeps s d f = Walking out old s d f × Reached out old s0 s d

  visit_reaches : (v : ℕ) (s d f : List ℕ) (a : Dec (In v d)) (b : Dec (In v f)) → Reached out old s0 (v ∷ s) d → let x = visit out v s d f a b in Reached out old s0 x.stack x.disc
  visit_reaches v s d f (no m) b h =
      let new : old v → ⊥ = λ o. m (h.kept v o) in
      let l = fresh (v ∷ d) (out v) in
      record {
        found = λ x. ⊎_elim (λ e. subst (λ z. old z ⊎ Via out old s0 z) (sym e) (h.aimed v (inl refl))) (h.found x);
        aimed = λ x i. ⊎_elim
            (λ j. inr (via_more v x (h.aimed v (inl refl)) new ((pushed out d v).target x j) (λ o. (pushed out d v).white x j (inr (h.kept x o)))))
            (h.aimed x)
            (in_cases x l (v ∷ s) i);
        kept = λ x o. inr (h.kept x o);
        begun = λ x i. visit_begun out old x v s d f (no m) b (h.begun x i);
      }
  visit_reaches v s d f (yes i) (yes j) h = record { found = h.found; aimed = λ x k. h.aimed x (inr k); kept = h.kept; begun = λ x k. visit_begun out old x v s d f (yes i) (yes j) (h.begun x k) }
  visit_reaches v s d f (yes i) (no n) h = record { found = h.found; aimed = λ x k. h.aimed x (inr k); kept = h.kept; begun = λ x k. visit_begun out old x v s d f (yes i) (no n) (h.begun x k) }

  pub visit_keeps : (v : ℕ) (s d f : List ℕ) (a : Dec (In v d)) (b : Dec (In v f)) → State-keeps (v ∷ s) d f → let x = visit out v s d f a b in State-keeps x.stack x.disc x.fin
  visit_keeps v s d f a b (w, h) = (visit_walk out old v s d f a b w, visit_reaches v s d f a b h)
