-- The post-order walk with a stack: what holds between its turns, and that each of its three turns (discover, skip, finish) keeps it.
-- What is discovered is any predicate, so that a table of marks serves as well as a list. Assumes nothing.
use Rattle.std.proofs.Common.{◌≡◌, ℕ, ◌⊎◌, List, [], ◌∷◌, ◌++◌, sym, refl, ap, subst, inl, inr, ⊎_elim}
use Rattle.std.proofs.Math.Logic.{⊎_map}
use Rattle.theory.specs.Edges.{In, Distinct}
use Rattle.theory.specs.Reach.{Leads, Reach, more}
use Rattle.theory.proofs.Reaching.{in_cast, reach_eq}

-- v may stand right above the path p
abbrev pub Under : (ℕ → List ℕ) → List ℕ → ℕ → Type 0
Under out [] v = Unit {0}
Under out (g ∷ p) v = In v (out g)

-- the path p (the nodes discovered and not finished, the latest first) stands in the stack; what stands between is a target of the
-- path's next node below, and not on the path below
abbrev pub Lay : (ℕ → List ℕ) → List ℕ → List ℕ → Type 0
Lay out s [] = Unit {0}
Lay out [] (g ∷ p) = ⊥
Lay out (v ∷ s) (g ∷ p) =
    (Lay out s (g ∷ p) × (In v (g ∷ p) → ⊥) × In v (out g)) ⊎ ((v ≡ g) × Lay out s p × (In v p → ⊥) × Under out p v)

-- each target of g is in k, or g was there before the walk
abbrev pub Told : (ℕ → List ℕ) → (ℕ → Type 0) → (ℕ → Type 0) → ℕ → Type 0
Told out old k g = old g ⊎ ((w : ℕ) → In w (out g) → k w)

-- each discovered node of the stack has its targets discovered, or above it
abbrev pub Cov : (ℕ → List ℕ) → (old d k : ℕ → Type 0) → List ℕ → Type 0
Cov out old d k [] = Unit {0}
Cov out old d k (g ∷ s) = (d g → Told out old k g) × Cov out old d (λ x. k x ⊎ (x ≡ g)) s

pub record Walk (out : ℕ → List ℕ) (old d : ℕ → Type 0) (s f p : List ℕ) : Type 0 where
  pub lay : Lay out s p
  pub grey : (v : ℕ) → d v → In v f ⊎ In v p
  pub path : (v : ℕ) → In v p → d v × (In v f → ⊥)
  pub done : (v : ℕ) → In v f → d v
  pub cov : Cov out old d d s
  pub told : (v : ℕ) → In v f → Told out old d v
  pub once : Distinct f

-- d' is d with v
pub record Adds (d d' : ℕ → Type 0) (v : ℕ) : Type 0 where
  pub keep : (x : ℕ) → d x → d' x
  pub new : d' v
  pub only : (x : ℕ) → d' x → d x ⊎ (x ≡ v)

-- l is what is pushed for v
pub record Pushed (out : ℕ → List ℕ) (d' : ℕ → Type 0) (v : ℕ) (l : List ℕ) : Type 0 where
  pub target : (w : ℕ) → In w l → In w (out v)
  pub white : (w : ℕ) → In w l → d' w → ⊥
  pub all : (w : ℕ) → In w (out v) → d' w ⊎ In w l

module _ (out : ℕ → List ℕ) (old : ℕ → Type 0) where
  -- every node of the path reaches its top
  pub chain : (s : List ℕ) (g : ℕ) (p : List ℕ) → Lay out s (g ∷ p) → (u : ℕ) → In u (g ∷ p) → Reach (Leads out) u g
  chain [] g p l u h = absurd l
  chain (v ∷ s) g p (inl k) u h = chain s g p k.0 u h
  chain (v ∷ s) g p (inr k) u (inl e) = reach_eq e
  chain (v ∷ s) g [] (inr k) u (inr h) = absurd h
  chain (v ∷ s) g (q ∷ p) (inr k) u (inr h) = more (chain s q p k.1 u h) (in_cast (out q) k.0 k.3)

  pub cov_mono : (d k k' : ℕ → Type 0) (s : List ℕ) → ((x : ℕ) → k x → k' x) → Cov out old d k s → Cov out old d k' s
  cov_mono d k k' [] m c = tt
  cov_mono d k k' (g ∷ s) m c = (
    λ h. ⊎_map (λ o. o) (λ t w i. m w (t w i)) (c.0 h),
    cov_mono d (λ x. k x ⊎ (x ≡ g)) (λ x. k' x ⊎ (x ≡ g)) s (λ x. ⊎_map (λ a. m x a) (λ e. e)) c.1,
  )

  -- one more discovered node whose targets are known
  pub cov_add : (d d' k : ℕ → Type 0) (v : ℕ) (s : List ℕ) → Adds d d' v → ((w : ℕ) → In w (out v) → k w) → Cov out old d k s → Cov out old d' k s
  cov_add d d' k v [] a t c = tt
  cov_add d d' k v (g ∷ s) a t c = (
    λ h. ⊎_elim (λ i. c.0 i) (λ e. inr (λ w i. t w (subst (λ z. In w (out z)) e i))) (a.only g h),
    cov_add d d' (λ x. k x ⊎ (x ≡ g)) v s a (λ w i. inl (t w i)) c.1,
  )

  -- what is pushed is not discovered
  pub cov_push : (d k : ℕ → Type 0) (l s : List ℕ) → ((w : ℕ) → In w l → d w → ⊥) → Cov out old d (λ x. k x ⊎ In x l) s → Cov out old d k (l ++ s)
  cov_push d k [] s n c = cov_mono d (λ x. k x ⊎ ⊥) k s (λ x. ⊎_elim (λ a. a) (λ z. absurd z)) c
  cov_push d k (w ∷ l) s n c = (
    λ h. absurd (n w (inl refl) h),
    cov_push d (λ x. k x ⊎ (x ≡ w)) l s (λ x i. n x (inr i))
        (cov_mono d (λ x. k x ⊎ ((x ≡ w) ⊎ In x l)) (λ x. (k x ⊎ (x ≡ w)) ⊎ In x l) s
        (λ x. ⊎_elim (λ a. inl (inl a)) (⊎_map (λ e. inr e) (λ i. i))) c),
  )

  pub lay_push : (g : ℕ) (p l s : List ℕ) → ((w : ℕ) → In w l → (In w (g ∷ p) → ⊥) × In w (out g)) → Lay out s (g ∷ p) → Lay out (l ++ s) (g ∷ p)
  lay_push g p [] s n y = y
  lay_push g p (w ∷ l) s n y = inl (lay_push g p l s (λ x i. n x (inr i)) y, (n w (inl refl)).0, (n w (inl refl)).1)

  -- the top, not on the path, goes on the path
  pub lay_mark : (v : ℕ) (s p : List ℕ) → (In v p → ⊥) → Lay out (v ∷ s) p → Lay out (v ∷ s) (v ∷ p)
  lay_mark v s [] n y = inr (refl, tt, n, tt)
  lay_mark v s (g ∷ p) n (inl k) = inr (refl, k.0, k.1, k.2)
  lay_mark v s (g ∷ p) n (inr k) = absurd (n (inl k.0))

  pub discover : (d d' : ℕ → Type 0) (v : ℕ) (s f p l : List ℕ) → Walk out old d (v ∷ s) f p → (d v → ⊥) → Adds d d' v → Pushed out d' v l → Walk out old d' (l ++ (v ∷ s)) f (v ∷ p)
  discover d d' v s f p l w n a u =
      let off : In v p → ⊥ = λ i. n (w.path v i).0 in
      record {
        lay = lay_push v p l (v ∷ s)
            (λ x i. (⊎_elim (λ e. u.white x i (subst d' (sym e) a.new)) (λ j. u.white x i (a.keep x (w.path x j).0)), u.target x i))
            (lay_mark v s p off w.lay);
        grey = λ x h. ⊎_elim (λ h. ⊎_map (λ i. i) (λ i. inr i) (w.grey x h)) (λ e. inr (inl e)) (a.only x h);
        path = λ x. ⊎_elim
            (λ e. (subst d' (sym e) a.new, λ i. n (w.done v (in_cast f e i))))
            (λ i. (a.keep x (w.path x i).0, (w.path x i).1));
        done = λ x i. a.keep x (w.done x i);
        cov = cov_push d' d' l (v ∷ s) u.white
            (cov_add d d' (λ x. d' x ⊎ In x l) v (v ∷ s) a u.all (cov_mono d d (λ x. d' x ⊎ In x l) (v ∷ s) (λ x h. inl (a.keep x h)) w.cov));
        told = λ x i. ⊎_map (λ o. o) (λ t y j. a.keep y (t y j)) (w.told x i);
        once = w.once;
      }

  pub skip : (d : ℕ → Type 0) (v : ℕ) (s f p : List ℕ) → Walk out old d (v ∷ s) f p → In v f → Walk out old d s f p
  skip d v s f p w i = record {
    lay = under p w.lay (λ h. (w.path v h).1 i);
    grey = w.grey;
    path = w.path;
    done = w.done;
    cov = cov_mono d (λ x. d x ⊎ (x ≡ v)) d s (λ x. ⊎_elim (λ a. a) (λ e. subst d (sym e) (w.done v i))) w.cov.1;
    told = w.told;
    once = w.once;
  }
    where
      under : (p : List ℕ) → Lay out (v ∷ s) p → (In v p → ⊥) → Lay out s p
      under [] y n = tt
      under (g ∷ p) (inl k) n = k.0
      under (g ∷ p) (inr k) n = absurd (n (inl k.0))

  -- the top, discovered and not finished, is the path's top
  pub record Top (s : List ℕ) (v : ℕ) (p q : List ℕ) : Type 0 where
    pub is : p ≡ v ∷ q
    pub lay : Lay out s q
    pub off : In v q → ⊥

  pub top : (s : List ℕ) (v : ℕ) (p : List ℕ) → Lay out (v ∷ s) p → In v p → (q : List ℕ) × Top s v p q
  top s v [] y h = absurd h
  top s v (g ∷ p) (inl k) h = absurd (k.1 h)
  top s v (g ∷ p) (inr k) h = (p, record { is = ap (λ x. x ∷ p) (sym k.0); lay = k.1; off = k.2 })

  pub finish : (d : ℕ → Type 0) (v : ℕ) (s f p q : List ℕ) → Walk out old d (v ∷ s) f p → d v → (In v f → ⊥) → Top s v p q → Walk out old d s (v ∷ f) q
  finish d v s f p q w h n t =
      let on : (x : ℕ) → In x p → In x (v ∷ q) = λ x i. subst (In x) t.is i in
      let back : (x : ℕ) → In x (v ∷ q) → In x p = λ x i. subst (In x) (sym t.is) i in
      record {
        lay = t.lay;
        grey = λ x k. ⊎_elim (λ i. inl (inr i)) (λ i. ⊎_map (λ e. inl e) (λ j. j) (on x i)) (w.grey x k);
        path = λ x i. ((w.path x (back x (inr i))).0, ⊎_elim (λ e. t.off (in_cast q e i)) (w.path x (back x (inr i))).1);
        done = λ x. ⊎_elim (λ e. subst d (sym e) h) (w.done x);
        cov = cov_mono d (λ x. d x ⊎ (x ≡ v)) d s (λ x. ⊎_elim (λ a. a) (λ e. subst d (sym e) h)) w.cov.1;
        told = λ x. ⊎_elim (λ e. subst (Told out old d) (sym e) (w.cov.0 h)) (w.told x);
        once = (n, w.once);
      }
