-- The walk that shows edges: what each of its steps keeps, and that it shows just the inside edges behind a root, each once. Assumes nothing.
use Rattle.std.proofs.Common.{◌≡◌, ℕ, ◌+◌, ◌<◌, ◌≤◌, Bool, ◌⊎◌, List, [], ◌∷◌, reverse, length, sym, refl, subst, inl, inr, ⊎_elim, arith}
use Rattle.std.proofs.Math.Logic.{⊎_map}
use mathlib.Core.List.{reverse_aux}
use Rattle.std.proofs.Math.ListN.{length-reverse_aux}
use Rattle.theory.specs.Edges.{Edge, In, Once, within, Distinct}
use Rattle.theory.specs.Graphs.{Sound, Tied}
use Rattle.theory.specs.Listings.{Behind, Direction, LinksShowWhatRootsReach, Linking, Shows, begin, far, followed, inside, linking, links, meet, near, roots, show, shows}
use Rattle.theory.specs.PostOrder.{in?, weight}
use Rattle.theory.specs.Reach.{here, more}
use Rattle.theory.proofs.Following.{far_below, listed_once, near_at, one_number}
use Rattle.theory.proofs.Kept.{in_kept, once_kept}
use Rattle.theory.proofs.Pushing.{adds, weight_falls}
use Rattle.theory.proofs.Reaching.{in_cast, in_reverse, pushed_distinct, pushed_in, pushed_left, pushed_right, reach_keeps, reverse_distinct, reverse_in}
use Rattle.theory.proofs.Rooting.{roots_are_entries}
use Rattle.theory.proofs.PostWalking.{Adds}
use Rattle.theory.proofs.Machines.{comes_to_end}
use Rattle.theory.proofs.Steps.{show_stays, shows_machine}

-- each item stands once, under the node that it is at, and leads to a node below n
pub record Lists {X : Type 0} (lst : ℕ → List X) (at to : X → ℕ) (n : ℕ) : Type 0 where
  pub under : (u : ℕ) (e : X) → In e (lst u) → at e ≡ u
  pub once : (u : ℕ) → Distinct (lst u)
  pub nodes : (u : ℕ) (e : X) → In e (lst u) → to e < n

-- h has just the items whose node one of rs reaches
pub record Complete {X : Type 0} (lst : ℕ → List X) (at to : X → ℕ) (rs : List ℕ) (h : List X) : Type 0 where
  pub once : Distinct h
  pub inside : (e : X) → In e h → In e (lst (at e))
  pub behind : (e : X) → In e h → Behind lst to rs (at e)
  pub all : (u : ℕ) (e : X) → In e (lst u) → Behind lst to rs u → In e h

-- s is stacked, h is shown, d is met
pub record Linked {X : Type 0} (lst : ℕ → List X) (at to : X → ℕ) (rs : List ℕ) (s : List X) (d : ℕ → Type 0) (h : List X) : Type 0 where
  pub stacked : (e : X) → In e s → In e (lst (at e)) × d (at e)
  pub told : (e : X) → In e h → In e (lst (at e)) × d (at e)
  pub all : (u : ℕ) (e : X) → d u → In e (lst u) → In e s ⊎ In e h
  pub single : Distinct s
  pub once : Distinct h
  pub apart : (e : X) → In e s → In e h → ⊥
  pub sound : (u : ℕ) → d u → Behind lst to rs u

module _ {X : Type 0} (lst : ℕ → List X) where
  meet_in : (u : ℕ) (s : List X) (d : List ℕ) (h : List X) (c : Dec (In u d)) → In u (meet lst u s d h c).met × ((v : ℕ) → In v d → In v (meet lst u s d h c).met)
  meet_in u s d h (yes i) = (i, λ v a. a)
  meet_in u s d h (no m) = (inl refl, λ v a. inr a)

  pub meet_shown : (u : ℕ) (s : List X) (d : List ℕ) (h : List X) (c : Dec (In u d)) → (meet lst u s d h c).shown ≡ h
  meet_shown u s d h (yes i) = refl
  meet_shown u s d h (no m) = refl

module _ {X : Type 0} (lst : ℕ → List X) (at to : X → ℕ) (n : ℕ) (ls : Lists lst at to n) (rs : List ℕ) where
  pub linked_pop : (e : X) (s : List X) (d : ℕ → Type 0) (h : List X) → Linked lst at to rs (e ∷ s) d h → Linked lst at to rs s d (e ∷ h)
  linked_pop e s d h g = record {
    stacked = λ x i. g.stacked x (inr i);
    told = λ x. ⊎_elim (λ q. g.stacked x (inl q)) (g.told x);
    all = λ u x i j. ⊎_elim (⊎_elim (λ q. inr (inl q)) (λ a. inl a)) (λ a. inr (inr a)) (g.all u x i j);
    single = g.single.1;
    once = (g.apart e (inl refl), g.once);
    apart = λ x i. ⊎_elim (λ q. g.single.0 (in_cast s q i)) (g.apart x (inr i));
    sound = g.sound;
  }

  -- a node met for the first time
  pub linked_new : (u : ℕ) (s : List X) (d d' : ℕ → Type 0) (h : List X) → Linked lst at to rs s d h → (d u → ⊥) → Adds d d' u → Behind lst to rs u → Linked lst at to rs (reverse_aux (lst u) s) d' h
  linked_new u s d d' h g m a b =
      let off : (x : X) → In x (lst u) → d (at x) → ⊥ = λ x i j. m (subst d (ls.under u x i) j) in
      record {
        stacked = λ x i. ⊎_elim
            (λ c. (subst (λ z. In x (lst z)) (sym (ls.under u x c)) c, subst d' (sym (ls.under u x c)) a.new))
            (λ c. ((g.stacked x c).0, a.keep (at x) (g.stacked x c).1))
            (pushed_in (lst u) s x i);
        told = λ x i. ((g.told x i).0, a.keep (at x) (g.told x i).1);
        all = λ v x i j. ⊎_elim
            (λ k. ⊎_map (λ c. pushed_right (lst u) s x c) (λ c. c) (g.all v x k j))
            (λ q. inl (pushed_left (lst u) s x (subst (λ z. In x (lst z)) q j)))
            (a.only v i);
        single = pushed_distinct (lst u) s (ls.once u) g.single (λ x k c. off x k (g.stacked x c).1);
        once = g.once;
        apart = λ x i j. ⊎_elim (λ k. off x k (g.told x j).1) (λ k. g.apart x k j) (pushed_in (lst u) s x i);
        sound = λ v i. ⊎_elim (g.sound v) (λ q. subst (Behind lst to rs) (sym q) b) (a.only v i);
      }

  linked_meet : (u : ℕ) (s : List X) (d : List ℕ) (h : List X) (c : Dec (In u d)) → Linked lst at to rs s (λ v. In v d) h → Behind lst to rs u → let x = meet lst u s d h c in Linked lst at to rs x.stack (λ v. In v x.met) x.shown
  linked_meet u s d h (yes i) g b = g
  linked_meet u s d h (no m) g b = linked_new u s (λ v. In v d) (λ v. In v (u ∷ d)) h g m (adds d u) b

  meet_falls : (u : ℕ) (s : List X) (d : List ℕ) (h : List X) (c : Dec (In u d)) → u < n → let x = meet lst u s d h c in length x.stack + weight lst n x.met ≤ length s + weight lst n d
  meet_falls u s d h (yes i) lt = omega arith
  meet_falls u s d h (no m) lt = omega (arith, length-reverse_aux (lst u) s, weight_falls lst n d u lt m)

  -- to ends of what is shown are met
  abbrev Ahead : (d : List ℕ) (h : List X) → Type 0
  Ahead d h = (e : X) → In e h → In (to e) d

  begun : (xs : List ℕ) (s : List X) (d : List ℕ) → ((r : ℕ) → In r xs → In r rs) → ((r : ℕ) → In r xs → r < n) → Linked lst at to rs s (λ v. In v d) [] → let x = begin lst xs s d in Linked lst at to rs x.stack (λ v. In v x.met) [] × ((r : ℕ) → In r d ⊎ In r xs → In r x.met) × (length x.stack + weight lst n x.met ≤ length s + weight lst n d)
  unfolding begin
  begun [] s d sub lt g = (g, λ r. ⊎_elim (λ a. a) (λ z. absurd z), omega arith)
  begun (r ∷ xs) s d sub lt g =
      let c = in? r d in
      let x = meet lst r s d [] c in
      let g' = subst (Linked lst at to rs x.stack (λ v. In v x.met)) (meet_shown lst r s d [] c) (linked_meet r s d [] c g (r, sub r (inl refl), here)) in
      let o = meet_in lst r s d [] c in
      let b = begun xs x.stack x.met (λ q i. sub q (inr i)) (λ q i. lt q (inr i)) g' in
      let f = meet_falls r s d [] c (lt r (inl refl)) in (
        b.0,
        λ q. ⊎_elim (λ a. b.1 q (inl (o.1 q a))) (⊎_elim (λ a. b.1 q (inl (in_cast x.met (sym a) o.0))) (λ a. b.1 q (inr a))),
        omega (arith, b.2),
      )

  -- with nothing on the stack all is shown
  pub all_shown : (d : ℕ → Type 0) (h : List X) → Linked lst at to rs [] d h → ((e : X) → In e h → d (to e)) → ((r : ℕ) → In r rs → d r) → Complete lst at to rs h
  all_shown d h g a r = record {
    once = g.once;
    inside = λ e i. (g.told e i).0;
    behind = λ e i. g.sound (at e) (g.told e i).1;
    all = λ u e i b. seen u e (reach_keeps d (λ v w j l. subst d l.2 (a l.0 (seen v l.0 j l.1))) (r b.0 b.1) b.2) i;
  }
    where
      seen : (u : ℕ) (e : X) → d u → In e (lst u) → In e h
      seen u e i j = ⊎_elim (λ z. absurd z) (λ c. c) (g.all u e i j)

  -- between two turns, with every root met
  abbrev Shown : Linking X → Type 0
  Shown x = Linked lst at to rs x.stack (λ v. In v x.met) x.shown × Ahead x.met x.shown × ((r : ℕ) → In r rs → In r x.met)

  abbrev size : Linking X → ℕ
  size x = length x.stack + weight lst n x.met

  show_keeps : (s : List X) (d : List ℕ) (h : List X) → Shown (record { stack = s; met = d; shown = h }) → (s ≡ []) ⊎ (Shown (show lst to s d h) × (size (show lst to s d h) < length s + weight lst n d))
  show_keeps [] d h g = inl refl
  show_keeps (e ∷ s) d h (g, a, r) =
      let u = to e in
      let c = in? u d in
      let x = meet lst u s d (e ∷ h) c in
      let from = g.stacked e (inl refl) in
      let b : Behind lst to rs u = let y = g.sound (at e) from.1 in (y.0, y.1, more y.2 (e, from.0, refl)) in
      let o = meet_in lst u s d (e ∷ h) c in
      let f = meet_falls u s d (e ∷ h) c (ls.nodes (at e) e from.0) in
      inr (
        (
          linked_meet u s d (e ∷ h) c (linked_pop e s (λ v. In v d) h g) b,
          subst (Ahead x.met) (sym (meet_shown lst u s d (e ∷ h) c)) (λ y. ⊎_elim (λ q. subst (λ z. In (to z) x.met) (sym q) o.0) (λ i. o.1 (to y) (a y i))),
          λ q i. o.1 q (r q i),
        ),
        omega arith,
      )

  shown : (k : ℕ) (x : Linking X) → Shown x → size x ≤ k → Complete lst at to rs (shows lst to k x.stack x.met x.shown).shown
  shown k x g m =
      let y = shows lst to k x.stack x.met x.shown in
      let e = comes_to_end (shows_machine lst to) (λ z. z.stack ≡ []) (show_stays lst to) Shown size (λ z. show_keeps z.stack z.met z.shown) k x g m in
      all_shown (λ v. In v y.met) y.shown (subst (λ s. Linked lst at to rs s (λ v. In v y.met) y.shown) e.0 e.1.0) e.1.1 e.1.2

module _ {X : Type 0} (lst : ℕ → List X) (at to : X → ℕ) (n : ℕ) (ls : Lists lst at to n) (rs : List ℕ) where
  pub walk_shows : ((r : ℕ) → In r rs → r < n) → let x = begin lst rs [] [] in Complete lst at to rs (shows lst to (weight lst n []) x.stack x.met []).shown
  walk_shows lt =
      let x = begin lst rs [] [] in
      let none : Linked lst at to rs [] (λ v. In v []) [] = record {
        stacked = λ e z. absurd z;
        told = λ e z. absurd z;
        all = λ u e z i. absurd z;
        single = tt;
        once = tt;
        apart = λ e z i. z;
        sound = λ u z. absurd z;
      } in
      let b = begun lst at to n ls rs rs [] [] (λ r i. i) lt none in
      shown lst at to n ls rs (weight lst n []) (record { stack = x.stack; met = x.met; shown = [] }) (b.0, (λ e z. absurd z), λ r i. b.1 r (inr i)) (omega (arith, b.2))

-- a list of edges with no number twice is distinct, and of a graph's edges the other way round
once_distinct : {W : Type 0} (es : List (Edge W)) → Once es → Distinct es
once_distinct [] o = tt
once_distinct (e ∷ es) o = (λ i. o.0 e i refl, once_distinct es o.1)

distinct_once : {W : Type 0} (es : List (Edge W)) → ((e f : Edge W) → In e es → In f es → e.number ≡ f.number → e ≡ f) → Distinct es → Once es
distinct_once [] u o = tt
distinct_once (e ∷ es) u o = (
  λ f i same. o.0 (in_cast es (u f e (inr i) (inl refl) same) i),
  distinct_once es (λ f g i j same. u f g (inr i) (inr j) same) o.1,
)

module _ {W : Type 0} {node : ℕ → Bool} {bound edges : ℕ} {outs ins : ℕ → List (Edge W)} (s : Sound node bound edges outs) (t : Tied outs ins) (d : Direction) (p : ℕ → Bool) where
  pub inside_lists : Lists (inside d p outs ins) (near d) (far d) bound
  inside_lists = record {
    under = λ u e i. near_at s t d u e (in_kept (within p) (followed d outs ins u) e i).0;
    once = λ u. once_distinct (inside d p outs ins u) (once_kept (within p) (followed d outs ins u) (listed_once s t d u));
    nodes = λ u e i. far_below s t d u e (in_kept (within p) (followed d outs ins u) e i).0;
  }

  -- the order in which they are shown is no matter
  pub complete_shows : (rs : List ℕ) (h : List (Edge W)) → Complete (inside d p outs ins) (near d) (far d) rs h → Shows d p outs ins rs (reverse h)
  complete_shows rs h c =
      let follows : (e : Edge W) → In e (reverse h) → In e (followed d outs ins (near d e)) = λ e i. (in_kept (within p) (followed d outs ins (near d e)) e (c.inside e (reverse_in h e i))).0 in
      record {
        once = distinct_once (reverse h) (λ e f i j same. one_number s t d (near d e) (near d f) e f (follows e i) (follows f j) same) (reverse_distinct h c.once);
        within = λ e i. c.inside e (reverse_in h e i);
        behind = λ e i. c.behind e (reverse_in h e i);
        all = λ u e i b. in_reverse h e (c.all u e i b);
      }

pub links_show_what_roots_reach : (W : Type 0) → LinksShowWhatRootsReach W
unfolding links
links_show_what_roots_reach W node bound edges outs ins s t d p =
    let rs = roots d p outs ins bound in
    complete_shows s t d p rs (linking d p outs ins bound (weight (inside d p outs ins) bound [])).shown
    (walk_shows (inside d p outs ins) (near d) (far d) bound (inside_lists s t d p) rs (roots_are_entries W node bound edges outs ins s t d p).nodes)
