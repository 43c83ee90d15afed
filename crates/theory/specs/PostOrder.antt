-- The post-order walk over lists of far ends, with a stack whose top comes first.
-- Before: one item is named before another.
-- either?, in?: whether one of two holds; whether a number stands in a list.  below: the numbers below n.
-- unless, fresh: a number that is not there; what is pushed for a node.  State: stack, discovered, finished.
-- visit, step, run: one turn, and k turns, of the walk.  walk_from, sweep: the walk from a node not yet discovered; from each of a list in turn.
-- cost, weight, fuel: how many turns are left at most.  part, share: how many edges leave nodes not yet discovered.
-- Via: reached from the stack past what was there before.  Finishes: what a walk comes to.  Post: what the order of finishing keeps to.
-- RunSteps: how to follow a run turn by turn.
-- WalkFinishesWhatItReaches, SweepFinishesInPostOrder, PostOrderSorts, StackFits, RunGoesBySteps: laws.
-- Assumes nothing.
use Rattle.std.specs.Prelude.{◌≡◌, ℕ, zero, suc, ◌+◌, ◌<◌, ◌≤◌, ◌⊎◌, List, [], ◌∷◌, ◌++◌, length, ◌≢◌}
use Rattle.std.proofs.Common.{inl, inr, ⊎_elim}
use Rattle.std.proofs.Math.Decide.{ℕ_discrete}
use Rattle.theory.specs.Edges.{In, Distinct}
use Rattle.theory.specs.Reach.{Reach, Leads, Same, Inside}

-- u is named before w
abbrev pub Before : ℕ → ℕ → List ℕ → Type 0
Before u w [] = ⊥
Before u w (x ∷ l) = ((u ≡ x) × In w l) ⊎ Before u w l

unfoldable pub either? : {A B : Type 0} → Dec A → Dec B → Dec (A ⊎ B)
either? (yes e) d = yes (inl e)
either? (no n) (yes h) = yes (inr h)
either? (no n) (no m) = no (⊎_elim n m)

-- whether x stands in the list
unfoldable pub in? : (x : ℕ) (l : List ℕ) → Dec (In x l)
in? x [] = no (λ h. h)
in? x (y ∷ l) = either? (ℕ_discrete x y) (in? x l)

-- the numbers below n, ascending
unfoldable pub below : ℕ → List ℕ
below zero = []
below (suc n) = below n ++ (n ∷ [])

abbrev pub unless : {A : Type 0} → Dec A → ℕ → List ℕ
unless (yes h) w = []
unless (no n) w = w ∷ []

-- what pushing, in order, each of ws that is not in d puts above the stack
abbrev pub fresh : List ℕ → List ℕ → List ℕ
fresh d [] = []
fresh d (w ∷ ws) = fresh d ws ++ unless (in? w d) w

-- both lists have the latest first
pub record State : Type 0 where
  pub stack : List ℕ
  pub disc : List ℕ
  pub fin : List ℕ

-- a new top is discovered and stays; else it is taken off, and finished if it was not
abbrev pub visit : (ℕ → List ℕ) → (v : ℕ) (s d f : List ℕ) → Dec (In v d) → Dec (In v f) → State
visit out v s d f (no n) c = record { stack = fresh (v ∷ d) (out v) ++ (v ∷ s); disc = v ∷ d; fin = f }
visit out v s d f (yes h) (yes i) = record { stack = s; disc = d; fin = f }
visit out v s d f (yes h) (no n) = record { stack = s; disc = d; fin = v ∷ f }

abbrev pub step : (ℕ → List ℕ) → (s d f : List ℕ) → State
step out [] d f = record { stack = []; disc = d; fin = f }
step out (v ∷ s) d f = visit out v s d f (in? v d) (in? v f)

-- k turns
unfoldable pub run : (ℕ → List ℕ) → ℕ → (s d f : List ℕ) → State
run out zero s d f = record { stack = s; disc = d; fin = f }
run out (suc k) s d f = let x = step out s d f in run out k x.stack x.disc x.fin

-- from i, unless it is discovered
abbrev pub walk_from : (ℕ → List ℕ) → ℕ → (i : ℕ) (d f : List ℕ) → Dec (In i d) → State
walk_from out k i d f (yes h) = record { stack = []; disc = d; fin = f }
walk_from out k i d f (no n) = run out k (i ∷ []) d f

-- from each of the list in turn
unfoldable pub sweep : (ℕ → List ℕ) → ℕ → (is d f : List ℕ) → State
sweep out k [] d f = record { stack = []; disc = d; fin = f }
sweep out k (i ∷ is) d f = let x = walk_from out k i d f (in? i d) in sweep out k is x.disc x.fin

abbrev pub cost : {A : Type 0} → Dec A → ℕ → ℕ
cost (yes h) m = 0
cost (no n) m = suc m

-- a turn for each node below n not in d, and for each edge out of it
unfoldable pub weight : {X : Type 0} → (ℕ → List X) → ℕ → List ℕ → ℕ
weight out zero d = 0
weight out (suc n) d = weight out n d + cost (in? n d) (length (out n))

-- turns enough for a walk from one node
unfoldable pub fuel : (ℕ → List ℕ) → ℕ → ℕ
fuel out n = suc (weight out n [])

abbrev pub part : {A : Type 0} → Dec A → ℕ → ℕ
part (yes h) m = 0
part (no n) m = m

-- how many edges leave nodes below n that are not in d
unfoldable pub share : {X : Type 0} → (ℕ → List X) → ℕ → List ℕ → ℕ
share out zero d = 0
share out (suc n) d = share out n d + part (in? n d) (length (out n))

-- x is reached from the stack s by a way with no node of old
abbrev pub Via : (ℕ → List ℕ) → (ℕ → Type 0) → List ℕ → ℕ → Type 0
Via out old s x =
    (r : ℕ) × In r s × (old r → ⊥) × Reach (λ u w. Leads out u w × (old w → ⊥)) r x

-- what a walk from the stack s comes to that began with all of f, and nothing else, discovered and finished
pub record Finishes (out : ℕ → List ℕ) (s f : List ℕ) (x : State) : Type 0 where
  pub ends : x.stack ≡ []
  pub same : (v : ℕ) → In v x.disc → In v x.fin
  pub back : (v : ℕ) → In v x.fin → In v x.disc
  pub only : (v : ℕ) → In v x.fin → In v f ⊎ Via out (λ u. In u f) s v
  pub keeps : (v : ℕ) → In v f → In v x.fin
  pub all : (v : ℕ) → Via out (λ u. In u f) s v → In v x.fin
  pub once : Distinct x.fin

-- Of a list with the last finished first: what a node reaches was finished no later than it, or some node of its component was
-- finished later.
abbrev pub Post : (ℕ → List ℕ) → List ℕ → Type 0
Post out [] = Unit {0}
Post out (x ∷ f) =
    ((v : ℕ) → Reach (Leads out) x v → In v (x ∷ f) ⊎ ((y : ℕ) × (In y (x ∷ f) → ⊥) × Same out x y)) × Post out f

-- with turns enough a walk ends, and has finished just what it reaches past what was there
abbrev pub WalkFinishesWhatItReaches : Type 0
WalkFinishesWhatItReaches =
    (out : ℕ → List ℕ) (n : ℕ) → Inside n out → (s d f : List ℕ) → ((v : ℕ) → In v s → v < n) →
    ((v : ℕ) → In v d → In v f) → ((v : ℕ) → In v f → In v d) → Distinct f →
    (k : ℕ) → length s + weight out n d ≤ k → Finishes out s f (run out k s d f)

-- the sweep from every node below n finishes just these, each once, in post-order
abbrev pub SweepFinishesInPostOrder : Type 0
SweepFinishesInPostOrder =
    (out : ℕ → List ℕ) (n : ℕ) → Inside n out → let f = (sweep out (fuel out n) (below n) [] []).fin in
    Distinct f × Post out f × ((x : ℕ) → x < n → In x f) × ((x : ℕ) → In x f → x < n)

-- with no loop of two nodes, post-order, the last finished first, names each edge's near end before its far end
abbrev pub PostOrderSorts : Type 0
PostOrderSorts =
    (out : ℕ → List ℕ) (f : List ℕ) → Post out f → ((x y : ℕ) → Same out x y → x ≡ y) →
    (u w : ℕ) → In u f → In w (out u) → (u ≢ w) → Before u w f

-- at any time the stack has no more than it had and a place for each edge out of a node discovered since
abbrev pub StackFits : Type 0
StackFits =
    (out : ℕ → List ℕ) (n : ℕ) → Inside n out → (k : ℕ) (s d f : List ℕ) → ((v : ℕ) → In v s → v < n) → let x = run out k s d f in
    length x.stack + share out n x.disc ≤ length s + share out n d

-- a run adds a turn at its end; runs that have ended agree; and what a turn does
pub record RunSteps (out : ℕ → List ℕ) (s d f : List ℕ) : Type 0 where
  pub last : (k : ℕ) → run out (suc k) s d f ≡ (let x = run out k s d f in step out x.stack x.disc x.fin)
  pub agree : (k m : ℕ) → (run out k s d f).stack ≡ [] → (run out m s d f).stack ≡ [] → run out k s d f ≡ run out m s d f
  pub new : (v : ℕ) → (In v d → ⊥) → step out (v ∷ s) d f ≡ record { stack = fresh (v ∷ d) (out v) ++ (v ∷ s); disc = v ∷ d; fin = f }
  pub finish : (v : ℕ) → In v d → (In v f → ⊥) → step out (v ∷ s) d f ≡ record { stack = s; disc = d; fin = v ∷ f }
  pub skip : (v : ℕ) → In v d → In v f → step out (v ∷ s) d f ≡ record { stack = s; disc = d; fin = f }

abbrev pub RunGoesBySteps : Type 0
RunGoesBySteps = (out : ℕ → List ℕ) (s d f : List ℕ) → RunSteps out s d f
