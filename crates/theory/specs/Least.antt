-- A set of nodes is a test.  `lst` has each node's list of edges, `far` an edge's far end.
-- Opens: an edge leads on from a set.  Has, Closed, Inside: a set has the initials; has where its edges lead; lies in another.
-- IsLeast: a set is the least that has the initials and is closed.  Reached: a node is reached edge by edge.
-- Finite: initials and ends lie below a bound.
-- LeastIsUnique, LeastGrows, LeastByBounds, LeastExists, LeastIsReached: the laws.
-- Assumes nothing.
use Rattle.std.specs.Prelude.{◌≡◌, ℕ, ◌<◌, Bool, true, ◌⊎◌, List}
use Rattle.theory.specs.Edges.{In}
use Rattle.theory.specs.Rules.{Rule, Waits}

-- the edge passes, or waits on a node of the set
abbrev pub Opens : {E : Type 0} → Rule E → (ℕ → Bool) → E → Type 0
Opens r s e = (r.passes e ≡ true) ⊎ ((w : ℕ) × Waits r e w × (s w ≡ true))

abbrev pub Has : List ℕ → (ℕ → Bool) → Type 0
Has initials s = (n : ℕ) → In n initials → s n ≡ true

abbrev pub Closed : {E : Type 0} → (ℕ → List E) → (E → ℕ) → Rule E → (ℕ → Bool) → Type 0
Closed {E} lst far r s = (u : ℕ) (e : E) → s u ≡ true → In e (lst u) → Opens r s e → s (far e) ≡ true

abbrev pub Inside : (ℕ → Bool) → (ℕ → Bool) → Type 0
Inside s t = (n : ℕ) → s n ≡ true → t n ≡ true

-- it has the initials, it is closed, and it lies in every set of which both hold
pub record IsLeast {E : Type 0} (lst : ℕ → List E) (far : E → ℕ) (r : Rule E) (initials : List ℕ) (s : ℕ → Bool) : Type 0 where
  pub has : Has initials s
  pub closed : Closed lst far r s
  pub inside : (t : ℕ → Bool) → Has initials t → Closed lst far r t → Inside s t

-- a node is reached: it is an initial, or an edge leads to it from a reached node, and passes or waits on a reached one
pub data Reached {E : Type 0} (lst : ℕ → List E) (far : E → ℕ) (r : Rule E) (initials : List ℕ) : ℕ → Type 0 where
  initial : {n : ℕ} → In n initials → Reached lst far r initials n
  passing : {n : ℕ} (u : ℕ) (e : E) → Reached lst far r initials u → In e (lst u) → r.passes e ≡ true → n ≡ far e → Reached lst far r initials n
  waited : {n : ℕ} (u : ℕ) (e : E) (w : ℕ) → Reached lst far r initials u → In e (lst u) → Waits r e w → Reached lst far r initials w → n ≡ far e → Reached lst far r initials n

-- the initials lie below n, and edges lead from there to below n
pub record Finite {E : Type 0} (lst : ℕ → List E) (far : E → ℕ) (initials : List ℕ) (n : ℕ) : Type 0 where
  pub starts : (i : ℕ) → In i initials → i < n
  pub ends : (u : ℕ) (e : E) → u < n → In e (lst u) → far e < n

-- two least sets have the same members
abbrev pub LeastIsUnique : Type 0 → Type 0
LeastIsUnique E =
    (lst : ℕ → List E) (far : E → ℕ) (r : Rule E) (initials : List ℕ) (s t : ℕ → Bool) → IsLeast lst far r initials s → IsLeast lst far r initials t → (n : ℕ) → s n ≡ t n

-- of more initials it is no smaller
abbrev pub LeastGrows : Type 0 → Type 0
LeastGrows E =
    (lst : ℕ → List E) (far : E → ℕ) (r : Rule E) (initials more : List ℕ) (s t : ℕ → Bool) → ((n : ℕ) → In n initials → In n more) → IsLeast lst far r initials s → IsLeast lst far r more t → Inside s t

-- what has the initials, is closed and lies in the least set has its members
abbrev pub LeastByBounds : Type 0 → Type 0
LeastByBounds E =
    (lst : ℕ → List E) (far : E → ℕ) (r : Rule E) (initials : List ℕ) (s t : ℕ → Bool) → IsLeast lst far r initials s → Has initials t → Closed lst far r t → Inside t s → (n : ℕ) → t n ≡ s n

-- a finite graph has one
abbrev pub LeastExists : Type 0 → Type 0
LeastExists E =
    (lst : ℕ → List E) (far : E → ℕ) (r : Rule E) (initials : List ℕ) (n : ℕ) → Finite lst far initials n → (s : ℕ → Bool) × IsLeast lst far r initials s

-- it has every node that is reached, and in a finite graph no other
abbrev pub LeastIsReached : Type 0 → Type 0
LeastIsReached E =
    (lst : ℕ → List E) (far : E → ℕ) (r : Rule E) (initials : List ℕ) (s : ℕ → Bool) → IsLeast lst far r initials s → ((m : ℕ) → Reached lst far r initials m → s m ≡ true) × ((n : ℕ) → Finite lst far initials n → (m : ℕ) → s m ≡ true → Reached lst far r initials m)
