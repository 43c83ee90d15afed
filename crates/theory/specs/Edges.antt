-- Edge: an edge by its ends, its number and its record.
-- In: an item stands in a list.  Distinct: no item stands twice in it.  Once: no two of its places hold edges of one number.
-- turn: an edge with its ends swapped.  within: both ends are in a set.  leaves, enters: an edge has this source, this target.
-- Assumes nothing.
use Rattle.std.specs.Prelude.{◌≡◌, ℕ, Bool, ◌&&◌, ◌⊎◌, List, [], ◌∷◌, ◌==◌, ◌≢◌}

-- an edge of a graph whose edges carry records of the type W
pub record Edge (W : Type 0) : Type 0 where
  pub source : ℕ
  pub target : ℕ
  pub number : ℕ
  pub weight : W

-- x stands in the list
abbrev pub In : {X : Type 0} → X → List X → Type 0
In x [] = ⊥
In x (y ∷ ys) = (x ≡ y) ⊎ In x ys

-- no item stands twice
abbrev pub Distinct : {X : Type 0} → List X → Type 0
Distinct [] = Unit {0}
Distinct (x ∷ l) = (In x l → ⊥) × Distinct l

-- no two places of the list hold edges of one number
abbrev pub Once : {W : Type 0} → List (Edge W) → Type 0
Once [] = Unit {0}
Once {W} (e ∷ es) = ((f : Edge W) → In f es → f.number ≢ e.number) × Once es

-- the edge with its ends swapped
abbrev pub turn : {W : Type 0} → Edge W → Edge W
turn e = record { source = e.target; target = e.source; number = e.number; weight = e.weight }

-- both ends of the edge are in the set
abbrev pub within : {W : Type 0} → (ℕ → Bool) → Edge W → Bool
within has e = has e.source && has e.target

-- the edge leaves n
abbrev pub leaves : {W : Type 0} → ℕ → Edge W → Bool
leaves n e = e.source == n

-- the edge enters n
abbrev pub enters : {W : Type 0} → ℕ → Edge W → Bool
enters n e = e.target == n
