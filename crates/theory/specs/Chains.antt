-- newest: the items 0 to k - 1, the latest first.  Last: a link that tells the latest item with a given key.
-- A link is an item's number and one, or 0 for none.  from: the items that a walk along links has still to give.
-- Assumes nothing.
use Rattle.std.specs.Prelude.{◌≡◌, ℕ, zero, suc, ◌-◌, ◌<◌, ◌≤◌, cond, List, [], ◌∷◌, filter, ◌≢◌, nat_eq, nat_le}

-- the items below k, the latest first
abbrev pub newest : {X : Type 0} → (ℕ → X) → ℕ → List X
newest at zero = []
newest at (suc k) = at k ∷ newest at k

-- the items below k with the key n, the latest first
abbrev pub keyed : {X : Type 0} → (X → ℕ) → (ℕ → X) → ℕ → ℕ → List X
keyed key at k n = filter (λ x. nat_eq (key x) n) (newest at k)

-- the link h tells the latest number below k at which f is n
abbrev pub Last : (ℕ → ℕ) → ℕ → ℕ → ℕ → Type 0
Last f k n h = (h ≤ k) × ((j : ℕ) → h ≤ j → j < k → f j ≢ n) × (0 < h → f (h - 1) ≡ n)

-- of `count` items, those with one key from a link on; none from a link past them
abbrev pub from : {X : Type 0} → (X → ℕ) → (ℕ → X) → ℕ → ℕ → List X
from key at count link = cond (nat_le link count) (keyed key at link (key (at (link - 1)))) []
