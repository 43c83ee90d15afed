-- Place, place: where a walk is: its stack (top first), the nodes seen, the nodes done, the edges held.
-- mark: a set with a node besides.  send, sends: the far end of an edge, of each edge, goes on the stack unless it was seen.
-- Asked, asks: the rule is asked about each edge of a list.  found: a new node is seen.
-- dropped, finished: the top is taken off; and it is done.
-- Step: turns until a node is done or the stack is empty.  Walks: steps, one after another.  after: the nodes done after an answer.
-- over, start: where a walk from some initials begins, the last of them on top.
-- look, turn: one look at the top.  did_at, did: the node that it finishes.
-- run, order: where a number of turns lead, and the nodes done by them, the latest first.
-- edges: how many edges there are.  enough: a number of turns that do.
-- StepIsOne, StepExists, WalkIsLeast, WalkStaysInside, WalkDoesEachOnce, RunWalks, WalkRuns, RunEnds, RunFits: the laws.
-- Assumes nothing.
use Rattle.std.specs.Prelude.{◌≡◌, ℕ, zero, suc, ◌+◌, ◌*◌, ◌≤◌, Bool, true, false, cond, ◌||◌, List, [], ◌∷◌, length, Some, None, filter, Option, ◌==◌}
use Rattle.theory.specs.Edges.{In, Distinct}
use Rattle.theory.specs.Rules.{Rule, Fair, hands, holds, stays_at}
use Rattle.theory.specs.Least.{Inside, IsLeast, Finite}

pub record Place (E : Type 0) : Type 0 where
  pub stack : List ℕ
  pub seen : ℕ → Bool
  pub done : ℕ → Bool
  pub held : List E

abbrev pub place : {E : Type 0} → List ℕ → (ℕ → Bool) → (ℕ → Bool) → List E → Place E
place st d f h = record { stack = st; seen = d; done = f; held = h }

abbrev pub mark : (ℕ → Bool) → ℕ → ℕ → Bool
mark d x n = d n || n == x

abbrev pub send : {E : Type 0} → (E → ℕ) → (ℕ → Bool) → E → List ℕ → List ℕ
send far d e st = cond (d (far e)) st (far e ∷ st)

abbrev pub sends : {E : Type 0} → (E → ℕ) → (ℕ → Bool) → List E → List ℕ → List ℕ
sends far d [] st = st
sends far d (e ∷ es) st = sends far d es (send far d e st)

-- the stack and the held edges, while the rule is asked
pub record Asked (E : Type 0) : Type 0 where
  pub stack : List ℕ
  pub held : List E

abbrev pub asks : {E : Type 0} → (E → ℕ) → Rule E → (ℕ → Bool) → List E → List ℕ → List E → Asked E
asks far r d [] st held = record { stack = st; held = held }
asks far r d (e ∷ es) st held = asks far r d es (cond (hands r d e) (send far d e st) st) (holds r d held e)

-- x is seen and stays on the stack: what waits on it goes out first, then the rule is asked about its own edges
abbrev pub found : {E : Type 0} → (ℕ → List E) → (E → ℕ) → Rule E → ℕ → Place E → Place E
found lst far r x s =
    let d = mark s.seen x in
    let a = asks far r d (lst x) (sends far d (r.frees x s.held) s.stack) (filter (stays_at r x) s.held) in
    place a.stack d s.done a.held

-- the top is taken off; st is the stack below it
abbrev pub dropped : {E : Type 0} → List ℕ → Place E → Place E
dropped st s = place st s.seen s.done s.held

-- the top, x, is taken off and done
abbrev pub finished : {E : Type 0} → ℕ → List ℕ → Place E → Place E
finished x st s = place st s.seen (mark s.done x) s.held

-- a step from s answers a and leads to t: the node that was done, or none at the empty stack
pub data Step {E : Type 0} (lst : ℕ → List E) (far : E → ℕ) (r : Rule E) (a : Option ℕ) (t : Place E) : Place E → Type 0 where
  ends : {s : Place E} → s.stack ≡ [] → a ≡ None → t ≡ s → Step lst far r a t s
  finds : {s : Place E} (x : ℕ) (st : List ℕ) → s.stack ≡ (x ∷ st) → s.seen x ≡ false → Step lst far r a t (found lst far r x s) → Step lst far r a t s
  drops : {s : Place E} (x : ℕ) (st : List ℕ) → s.stack ≡ (x ∷ st) → s.seen x ≡ true → s.done x ≡ true → Step lst far r a t (dropped st s) → Step lst far r a t s
  finishes : {s : Place E} (x : ℕ) (st : List ℕ) → s.stack ≡ (x ∷ st) → s.seen x ≡ true → s.done x ≡ false → a ≡ Some x → t ≡ finished x st s → Step lst far r a t s

-- the nodes done, the latest first, after one more answer
abbrev pub after : Option ℕ → List ℕ → List ℕ
after None xs = xs
after (Some x) xs = x ∷ xs

-- some steps lead from s to a place; xs are the nodes that they did, the latest first
pub data Walks {E : Type 0} (lst : ℕ → List E) (far : E → ℕ) (r : Rule E) (s : Place E) : List ℕ → Place E → Type 0 where
  begins : {xs : List ℕ} {t : Place E} → xs ≡ [] → t ≡ s → Walks lst far r s xs t
  goes : {xs : List ℕ} {t : Place E} (a : Option ℕ) (ys : List ℕ) (u : Place E) → Walks lst far r s ys u → Step lst far r a t u → xs ≡ after a ys → Walks lst far r s xs t

-- the last initial on top
abbrev pub over : List ℕ → List ℕ → List ℕ
over [] st = st
over (x ∷ xs) st = over xs (x ∷ st)

abbrev pub start : {E : Type 0} → List ℕ → Place E
start initials = place (over initials []) (λ _. false) (λ _. false) []

-- the second list is the stack
abbrev pub look : {E : Type 0} → (ℕ → List E) → (E → ℕ) → Rule E → List ℕ → Place E → Place E
look lst far r [] s = s
look lst far r (x ∷ st) s = cond (s.seen x) (cond (s.done x) (dropped st s) (finished x st s)) (found lst far r x s)

abbrev pub turn : {E : Type 0} → (ℕ → List E) → (E → ℕ) → Rule E → Place E → Place E
turn lst far r s = look lst far r s.stack s

-- the node that this turn finishes, if any
abbrev pub did_at : {E : Type 0} → List ℕ → Place E → Option ℕ
did_at [] s = None
did_at (x ∷ st) s = cond (s.seen x) (cond (s.done x) None (Some x)) None

abbrev pub did : {E : Type 0} → Place E → Option ℕ
did s = did_at s.stack s

unfoldable pub run : {E : Type 0} → (ℕ → List E) → (E → ℕ) → Rule E → ℕ → Place E → Place E
run lst far r zero s = s
run lst far r (suc k) s = run lst far r k (turn lst far r s)

-- xs are the nodes done before
unfoldable pub order : {E : Type 0} → (ℕ → List E) → (E → ℕ) → Rule E → ℕ → Place E → List ℕ → List ℕ
order lst far r zero s xs = xs
order lst far r (suc k) s xs = order lst far r k (turn lst far r s) (after (did s) xs)

-- how many edges the nodes below n have
abbrev pub edges : {E : Type 0} → (ℕ → List E) → ℕ → ℕ
edges lst zero = 0
edges lst (suc n) = edges lst n + length (lst n)

-- a turn for each initial and each node below n, and two for each edge
abbrev pub enough : {E : Type 0} → (ℕ → List E) → List ℕ → ℕ → ℕ
enough lst initials n = length initials + (n + 2 * edges lst n)

-- a step has one answer and leads to one place
abbrev pub StepIsOne : Type 0 → Type 0
StepIsOne E =
    (lst : ℕ → List E) (far : E → ℕ) (r : Rule E) (a b : Option ℕ) (t u s : Place E) → Step lst far r a t s → Step lst far r b u s → (a ≡ b) × (t ≡ u)

-- over a finite graph each step of a walk comes to an end
abbrev pub StepExists : Type 0 → Type 0
StepExists E =
    (lst : ℕ → List E) (far : E → ℕ) (r : Rule E) → Fair r → (initials : List ℕ) (n : ℕ) → Finite lst far initials n → (xs : List ℕ) (s : Place E) → Walks lst far r (start initials) xs s → (a : Option ℕ) × (t : Place E) × Step lst far r a t s

-- a walk that came to the empty stack has seen the least set
abbrev pub WalkIsLeast : Type 0 → Type 0
WalkIsLeast E =
    (lst : ℕ → List E) (far : E → ℕ) (r : Rule E) → Fair r → (initials xs : List ℕ) (t : Place E) → Walks lst far r (start initials) xs t → t.stack ≡ [] → IsLeast lst far r initials t.seen

-- no walk leaves it, however far it came
abbrev pub WalkStaysInside : Type 0 → Type 0
WalkStaysInside E =
    (lst : ℕ → List E) (far : E → ℕ) (r : Rule E) → Fair r → (initials xs : List ℕ) (t : Place E) → Walks lst far r (start initials) xs t → (s : ℕ → Bool) → IsLeast lst far r initials s → Inside t.seen s

-- a walk that came to the empty stack has done each node that it saw, once
abbrev pub WalkDoesEachOnce : Type 0 → Type 0
WalkDoesEachOnce E =
    (lst : ℕ → List E) (far : E → ℕ) (r : Rule E) (initials xs : List ℕ) (t : Place E) → Walks lst far r (start initials) xs t → t.stack ≡ [] → Distinct xs × ((n : ℕ) → t.seen n ≡ true → In n xs) × ((n : ℕ) → In n xs → t.seen n ≡ true)

-- turns that come to the empty stack are a walk
abbrev pub RunWalks : Type 0 → Type 0
RunWalks E =
    (lst : ℕ → List E) (far : E → ℕ) (r : Rule E) (initials : List ℕ) (k : ℕ) → let s = start initials in (run lst far r k s).stack ≡ [] → Walks lst far r s (order lst far r k s []) (run lst far r k s)

-- a walk is some number of turns
abbrev pub WalkRuns : Type 0 → Type 0
WalkRuns E =
    (lst : ℕ → List E) (far : E → ℕ) (r : Rule E) (s : Place E) (xs : List ℕ) (t : Place E) → Walks lst far r s xs t → (k : ℕ) × (run lst far r k s ≡ t) × (order lst far r k s [] ≡ xs)

-- over a finite graph enough turns come to the empty stack
abbrev pub RunEnds : Type 0 → Type 0
RunEnds E =
    (lst : ℕ → List E) (far : E → ℕ) (r : Rule E) → Fair r → (initials : List ℕ) (n : ℕ) → Finite lst far initials n → (k : ℕ) → enough lst initials n ≤ k → (run lst far r k (start initials)).stack ≡ []

-- and at any time few nodes are on the stack, and few edges are held
abbrev pub RunFits : Type 0 → Type 0
RunFits E =
    (lst : ℕ → List E) (far : E → ℕ) (r : Rule E) → Fair r → (initials : List ℕ) (n : ℕ) → Finite lst far initials n → (k : ℕ) → let t = run lst far r k (start initials) in (length t.stack ≤ length initials + 2 * edges lst n) × (length t.held ≤ edges lst n)
