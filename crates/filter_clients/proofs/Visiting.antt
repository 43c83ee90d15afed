-- A list of a sound graph has no more edges than the graph, and a filter that was told one node alone. Assumes nothing.
use Rattle.std.proofs.Common.{◌≡◌, ℕ, ◌+◌, ◌<◌, ◌≤◌, Bool, true, false, cond, ◌||◌, eqb, List, [], ◌∷◌, length, Some, None, filter, Option, refl, ap, ◌∙◌, arith}
use Rattle.theory.specs.Edges.{Edge}
use Rattle.theory.specs.Graphs.{Sound, Steps}
use Rattle.theory.specs.Rules.{Rule, was_told, hands}
use Rattle.theory.specs.Walk.{mark}
use Rattle.theory.proofs.Cursors.{step_some}
use Rattle.theory.proofs.Kept.{at_most}
use Rattle.filter.specs.Filters.{Untold, Discovers}

pub few_out : {W : Type 0} {node : ℕ → Bool} {bound edges : ℕ} {outs : ℕ → List (Edge W)} → Sound node bound edges outs → (n : ℕ) (list : List (Edge W)) → list ≡ outs n → length list ≤ edges
few_out {W} {node} {bound} {edges} {outs} s n list is = let all = ap length is in let most = at_most edges (outs n) (s.once n) (λ e i. s.number n e i) in omega arith

-- an edge is next: there is an edge less to come, and a place for it
pub next_fits : {X : Type 0} (rest after : List X) (x : X) (used all size : ℕ) → Steps rest (Some x) after → used + length rest ≤ all → all ≤ size → used < size
next_fits rest after x used all size s h l = let e = ap length (step_some rest x after s) in omega arith

-- no more are kept than there are
pub kept_few : {X : Type 0} (p : X → Bool) (xs : List X) → length (filter p xs) ≤ length xs
kept_few p [] = omega arith
kept_few p (x ∷ xs) = go (p x) (kept_few p xs)
  where
    go : (b : Bool) → length (filter p xs) ≤ length xs → length (cond b (x ∷ filter p xs) (filter p xs)) ≤ length (x ∷ xs)
    go true h = omega arith
    go false h = omega arith

pub ended : {X : Type 0} (rest after : List X) → Steps rest None after → rest ≡ []
ended [] after s = refl
ended (x ∷ xs) after s = absurd (let q = s.0 in let z : ◌≡◌ {A = ℕ} 0 1 = cc in omega arith)

-- after the one node is told, edges go out as if just that node were
pub one_told : {E : Type 0} (r : Rule E) (n : ℕ) (t told : ℕ → Bool) (held held' out : List E) → Untold r t → Discovers r n t told held held' out → hands r told ≡ hands r (mark (λ _. false) n)
one_told {E} r n t told held held' out u d = λ j e. r.passes e || same e (r.waits e) refl j
  where
    same : (e : E) (o : Option ℕ) → r.waits e ≡ o → was_told told o ≡ was_told (mark (λ _. false) n) o
    same e None q = refl
    same e (Some w) q = d.tells e w q ∙ ap (λ b. b || eqb w n) (u e w q)
