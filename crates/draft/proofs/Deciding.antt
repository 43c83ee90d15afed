-- Calls of a draft to which no refusal applies. Assumes nothing.
use Rattle.std.proofs.Common.{◌≡◌, ℕ, ◌*◌, ◌<◌, ◌≤◌, false, List, length, None, Option, Result, sym, subst, arith}
use Rattle.std.proofs.lemmas.Bool.Decides.{nat_tests}
use Rattle.theory.specs.Limits.{node_limit, edge_limit}
use Rattle.index.specs.declared.records.WeakIndex.{WeakIndex}
use Rattle.index.specs.declared.refusal.Refusal.{Refusal}
use Rattle.draft.specs.Drafting.{State, set_up_refused, SetsUp, SetsUpBy, edge_refused, unregistered, room_for, TakesEdge, TakesEdgeBy}

pub edge_fits : (d : State) (s t : ℕ) (weak : Option WeakIndex) → s < d.nodes → t < d.nodes → unregistered (length d.pairs) weak ≡ false
    → d.edges < edge_limit → d.edges < room_for (length d.words) d.nodes → edge_refused d s t weak ≡ None
edge_fits d s t weak a b u k m = grind (arith, nat_tests)

module _ {W : Type 0} (held : List ℕ → W) (weak : Option WeakIndex) (d : State) (s t : ℕ) (w : W) (r : Result ℕ Refusal) (d' : State) (fits : edge_refused d s t weak ≡ None) where
  pub taken : TakesEdgeBy None held d s t w r d' → TakesEdge held weak d s t w r d'
  taken h = subst (λ o. TakesEdgeBy o held d s t w r d') (sym fits) h

  pub takes : TakesEdge held weak d s t w r d' → TakesEdgeBy None held d s t w r d'
  takes h = subst (λ o. TakesEdgeBy o held d s t w r d') fits h

pub set_up_fits : (nodes long : ℕ) → nodes ≤ node_limit → 2 * nodes ≤ long → set_up_refused nodes long ≡ None
set_up_fits nodes long a b = grind (arith, nat_tests)

pub sets_up : (d : State) (nodes : ℕ) (r : Result (Unit {0}) Refusal) (d' : State) → nodes ≤ node_limit → 2 * nodes ≤ length d.words → SetsUp d nodes r d' → SetsUpBy None d nodes r d'
sets_up d nodes r d' a b h = subst (λ o. SetsUpBy o d nodes r d') (set_up_fits nodes (length d.words) a b) h
