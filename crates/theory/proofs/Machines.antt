-- A machine is its turn, repeated: what each turn keeps all keep, a turn more is a turn at the end, and where it stays once it has
-- ended, runs that have ended agree, and it ends as a size falls. run, gather, shows and the walk's run are machines.
-- Assumes nothing.
use Rattle.std.proofs.Common.{◌≡◌, ℕ, zero, suc, ◌<◌, ◌≤◌, ◌⊎◌, sym, ap, ◌∙◌, subst, inl, inr, arith}

pub record Machine {S : Type 0} (turn : S → S) (run : ℕ → S → S) : Type 0 where
  pub none : (x : S) → run 0 x ≡ x
  pub more : (k : ℕ) (x : S) → run (suc k) x ≡ run k (turn x)

module _ {S : Type 0} {turn : S → S} {run : ℕ → S → S} (m : Machine turn run) where
  pub all_keep : (P : S → Type 0) → ((x : S) → P x → P (turn x)) → (k : ℕ) (x : S) → P x → P (run k x)
  all_keep P keep zero x h = subst P (sym (m.none x)) h
  all_keep P keep (suc k) x h = subst P (sym (m.more k x)) (all_keep P keep k (turn x) (keep x h))

  pub one_last : (k : ℕ) (x : S) → run (suc k) x ≡ turn (run k x)
  one_last zero x = m.more 0 x ∙ m.none (turn x) ∙ ap turn (sym (m.none x))
  one_last (suc k) x = m.more (suc k) x ∙ one_last k (turn x) ∙ ap turn (sym (m.more k x))

  module _ (Ends : S → Type 0) (stays : (x : S) → Ends x → turn x ≡ x) where
    pub idle : (k : ℕ) (x : S) → Ends x → run k x ≡ x
    idle zero x e = m.none x
    idle (suc k) x e = m.more k x ∙ ap (run k) (stays x e) ∙ idle k x e

    pub ended_agree : (k j : ℕ) (x : S) → Ends (run k x) → Ends (run j x) → run k x ≡ run j x
    ended_agree zero j x a b = m.none x ∙ sym (idle j x (subst Ends (m.none x) a))
    ended_agree (suc k) zero x a b = idle (suc k) x (subst Ends (m.none x) b) ∙ sym (m.none x)
    ended_agree (suc k) (suc j) x a b =
        m.more k x ∙ ended_agree k j (turn x) (subst Ends (m.more k x) a) (subst Ends (m.more j x) b) ∙ sym (m.more j x)

    -- with as many turns as the size it ends, in a good state
    pub comes_to_end : (Good : S → Type 0) (size : S → ℕ) → ((x : S) → Good x → Ends x ⊎ (Good (turn x) × (size (turn x) < size x)))
        → (k : ℕ) (x : S) → Good x → size x ≤ k → Ends (run k x) × Good (run k x)
    comes_to_end Good size falls zero x g b = subst (λ y. Ends y × Good y) (sym (m.none x)) (elim (falls x g) [ inl e ↦ (e, g) | inr n ↦ absurd (omega (arith, n.1)) ])
    comes_to_end Good size falls (suc k) x g b = elim (falls x g) [
      | inl e ↦ subst (λ y. Ends y × Good y) (sym (idle (suc k) x e)) (e, g)
      | inr n ↦ subst (λ y. Ends y × Good y) (sym (m.more k x)) (comes_to_end Good size falls k (turn x) n.0 (omega (arith, n.1)))
    ]
