-- A fair rule stays fair as edges are turned.  kept_turned: the turned edges that pass a test.  Assumes nothing.
use Rattle.std.specs.Prelude.{◌≡◌, Bool, true, false, cond, List, [], ◌∷◌, map, length, filter, refl}
use Rattle.std.proofs.Common.{ap, ◌∙◌, inl, inr}
use Rattle.std.proofs.lemmas.List.{length-map}
use Rattle.theory.specs.Edges.{Edge, In, turn}
use Rattle.theory.specs.Rules.{Rule, Fair, waits_on}
use Rattle.filter.specs.Filters.{turned_rule}

module _ {W : Type 0} where
  in_turned : (es : List (Edge W)) (e : Edge W) → In e (map turn es) → In (turn e) es
  in_turned [] e h = absurd h
  in_turned (x ∷ xs) e (inl q) = inl (ap turn q)
  in_turned (x ∷ xs) e (inr i) = inr (in_turned xs e i)

  turned_in : (es : List (Edge W)) (e : Edge W) → In (turn e) es → In e (map turn es)
  turned_in [] e h = absurd h
  turned_in (x ∷ xs) e (inl q) = inl (ap turn q)
  turned_in (x ∷ xs) e (inr i) = inr (turned_in xs e i)

  pub kept_turned : (p : Edge W → Bool) (es : List (Edge W)) → filter p (map turn es) ≡ map turn (filter (λ e. p (turn e)) es)
  kept_turned p [] = refl
  kept_turned p (x ∷ xs) = ap (λ l. cond (p (turn x)) (turn x ∷ l) l) (kept_turned p xs) ∙ go (p (turn x)) (filter (λ e. p (turn e)) xs)
    where
      go : (b : Bool) (l : List (Edge W)) → cond b (turn x ∷ map turn l) (map turn l) ≡ map turn (cond b (x ∷ l) l)
      go true l = refl
      go false l = refl

  -- as many turned edges pass a test as edges whose turned form passes it
  count_turned : (p : Edge W → Bool) (es : List (Edge W)) → length (filter p (map turn es)) ≡ length (filter (λ e. p (turn e)) es)
  count_turned p es = ap length (kept_turned p es) ∙ length-map (filter (λ e. p (turn e)) es) turn

  pub turned_fair : (r : Rule (Edge W)) → Fair r → Fair (turned_rule r)
  turned_fair r f = record {
    only = λ n held e i. let k = f.only n (map turn held) (turn e) (in_turned (r.frees n (map turn held)) e i) in (in_turned held (turn e) k.0, k.1);
    all = λ n held e i w. turned_in (r.frees n (map turn held)) e (f.all n (map turn held) (turn e) (turned_in held (turn e) i) w);
    each = λ n held p.
        count_turned p (r.frees n (map turn held)) ∙ f.each n (map turn held) (λ e. p (turn e))
        ∙ ap (λ l. length (filter (λ e. p (turn e)) l)) (kept_turned (waits_on r n) held)
        ∙ count_turned (λ e. p (turn e)) (filter (λ e. waits_on r n (turn e)) held);
  }
