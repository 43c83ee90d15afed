-- What a filter holds and hands out, with edges turned round. Assumes nothing.
use Rattle.std.proofs.Common.{◌≡◌, ℕ, Bool, true, false, cond, List, [], ◌∷◌, ◌++◌, map, Some, None, Option, sym, refl, ap, ◌∙◌}
use Rattle.std.proofs.lemmas.List.{map-append}
use Rattle.theory.specs.Edges.{Edge, turn}
use Rattle.theory.specs.Rules.{Rule, held_for, stays_at}
use Rattle.graph.specs.Meaning.{meant, turned_ref}
use Rattle.graph.specs.declared.edge.EdgeRef.{EdgeRef}
use Rattle.filter.specs.Filters.{Discovers, turned_rule}
use Rattle.filter.specs.Turning.{kept_turned, turned_fair}

module _ {W : Type 0} where
  twice : (es : List (Edge W)) → map turn (map turn es) ≡ es
  twice [] = refl
  twice (x ∷ xs) = ap {B = List (Edge W)} (λ l. x ∷ l) (twice xs)

  pub held_turned : (told : ℕ → Bool) (held : List (Edge W)) (e : Edge W) (o : Option ℕ) → map turn (held_for told held (turn e) o) ≡ held_for told (map turn held) e o
  held_turned told held e None = refl
  held_turned told held e (Some w) = go (told w)
    where
      go : (b : Bool) → map turn (cond b held (held ++ turn e ∷ [])) ≡ cond b (map turn held) (map turn held ++ e ∷ [])
      go true = refl
      go false = map-append turn held (turn e ∷ [])

  pub turned_discovers : (r : Rule (Edge W)) (n : ℕ) (told told' : ℕ → Bool) (held held' handed handed' : List (Edge W)) → Discovers r n told told' held held' handed → handed' ≡ map turn handed → Discovers (turned_rule r) n told told' (map turn held) (map turn held') handed'
  turned_discovers r n told told' held held' handed handed' d q = record {
    tells = λ e w i. d.tells (turn e) w i;
    order = q ∙ ap (map turn) (d.order ∙ ap (r.frees n) (sym (twice held)));
    rest = ap (map turn) d.rest ∙ sym (kept_turned (λ e. stays_at r n (turn e)) held);
    fair = turned_fair r d.fair;
  }

pub meant_turned : {I W : Type 0} (number : I → ℕ) (es : List (EdgeRef I W)) → map (meant number) (map turned_ref es) ≡ map turn (map (meant number) es)
meant_turned number [] = refl
meant_turned number (x ∷ xs) = ap (λ l. turn (meant number x) ∷ l) (meant_turned number xs)
