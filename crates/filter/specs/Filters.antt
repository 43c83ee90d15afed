-- Untold: no node that an edge waits on was told.  Discovers: what becomes of the told nodes and the held edges, and which
-- edges are handed out, as a node is told.
-- by_test: the rule that edges pass by a test.  by_link: the test of package edges that a verdict decides.
-- turned_rule: a rule with edges turned round.  Assumes nothing.
use Rattle.std.specs.Prelude.{◌≡◌, ℕ, Bool, false, List, map, None, filter}
use Rattle.theory.specs.Edges.{Edge, turn}
use Rattle.theory.specs.Rules.{Rule, Waits, Fair, stays_at, in_turn}
use Rattle.theory.specs.Walk.{mark}
use Rattle.index.specs.Links.{link}
use Rattle.index.specs.declared.links.Half.TheVariants.{Whole}
use Rattle.index.specs.declared.links.Link.{Link}
use Rattle.index.specs.declared.records.PackageLink.{PackageLink}

abbrev pub Untold : {E : Type 0} → Rule E → (ℕ → Bool) → Type 0
Untold {E} r told = (e : E) (w : ℕ) → Waits r e w → told w ≡ false

-- the node counts as told; what the rule frees is handed out, which is just what waits on the node, as often as it is
-- held, since the rule is fair; and the others stay held, in their order
pub record Discovers {E : Type 0} (r : Rule E) (n : ℕ) (told told' : ℕ → Bool) (held held' handed : List E) : Type 0 where
  pub tells : (e : E) (w : ℕ) → Waits r e w → told' w ≡ mark told n w
  pub order : handed ≡ r.frees n held
  pub rest : held' ≡ filter (stays_at r n) held
  pub fair : Fair r

-- nothing waits
abbrev pub by_test : {E : Type 0} → (E → Bool) → Rule E
by_test passes = in_turn passes (λ _. None)

-- a package edge passes if its one link is accepted
abbrev pub by_link : (Link → Bool) → Edge PackageLink → Bool
by_link accepts e = accepts (link e.number Whole e.weight.mask)

-- what the rule says of an edge, it says of that edge with its ends swapped
abbrev pub turned_rule : {W : Type 0} → Rule (Edge W) → Rule (Edge W)
turned_rule r = record { passes = λ e. r.passes (turn e); waits = λ e. r.waits (turn e); frees = λ n held. map turn (r.frees n (map turn held)) }
