-- What a list of pairs answers as a pair comes whose package edge it does not know. Assumes nothing.
use Rattle.std.proofs.Common.{arith, ◌≡◌, ℕ, ◌<◌, ◌≤◌, List, [], ◌∷◌, ◌++◌, length, Some, None, Ok, Err, Option, refl}
use Rattle.std.specs.Option.{option_map}
use Rattle.std.proofs.lemmas.Bool.Decides.{nat_tests}
use Rattle.theory.specs.Limits.{weak_limit}
use Rattle.theory.specs.Pairs.{Pair, place}
use Rattle.index.specs.declared.refusal.Refusal.TheVariants.{WeakIndexesFull}
use Rattle.weak.specs.Registered.{weak_index, register, registered}

pub not_placed : (o : Option ℕ) → None ≡ option_map weak_index o → o ≡ None
not_placed None q = refl
not_placed (Some i) q = cc

module _ (ps : List Pair) (pair : Pair) (unknown : place pair.package_edge ps ≡ None) where
  pub registers_none : weak_limit ≤ length ps → (register ps pair ≡ Err WeakIndexesFull) × (registered ps pair ≡ ps)
  registers_none b = (rw unknown (grind (arith, nat_tests)), rw unknown (grind (arith, nat_tests)))

  pub registers_last : length ps < weak_limit → (register ps pair ≡ Ok (weak_index (length ps))) × (registered ps pair ≡ ps ++ pair ∷ [])
  registers_last b = (rw unknown (grind (arith, nat_tests)), rw unknown (grind (arith, nat_tests)))
