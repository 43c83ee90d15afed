-- Where nothing waits, telling a node changes nothing. Assumes nothing.
use Rattle.std.proofs.Common.{◌≡◌, ℕ, Bool, [], None, refl, arith}
use Rattle.theory.proofs.Asking.{in_turn_fair}
use Rattle.filter.specs.Filters.{by_test, Discovers}

pub none_waits : {E : Type 0} (passes : E → Bool) (n : ℕ) (told : ℕ → Bool) → Discovers (by_test passes) n told told [] [] []
none_waits passes n told = record {
  tells = λ e w q. absurd (let z : ◌≡◌ {A = ℕ} 0 1 = cc in omega arith);
  order = refl;
  rest = refl;
  fair = in_turn_fair passes (λ _. None);
}
