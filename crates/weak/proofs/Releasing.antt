-- The release nodes of the pairs are those of their table. Assumes nothing.
use Rattle.std.proofs.Common.{◌≡◌, ℕ, zero, suc, ◌+◌, ◌<◌, ◌≤◌, List, [], ◌∷◌, ◌++◌, map, length, get_or, take, sym, refl, ap, ◌∙◌, add-one, arith}
use Rattle.std.proofs.lemmas.List.{take_more, take_all, map_push}
use Rattle.theory.specs.Pairs.{Pair, listed}
use Rattle.weak.specs.declared.table.Entry.{Entry}
use Rattle.weak.specs.Hashed.{pair_at, pairs_in}

module _ (entries : List Entry) (releases : List ℕ) where
  front_releases : (k : ℕ) → k ≤ length releases → take k releases ≡ map (λ (p : Pair). p.release) (listed (pair_at entries releases) k)
  front_releases zero b = refl
  front_releases (suc k) b =
      let low : k < length releases = omega arith in
      let one : suc k ≡ k + 1 = sym (add-one k) in
      ap (λ n. take n releases) one ∙ take_more releases k 0 low ∙ ap (λ l. l ++ get_or releases k 0 ∷ []) (front_releases k (omega arith))
      ∙ sym (map_push (λ (p : Pair). p.release) (listed (pair_at entries releases) k) (pair_at entries releases k))

  pub releases_of : length releases ≡ length entries → releases ≡ map (λ (p : Pair). p.release) (pairs_in entries releases)
  releases_of beside = sym (take_all (length entries) releases (omega arith)) ∙ front_releases (length entries) (omega arith)
