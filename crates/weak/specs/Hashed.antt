-- pairs_in: the pairs that a table means.  bucket_at: the bucket of a pair.
-- LastPlace: the latest pair of a bucket.  Hashed: what the table of the weak pairs keeps to.  Assumes nothing.
use Rattle.std.specs.Prelude.{◌≡◌, ℕ, ◌%◌, ◌<◌, ◌≤◌, List, length, ◌≢◌, Some, None, Option, slice_index, slice_index_or}
use Rattle.theory.specs.Limits.{weak_limit}
use Rattle.theory.specs.Pairs.{Pair, listed}
use Rattle.weak.specs.declared.table.Entry.{Entry}

-- the entry of the pair i
abbrev pub entry_at : List Entry → ℕ → Entry
entry_at entries i = slice_index_or entries i (record { package_edge = 0; next = None })

abbrev pub pair_at : List Entry → List ℕ → ℕ → Pair
pair_at entries releases i = record { package_edge = (entry_at entries i).package_edge; release = slice_index releases i }

-- each entry's package edge with the release node beside it
abbrev pub pairs_in : List Entry → List ℕ → List Pair
pairs_in entries releases = listed (pair_at entries releases) (length entries)

abbrev pub bucket_at : List Entry → ℕ → ℕ
bucket_at entries i = (entry_at entries i).package_edge % 1024

-- the last place below k at which f is n, if there is one
abbrev pub LastPlace : (ℕ → ℕ) → ℕ → ℕ → Option ℕ → Type 0
LastPlace f k n None = (j : ℕ) → j < k → f j ≢ n
LastPlace f k n (Some i) = (i < k) × (f i ≡ n) × ((j : ℕ) → i < j → j < k → f j ≢ n)

-- the heads and the next links tell the latest pairs of their buckets, and no two pairs have one package edge
pub record Hashed (entries : List Entry) (releases : List ℕ) (heads : List (Option ℕ)) : Type 0 where
  pub long : length heads ≡ 1024
  pub beside : length releases ≡ length entries
  pub few : length entries ≤ weak_limit
  pub head : (b : ℕ) → b < 1024 → LastPlace (bucket_at entries) (length entries) b (slice_index_or heads b None)
  pub next : (i : ℕ) → i < length entries → LastPlace (bucket_at entries) i (bucket_at entries i) (entry_at entries i).next
  pub distinct : (i j : ℕ) → i < j → j < length entries → (entry_at entries i).package_edge ≢ (entry_at entries j).package_edge
