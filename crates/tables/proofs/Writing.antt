-- Eight words behind those of the other edges, and then two heads, lay an edge. Assumes nothing.
use Rattle.std.proofs.Common.{◌≡◌, ℕ, ◌+◌, ◌*◌, ◌<◌, ◌≤◌, ◌≢◌, List, [], ◌∷◌, length, get_or, set, refl, arith, get_or-set_other, get_or-set_same, length-set}
use Rattle.index.specs.declared.direction.DependencyDirection.TheVariants.{Forward, Reverse}
use Rattle.tables.specs.Table.{Laid}

four_words : (xs : List ℕ) → length xs ≡ 4 → get_or xs 0 0 ∷ get_or xs 1 0 ∷ get_or xs 2 0 ∷ get_or xs 3 0 ∷ [] ≡ xs
four_words (x ∷ y ∷ z ∷ v ∷ []) f = refl
four_words xs f = absurd (grind arith)

-- the table after the writes of an edge: its eight words, and then its two heads
abbrev pub with_edge : List ℕ → ℕ → ℕ → ℕ → ℕ → List ℕ → List ℕ
with_edge ws nodes e s t words =
    let at = 2 * nodes + 8 * e in
    let ends = set (set ws at s) (at + 1) t in
    let links = set (set ends (at + 2) (get_or ws (2 * s) 0)) (at + 3) (get_or ws (2 * t + 1) 0) in
    let held = set (set (set (set links (at + 4) (get_or words 0 0)) (at + 5) (get_or words 1 0)) (at + 6) (get_or words 2 0)) (at + 7) (get_or words 3 0) in
    set (set held (2 * s) (e + 1)) (2 * t + 1) (e + 1)

module _ (ws : List ℕ) (nodes e s t : ℕ) (words : List ℕ) (s_in : s < nodes) (t_in : t < nodes) (fits : 2 * nodes + 8 * e + 8 ≤ length ws) where
  -- a word that no write meets
  other : (j : ℕ) → j < 2 * nodes + 8 * e → j ≢ 2 * s → j ≢ 2 * t + 1 → get_or (with_edge ws nodes e s t words) j 0 ≡ get_or ws j 0
  other j b x y = grind (arith, get_or-set_other, get_or-set_same, length-set)

  record_word : (k : ℕ) → k < 4 → get_or (with_edge ws nodes e s t words) (2 * nodes + 8 * e + (4 + k)) 0 ≡ get_or words k 0
  record_word k b = grind (arith, get_or-set_other, get_or-set_same, length-set)

  pub edge_laid : length words ≡ 4 → Laid ws (with_edge ws nodes e s t words) nodes e s t words
  edge_laid four = record {
    long = simp length-set;
    ends = elim [ Forward ↦ grind (arith, get_or-set_other, get_or-set_same, length-set) | Reverse ↦ grind (arith, get_or-set_other, get_or-set_same, length-set) ];
    nexts = elim [ Forward ↦ grind (arith, get_or-set_other, get_or-set_same, length-set) | Reverse ↦ grind (arith, get_or-set_other, get_or-set_same, length-set) ];
    held = let a = record_word 0 (omega arith) in let b = record_word 1 (omega arith) in let c = record_word 2 (omega arith) in let d = record_word 3 (omega arith) in cc (four_words words four);
    front = elim [ Forward ↦ grind (arith, get_or-set_other, get_or-set_same, length-set) | Reverse ↦ grind (arith, get_or-set_other, get_or-set_same, length-set) ];
    heads = elim [ Forward ↦ λ n b ne. other (2 * n) (omega arith) (omega arith) (omega arith) | Reverse ↦ λ n b ne. other (2 * n + 1) (omega arith) (omega arith) (omega arith) ];
    old = λ j low b. other j b (omega arith) (omega arith);
  }
