-- A search along a bucket's chain finds the pair of a package edge or shows that there is none, and the tables keep
-- their chains as a pair is added. Assumes nothing.
use Rattle.std.proofs.Common.{rules, ◌≡◌, ℕ, ◌+◌, ◌%◌, ◌<◌, List, [], ◌∷◌, ◌++◌, length, get_or, set, replicate, Some, None, Option, refl, sym, ap, ◌∙◌, subst, inl, inr, arith, get_or-set_other, get_or-set_same, length-set, below_more}
use Rattle.std.proofs.lemmas.List.{length-replicate, get_or_append_left, get_or_push, length_push, get_or-replicate}
use Rattle.std.proofs.lemmas.Bool.{cases_eq, cases_order}
use Rattle.theory.specs.Limits.{weak_limit}
use Rattle.theory.specs.Pairs.{listed, place}
use Rattle.theory.proofs.Placing.{length-listed, place_none, place_some, listed_more}
use Rattle.weak.specs.declared.table.Entry.{Entry}
use Rattle.weak.specs.Hashed.{entry_at, pair_at, pairs_in, bucket_at, LastPlace, Hashed}

pub length-pairs : (entries : List Entry) (releases : List ℕ) → length (pairs_in entries releases) ≡ length entries
length-pairs entries releases = length-listed (pair_at entries releases) (length entries)

-- keys that agree below k have the same last places there
module _ (f g : ℕ → ℕ) (k : ℕ) (agree : (j : ℕ) → j < k → g j ≡ f j) (n : ℕ) where
  last_same : (o : Option ℕ) → LastPlace f k n o → LastPlace g k n o
  last_same None l = grind (arith, agree, l)
  last_same (Some i) l = grind (arith, agree, l)

  -- an item with another key leaves the last place
  last_other : (g k ≡ n → ⊥) → (o : Option ℕ) → LastPlace f k n o → LastPlace g (k + 1) n o
  last_other ne None l = grind (arith, agree, l)
  last_other ne (Some i) l = grind (arith, agree, l)

-- no pair yet, and no heads
pub empty_hashed : Hashed [] [] (replicate 1024 None)
empty_hashed = record {
  long = length-replicate {A = Option ℕ} 1024 None;
  beside = refl;
  few = omega arith;
  head = λ b low. subst (LastPlace (bucket_at []) 0 b) (sym (get_or-replicate 1024 b None None low)) (λ j less _. omega arith);
  next = search rules;
  distinct = search rules;
}

-- no pair of the package edge p stands past the place, and the pair there is in p's bucket
abbrev pub Passed : List Entry → ℕ → Option ℕ → Type 0
Passed entries p None = (j : ℕ) → j < length entries → (entry_at entries j).package_edge ≡ p → ⊥
Passed entries p (Some i) = (i < length entries) × (bucket_at entries i ≡ p % 1024) × ((j : ℕ) → i < j → j < length entries → (entry_at entries j).package_edge ≡ p → ⊥)

module _ (entries : List Entry) (releases : List ℕ) (heads : List (Option ℕ)) (h : Hashed entries releases heads) (p : ℕ) where
  pub search_finds : (i : ℕ) → Passed entries p (Some i) → (entry_at entries i).package_edge ≡ p → place p (pairs_in entries releases) ≡ Some i
  search_finds i s q =
      place_some (pair_at entries releases) (length entries) p i s.0 q (λ j less e. h.distinct j i less s.0 (e ∙ sym q))

  -- an empty chain has no pair of the package edge, and neither has one that ends at a pair of another
  pub head_none : get_or heads (p % 1024) None ≡ None → Passed entries p None
  head_none q j less e = subst (LastPlace (bucket_at entries) (length entries) (p % 1024)) q (h.head (p % 1024) (omega arith)) j less (ap (λ x. x % 1024) e)

  pub next_none : (i : ℕ) → Passed entries p (Some i) → ((entry_at entries i).package_edge ≡ p → ⊥) → (entry_at entries i).next ≡ None → Passed entries p None
  next_none i s other q j less e =
      let before = subst (LastPlace (bucket_at entries) i (bucket_at entries i)) q (h.next i s.0) in
      elim (cases_order j i) [
        | inl same ↦ other (ap (λ x. (entry_at entries x).package_edge) (sym same) ∙ e)
        | inr (inl low) ↦ before j low (ap (λ x. x % 1024) e ∙ sym s.1)
        | inr (inr high) ↦ s.2 j high less e
      ]

  pub search_ends : Passed entries p None → place p (pairs_in entries releases) ≡ None
  search_ends s = place_none (pair_at entries releases) (length entries) p s

-- a pair comes last, and is put at the front of its bucket's chain
abbrev pub with_entry : List Entry → List (Option ℕ) → ℕ → List Entry
with_entry entries heads p = entries ++ record { package_edge = p; next = get_or heads (p % 1024) None } ∷ []

module _ (entries : List Entry) (releases : List ℕ) (heads : List (Option ℕ)) (h : Hashed entries releases heads) (p r : ℕ) where
  abbrev pub more : List Entry
  more = with_entry entries heads p

  old_entry : (j : ℕ) → j < length entries → entry_at more j ≡ entry_at entries j
  old_entry j less = get_or_append_left entries _ _ j less

  new_entry : entry_at more (length entries) ≡ record { package_edge = p; next = get_or heads (p % 1024) None }
  new_entry = get_or_push entries _ _ (length entries) refl

  same_bucket : (j : ℕ) → j < length entries → bucket_at more j ≡ bucket_at entries j
  same_bucket j less = ap (λ (e : Entry). e.package_edge % 1024) (old_entry j less)

  new_bucket : bucket_at more (length entries) ≡ p % 1024
  new_bucket = ap (λ (e : Entry). e.package_edge % 1024) new_entry

  -- the chains with the new pair at the front of its own
  pub hashed_more : length entries < weak_limit → ((j : ℕ) → j < length entries → (entry_at entries j).package_edge ≡ p → ⊥) → Hashed more (releases ++ r ∷ []) (set heads (p % 1024) (Some (length entries)))
  hashed_more room fresh =
      let n = length entries in
      let k : length more ≡ n + 1 = length_push entries _ in
      let bucket = new_bucket in
      let low : p % 1024 < length heads = let l = h.long in omega arith in
      record {
        long = length-set heads (p % 1024) _ ∙ h.long;
        beside = length_push releases r ∙ ap (λ x. x + 1) h.beside ∙ sym k;
        few = omega arith;
        head = λ b lt. subst (λ m. LastPlace (bucket_at more) m b (get_or (set heads (p % 1024) (Some n)) b None)) (sym k) (elim (cases_eq b (p % 1024)) [
          | inl q ↦
              subst (LastPlace (bucket_at more) (n + 1) b) (sym (ap (λ x. get_or (set heads (p % 1024) (Some n)) x None) q ∙ get_or-set_same heads (p % 1024) (Some n) None low))
              (omega arith, new_bucket ∙ sym q, λ j after below. absurd (omega arith))
          | inr ne ↦
              subst (LastPlace (bucket_at more) (n + 1) b) (sym (get_or-set_other heads (p % 1024) b (Some n) None ne))
              (last_other (bucket_at entries) (bucket_at more) n same_bucket b (λ q. ne (sym q ∙ new_bucket)) _ (h.head b lt))
        ]);
        next = λ i less. below_more (λ k. LastPlace (bucket_at more) k (bucket_at more k) (entry_at more k).next) n
            (λ j b. rw (old_entry j b) (last_same (bucket_at entries) (bucket_at more) j (λ x a. same_bucket x (omega arith)) _ _ (h.next j b)))
            (rw new_entry (last_same (bucket_at entries) (bucket_at more) n same_bucket _ _ (let b : p % 1024 < 1024 = omega arith in h.head (p % 1024) b)))
            i (omega arith);
        distinct = λ x y less lt q. grind (arith, old_entry, new_entry, h.distinct, fresh, k);
      }

  -- the pairs are those before, and the new one last
  pub pairs_more : pairs_in more (releases ++ r ∷ []) ≡ pairs_in entries releases ++ record { package_edge = p; release = r } ∷ []
  pairs_more =
      ap (listed (pair_at more (releases ++ r ∷ []))) (length_push entries _)
      ∙ listed_more (pair_at entries releases) (pair_at more (releases ++ r ∷ [])) (length entries) (record { package_edge = p; release = r })
      (λ j less. let a = old_entry j less in let b = get_or_append_left releases (r ∷ []) 0 j (let n = h.beside in omega arith) in cc)
      (let a = new_entry in let b = get_or_push releases r 0 (length entries) h.beside in cc)
