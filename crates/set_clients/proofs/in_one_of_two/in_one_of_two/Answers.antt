-- The members are those that the contracts of the calls name.
use Rattle.std.proofs.Common.{◌≡◌, ℕ, Bool, ◌&&◌, ltb, [], ◌∷◌, length, Some, None, refl, ap, ◌∙◌, ap₂}
use Rattle.theory.specs.PostOrder.{below}
use Rattle.bits.specs.Bits.{listing}
use Rattle.bits.proofs.Counts.{listing_ext}
use Rattle.sets.specs.Combining.{xor}
use Rattle.sets.specs.Sets.{member, members}
use Rattle.sets.specs.Making.{among}
use Rattle.set_clients.proofs.Reading.{made_of, gave_first, gave_none, same_four}
use Rattle.set_clients.proofs.in_one_of_two.in_one_of_two.Goals as goal

-- in one of the two sets but not in both
abbrev one : ℕ → Bool
one n = xor (among (64 ∷ 0 ∷ 2 ∷ 64 ∷ []) n) (among (2 ∷ 3 ∷ []) n) && ltb n 65

those : listing one 65 ≡ 0 ∷ 3 ∷ 64 ∷ []
unfolding below
those = refl

pub returns : goal.returns
returns c =
    let left = c.in_ok-left.left in
    let right = c.in_ok-right.right in
    let after = c.symmetric_difference_with.new.self in
    let a = made_of 65 _ (64 ∷ 0 ∷ 2 ∷ 64 ∷ []) left (same_four _ _ _ _ 64 0 2 64 c.new.ensures c.new-2.ensures c.new-3.ensures c.new-4.ensures) refl c.in_ok-left.ensures in
    let b = made_of 65 _ (2 ∷ 3 ∷ []) right (ap₂ (λ x y. x ∷ y ∷ []) c.new-5.ensures c.new-6.ensures) refl c.in_ok-right.ensures in
    let m = c.symmetric_difference_with.ensures in
    let is : members after ≡ 0 ∷ 3 ∷ 64 ∷ [] =
    ap (listing (member after)) (m.nodes ∙ a.nodes)
    ∙ listing_ext (member after) one 65 (λ n _. m.members n ∙ ap₂ (λ t k. t && ltb n k) (ap₂ xor (a.members n) (b.members n)) a.nodes)
    ∙ those in
    let first = gave_first _ _ _ 0 (3 ∷ 64 ∷ []) (c.ones-ones.ensures.list ∙ is) c.next.ensures.steps in
    let second = gave_first _ _ _ 3 (64 ∷ []) first.1 c.next-2.ensures.steps in
    let third = gave_first _ _ _ 64 [] second.1 c.next-3.ensures.steps in
    let fourth = gave_none _ _ _ third.1 c.next-4.ensures.steps in
    record {
      count = c.len.ensures ∙ ap length is;
      which = same_four _ _ _ _ (Some 0) (Some 3) (Some 64) None first.0 second.0 third.0 fourth;
      unmade = tt;
    }
