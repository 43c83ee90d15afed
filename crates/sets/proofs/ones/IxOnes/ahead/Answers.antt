-- The words between, all 0, have no member; where only such are left, none is left to give.
use Rattle.std.proofs.Common.{◌≡◌, ℕ, ◌+◌, ◌*◌, ◌/◌, ◌≤◌, false, [], get_or, sym, ap, ◌∙◌, subst, arith, rules, tests}
use Rattle.std.proofs.lemmas.List.Quantifiers.{position-Some}
use Rattle.bits.specs.Bits.{bit, has, pending}
use Rattle.bits.proofs.Counts.{listing_none}
use Rattle.bits.proofs.Cursors.{pending_none, pending_later}
use Rattle.bits.proofs.Rows.{word_has}
use Rattle.sets.specs.declared.ones.IxOnes.{IxOnes}
use Rattle.sets.specs.Ones.{rest}
use Rattle.sets.specs.Sets.{member}
use Rattle.sets.proofs.Skipping.{nonzero, none_on, first_on, word_at}
use Rattle.sets.proofs.ones.IxOnes.ahead.Goals as goal

-- no member stands in a later word
at_end : {S : Type 0} (o : IxOnes S) → o.bits ≡ 0 → ((n : ℕ) → o.row + 1 ≤ n / 64 → member o.set.now n ≡ false) → rest o ≡ []
at_end o e none =
    listing_none (pending (member o.set.now) o.row o.bits) o.set.now.nodes
    (λ n _. ap (λ b. pending (member o.set.now) o.row b n) e ∙ pending_none (member o.set.now) o.row n (λ k l. none k (omega arith)))

pub returns-in_err-words : goal.returns-in_err-words
returns-in_err-words g c =
    let o = c.args.self.now in
    let s = o.set.now in
    rw c.from_residual.ensures (at_end o c.if-self-ne0.false (λ n l. s.within n (omega (arith, s.long, c.deref.ensures.len, c.in_err-words.ensures.lookup))))

pub returns-in_err-empty : goal.returns-in_err-empty
returns-in_err-empty g c =
    let o = c.args.self.now in
    let found = c.in_ok-words.ensures.lookup.0 in
    rw c.from_residual-in_err-empty.ensures (at_end o c.if-self-ne0.false (λ n l. subst (λ ws. has ws n ≡ false) c.deref.ensures.value
    (none_on c.deref.result.now c.in_ok-words.words.now (o.row + 1) found.2 found.3 (sym c.in_err-empty.ensures) n l)))

pub returns : goal.returns
returns g c =
    let o = c.args.self.now in
    let p = member o.set.now in
    let ws = c.deref.result.now in
    let xs = c.in_ok-words.words.now in
    let k = c.in_ok-empty.empty in
    let found = c.in_ok-words.ensures.lookup.0 in
    let first = position-Some nonzero xs k 0 (sym c.in_ok-empty.ensures) in
    let w = get_or xs k 0 in
    record {
      some = search (arith, tests, first.1);
      fits = search rules;
      same = λ n. pending_later p o.row (o.row + 1 + k) w n (omega arith) (λ j l. ap (λ x. bit x j) (word_at ws xs (o.row + 1) found.2 found.3 k first.0) ∙ word_has ws (o.row + 1 + k) j l ∙ ap (λ ws. has ws ((o.row + 1 + k) * 64 + j)) c.deref.ensures.value)
          (λ j a b. subst (λ ws. has ws j ≡ false) c.deref.ensures.value (first_on ws xs (o.row + 1) found.2 found.3 k (sym c.in_ok-empty.ensures) j (omega arith) b))
          ∙ ap (λ b. pending p o.row b n) (sym c.if-self-ne0.false);
    }
