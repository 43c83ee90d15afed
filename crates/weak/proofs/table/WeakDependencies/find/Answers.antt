-- The chain of a bucket has the pair that is looked for, or no pair has it.
use Rattle.std.proofs.Common.{◌≡◌, None, Some, get_or, ◌%◌, sym, ap, ◌∙◌, subst, rules, tests}
use Rattle.std.specs.Option.{option_map}
use Rattle.theory.specs.Pairs.{place}
use Rattle.weak.specs.Hashed.{entry_at}
use Rattle.weak.specs.Registered.{weak_index}
use Rattle.weak.proofs.Hashing.{Passed, head_none, next_none, search_finds, search_ends}
use Rattle.weak.proofs.table.WeakDependencies.find.Goals as goal

pub returns-in_err-self : goal.returns-in_err-self
returns-in_err-self c =
    let w = c.self.inside in
    let p = c.args.package_edge in
    let no_head : get_or w.heads (p % 1024) None ≡ None = search (rules, tests) in
    let none = search_ends w.entries.items w.release_nodes.items w.heads c.self.invariant p (head_none w.entries.items w.release_nodes.items w.heads c.self.invariant p no_head) in
    search rules ∙ sym (ap (option_map weak_index) (ap (place p) (sym c.self.view_is) ∙ none))

pub returns-in_err-entries : goal.returns-in_err-entries
returns-in_err-entries c =
    let w = c.self.inside in
    let p = c.args.package_edge in
    let at = c.loop-at.at in
    let other : (entry_at w.entries.items at).package_edge ≡ p → ⊥ = search (rules, tests) in
    let no_next : (entry_at w.entries.items at).next ≡ None = search (rules, tests) in
    let none = search_ends w.entries.items w.release_nodes.items w.heads c.self.invariant p
    (next_none w.entries.items w.release_nodes.items w.heads c.self.invariant p at (subst (λ es. Passed es p (Some at)) c.as_slice-entries.ensures.value c.loop-at.invariant) other no_next) in
    search rules ∙ sym (ap (option_map weak_index) (ap (place p) (sym c.self.view_is) ∙ none))

pub returns : goal.returns
returns c =
    let w = c.self.inside in
    let p = c.args.package_edge in
    let at = c.loop-at.at in
    let is : (entry_at w.entries.items at).package_edge ≡ p = search (rules, tests) in
    let found = search_finds w.entries.items w.release_nodes.items w.heads c.self.invariant p at (subst (λ es. Passed es p (Some at)) c.as_slice-entries.ensures.value c.loop-at.invariant) is in
    sym (ap (option_map weak_index) (ap (place p) (sym c.self.view_is) ∙ found))
