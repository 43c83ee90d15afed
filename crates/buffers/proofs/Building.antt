-- Tables of links grow from the last index back, each index put in front of its bucket. Assumes nothing.
use Rattle.std.proofs.Common.{◌≡◌, ℕ, suc, ◌+◌, ◌-◌, ◌%◌, ◌<◌, cond, List, length, get_or, set, replicate, sym, ap, ◌∙◌, subst, inl, inr, None, Some, Option, add-one, arith, get_or-set_other, get_or-set_same}
use lib.ListN.{get_or-replicate}
use Rattle.std.proofs.lemmas.Bool.{cases_eq, eq-eqb, ne_eqb}
use Rattle.buffers.specs.Buffers.{seek, in_bucket, FirstsFrom, NextsFrom}

pub firsts_none : (nodes : List ℕ) → FirstsFrom (length nodes) nodes (replicate 4096 None)
firsts_none nodes b lt =
    let e : length nodes - length nodes ≡ 0 = omega arith in get_or-replicate 4096 b None None lt ∙ sym (ap (seek (in_bucket nodes b) (length nodes)) e)

pub nexts_none : (nodes : List ℕ) (nexts : List (Option ℕ)) → NextsFrom (length nodes) nodes nexts
nexts_none nodes nexts j low high = absurd (omega arith)

module _ (nodes : List ℕ) (firsts nexts : List (Option ℕ)) (i : ℕ) (lt : i < length nodes) (f : FirstsFrom (i + 1) nodes firsts) (g : NextsFrom (i + 1) nodes nexts) where
  abbrev own : ℕ
  own = get_or nodes i 0 % 4096

  seek_here : (b : ℕ) → seek (in_bucket nodes b) i (length nodes - i) ≡ cond (in_bucket nodes b i) (Some i) (seek (in_bucket nodes b) (i + 1) (length nodes - (i + 1)))
  seek_here b =
      let e : length nodes - i ≡ suc (length nodes - (i + 1)) = omega arith in
      ap (seek (in_bucket nodes b) i) e ∙ ap (λ k. cond (in_bucket nodes b i) (Some i) (seek (in_bucket nodes b) k (length nodes - (i + 1)))) (sym (add-one i))

  pub firsts_more : length firsts ≡ 4096 → FirstsFrom i nodes (set firsts (get_or nodes i 0 % 4096) (Some i))
  firsts_more long b small = elim (cases_eq b own) [
    | inl q ↦
        let low : own < length firsts = omega arith in
        ap (λ v. get_or (set firsts own (Some i)) v None) q ∙ get_or-set_same firsts own (Some i) None low
        ∙ sym (seek_here b ∙ ap (λ v. cond v (Some i) (seek (in_bucket nodes b) (i + 1) (length nodes - (i + 1)))) (eq-eqb own b (sym q)))
    | inr ne ↦
        get_or-set_other firsts own b (Some i) None ne ∙ f b small
        ∙ sym (seek_here b ∙ ap (λ v. cond v (Some i) (seek (in_bucket nodes b) (i + 1) (length nodes - (i + 1)))) (ne_eqb own b (λ e. ne (sym e))))
  ]

  pub nexts_more : i < length nexts → NextsFrom i nodes (set nexts i (get_or firsts (get_or nodes i 0 % 4096) None))
  nexts_more room j low high = elim (cases_eq j i) [
    | inl q ↦
        let small : own < 4096 = omega arith in
        subst (λ v. get_or (set nexts i (get_or firsts own None)) v None ≡ seek (in_bucket nodes (get_or nodes v 0 % 4096)) (v + 1) (length nodes - (v + 1))) (sym q)
        (get_or-set_same nexts i (get_or firsts own None) None room ∙ f own small)
    | inr ne ↦ get_or-set_other nexts i j (get_or firsts own None) None ne ∙ g j (omega arith) high
  ]
