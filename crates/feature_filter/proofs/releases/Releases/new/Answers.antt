-- One index more is put in front of its bucket.
use Rattle.std.proofs.Common.{◌≡◌, ◌+◌, ◌-◌, ◌<◌, None, length, replicate, refl, ◌∙◌, subst, arith, length-set}
use Rattle.buffers.specs.Buffers.{FirstsFrom, NextsFrom}
use Rattle.buffers.proofs.Building.{firsts_none, nexts_none, firsts_more, nexts_more}
use Rattle.feature_filter.proofs.releases.Releases.new.Goals as goal

pub loop-index-init : goal.loop-index-init
loop-index-init c = record { buckets = refl; indexes = refl; starts = firsts_none c.args.nodes.now; follows = nexts_none c.args.nodes.now (replicate 1024 None) }

pub loop-index-preserved : goal.loop-index-preserved
loop-index-preserved c =
    let nodes = c.args.nodes.now in
    let inv = c.loop-index.invariant in
    let i = c.loop-index.index - 1 in
    let one : c.loop-index.index ≡ i + 1 = omega arith in
    let low : i < length nodes = omega arith in
    let f = subst (λ k. FirstsFrom k nodes c.loop-index.firsts) one inv.starts in
    let n = subst (λ k. NextsFrom k nodes c.loop-index.nexts) one inv.follows in
    let long = inv.indexes in
    let few = c.requires in
    record {
      buckets = length-set _ _ _ ∙ inv.buckets;
      indexes = length-set _ _ _ ∙ inv.indexes;
      starts = firsts_more nodes c.loop-index.firsts c.loop-index.nexts i low f n inv.buckets;
      follows = nexts_more nodes c.loop-index.firsts c.loop-index.nexts i low f n (omega arith);
    }
