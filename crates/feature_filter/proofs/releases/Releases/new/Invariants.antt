-- The indexes from this one on are linked.
use Rattle.std.proofs.Common.{◌≡◌, length}
use Rattle.buffers.specs.Buffers.{FirstsFrom, NextsFrom}
use Rattle.feature_filter.proofs.releases.Releases.new.Given as goal

abbrev pub invariant-loop-index : goal.invariant-loop-index
invariant-loop-index l = record {
  buckets : length l.firsts ≡ 4096;
  indexes : length l.nexts ≡ 1024;
  starts : FirstsFrom l.index l.nodes l.firsts;
  follows : NextsFrom l.index l.nodes l.nexts;
}
