-- node_limit, edge_limit, weak_limit: how many nodes, edges and weak indexes a graph has at most. Assumes nothing.
use Rattle.std.specs.Prelude.{ℕ}

abbrev pub node_limit : ℕ
node_limit = 4096

abbrev pub edge_limit : ℕ
edge_limit = 16384

abbrev pub weak_limit : ℕ
weak_limit = 1024
