-- The law is proved in proofs/Fairness.
use Rattle.buffers.proofs.Fairness.{feature_fair}
use Rattle.buffers.proofs.feature_rule_is_fair.Goals as goal

pub returns : goal.returns
returns c = feature_fair
