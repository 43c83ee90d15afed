-- The law is proved in proofs/Sweeping.
use Rattle.theory.proofs.Sweeping.{sweep_finishes_in_post_order}
use Rattle.theory.proofs.components.sweep_finishes_in_post_order.Goals as goal

pub returns : goal.returns
returns c = sweep_finishes_in_post_order
