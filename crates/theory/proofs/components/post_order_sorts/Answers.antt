-- The law is proved in proofs/Ordering.
use Rattle.theory.proofs.Ordering.{post_order_sorts}
use Rattle.theory.proofs.components.post_order_sorts.Goals as goal

pub returns : goal.returns
returns c = post_order_sorts
