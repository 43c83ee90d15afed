-- The law is proved in proofs/Passing.
use Rattle.theory.proofs.Passing.{every_is_post_order}
use Rattle.theory.proofs.least.every_is_post_order.Goals as goal

pub returns : goal.returns
returns g c = every_is_post_order
