-- The law is proved in proofs/Grounds.
use Rattle.theory.proofs.Grounds.{components_of_graph}
use Rattle.theory.proofs.components.groups_are_components.Goals as goal

pub returns : goal.returns
returns g c = components_of_graph _
