-- layer_text: a layer's name as it is printed.  told_text: a refusal as it is printed: its number, the layer, the detail.
-- Assumes nothing.
use Rattle.std.specs.Prelude.{ℕ, List, ◌++◌, codes, decimal}
use Rattle.index.specs.declared.refusal.Layer.{Layer}
use Rattle.index.specs.declared.refusal.Layer.TheVariants.{Graph, Rack}
use Rattle.index.specs.declared.refusal.Told.{Told}

abbrev pub layer_text : Layer → List ℕ
layer_text Graph = codes "graph"
layer_text Rack = codes "rack"

abbrev pub told_text : Told → List ℕ
told_text told = decimal told.number ++ (codes " " ++ (layer_text told.layer ++ (codes " " ++ decimal told.detail)))
