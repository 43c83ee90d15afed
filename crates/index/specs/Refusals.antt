-- told: each refusal's number, layer and detail; the one definition of them. Assumes nothing.
use Rattle.index.specs.declared.refusal.Refusal.{Refusal}
use Rattle.index.specs.declared.refusal.Refusal.TheVariants.{TooManyNodes, TableTooShort, NoSuchList, NoSuchNode, WeakIndexUnregistered, WeakIndexesFull, EdgesFull, StackShort, HoldShort, AnswersShort}
use Rattle.index.specs.declared.refusal.Layer.TheVariants.{Graph, Rack}
use Rattle.index.specs.declared.refusal.Told.{Told}

abbrev pub told : Refusal → Told
told TooManyNodes = record { number = 1; layer = Graph; detail = 0 }
told TableTooShort = record { number = 2; layer = Graph; detail = 0 }
told NoSuchList = record { number = 3; layer = Rack; detail = 0 }
told (NoSuchNode layer place) = record { number = 4; layer = layer; detail = place }
told WeakIndexUnregistered = record { number = 5; layer = Graph; detail = 0 }
told WeakIndexesFull = record { number = 6; layer = Graph; detail = 0 }
told EdgesFull = record { number = 7; layer = Graph; detail = 0 }
told (StackShort needed) = record { number = 8; layer = Rack; detail = needed }
told (HoldShort needed) = record { number = 9; layer = Rack; detail = needed }
told (AnswersShort needed) = record { number = 10; layer = Rack; detail = needed }
