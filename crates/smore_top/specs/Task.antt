-- What a command line asks for, but for its folder.
use Rattle.std.specs.Prelude.{ℕ, List}
use Rattle.marker_format.specs.Zone.{Array}
use Rattle.smore_top.specs.declared.task.NewArray.{NewArray}
use Rattle.smore_top.specs.declared.task.Task.{Task}
use Rattle.smore_top.specs.declared.task.Task.TheVariants.{Format, Batch}
use Rattle.smore_top.specs.Words.{IsBatch, IsFormat}

-- an array that is to be made
abbrev pub array_of : NewArray → Array
array_of new = record { geometry = new.geometry; id = new.id }

-- the words ask for this
abbrev pub Ask : List (List ℕ) → Task → Type 0
Ask words (Format new) = IsFormat (array_of new) words
Ask words Batch = IsBatch words

-- they ask for nothing that can be done
abbrev pub AskNothing : List (List ℕ) → Type 0
AskNothing words = (¬ IsBatch words) × ((array : Array) → IsFormat array words → ⊥)
