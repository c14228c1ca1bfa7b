-- Facts of what may be told or not, as what a drive holds: an implementation in memory tells it, one over files doesn't.
use Rattle.std.specs.Prelude.{Option, Some, None, ⊤}

-- A fact of what is told before and after. What is told once is always told.
abbrev pub Told : {A B : Type 0} → Option A → Option B → (A → B → Type 0) → Type 0
Told None None P = ⊤
Told (Some before) (Some after) P = P before after
Told None (Some after) P = ⊥
Told (Some before) None P = ⊥
