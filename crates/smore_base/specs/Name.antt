-- Names of objects.
use Rattle.std.specs.Prelude.{ℕ, ◌≤◌, List, length}

-- bytes that are a name: one at least, and no more than 255
abbrev pub IsName : List ℕ → Type 0
IsName bytes = (1 ≤ length bytes) × (length bytes ≤ 255)
