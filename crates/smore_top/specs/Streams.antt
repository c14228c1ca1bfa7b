-- What takes and puts do to the bytes that are told.
use Rattle.std.specs.Prelude.{◌≡◌, ℕ, ◌<◌, List, [], ◌++◌, length, take, Result, Ok, Err}

-- so many bytes went from what was left to the front of a buffer
abbrev pub Takes : ℕ → List ℕ → List ℕ → List ℕ → Type 0
Takes count buffer before after = before ≡ take count buffer ++ after

-- What filling a buffer with so much room took: it stops short only at the end, or at a fault.
abbrev pub Fills : {E : Type 0} → ℕ → Result ℕ E → List ℕ → List ℕ → List ℕ → Type 0
Fills room (Ok count) buffer before after = (before ≡ take count buffer ++ after) × (count < room → after ≡ [])
Fills room (Err e) buffer before after = (taken : List ℕ) × (before ≡ taken ++ after) × (length taken < room)

-- so many of the bytes went behind what was held
abbrev pub Puts : ℕ → List ℕ → List ℕ → List ℕ → Type 0
Puts count bytes before after = after ≡ before ++ take count bytes

-- these bytes went behind what was held
abbrev pub PutsAll : List ℕ → List ℕ → List ℕ → Type 0
PutsAll bytes before after = after ≡ before ++ bytes

-- some first bytes of them did, and not all
abbrev pub PutsPart : List ℕ → List ℕ → List ℕ → Type 0
PutsPart bytes before after = (part : List ℕ) × (rest : List ℕ) × (bytes ≡ part ++ rest) × (0 < length rest) × (after ≡ before ++ part)
