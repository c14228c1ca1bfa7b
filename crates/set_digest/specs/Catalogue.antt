-- A catalogue: the sets that are listed, and the lines of each.
use Rattle.std.specs.Prelude.{◌≡◌, ℕ, ◌<◌, ◌≤◌, not, nat_lt, ◌==◌, List, [], ◌∷◌, ◌++◌, length, map, filter, take, Option, Some, None, if◌then◌else◌}
use Rattle.std.specs.List.{slice_index}
use Rattle.set_digest.specs.declared.line.Line.{Line}

-- a set and its lines
pub record Listed : Type 0 where
  pub set : ℕ
  pub lines : List Line

-- The sets that are listed, by rising number, and for how many more sets and lines there is room.
pub record Catalogued : Type 0 where
  pub listed : List Listed
  pub spare_sets : ℕ
  pub spare_lines : ℕ

-- the numbers of the sets
abbrev pub sets_of : List Listed → List ℕ
sets_of listed = map (λ l. l.set) listed

-- the numbers rise, so none comes twice
abbrev pub AreRising : List ℕ → Type 0
AreRising sets = (i j : ℕ) → i < j → j < length sets → slice_index sets i < slice_index sets j

-- the set stands at this place
pub record IsAt (listed : List Listed) (set i : ℕ) : Type 0 where
  pub in_range : i < length listed
  pub has_set : slice_index (sets_of listed) i ≡ set

-- the set would stand at this place: lesser sets before it, and greater ones from it on
pub record IsGapFor (listed : List Listed) (set i : ℕ) : Type 0 where
  pub in_range : i ≤ length listed
  pub smaller_before : (j : ℕ) → j < i → slice_index (sets_of listed) j < set
  pub greater_after : (j : ℕ) → i ≤ j → j < length listed → set < slice_index (sets_of listed) j

-- the lines of the set, where it is listed
abbrev pub lines_of : ℕ → List Listed → Option (List Line)
lines_of set [] = None
lines_of set (l ∷ ls) = if l.set == set then Some l.lines else lines_of set ls

-- how many there are, none of a set that isn't listed
abbrev pub count_of : Option (List Line) → ℕ
count_of None = 0
count_of (Some lines) = length lines

-- the line at the end of a set's lines
abbrev pub lengthened : Line → Listed → Listed
lengthened line l = record l { lines = l.lines ++ line ∷ [] }

-- of a set's lines only the first so many
abbrev pub shortened : ℕ → Listed → Listed
shortened lines l = record l { lines = take lines l.lines }

-- a set of one line
abbrev pub begun_by : ℕ → Line → Listed
begun_by set line = record { set = set; lines = line ∷ [] }

-- The line at the end of the set's lines. A set that wasn't listed is put before those with greater numbers.
abbrev pub with_line : ℕ → Line → List Listed → List Listed
with_line set line [] = begun_by set line ∷ []
with_line set line (l ∷ ls) =
    if l.set == set then lengthened line l ∷ ls
    else if nat_lt set l.set then begun_by set line ∷ l ∷ ls
    else l ∷ with_line set line ls

-- of the set's lines only the first so many
abbrev pub cut_to : ℕ → ℕ → List Listed → List Listed
cut_to set lines listed = map (λ l. if l.set == set then shortened lines l else l) listed

-- all sets but this one
abbrev pub without : ℕ → List Listed → List Listed
without set listed = filter (λ l. not (l.set == set)) listed
