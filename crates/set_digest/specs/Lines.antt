-- Lists of lines: which are lists of a set's first records, and the one spelling of each.
use Rattle.std.specs.Prelude.{◌≡◌, ℕ, ◌+◌, List, [], ◌∷◌}
use Rattle.std.specs.List.{flat_map}
use Rattle.set_digest.specs.declared.line.Line.{Line}
use Rattle.set_digest.specs.Line.{IsLine, blocks_of, spelling_of}

-- The lines list records that stand one behind the other, the first at this position and block.
abbrev pub ListFrom : ℕ → ℕ → List Line → Type 0
ListFrom position block [] = Unit {0}
ListFrom position block (l ∷ ls) = IsLine l × (l.position ≡ position) × (l.block ≡ block) × ListFrom (position + 1) (block + blocks_of l) ls

-- A spelled list: positions are 0, 1, 2 and so on, and each block is the one before plus the blocks of the record before, from
-- 0. A list of no line is one.
abbrev pub IsList : List Line → Type 0
IsList ls = ListFrom 0 0 ls

-- its bytes: the lines, one behind the other
abbrev pub spelling_of_list : List Line → List ℕ
spelling_of_list ls = flat_map spelling_of ls
