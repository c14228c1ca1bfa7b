use Rattle.std.proofs.Common.{◌≡◌, ℕ, suc, zero, ◌<◌, Bool, true, ◌&&◌, nat_eq, List, [], ◌∷◌, length, get_or, refl, arith}
use Rattle.std.proofs.lemmas.Bool.{and_parts, eqb-true}
use Rattle.field_tests.specs.declared.code.TheConstants.{LEFT}
use Rattle.rs_code.specs.Fragments.{AreIndexes}
use Rattle.rs_code.proofs.Indexes.{rises, rising_indexes}
use Rattle.field_tests.proofs.code.any_four_of_six.Goals as goal

-- whether each row has four indexes that rise
abbrev all_rise : List (List ℕ) → Bool
all_rise [] = true
all_rise (row ∷ rows) = (nat_eq (length row) 4 && rises 0 6 row) && all_rise rows

row_rises : (rows : List (List ℕ)) → all_rise rows ≡ true → (i : ℕ) → i < length rows → AreIndexes 4 6 (get_or rows i [])
row_rises [] h i lt = absurd (omega arith)
row_rises (row ∷ rows) h zero lt =
    let parts = and_parts (nat_eq (length row) 4) (rises 0 6 row) (and_parts (nat_eq (length row) 4 && rises 0 6 row) (all_rise rows) h).0 in
    rising_indexes 4 6 row (eqb-true (length row) 4 parts.0) parts.1
row_rises (row ∷ rows) h (suc i) lt =
    row_rises rows (and_parts (nat_eq (length row) 4 && rises 0 6 row) (all_rise rows) h).1 i (omega arith)

pub fragment_into-requires-clause-have : goal.fragment_into-requires-clause-have
fragment_into-requires-clause-have g c =
    rw (c.new-code.ensures.k, c.new-code.ensures.p) (row_rises LEFT refl c.loop-left.left-index (omega arith))
