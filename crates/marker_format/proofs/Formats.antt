-- A format that begins with a magic word, behind which a row of fields stands.
use Rattle.std.proofs.Common.{◌≡◌, ℕ, ◌+◌, ◌≤◌, List, ◌++◌, length, take, drop, sym, ap, ◌∙◌, append_assoc}
use Rattle.std.specs.Prelude.{map}
use Rattle.std.specs.Int.{Width}
use Rattle.std.proofs.lemmas.List.{take_at, drop_at, take-append-drop}
use Rattle.smore_base.specs.BigEndian.{AreBytes, Stands, Fields, spelled, fields_at, bytes_of}
use Rattle.smore_base.proofs.BigEndianLaws.{AllExact, AllFit, Stands-fields_at, fields_at-spelled}

-- what is read was written so
pub so_spelled : (ws : List Width) (magic bytes : List ℕ) → AllExact ws → AreBytes bytes → 8 + bytes_of ws ≤ length bytes → take 8 bytes ≡ magic
    → bytes ≡ magic ++ (spelled (fields_at ws bytes 8) ++ drop (8 + bytes_of ws) bytes)
so_spelled ws magic bytes exact fits long begins =
    let row : Stands 8 (8 + bytes_of ws) (spelled (fields_at ws bytes 8)) bytes = Stands-fields_at ws bytes 8 exact fits long in
    sym (take-append-drop (8 + bytes_of ws) bytes)
    ∙ ap (λ (l : List ℕ). l ++ drop (8 + bytes_of ws) bytes) (row ∙ ap (λ (l : List ℕ). l ++ spelled (fields_at ws bytes 8)) begins)
    ∙ append_assoc magic (spelled (fields_at ws bytes 8)) (drop (8 + bytes_of ws) bytes)

-- what is spelled so begins with the magic word, its fields are read, and the rest stands behind them
pub record ReadsAgain (magic bytes rest : List ℕ) (fs : Fields) : Type 0 where
  pub begins : take 8 bytes ≡ magic
  pub fields : fields_at (map (λ f. f.0) fs) bytes 8 ≡ fs
  pub behind : drop (8 + bytes_of (map (λ f. f.0) fs)) bytes ≡ rest

pub reads_again : (magic bytes rest : List ℕ) (fs : Fields) → length magic ≡ 8 → AllExact (map (λ f. f.0) fs) → AllFit fs → bytes ≡ magic ++ (spelled fs ++ rest) → ReadsAgain magic bytes rest fs
reads_again magic bytes rest fs eight exact fit e =
    let read = fields_at-spelled fs bytes rest 8 exact fit (ap (drop 8) e ∙ drop_at magic (spelled fs ++ rest) 8 eight) in
    record {
      begins = ap (take 8) e ∙ take_at magic (spelled fs ++ rest) 8 eight;
      fields = read.0;
      behind = read.1;
    }
