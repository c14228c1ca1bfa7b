-- Fragments that are read one behind the other.
use Rattle.std.proofs.Common.{◌≡◌, ℕ, zero, suc, ◌+◌, ◌*◌, ◌<◌, ◌≤◌, List, [], ◌∷◌, ◌++◌, length, take, get_or, None, IfSome, sym, ap, ap₂, ◌∙◌, arith, append-nil}
use Rattle.std.specs.List.{AllByRecursion}
use Rattle.std.proofs.lemmas.List.{take_more, take_all}
use Rattle.std.proofs.lemmas.Grind.{flat_map-append}
use borrow.Rule.Slice.PartMut.{put_mid}
use Rattle.std.proofs.lemmas.Slice.{take-put_mid}
use Rattle.zone_bay.specs.Bay.{BayState}
use Rattle.set_table.specs.declared.members.Member.{Member}
use Rattle.set_reader.specs.Calls.{ReadsUntil}
use Rattle.set_reader.specs.Rows.{fragment_on, rows_of}
use Rattle.set_reader.proofs.Told.{told_at, told_from}
use Rattle.set_reader.proofs.CallLaws.{until_none, until_then}

pub all_at : (P : Member → Type 0) (members : List Member) (i : ℕ) (d : Member) → i < length members → AllByRecursion P members → P (get_or members i d)
all_at P [] i d less all = absurd (omega (arith, less))
all_at P (m ∷ members) zero d less all = all.0
all_at P (m ∷ members) (suc i) d less all = all_at P members i d (omega (arith, less)) all.1

-- the fragments of the first so many members were read
pub record RowsRead (block f : ℕ) (members : List Member) (old now : BayState) (rows : List ℕ) (n : ℕ) : Type 0 where
  pub reads : ReadsUntil n None old now
  pub told : IfSome old.contents (λ held. take (n * f) rows ≡ rows_of held block f (take n members))

pub rows_none : (block f : ℕ) (members : List Member) (bay : BayState) (rows : List ℕ) → RowsRead block f members bay bay rows 0
rows_none block f members bay rows = record { reads = until_none bay; told = told_from bay.contents _ (λ held is. ap (λ n. take n rows) (let e : 0 * f ≡ 0 = omega arith in e)) }

-- and the next one's is written behind them
pub rows_more : (block f size : ℕ) (members : List Member) (old mid new : BayState) (rows row : List ℕ) (n long : ℕ) (m : Member) → n < length members → m ≡ get_or members n m → length rows ≡ length members * f → length row ≡ long → long ≡ f
    → RowsRead block f members old mid rows n → ReadsUntil 1 None mid new → IfSome mid.contents (λ held. row ≡ fragment_on held block long m) → RowsRead block f members old new (put_mid (n * f) size rows row) (n + 1)
rows_more block f size members old mid new rows row n long m below here room row_long is_f so_far reads told =
    let next : take (n + 1) members ≡ take n members ++ m ∷ [] = take_more members n m below ∙ ap (λ x. take n members ++ x ∷ []) (sym here) in
    let within : n * f ≤ length rows = grind (arith, room, below) in
    let long_enough : (n + 1) * f ≡ n * f + length row = (let e : (n + 1) * f ≡ n * f + f = grind arith in e ∙ ap (λ j. n * f + j) (sym (row_long ∙ is_f))) in
    let written : take ((n + 1) * f) (put_mid (n * f) size rows row) ≡ take (n * f) rows ++ row = take-put_mid (n * f) size rows row ((n + 1) * f) long_enough within in
    record {
      reads = until_then n 1 old mid new None so_far.reads reads;
      told = told_from old.contents _ (λ held is.
          let told_row : row ≡ fragment_on held block f m = told_at mid.contents _ held (so_far.reads.bay.contents ∙ is) told ∙ ap (λ j. fragment_on held block j m) is_f in
          written
          ∙ ap₂ (λ (a b : List ℕ). a ++ b) (told_at old.contents _ held is so_far.told) told_row
          ∙ sym (ap (rows_of held block f) next ∙ flat_map-append (fragment_on held block f) (take n members) (m ∷ []) ∙ ap (λ l. rows_of held block f (take n members) ++ l) (append-nil (fragment_on held block f m))));
    }

pub rows_all : (block f : ℕ) (members : List Member) (old now : BayState) (rows : List ℕ) (n : ℕ) → n ≡ length members → length rows ≡ length members * f → RowsRead block f members old now rows n → IfSome old.contents (λ held. rows ≡ rows_of held block f members)
rows_all block f members old now rows n all size so_far =
    told_from old.contents _ (λ held is.
    sym (take_all (n * f) rows (let e : length rows ≡ n * f = size ∙ ap (λ j. j * f) (sym all) in omega (arith, e)))
    ∙ told_at old.contents _ held is so_far.told
    ∙ ap (rows_of held block f) (take_all n members (omega (arith, all))))
