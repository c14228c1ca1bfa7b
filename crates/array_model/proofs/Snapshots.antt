-- Of a list of records without some that count for nothing: what is wanted was wanted.
use Rattle.std.proofs.Common.{◌≡◌, ℕ, ◌+◌, ◌<◌, ◌≤◌, max, List, [], ◌∷◌, length, inl, inr, refl, ap, zero, suc, arith}
use Rattle.std.proofs.lemmas.Bool.{cases_lt}
use Rattle.array_model.specs.Record.{Record, Part, Put, Delete, Snapshot}
use Rattle.array_model.specs.Need.{IsWanted, IsComplete, IsNewestSnapshot}
use Rattle.array_model.proofs.Records.{Among, among_from_contains, contains_from_among}
use Rattle.array_model.proofs.Notes.{KeepsWanted, newest_was, is_note}

-- above the stamp of each snapshot's part among these
above_snapshots : List Record → ℕ
above_snapshots [] = 0
above_snapshots (Snapshot stamp part parts bytes payload ∷ items) = max (suc stamp) (above_snapshots items)
above_snapshots (item ∷ items) = above_snapshots items

below_bound : (stamp part parts bytes : ℕ) (payload : List ℕ) (items : List Record) → Among (Snapshot stamp part parts bytes payload) items → stamp < above_snapshots items
unfolding above_snapshots
below_bound stamp part parts bytes payload [] found = absurd found
below_bound stamp part parts bytes payload (Snapshot s i n b p ∷ items) (inl is) = let e : s ≡ stamp = cc in omega arith
below_bound stamp part parts bytes payload (Snapshot s i n b p ∷ items) (inr later) = let below = below_bound stamp part parts bytes payload items later in omega arith
below_bound stamp part parts bytes payload (item ∷ items) (inl is) = absurd (cc)
below_bound stamp part parts bytes payload (item ∷ items) (inr later) = below_bound stamp part parts bytes payload items later

-- A complete snapshot has a first part.
first_part : (items : List Record) (stamp : ℕ) (payloads : List (List ℕ)) (it : IsComplete items stamp) → it.payloads ≡ payloads → stamp < above_snapshots items
first_part items stamp [] it is = let e = it.count in let n : length it.payloads ≡ 0 = ap length is in let some = it.some in absurd (omega arith)
first_part items stamp (payload ∷ more) it is = below_bound stamp 0 it.parts it.bytes payload items (among_from_contains items _ (it.each 0 payload it.some [] more is refl))

-- A snapshot is complete among other records where they have its parts.
pub complete_among : (items items' : List Record) (stamp : ℕ) → ((part parts bytes : ℕ) (payload : List ℕ) → Among (Snapshot stamp part parts bytes payload) items → Among (Snapshot stamp part parts bytes payload) items') → IsComplete items stamp → IsComplete items' stamp
complete_among items items' stamp have it = record {
  parts = it.parts;
  bytes = it.bytes;
  some = it.some;
  payloads = it.payloads;
  count = it.count;
  each = λ i payload below before after is at. contains_from_among items' _ (have i it.parts it.bytes payload (among_from_contains items _ (it.each i payload below before after is at)));
  whole = it.whole;
}

module _ (uploads : List ℕ) (old new : List Record) (keeps : KeepsWanted uploads old new) where
  -- The newest complete snapshot stays complete.
  complete_stays : (stamp : ℕ) → IsNewestSnapshot old stamp → IsComplete new stamp
  complete_stays stamp newest = complete_among old new stamp (λ part parts bytes payload found. keeps.wanted (Snapshot stamp part parts bytes payload) newest found) newest.complete

  -- So above the newest that is complete none was, counted down from above them all.
  none_above : (stamp : ℕ) → IsNewestSnapshot new stamp → (down other : ℕ) → above_snapshots old ≤ other + down → stamp < other → IsComplete old other → ⊥
  none_above stamp newest zero other top above it = let below = first_part old other it.payloads it refl in omega arith
  none_above stamp newest (suc down) other top above it =
      let newest_old : IsNewestSnapshot old other = record {
        complete = it;
        newest_one = λ another its. elim (cases_lt other another) [
          | inl higher ↦ absurd (none_above stamp newest down another (omega arith) (omega arith) its)
          | inr lower ↦ lower
        ];
      } in
      let bound = newest.newest_one other (complete_stays other newest_old) in
      omega arith

  snapshot_was : (stamp : ℕ) → IsNewestSnapshot new stamp → IsNewestSnapshot old stamp
  snapshot_was stamp newest = record {
    complete = complete_among new old stamp (λ part parts bytes payload found. keeps.no_more (Snapshot stamp part parts bytes payload) found) newest.complete;
    newest_one = λ other it. elim (cases_lt stamp other) [
      | inl higher ↦ absurd (none_above stamp newest (above_snapshots old) other (omega arith) higher it)
      | inr lower ↦ lower
    ];
  }

  -- What is wanted was wanted.
  pub wanted_was : (item : Record) → IsWanted uploads new item → IsWanted uploads old item
  wanted_was (Put name stamp upload parts bytes) wanted = newest_was uploads old new keeps name (Put name stamp upload parts bytes) wanted
  wanted_was (Delete name stamp) wanted = (newest_was uploads old new keeps name (Delete name stamp) wanted.0, (let few = keeps.fewer (is_note name) in let more = wanted.1 in omega arith))
  wanted_was (Part upload part payload) (inl open_upload) = inl open_upload
  wanted_was (Part upload part payload) (inr of_newest) = inr (of_newest.0, of_newest.1, of_newest.2, of_newest.3, newest_was uploads old new keeps of_newest.0 _ of_newest.4)
  wanted_was (Snapshot stamp part parts bytes payload) wanted = snapshot_was stamp wanted
  wanted_was item wanted = wanted
