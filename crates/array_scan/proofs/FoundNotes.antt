-- The newest note and the first part among records.
use Rattle.std.proofs.Common.{◌≡◌, ℕ, ◌+◌, ◌<◌, true, false, cond, List, [], ◌∷◌, length, drop, get_or, Option, Some, None, IfSome, refl, sym, ap, ap₂, ◌∙◌, drop-cons, add-one}
use Rattle.std.specs.Prelude.{option_map, is_some, Contains}
use Rattle.array_model.specs.Record.{Record, note_stamp, payload_of}
use Rattle.array_model.specs.Map.{is_less, later_note, newest, or_else, part_of}
use Rattle.array_scan.specs.declared.set_read.RecordAt.{RecordAt}
use Rattle.array_scan.specs.declared.records.ValidRecord.{ValidRecord}
use Rattle.array_scan.specs.Judged.{Payloads, record_with}
use Rattle.array_scan.specs.Valid.{payload_with, item_with, items_with}
use Rattle.array_scan.specs.Notes.{is_later}

-- the newest note of the name among these was found
pub record NewestSoFar (name : List ℕ) (rest : List ValidRecord) (found : Option ValidRecord) : Type 0 where
  pub note : (payload : Payloads) → option_map (item_with payload) found ≡ newest name (items_with payload rest)
  pub stamp : (payload : Payloads) → IfSome found (λ v. note_stamp name (item_with payload v) ≡ Some v.at.now.marker.stamp)

pub newest_none : (name : List ℕ) → NewestSoFar name [] None
newest_none name = record { note = λ payload. refl; stamp = λ payload. tt }

-- nothing is less than none
not_less : (o : Option ℕ) → is_less o None ≡ false
not_less None = refl
not_less (Some n) = refl

no_note : (name : List ℕ) (item : Record) (o : Option Record) → note_stamp name item ≡ None → later_note name item o ≡ o
no_note name item None is = ap (λ s. cond (is_some s) (Some item) None) is
no_note name item (Some note) is = ap (λ b. cond b (Some item) (Some note)) (ap (is_less (note_stamp name note)) is ∙ not_less (note_stamp name note))

module _ (name : List ℕ) (v : ValidRecord) (rest : List ValidRecord) where
  -- the record is no note of the name
  pub newest_other : (found : Option ValidRecord) → ((payload : RecordAt → List ℕ) → note_stamp name (record_with payload v.at.now) ≡ None) → NewestSoFar name rest found → NewestSoFar name (v ∷ rest) found
  newest_other found other so_far = record {
    note = λ payload. so_far.note payload ∙ sym (no_note name (item_with payload v) (newest name (items_with payload rest)) (other (payload v.set.now.carriers.items)));
    stamp = so_far.stamp;
  }

  module _ (own : (payload : RecordAt → List ℕ) → note_stamp name (record_with payload v.at.now) ≡ Some v.at.now.marker.stamp) where
    -- it is one, and the newest so far
    later : (payload : Payloads) (found : Option ValidRecord) → is_later v.at.now found ≡ true → IfSome found (λ v. note_stamp name (item_with payload v) ≡ Some v.at.now.marker.stamp) → later_note name (item_with payload v) (option_map (item_with payload) found) ≡ Some (item_with payload v)
    later payload None is stamp = ap (λ s. cond (is_some s) (Some (item_with payload v)) None) (own (payload v.set.now.carriers.items))
    later payload (Some note) is stamp = ap (λ b. cond b (Some (item_with payload v)) (Some (item_with payload note))) (ap₂ is_less stamp (own (payload v.set.now.carriers.items)) ∙ is)

    pub newest_later : (found : Option ValidRecord) → is_later v.at.now found ≡ true → NewestSoFar name rest found → NewestSoFar name (v ∷ rest) (Some v)
    newest_later found is so_far = record {
      note = λ payload. sym (later payload found is (so_far.stamp payload)) ∙ ap (later_note name (item_with payload v)) (so_far.note payload);
      stamp = λ payload. own (payload v.set.now.carriers.items);
    }

    earlier : (payload : Payloads) (found : Option ValidRecord) → is_later v.at.now found ≡ false → IfSome found (λ v. note_stamp name (item_with payload v) ≡ Some v.at.now.marker.stamp) → later_note name (item_with payload v) (option_map (item_with payload) found) ≡ option_map (item_with payload) found
    earlier payload None is stamp = absurd (let e : true ≡ false = is in cc)
    earlier payload (Some note) is stamp = ap (λ b. cond b (Some (item_with payload v)) (Some (item_with payload note))) (ap₂ is_less stamp (own (payload v.set.now.carriers.items)) ∙ is)

    pub newest_earlier : (found : Option ValidRecord) → is_later v.at.now found ≡ false → NewestSoFar name rest found → NewestSoFar name (v ∷ rest) found
    newest_earlier found is so_far = record {
      note = λ payload. sym (earlier payload found is (so_far.stamp payload)) ∙ ap (later_note name (item_with payload v)) (so_far.note payload);
      stamp = so_far.stamp;
    }

-- ---- parts

-- the part isn't among the first so many
abbrev pub NotAmongFirst : List ValidRecord → ℕ → ℕ → ℕ → Type 0
NotAmongFirst records upload part n = (payload : Payloads) → part_of upload part (items_with payload records) ≡ part_of upload part (items_with payload (drop n records))

module _ (records : List ValidRecord) (upload part n : ℕ) (v : ValidRecord) (below : n < length records) (here : v ≡ get_or records n v) (so_far : NotAmongFirst records upload part n) where
  first_is : (payload : Payloads) (o : Option (List ℕ)) → payload_of upload part (record_with (payload v.set.now.carriers.items) v.at.now) ≡ o → part_of upload part (items_with payload records) ≡ or_else o (part_of upload part (items_with payload (drop (n + 1) records)))
  first_is payload o is =
      so_far payload
      ∙ ap (λ l. part_of upload part (items_with payload l)) (drop-cons records n v below ∙ ap₂ (λ (v : ValidRecord) m. v ∷ drop m records) (sym here) (sym (add-one n)))
      ∙ ap (λ o. or_else o (part_of upload part (items_with payload (drop (n + 1) records)))) is

  pub part_next : ((payload : RecordAt → List ℕ) → payload_of upload part (record_with payload v.at.now) ≡ None) → NotAmongFirst records upload part (n + 1)
  part_next other = λ payload. first_is payload None (other (payload v.set.now.carriers.items))

  pub part_here : ((payload : RecordAt → List ℕ) → payload_of upload part (record_with payload v.at.now) ≡ Some (payload v.at.now)) → (payload : Payloads) → Some (payload_with payload v) ≡ part_of upload part (items_with payload records)
  part_here own = λ payload. sym (first_is payload (Some (payload_with payload v)) (own (payload v.set.now.carriers.items)))

  pub part_there : Contains records v
  part_there = (n, below, sym here)
