-- What is said of names and parts once a record more stands behind others.
use Rattle.std.proofs.Common.{◌≡◌, ℕ, ◌≤◌, Bool, true, false, cond, List, [], ◌∷◌, ◌++◌, Option, Some, None, is_some, refl, sym, ap, ◌∙◌, bytes_eq, le-ltb}
use Rattle.std.specs.Prelude.{◌&&◌, ◌==◌}
use Rattle.std.specs.Ordering.{eq_by_cmp}
use Rattle.std.specs.FinMap as finmap
use Rattle.marker_format.specs.declared.kind.Kind.TheVariants as kinds
use Rattle.marker_format.specs.declared.marker.Marker.{Marker}
use Rattle.marker_format.specs.Zone.{has_kind, end_from}
use Rattle.array_model.specs.Record.{Record, note_stamp}
use Rattle.array_model.specs.Map.{newest, is_less}
use Rattle.array_model.proofs.Records.{newest_is_note, all_among}
use Rattle.store_core.specs.declared.index.Note.{Note}
use Rattle.store_core.specs.declared.index.Part.{Part}
use Rattle.store_core.specs.declared.index.Index.{Index}
use Rattle.store_core.specs.Index.{notes_in, parts_in, with_note, Notes, Parts, part_cmp}
use Rattle.store_core.specs.Said.{said_by, said, note_read, stamp_read, or_else, part_from, Says}
use Rattle.store_core.specs.Zone.{next_stamp}
use Rattle.store_core.proofs.NewestAdded.{kept}
use Rattle.store_core.proofs.SaidLaws.{newest_said, or_else_none, unsaid, eq_keys, get-with_part, get-with_note, unparted, part_from-added}
use Rattle.store_core.proofs.ObjectMaps.{IsBelow, stamp_below}
use Rattle.store_core.proofs.HeldItems.{newest_items}
use Rattle.store_core.proofs.ZoneItems.{items_from}
use Rattle.store_core.proofs.Held.{below_all}

-- these notes and parts are what the records say
pub record SaysOf (notes : Notes) (parts : Parts) (ms : List Marker) : Type 0 where
  pub notes_are : (name : List ℕ) → finmap.get notes name ≡ note_read (newest name (said ms))
  pub parts_are : (upload number : ℕ) → finmap.get parts (upload, number) ≡ part_from 0 ms upload number

pub says_of : (index : Index) (ms : List Marker) → Says index ms → SaysOf (notes_in index) (parts_in index) ms
says_of index ms says = record { notes_are = says.notes; parts_are = says.parts }

pub index_says : (index : Index) (notes : Notes) (parts : Parts) (ms : List Marker) → notes_in index ≡ notes → parts_in index ≡ parts → SaysOf notes parts ms → Says index ms
index_says index notes parts ms same_notes same_parts says = record {
  notes = λ name. ap (λ n. finmap.get n name) same_notes ∙ says.notes_are name;
  parts = λ upload number. ap (λ p. finmap.get p (upload, number)) same_parts ∙ says.parts_are upload number;
}

-- ---- a note

-- no note of these records has a greater stamp
abbrev pub NoneLater : List Marker → ℕ → Type 0
NoneLater ms stamp = (name : List ℕ) → is_less (Some stamp) (stamp_read name (newest name (said ms))) ≡ false

pub latest : (ms : List Marker) (stamp : ℕ) (name : List ℕ) → next_stamp ms ≤ stamp → is_less (Some stamp) (stamp_read name (newest name (said ms))) ≡ false
latest ms stamp name later = ap (λ o. is_less (Some stamp) (stamp_read name o)) (sym (newest_items name [] 0 ms)) ∙ at_one (newest name items) refl
  where
    items : List Record
    items = items_from [] 0 ms

    at_stamp : (n : Record) (o : Option ℕ) → note_stamp name n ≡ o → IsBelow stamp n → is_less (Some stamp) o ≡ false
    at_stamp n None e below = refl
    at_stamp n (Some its) e below = le-ltb stamp its (stamp_below stamp n name its below e)

    at_one : (o : Option Record) → newest name (items_from [] 0 ms) ≡ o → is_less (Some stamp) (stamp_read name o) ≡ false
    at_one None e = refl
    at_one (Some n) e = at_stamp n (note_stamp name n) refl (all_among (IsBelow stamp) (items_from [] 0 ms) n (below_all [] 0 ms stamp later) (newest_is_note name (items_from [] 0 ms) n e).0)

-- nor with a record behind them that is no note
pub latest_more : (ms : List Marker) (m : Marker) (stamp : ℕ) → ((q : List ℕ) → note_stamp q (said_by m) ≡ None) → NoneLater ms stamp → NoneLater (ms ++ m ∷ []) stamp
latest_more ms m stamp none was name = ap (λ o. is_less (Some stamp) (stamp_read name o)) (newest_said name ms m ∙ unsaid name (newest name (said ms)) (said_by m) (none name)) ∙ was name

-- a note behind them, whose stamp comes later
pub note_more : (notes : Notes) (parts : Parts) (ms : List Marker) (m : Marker) (name : List ℕ) (stamp : ℕ) (note : Option Note) → has_kind kinds.Part m ≡ false
    → ((q : List ℕ) → note_stamp q (said_by m) ≡ cond (bytes_eq name q) (Some stamp) None) → note_read (Some (said_by m)) ≡ note → NoneLater ms stamp
    → SaysOf notes parts ms → SaysOf (with_note name note notes) parts (ms ++ m ∷ [])
note_more notes parts ms m name stamp note other stamps_are is later was = record {
  notes_are = λ q. get-with_note note notes name q ∙ at_one q (bytes_eq name q) refl ∙ ap note_read (sym (newest_said q ms m));
  parts_are = λ upload number.
      was.parts_are upload number ∙ or_else_none (part_from 0 ms upload number)
      ∙ ap (or_else (part_from 0 ms upload number)) (sym (unparted (end_from 0 ms) m upload number other))
      ∙ sym (part_from-added 0 ms m upload number);
}
  where
    newest_of : List ℕ → Option Record
    newest_of q = newest q (said ms)

    at_one : (q : List ℕ) (b : Bool) → bytes_eq name q ≡ b → cond b note (finmap.get notes q) ≡ note_read (kept q (newest q (said ms)) (said_by m))
    at_one q true e = sym is ∙ ap note_read (sym (
        ap (λ s. cond (is_some s) (cond (is_less s (stamp_read q (newest_of q))) (newest_of q) (Some (said_by m))) (newest_of q)) (stamps_are q ∙ ap (λ b. cond b (Some stamp) None) e)
        ∙ ap (λ b. cond b (newest_of q) (Some (said_by m))) (later q)))
    at_one q false e = was.notes_are q ∙ ap note_read (sym (unsaid q (newest_of q) (said_by m) (stamps_are q ∙ ap (λ b. cond b (Some stamp) None) e)))

-- ---- a part

pub part_more : (notes : Notes) (parts : Parts) (ms : List Marker) (m : Marker) (part : Part) → has_kind kinds.Part m ≡ true → ((q : List ℕ) → note_stamp q (said_by m) ≡ None)
    → part.block ≡ end_from 0 ms → part.bytes ≡ m.payload → finmap.get parts (m.upload, m.part) ≡ None
    → SaysOf notes parts ms → SaysOf notes (finmap.insert parts (m.upload, m.part) part) (ms ++ m ∷ [])
part_more notes parts ms m part kind none here size fresh was = record {
  notes_are = λ name. was.notes_are name ∙ ap note_read (sym (newest_said name ms m ∙ unsaid name (newest name (said ms)) (said_by m) (none name)));
  parts_are = λ upload number.
      ap (λ o. finmap.get (cond (is_some o) parts (finmap.insert parts (m.upload, m.part) part)) (upload, number)) (sym fresh)
      ∙ get-with_part parts (m.upload, m.part) part (upload, number)
      ∙ ap (λ o. or_else o (cond (eq_by_cmp part_cmp (upload, number) (m.upload, m.part)) (Some part) None)) (was.parts_are upload number)
      ∙ ap (λ b. or_else (part_from 0 ms upload number) (cond b (Some part) None)) (eq_keys upload number m.upload m.part ∙ ap (λ b. b && (m.upload == upload) && (m.part == number)) (sym kind))
      ∙ ap (λ (p : Part). or_else (part_from 0 ms upload number) (cond (has_kind kinds.Part m && (m.upload == upload) && (m.part == number)) (Some p) None)) (λ i. record { block = here i; bytes = size i })
      ∙ sym (part_from-added 0 ms m upload number);
}
