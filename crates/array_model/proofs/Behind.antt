-- What records say with others behind them.
use Rattle.std.proofs.Common.{◌≡◌, ℕ, ◌≤◌, Bool, true, false, cond, List, [], ◌∷◌, ◌++◌, Option, Some, None, is_some, inl, inr, refl, sym, ap, ◌∙◌, subst, le-ltb, bytes_eq, ◌==◌, ◌&&◌, eqb-true}
use Rattle.std.proofs.lemmas.Bool.{and_parts}
use Rattle.std.proofs.lemmas.Slice.Eq.{bytes_eq-Decides}
use Rattle.std.specs.Cmp.Lexicographic.{nat_list_cmp_total}
use Rattle.std.specs.List.{AllByRecursion}
use Rattle.std.specs.FinMap as finmap
use Rattle.array_model.specs.Record.{Record, Part, Put, Delete, Cut, note_stamp, payload_of, kept_of}
use Rattle.array_model.specs.Sets.{ReadSet, least_kept, lesser, records_of}
use Rattle.array_model.specs.Map.{items_of, newest, later_note, said_by, value_of, part_of, or_else}
use Rattle.array_model.specs.Map.{value_in, map_of, with_value}
use Rattle.array_model.specs.Need.{IsUploadOfNewest}
use Rattle.array_model.specs.SetLaws.{Appends, IsWithoutNote, RecordsWithoutNote, NoneAbove, PutNoteIsLast, DeleteNoteIsLast}
use Rattle.array_model.proofs.Records.{Among, contains_from_among, NewestIs, newest_is, the_newest, newest_is_note, all_among}
use Rattle.array_model.proofs.Objects.{SameParts, said_same}
use Rattle.array_model.proofs.MapLaws.{same_values_same_map, map_has_what_is_read, get_with}
use Rattle.array_model.proofs.Notes.{put_named}
use Rattle.array_model.proofs.Appended.{read_more, no_cut_nothing_off}

-- Behind others the newest note of those behind is the newest, where it is none of a lesser stamp,
pub newest_behind : (name : List ℕ) (items more : List Record) (note : Record) (stamp : ℕ) → newest name more ≡ Some note → note_stamp name note ≡ Some stamp → ((item : Record) (its : ℕ) → Among item items → note_stamp name item ≡ Some its → its ≤ stamp) → newest name (items ++ more) ≡ Some note
newest_behind name [] more note stamp is at bound = is
newest_behind name (item ∷ items) more note stamp is at bound =
    ap (later_note name item) (newest_behind name items more note stamp is at (λ other its found has. bound other its (inr found) has))
    ∙ keeps (note_stamp name item) refl
  where
    keeps : (own : Option ℕ) → note_stamp name item ≡ own → later_note name item (Some note) ≡ Some note
    keeps None none = rw (none, at)
    keeps (Some its) has = let b = bound item its (inl refl) has in rw (has, at) (ap (λ b. cond b (Some item) (Some note)) (le-ltb stamp its b))

-- and where there is none behind, it is the newest of those before.
pub newest_before : (name : List ℕ) (items more : List Record) → newest name more ≡ None → newest name (items ++ more) ≡ newest name items
newest_before name [] more none = none
newest_before name (item ∷ items) more none = ap (later_note name item) (newest_before name items more none)

or_else_regroup : (a b c : Option (List ℕ)) → or_else (or_else a b) c ≡ or_else a (or_else b c)
or_else_regroup None b c = refl
or_else_regroup (Some x) b c = refl

-- A part is the first before, or else the first behind.
pub part_joined : (upload part : ℕ) (items more : List Record) → part_of upload part (items ++ more) ≡ or_else (part_of upload part items) (part_of upload part more)
part_joined upload part [] more = refl
part_joined upload part (item ∷ items) more =
    ap (or_else (payload_of upload part item)) (part_joined upload part items more)
    ∙ sym (or_else_regroup (payload_of upload part item) (part_of upload part items) (part_of upload part more))

pub or_else_none : (a : Option (List ℕ)) → or_else a None ≡ a
or_else_none None = refl
or_else_none (Some x) = refl

-- Records that are no notes have no newest,
none_newest : (name : List ℕ) (more : List Record) → ((item : Record) → Among item more → note_stamp name item ≡ None) → (found : Option Record) → NewestIs name more found → found ≡ None
none_newest name more none None told = refl
none_newest name more none (Some note) (newest_is kept stamp there at bound) = let absent = none kept there in absurd (cc)

pub no_notes : (name : List ℕ) (more : List Record) → ((item : Record) → Among item more → note_stamp name item ≡ None) → newest name more ≡ None
no_notes name more none = none_newest name more none (newest name more) (the_newest name more)

-- records that are no parts of it have none of an upload,
pub no_parts : (upload part : ℕ) (more : List Record) → ((item : Record) → Among item more → payload_of upload part item ≡ None) → part_of upload part more ≡ None
no_parts upload part [] none = refl
no_parts upload part (item ∷ more) none =
    ap (λ o. or_else o (part_of upload part more)) (none item (inl refl)) ∙ no_parts upload part more (λ other found. none other (inr found))

-- and records that are no cuts of it keep nothing of a set.
pub no_cuts : (target : ℕ) (more : List Record) → ((item : Record) → Among item more → kept_of target item ≡ None) → least_kept target more ≡ None
no_cuts target [] none = refl
no_cuts target (item ∷ more) none =
    ap (λ o. lesser o (least_kept target more)) (none item (inl refl)) ∙ no_cuts target more (λ other found. none other (inr found))

-- So the parts of an upload are the same with records behind that have none.
pub same_parts_before : (items more : List Record) (upload : ℕ) → ((part : ℕ) → part_of upload part more ≡ None) → SameParts items (items ++ more) upload
same_parts_before items more upload none part =
    part_joined upload part items more ∙ ap (or_else (part_of upload part items)) (none part) ∙ or_else_none (part_of upload part items)

-- Where the newest note and the parts of its upload are the same, what is read is.
pub value_behind : (items more : List Record) (name : List ℕ) → newest name (items ++ more) ≡ newest name items → ((own : List ℕ) (stamp upload parts bytes : ℕ) → newest name items ≡ Some (Put own stamp upload parts bytes) → SameParts items (items ++ more) upload) → value_of (items ++ more) name ≡ value_of items name
value_behind items more name same parts = ap (said_by (items ++ more)) same ∙ says (newest name items) refl
  where
    says : (note : Option Record) → newest name items ≡ note → said_by (items ++ more) note ≡ said_by items note
    says None none = refl
    says (Some note) is = said_same items (items ++ more) note (λ own stamp upload count bytes put. parts own stamp upload count bytes (is ∙ ap Some put))

-- What a record without its note doesn't say.
silent_note : (items : List Record) (name : List ℕ) (item : Record) → IsWithoutNote items item → note_stamp name item ≡ None
silent_note items name (Put own stamp upload parts bytes) silent = absurd silent
silent_note items name (Delete own stamp) silent = absurd silent
silent_note items name item silent = refl

silent_cut : (items : List Record) (target : ℕ) (item : Record) → IsWithoutNote items item → kept_of target item ≡ None
silent_cut items target (Cut other kept) silent = absurd silent
silent_cut items target item silent = refl

silent_part : (items : List Record) (upload part : ℕ) (item : Record) → IsUploadOfNewest items upload → IsWithoutNote items item → payload_of upload part item ≡ None
silent_part items upload part (Part u i payload) named silent =
    elim ((u == upload) && (i == part)) as (λ b. ((u == upload) && (i == part)) ≡ b → cond b (Some payload) None ≡ None) [
      | true ↦ λ same. absurd (silent (subst (λ n. IsUploadOfNewest items n) (sym (eqb-true u upload (and_parts (u == upload) (i == part) same).0)) named))
      | false ↦ λ differs. refl
    ] refl
silent_part items upload part item named silent = refl

-- The upload of a newest put note is that of the newest note of the name that it bears.
named_upload : (name : List ℕ) (items : List Record) (own : List ℕ) (stamp upload parts bytes : ℕ) → newest name items ≡ Some (Put own stamp upload parts bytes) → IsUploadOfNewest items upload
named_upload name items own stamp upload parts bytes was =
    let told = newest_is_note name items (Put own stamp upload parts bytes) was in
    (own, stamp, parts, bytes, ap (λ n. newest n items) (put_named name own stamp upload parts bytes told.1.0 told.1.1) ∙ was)

-- Behind records that say nothing each name stands for what it stood for.
silent_value : (items more : List Record) → AllByRecursion (IsWithoutNote items) more → (name : List ℕ) → value_of (items ++ more) name ≡ value_of items name
silent_value items more silent name =
    value_behind items more name
    (newest_before name items more (no_notes name more (λ item found. silent_note items name item (all_among (IsWithoutNote items) more item silent found))))
    (λ own stamp upload parts bytes is. same_parts_before items more upload (λ part. no_parts upload part more (λ item found.
    silent_part items upload part item (named_upload name items own stamp upload parts bytes is) (all_among (IsWithoutNote items) more item silent found))))

pub records_without_note : RecordsWithoutNote
records_without_note k more old new appends silent =
    let items = items_of (records_of k old) in
    let read = read_more k more old new appends (no_cut_nothing_off k more (appends.top ∷ appends.above) (λ target. no_cuts target more (λ item found. silent_cut items target item (all_among (IsWithoutNote items) more item silent found))) appends.below) in
    let same : (name : List ℕ) → value_in k new name ≡ value_in k old name = (λ name. ap (λ r. value_of r name) read ∙ silent_value items more silent name) in
    record { map = same_values_same_map k old new same; value = same }

-- What a name stands for with a note behind that has the greatest stamp.
module _ (items : List Record) (own : List ℕ) (stamp : ℕ) (note : Record) (is : (name : List ℕ) → note_stamp name note ≡ cond (bytes_eq own name) (Some stamp) None) (no_part : (upload part : ℕ) → payload_of upload part note ≡ None) (bound : (item : Record) (its : ℕ) → Among item items → note_stamp own item ≡ Some its → its ≤ stamp) where
  no_part_behind : (upload : ℕ) → SameParts items (items ++ note ∷ []) upload
  no_part_behind upload = same_parts_before items (note ∷ []) upload (λ part. ap (λ o. or_else o None) (no_part upload part))

  value_noted : (name : List ℕ) (b : Bool) → bytes_eq own name ≡ b → value_of (items ++ note ∷ []) name ≡ cond b (said_by items (Some note)) (value_of items name)
  value_noted name true same =
      let mine : own ≡ name = (bytes_eq-Decides own name).0 same in
      let at : note_stamp name note ≡ Some stamp = is name ∙ ap (λ b. cond b (Some stamp) None) same in
      let alone : newest name (note ∷ []) ≡ Some note = ap (λ o. cond (is_some o) (Some note) None) at in
      ap (said_by (items ++ note ∷ [])) (newest_behind name items (note ∷ []) note stamp alone at (λ item its found has. bound item its found (ap (λ n. note_stamp n item) mine ∙ has)))
      ∙ said_same items (items ++ note ∷ []) note (λ o s upload parts bytes put. no_part_behind upload)
  value_noted name false differs =
      let none : note_stamp name note ≡ None = is name ∙ ap (λ b. cond b (Some stamp) None) differs in
      value_behind items (note ∷ []) name (newest_before name items (note ∷ []) (ap (λ o. cond (is_some o) (Some note) None) none)) (λ o s upload parts bytes put. no_part_behind upload)

-- So the map has with it what it says of its name.
noted_map : (k : ℕ) (own : List ℕ) (stamp : ℕ) (note : Record) (old new : List ReadSet) → ((name : List ℕ) → note_stamp name note ≡ cond (bytes_eq own name) (Some stamp) None) → ((upload part : ℕ) → payload_of upload part note ≡ None) → ((target : ℕ) → kept_of target note ≡ None) → Appends k (note ∷ []) old new → NoneAbove (items_of (records_of k old)) own stamp → map_of k new ≡ with_value own (said_by (items_of (records_of k old)) (Some note)) (map_of k old)
noted_map k own stamp note old new is no_part no_cut appends bound =
    let items = items_of (records_of k old) in
    let read = read_more k (note ∷ []) old new appends (no_cut_nothing_off k (note ∷ []) (appends.top ∷ appends.above) (λ target. ap (λ o. lesser o None) (no_cut target)) appends.below) in
    finmap.same_map nat_list_cmp_total (finmap.slice_cmp-IsAntisymmetric finmap.nat_cmp-IsAntisymmetric) _ _ (λ name.
    map_has_what_is_read k new name
    ∙ ap (λ r. value_of r name) read
    ∙ value_noted items own stamp note is no_part (λ item its found has. bound item its (contains_from_among items item found) has) name (bytes_eq own name) refl
    ∙ ap (λ o. cond (bytes_eq own name) (said_by items (Some note)) o) (sym (map_has_what_is_read k old name))
    ∙ sym (get_with own name (said_by items (Some note)) (map_of k old)))

pub put_note_is_last : PutNoteIsLast
put_note_is_last k name stamp upload parts bytes old new appends bound =
    noted_map k name stamp (Put name stamp upload parts bytes) old new (λ other. refl) (λ u i. refl) (λ target. refl) appends bound

pub delete_note_is_last : DeleteNoteIsLast
delete_note_is_last k name stamp old new appends bound =
    noted_map k name stamp (Delete name stamp) old new (λ other. refl) (λ u i. refl) (λ target. refl) appends bound
