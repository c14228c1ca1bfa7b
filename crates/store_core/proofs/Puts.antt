-- What a put appends, and what it makes of a core and its store.
use Rattle.std.proofs.Common.{◌≡◌, inl, inr, ℕ, ◌+◌, ◌*◌, ◌<◌, ◌≤◌, Bool, true, false, cond, List, [], ◌∷◌, ◌++◌, length, Option, Some, refl, sym, ap, subst, ◌∙◌, arith}
use Rattle.std.specs.Prelude.{◌==◌, option_map}
use Rattle.std.specs.FinMap as finmap
use Rattle.std.specs.List.{AllByRecursion, list_any}
use Rattle.std.proofs.lemmas.Bool.{cases_lt, ne_eqb}
use Rattle.std.proofs.lemmas.List.{append_assoc, nil_from_length}
use Rattle.smore_base.specs.Name.{IsName}
use Rattle.smore_base.specs.Room.{record_blocks}
use Rattle.smore_base.specs.Told.{Told}
use Rattle.smore_base.proofs.Told.{IfSome-both}
use Rattle.smore_base.specs.Objects.{Whole}
use Rattle.zone_bay.specs.declared.bay.Bay as bay
use Rattle.zone_bay.specs.Contents.{Contents, appended}
use Rattle.marker_format.specs.declared.marker.Marker.{Marker}
use Rattle.marker_format.specs.Zone as zone
use Rattle.marker_format.specs.Zone.{end_from, whole_records}
use Rattle.array_model.specs.Record.{Record, Part as PartRecord, Put as PutRecord, is_ready as is_ready_record}
use Rattle.rs_code.specs.Blob.{CutBytes}
use Rattle.object_machine.specs.declared.op.Op.TheVariants.{Put}
use Rattle.object_machine.specs.declared.reply.Reply.TheVariants.{Done}
use Rattle.object_machine.specs.State.{State, Step, IsLost}
use Rattle.store_core.specs.declared.store.Core.{Core}
use Rattle.store_core.specs.declared.index.Part.{Part}
use Rattle.store_core.specs.declared.index.Index.{Index}
use Rattle.store_core.specs.declared.zone.Load.{Load}
use Rattle.store_core.specs.declared.zone.OpenZone.{OpenZone}
use Rattle.marker_format.specs.Fragment.{blocks_of, record_bytes}
use Rattle.store_core.specs.Extent.{Extents, extents_of}
use Rattle.store_core.specs.Index.{notes_in, parts_in, note_of, with_part_of}
use Rattle.store_core.specs.OpenZone.{behind}
use Rattle.store_core.specs.Records.{HasPlaces, IsStamp, next_place, part_marker, put_marker, put_bytes}
use Rattle.store_core.specs.Sound.{IsSoundPart}
use Rattle.store_core.specs.Said.{Says}
use Rattle.store_core.specs.Held.{used, IsHeld}
use Rattle.store_core.specs.Store.{MayPut, put_load, note_load}
use Rattle.store_core.specs.Core.{array_in, place_of, case_of}
use Rattle.store_core.proofs.OwnMarkers.{put_is, ours}
use Rattle.store_core.proofs.ObjectMaps.{IsBelow, objects_of, part_alone, put_empty, put_part}
use Rattle.store_core.proofs.ZoneItems.{items_from}
use Rattle.store_core.proofs.SaidMore.{says_of, index_says, latest, latest_more, note_more, part_more}
use Rattle.store_core.proofs.RecordAdded.{StandsBehind, Follows, stands_added, items_added}
use Rattle.store_core.proofs.Stops.{EachGives}
use Rattle.store_core.proofs.StoppedAppends.{each_record, each_joined}
use Rattle.store_core.proofs.PutBytes.{load_some, bytes_some, own_part, own_note, length-put_bytes}
use Rattle.store_core.proofs.PutKnown.{with_part_some, with_part_none, fresh_part}
use Rattle.store_core.proofs.CoreSteps.{has_drives, has_zones, core_holds, core_sound}
use Rattle.store_core.proofs.CoreAppends.{Grows, stands_whole, is_ready_whole, is_below_whole, grows, told_appended, core_whole}

-- ---- the store

pub puts : (known : Extents) (name : List ℕ) (object : CutBytes) → IsName name → length object.bytes ≤ 16777216 → (s t : State) → extents_of s.objects ≡ known → t.objects ≡ finmap.insert s.objects name (Whole object.bytes) → ((d : ℕ) → IsLost s d → IsLost t d) → Step s (Put name object) Done t
puts known name object named small s t knows objects stay = (named, small, record { rest = record { objects = objects }; stay_lost = stay })

-- ---- its records

load_least : (n : ℕ) → 1 ≤ (put_load n).records
load_least n = at_one (n == 0)
  where
    at_one : (b : Bool) → (let l : Load = record { blocks = record_blocks n + 1; records = 2 } in 1 ≤ (cond b note_load l).records)
    at_one true = omega arith
    at_one false = omega arith

-- its records are no more than its blocks
pub load_few : (n : ℕ) → (put_load n).records ≤ (put_load n).blocks
load_few n = at_one (n == 0)
  where
    at_one : (b : Bool) → (let l : Load = record { blocks = record_blocks n + 1; records = 2 } in (cond b note_load l).records ≤ (cond b note_load l).blocks)
    at_one true = omega arith
    at_one false = omega arith

-- a buffer for a part of a shard and a note has room for them
pub load_fits : (n shard : ℕ) → n ≤ shard → (put_load n).blocks ≤ blocks_of shard + 2
load_fits n shard small = at_one (n == 0)
  where
    at_one : (b : Bool) → (let l : Load = record { blocks = record_blocks n + 1; records = 2 } in (cond b note_load l).blocks ≤ blocks_of shard + 2)
    at_one true = omega arith
    at_one false = omega (arith, small)

module _ {B : Type 0} {g : bay.Ghosts B} (core : Core B g) (name object : List ℕ) (may : MayPut (case_of core core) name (length object)) where
  abbrev pub records_written : List ℕ
  records_written = put_bytes (place_of core) core.next_stamp name object

  pub has_places : HasPlaces (place_of core) (put_load (length object)).records
  has_places = record {
    first = record { set_from = core.of_set.set_from; set_to = core.of_set.set_to; index = core.of_set.index; position = omega (arith, may.may.room.records, load_least (length object)); array = core.id };
    last = may.may.room.records;
  }

  pub is_stamp : IsStamp core.next_stamp
  is_stamp = (core.stamp_from, may.may.stamp)

  pub few_bytes : length object ≤ 65408
  few_bytes = omega (arith, may.small, core.limits.shard_to)

  pub length-records : length records_written ≡ 512 * (put_load (length object)).blocks
  length-records = length-put_bytes (place_of core) core.next_stamp name object has_places is_stamp may.named few_bytes

  -- its part lies within the zone
  pub part_fits : (part : Part) → part ≡ record { block = core.zone.blocks; bytes = length object } → 0 < part.bytes → IsSoundPart core.geometry.blocks core.geometry.shard (core.next_stamp + 1) core.next_stamp part
  part_fits part is some =
      let block = ap (λ (p : Part). p.block) is in
      let size = ap (λ (p : Part). p.bytes) is in
      let blocks = ap (λ (l : Load). l.blocks) (load_some (length object) (omega (arith, size, some))) in
      record {
        past = omega arith;
        within = omega (arith, block, size, blocks, may.may.room.blocks);
        small = omega (arith, size, may.small);
      }

  -- once they stand there, the core stands behind them, and the name has the object
  module _ (zone' : OpenZone) (index' : Index) (part : Part) (behind_is : zone' ≡ behind core.zone (put_load (length object))) (part_is : part ≡ record { block = core.zone.blocks; bytes = length object })
      (notes : notes_in index' ≡ finmap.insert (notes_in core.index) name (note_of core.next_stamp (length object))) (parts : parts_in index' ≡ with_part_of core.next_stamp part (parts_in core.index))
      (held : Contents) (it : IsHeld (array_in core) core.zone core.next_stamp core.index (g.state core.bay).shape held) (whole : length (held 0 2) ≡ 512 * core.zone.blocks) where
    abbrev ms : List Marker
    ms = whole_records (array_in core) (used core.zone held)

    stands : StandsBehind (array_in core) core.zone core.next_stamp (held 0 2) (whole_records (array_in core) (used core.zone held))
    stands = stands_whole (array_in core) (g.state core.bay).shape core.one_source core.one_parity (has_drives core) (has_zones core) core.zone core.next_stamp core.index held it whole

    untorn : zone'.is_torn ≡ false
    untorn = ap (λ (z : OpenZone). z.is_torn) behind_is ∙ may.may.room.whole

    -- the name has this object then
    abbrev GrownBy : List ℕ → List ℕ → Type 0
    GrownBy its more = Grows (array_in core) (g.state core.bay).shape core.zone zone' (core.next_stamp + 1) index' (λ m. finmap.insert m name (Whole its)) more held (appended 0 2 more held)

    grown_by : (its more : List ℕ) (after : List Marker) → StandsBehind (array_in core) zone' (core.next_stamp + 1) (held 0 2 ++ more) after → Says index' after
        → objects_of (items_from (held 0 2 ++ more) 0 after) ≡ finmap.insert (objects_of (items_from (held 0 2) 0 (whole_records (array_in core) (used core.zone held)))) name (Whole its)
        → EachGives (array_in core) (g.state core.bay).shape (objects_of (items_from (held 0 2) 0 (whole_records (array_in core) (used core.zone held)))) (finmap.insert (objects_of (items_from (held 0 2) 0 (whole_records (array_in core) (used core.zone held)))) name (Whole its)) (held 0 2) more
        → GrownBy its more
    grown_by its more after later says changes each =
        grows (array_in core) (g.state core.bay).shape core.one_source core.one_parity (has_drives core) (has_zones core) core.zone core.next_stamp core.index held it whole zone' (core.next_stamp + 1) index' (λ m. finmap.insert m name (Whole its)) more after untorn later says changes each

    is_ready : list_any is_ready_record (items_from (held 0 2) 0 (whole_records (array_in core) (used core.zone held))) ≡ true
    is_ready = is_ready_whole (array_in core) (g.state core.bay).shape core.one_source core.one_parity (has_drives core) (has_zones core) core.zone core.next_stamp core.index held it whole

    is_below : AllByRecursion (IsBelow core.next_stamp) (items_from (held 0 2) 0 (whole_records (array_in core) (used core.zone held)))
    is_below = is_below_whole (array_in core) (g.state core.bay).shape core.one_source core.one_parity (has_drives core) (has_zones core) core.zone core.next_stamp core.index held it whole

    -- ---- of an object without bytes

    abbrev lone : Marker
    lone = put_marker (place_of core) core.next_stamp 0 name

    follows_lone : Follows (array_in core) core.zone lone []
    follows_lone = record {
      fits = put_is (place_of core) core.next_stamp 0 name has_places.first core.stamp_from may.may.stamp (omega arith) may.named;
      ours = ours (array_in core) lone core.one_source core.one_parity refl refl refl (omega arith);
      no_head = refl;
      no_trailer = refl;
      no_digest = refl;
      set = refl;
      index = refl;
      position = refl;
      size = refl;
    }

    lone_grown : object ≡ [] → GrownBy [] (record_bytes lone [])
    lone_grown none =
        let behind_lone : zone' ≡ behind core.zone note_load = behind_is ∙ ap (λ (o : List ℕ). behind core.zone (put_load (length o))) none in
        let noted = notes ∙ ap (λ (o : List ℕ). finmap.insert (notes_in core.index) name (note_of core.next_stamp (length o))) none in
        let no_part = parts ∙ with_part_none core.next_stamp part (parts_in core.index) (ap (λ (p : Part). p.bytes) part_is ∙ ap length none) in
        let later = subst (λ (z : OpenZone). StandsBehind (array_in core) z (core.next_stamp + 1) (held 0 2 ++ record_bytes lone []) (ms ++ lone ∷ [])) (sym behind_lone)
        (stands_added (array_in core) core.zone core.next_stamp (held 0 2) ms stands lone [] follows_lone (core.next_stamp + 1) (omega arith) (omega arith)) in
        let items = items_from (held 0 2) 0 ms in
        let changes : objects_of (items_from (held 0 2 ++ record_bytes lone []) 0 (ms ++ lone ∷ [])) ≡ finmap.insert (objects_of items) name (Whole []) =
        ap objects_of (items_added (array_in core) core.zone core.next_stamp (held 0 2) ms stands lone [] follows_lone core.one_source) ∙ put_empty items name core.next_stamp is_ready is_below in
        grown_by [] (record_bytes lone []) (ms ++ lone ∷ []) later
        (index_says index' _ _ (ms ++ lone ∷ []) noted no_part
        (note_more (notes_in core.index) (parts_in core.index) ms lone name core.next_stamp (Some (note_of core.next_stamp 0)) refl (λ q. refl) refl (λ q. latest ms core.next_stamp q stands.later) (says_of core.index ms it.says)))
        changes
        (each_record (array_in core) (g.state core.bay).shape core.one_source core.one_parity (has_drives core) (has_zones core) core.zone core.next_stamp (held 0 2) ms (objects_of items) stands refl zone' (core.next_stamp + 1) (record_bytes lone []) lone (finmap.insert (objects_of items) name (Whole [])) later changes)

    grown_empty : object ≡ [] → GrownBy object records_written
    grown_empty none =
        subst (λ (l : List ℕ). GrownBy object l) (sym (ap (put_bytes (place_of core) core.next_stamp name) none)) (subst (λ (o : List ℕ). GrownBy o (record_bytes lone [])) (sym none) (lone_grown none))

    -- ---- of another

    abbrev partm : Marker
    partm = part_marker (place_of core) core.next_stamp (length object)

    abbrev note : Marker
    note = put_marker (next_place (place_of core)) core.next_stamp (length object) name

    abbrev mid_zone : OpenZone
    mid_zone = behind core.zone (record { blocks = zone.blocks_of partm; records = 1 })

    follows_part : 0 < length object → Follows (array_in core) core.zone partm object
    follows_part some = record {
      fits = own_part (place_of core) core.next_stamp (length object) has_places.first is_stamp some few_bytes;
      ours = ours (array_in core) partm core.one_source core.one_parity refl refl refl may.small;
      no_head = refl;
      no_trailer = refl;
      no_digest = refl;
      set = refl;
      index = refl;
      position = refl;
      size = refl;
    }

    follows_note : 0 < length object → Follows (array_in core) mid_zone note []
    follows_note some = record {
      fits = own_note (place_of core) core.next_stamp (length object) name has_places is_stamp may.named some few_bytes;
      ours = ours (array_in core) note core.one_source core.one_parity refl refl refl (omega arith);
      no_head = refl;
      no_trailer = refl;
      no_digest = refl;
      set = refl;
      index = refl;
      position = refl;
      size = refl;
    }

    zone_is : 0 < length object → behind mid_zone (record { blocks = zone.blocks_of note; records = 1 }) ≡ zone'
    zone_is some =
        let blocks : core.zone.blocks + zone.blocks_of partm + 1 ≡ core.zone.blocks + (record_blocks (length object) + 1) = omega arith in
        let records : core.zone.records + 1 + 1 ≡ core.zone.records + 2 = omega arith in
        (λ i. record { set = core.zone.set; index = core.zone.index; blocks = blocks i; records = records i; is_torn = core.zone.is_torn })
        ∙ sym (behind_is ∙ ap (behind core.zone) (load_some (length object) some))

    grown_some : 0 < length object → GrownBy object records_written
    grown_some some =
        let array = array_in core in
        let stamp = core.next_stamp in
        let bytes = held 0 2 in
        let of_part = record_bytes partm object in
        let of_note = record_bytes note [] in
        let first = stands_added array core.zone stamp bytes ms stands partm object (follows_part some) (stamp + 1) (omega arith) (omega arith) in
        let second = stands_added array mid_zone (stamp + 1) (bytes ++ of_part) (ms ++ partm ∷ []) first note [] (follows_note some) (stamp + 1) (omega arith) (omega arith) in
        let all : (bytes ++ of_part) ++ of_note ≡ bytes ++ records_written = append_assoc bytes of_part of_note ∙ ap (λ (l : List ℕ). bytes ++ l) (sym (bytes_some (place_of core) stamp name object some)) in
        let after = (ms ++ partm ∷ []) ++ note ∷ [] in
        let later : StandsBehind array zone' (stamp + 1) (bytes ++ records_written) after =
        subst (λ (z : OpenZone). StandsBehind array z (stamp + 1) (bytes ++ records_written) after) (zone_is some)
        (subst (λ (l : List ℕ). StandsBehind array (behind mid_zone (record { blocks = zone.blocks_of note; records = 1 })) (stamp + 1) l after) all second) in
        let block : part.block ≡ end_from 0 ms = ap (λ (p : Part). p.block) part_is ∙ omega (arith, whole, stands.filled.fill.full) in
        let size : part.bytes ≡ length object = ap (λ (p : Part). p.bytes) part_is in
        let added = parts ∙ with_part_some stamp part (parts_in core.index) (omega (arith, size, some)) in
        let said = part_more (notes_in core.index) (parts_in core.index) ms partm part refl (λ q. refl) block size (fresh_part core.geometry.blocks core.geometry.shard stamp core.index 0 (core_sound core)) (says_of core.index ms it.says) in
        let noted = note_more (notes_in core.index) _ (ms ++ partm ∷ []) note name stamp (Some (note_of stamp (length object))) refl (λ q. refl) refl (latest_more ms partm stamp (λ q. refl) (λ q. latest ms stamp q stands.later)) said in
        let items = items_from bytes 0 ms in
        let mid_items = items_added array core.zone stamp bytes ms stands partm object (follows_part some) core.one_source in
        let mid_same : objects_of (items_from (bytes ++ of_part) 0 (ms ++ partm ∷ [])) ≡ objects_of items = ap objects_of mid_items ∙ part_alone items object stamp is_ready is_below in
        let changes : objects_of (items_from ((bytes ++ of_part) ++ of_note) 0 after) ≡ finmap.insert (objects_of items) name (Whole object) =
        ap objects_of (items_added array mid_zone (stamp + 1) (bytes ++ of_part) (ms ++ partm ∷ []) first note [] (follows_note some) core.one_source
        ∙ ap (λ (l : List Record). l ++ PutRecord name stamp stamp (cond (length object == 0) 0 1) (length object) ∷ []) mid_items
        ∙ append_assoc items (PartRecord stamp 0 object ∷ []) (PutRecord name stamp stamp (cond (length object == 0) 0 1) (length object) ∷ [])
        ∙ ap (λ b. items ++ PartRecord stamp 0 object ∷ PutRecord name stamp stamp (cond b 0 1) (length object) ∷ []) (ne_eqb (length object) 0 (λ none. omega (arith, some, none))))
        ∙ put_part items name object stamp is_ready is_below in
        let shape = (g.state core.bay).shape in
        let of_first = each_record array shape core.one_source core.one_parity (has_drives core) (has_zones core) core.zone stamp bytes ms (objects_of items) stands refl mid_zone (stamp + 1) of_part partm (objects_of items) first mid_same in
        let of_second = each_record array shape core.one_source core.one_parity (has_drives core) (has_zones core) mid_zone (stamp + 1) (bytes ++ of_part) (ms ++ partm ∷ []) (objects_of items) first mid_same
        (behind mid_zone (record { blocks = zone.blocks_of note; records = 1 })) (stamp + 1) of_note note (finmap.insert (objects_of items) name (Whole object)) second changes in
        let each = each_joined array shape core.one_source core.one_parity (has_drives core) (has_zones core) (objects_of items) (finmap.insert (objects_of items) name (Whole object)) bytes of_part of_note of_first of_second in
        grown_by object records_written after later (index_says index' _ _ after notes added noted)
        (ap (λ (l : List ℕ). objects_of (items_from l 0 after)) (sym all) ∙ changes)
        (subst (EachGives array shape (objects_of items) (finmap.insert (objects_of items) name (Whole object)) bytes) (sym (bytes_some (place_of core) stamp name object some)) each)

    pub grown_held : GrownBy object records_written
    grown_held = elim (cases_lt 0 (length object)) [
      | inl some ↦ grown_some some
      | inr none ↦ grown_empty (nil_from_length object (omega (arith, none)))
    ]

  pub grown_put : (after : Option Contents) (zone' : OpenZone) (index' : Index) (part : Part) → after ≡ option_map (appended 0 2 records_written) (g.state core.bay).contents → zone' ≡ behind core.zone (put_load (length object)) → part ≡ record { block = core.zone.blocks; bytes = length object }
      → notes_in index' ≡ finmap.insert (notes_in core.index) name (note_of core.next_stamp (length object)) → parts_in index' ≡ with_part_of core.next_stamp part (parts_in core.index)
      → Told (g.state core.bay).contents after (Grows (array_in core) (g.state core.bay).shape core.zone zone' (core.next_stamp + 1) index' (λ m. finmap.insert m name (Whole object)) records_written)
  grown_put after zone' index' part is behind_is part_is notes parts =
      let before = (g.state core.bay).contents in
      told_appended before after records_written _ _ is
      (IfSome-both before _ _ (λ held. IsHeld (array_in core) core.zone core.next_stamp core.index (g.state core.bay).shape held × (length (held 0 2) ≡ 512 * core.zone.blocks)) (core_holds core) (core_whole core may.works may.may.room.whole) (λ held it whole. (it, whole)))
      (λ held known. grown_held zone' index' part behind_is part_is notes parts held known.0 known.1)
