-- What a delete appends, and what it makes of a core and its store.
use Rattle.std.proofs.Common.{◌≡◌, ℕ, ◌+◌, ◌*◌, ◌≤◌, Bool, true, false, cond, List, [], ◌∷◌, ◌++◌, length, take, Option, None, refl, sym, ap, subst, ◌∙◌, arith}
use Rattle.std.specs.Prelude.{option_map, IsSome}
use Rattle.std.specs.Ordering.{nat_cmp, eq_by_cmp}
use Rattle.std.specs.Cmp.Lexicographic.{slice_cmp, nat_list_cmp_total}
use Rattle.std.specs.FinMap as finmap
use Rattle.std.specs.FinMap.{get-remove}
use Rattle.smore_base.specs.Name.{IsName}
use Rattle.smore_base.specs.Told.{Told}
use Rattle.smore_base.proofs.Told.{IfSome-both}
use Rattle.zone_bay.specs.declared.bay.Bay as bay
use Rattle.zone_bay.specs.Contents.{Contents, appended}
use Rattle.marker_format.specs.declared.marker.Marker.{Marker}
use Rattle.marker_format.specs.Marker.{IsMarker}
use Rattle.marker_format.specs.Zone.{whole_records}
use Rattle.object_machine.specs.declared.op.Op.TheVariants.{Delete}
use Rattle.object_machine.specs.declared.reply.Reply.TheVariants.{Done}
use Rattle.object_machine.specs.State.{State, Step, IsLost}
use Rattle.store_core.specs.declared.store.Core.{Core}
use Rattle.store_core.specs.declared.index.Index.{Index}
use Rattle.store_core.specs.declared.zone.OpenZone.{OpenZone}
use Rattle.store_core.specs.Extent.{Extents, extents_of}
use Rattle.store_core.specs.Index.{notes_in, parts_in, extent_in, extents_in}
use Rattle.store_core.specs.OpenZone.{behind}
use Rattle.store_core.specs.Records.{IsPlace, delete_marker}
use Rattle.marker_format.specs.Fragment.{record_bytes}
use Rattle.store_core.specs.Said.{Says}
use Rattle.store_core.specs.Held.{used, IsHeld}
use Rattle.store_core.specs.Store.{MayAppend, note_load}
use Rattle.store_core.specs.Core.{array_in, place_of, case_of}
use Rattle.store_core.proofs.Mapped.{get-mapped, same_by_name}
use Rattle.store_core.proofs.OwnMarkers.{delete_is, ours}
use Rattle.store_core.proofs.ObjectMaps.{objects_of, delete_note}
use Rattle.store_core.proofs.ZoneItems.{items_from}
use Rattle.store_core.proofs.SaidMore.{says_of, index_says, latest, note_more}
use Rattle.store_core.proofs.RecordAdded.{StandsBehind, Follows, length-record_bytes, stands_added, items_added}
use Rattle.store_core.proofs.StoppedAppends.{each_record}
use Rattle.store_core.proofs.StoreMoves.{has_object}
use Rattle.store_core.proofs.CoreSteps.{has_drives, has_zones, core_holds}
use Rattle.store_core.proofs.CoreAppends.{Grows, stands_whole, is_ready_whole, is_below_whole, grows, told_appended, core_whole, front_written}

-- ---- what is known

removed_made : {X Y : Type 0} (f : X → Y) (b : Bool) (o : Option X) → option_map f (cond b None o) ≡ cond b None (option_map f o)
removed_made f true o = refl
removed_made f false o = refl

pub known_removed : (old new : Index) (name : List ℕ) → notes_in new ≡ finmap.remove (notes_in old) name → parts_in new ≡ parts_in old → extents_in new ≡ finmap.remove (extents_in old) name
known_removed old new name notes parts = same_by_name _ _ (λ q.
    let says = extent_in (parts_in old) in
    get-mapped (extent_in (parts_in new)) (notes_in new) q
    ∙ ap (λ p. option_map (extent_in p) (finmap.get (notes_in new) q)) parts
    ∙ ap (λ n. option_map says (finmap.get n q)) notes
    ∙ ap (option_map says) (get-remove nat_list_cmp_total (notes_in old) name q)
    ∙ removed_made says (eq_by_cmp (slice_cmp nat_cmp) q name) (finmap.get (notes_in old) q)
    ∙ ap (cond (eq_by_cmp (slice_cmp nat_cmp) q name) None) (sym (get-mapped says (notes_in old) q))
    ∙ sym (get-remove nat_list_cmp_total (extents_in old) name q))

-- ---- the store

pub deletes : (known : Extents) (name : List ℕ) → IsName name → IsSome (finmap.get known name) → (s t : State) → extents_of s.objects ≡ known → t.objects ≡ finmap.remove s.objects name → ((d : ℕ) → IsLost s d → IsLost t d) → Step s (Delete name) Done t
deletes known name named there s t knows objects stay = (has_object s.objects known name knows there, named, record { rest = record { objects = objects }; stay_lost = stay })

-- ---- its note

module _ {B : Type 0} {g : bay.Ghosts B} (core : Core B g) (name : List ℕ) (named : IsName name) (may : MayAppend (case_of core core) note_load) where
  abbrev pub note : Marker
  note = delete_marker (place_of core) core.next_stamp name

  place_is : IsPlace (place_of core)
  place_is = record { set_from = core.of_set.set_from; set_to = core.of_set.set_to; index = core.of_set.index; position = omega (arith, may.room.records); array = core.id }

  pub note_fits : IsMarker note
  note_fits = delete_is (place_of core) core.next_stamp name place_is core.stamp_from may.stamp named

  follows : Follows (array_in core) core.zone note []
  follows = record {
    fits = note_fits;
    ours = ours (array_in core) note core.one_source core.one_parity refl refl refl (omega arith);
    no_head = refl;
    no_trailer = refl;
    no_digest = refl;
    set = refl;
    index = refl;
    position = refl;
    size = refl;
  }

  abbrev pub note_bytes : List ℕ
  note_bytes = record_bytes note []

  pub length-note : length note_bytes ≡ 512
  length-note = length-record_bytes note [] note_fits refl

  -- these bytes are taken of a buffer at whose front the note was written
  pub note_written : (n len : ℕ) (made : Marker) (out now items more : List ℕ) → made ≡ note → n ≡ 512 → n ≤ len → out ≡ record_bytes made [] ++ more → now ≡ take len (out ++ items) → take n now ≡ note_bytes
  note_written n len made out now items more made_is size within out_is now_is =
      ap (take n) now_is
      ∙ front_written n len out items (record_bytes made []) more out_is (size ∙ sym length-note ∙ ap (λ (m : Marker). length (record_bytes m [])) (sym made_is)) within
      ∙ ap (λ (m : Marker). record_bytes m []) made_is

  -- once it stands there, the core stands behind it, and the name has no object
  pub grown_delete : (works : core.is_lost ≡ false) (after : Option Contents) (zone' : OpenZone) (index' : Index) → after ≡ option_map (appended 0 2 note_bytes) (g.state core.bay).contents → zone' ≡ behind core.zone note_load
      → notes_in index' ≡ finmap.remove (notes_in core.index) name → parts_in index' ≡ parts_in core.index
      → Told (g.state core.bay).contents after (Grows (array_in core) (g.state core.bay).shape core.zone zone' (core.next_stamp + 1) index' (λ m. finmap.remove m name) note_bytes)
  grown_delete works after zone' index' is behind_is notes parts =
      let array = array_in core in
      let shape = (g.state core.bay).shape in
      let before = (g.state core.bay).contents in
      told_appended before after note_bytes _ _ is
      (IfSome-both before _ _ (λ held. IsHeld array core.zone core.next_stamp core.index shape held × (length (held 0 2) ≡ 512 * core.zone.blocks)) (core_holds core) (core_whole core works may.room.whole) (λ held it whole. (it, whole)))
      (λ held known.
      let it = known.0 in
      let whole = known.1 in
      let drives = has_drives core in
      let zones = has_zones core in
      let ms = whole_records array (used core.zone held) in
      let stands = stands_whole array shape core.one_source core.one_parity drives zones core.zone core.next_stamp core.index held it whole in
      let later : StandsBehind array zone' (core.next_stamp + 1) (held 0 2 ++ note_bytes) (ms ++ note ∷ []) =
      subst (λ (z : OpenZone). StandsBehind array z (core.next_stamp + 1) (held 0 2 ++ note_bytes) (ms ++ note ∷ [])) (sym behind_is)
      (stands_added array core.zone core.next_stamp (held 0 2) ms stands note [] follows (core.next_stamp + 1) (omega arith) (omega arith)) in
      let says : Says index' (ms ++ note ∷ []) =
      index_says index' (finmap.remove (notes_in core.index) name) (parts_in core.index) (ms ++ note ∷ []) notes parts
      (note_more (notes_in core.index) (parts_in core.index) ms note name core.next_stamp None refl (λ q. refl) refl (λ q. latest ms core.next_stamp q stands.later) (says_of core.index ms it.says)) in
      let items = items_from (held 0 2) 0 ms in
      let changes : objects_of (items_from (held 0 2 ++ note_bytes) 0 (ms ++ note ∷ [])) ≡ finmap.remove (objects_of items) name =
      ap objects_of (items_added array core.zone core.next_stamp (held 0 2) ms stands note [] follows core.one_source)
      ∙ delete_note items name core.next_stamp
      (is_ready_whole array shape core.one_source core.one_parity drives zones core.zone core.next_stamp core.index held it whole)
      (is_below_whole array shape core.one_source core.one_parity drives zones core.zone core.next_stamp core.index held it whole) in
      grows array shape core.one_source core.one_parity drives zones core.zone core.next_stamp core.index held it whole zone' (core.next_stamp + 1) index' (λ m. finmap.remove m name) note_bytes (ms ++ note ∷ [])
      (ap (λ (z : OpenZone). z.is_torn) behind_is ∙ may.room.whole) later says changes
      (each_record array shape core.one_source core.one_parity drives zones core.zone core.next_stamp (held 0 2) ms (objects_of items) stands refl zone' (core.next_stamp + 1) note_bytes note (finmap.remove (objects_of items) name) later changes))
