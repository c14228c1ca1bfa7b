-- What a crash leaves of a set and the next one.
use Rattle.std.proofs.Common.{◌≡◌, ◌≢◌, ◌⊎◌, inl, inr, ℕ, zero, suc, ◌+◌, ◌<◌, ◌≤◌, Bool, true, false, cond, set, List, [], ◌∷◌, ◌++◌, length, take, Option, Some, None, refl, sym, ap, subst, ◌∙◌, arith}
use Rattle.std.specs.Prelude.{◌==◌, nat_lt, filter}
use Rattle.std.specs.List.{AllByRecursion}
use Rattle.std.proofs.lemmas.Bool.{cases_lt, and_left, ltb-true, eq-eqb, ne_eqb, eqb-true, both_ways}
use Rattle.std.proofs.lemmas.List.{append-nil, set_past, set-get_or, take_all}
use Rattle.zone_bay.specs.Contents.{Contents, Lengths}
use Rattle.zone_bay.specs.Images.{IsFirmPrefix, IsImage}
use Rattle.marker_format.specs.declared.marker.Marker.{Marker}
use Rattle.marker_format.specs.Zone.{Array, begun}
use Rattle.marker_format.proofs.ZoneLaws.{begun-cut}
use Rattle.array_model.specs.Drives.{is_among, first_of}
use Rattle.array_model.specs.ReadingLaws.{is_of_set}
use Rattle.set_table.specs.declared.zone_use.ZoneUse.{ZoneUse}
use Rattle.set_table.specs.declared.zone_use.ZoneUse.TheVariants as uses
use Rattle.set_table.specs.declared.members.Member.{Member}
use Rattle.set_table.specs.Zones.{count_empty, before_empty}
use Rattle.set_table.specs.Table.{Table, zones_of, use_at, put_use, is_live, empty_on, has_empty, drives_of, members_from, with_members, marks_of, Forms}
use Rattle.set_table.specs.Table as table
use Rattle.set_table.proofs.UseLaws.{each_use}
use Rattle.set_writer.specs.Entry.{Entry, entries_bytes}
use Rattle.set_writer.specs.Members.{of_members, grown_by, is_member}
use Rattle.set_table.specs.Table.{array_of}
use Rattle.set_writer.specs.Writer.{Writer, array_by, opening, zone_bytes, Wrote, EmptyHold}
use Rattle.set_writer.specs.Laws.{markers_at, records_of}
use Rattle.set_writer.specs.Calls.{with_opening}
use Rattle.set_writer.specs.ImageLaws.{bytes_by, bytes_opened, FirstIsOf, AreSetBytes, HoldBytes, View, AreLive, begins_with, IsMember, IsAlone, HaveFirst, OthersSay, IsNew, MayOpen, cut_back}
use Rattle.set_writer.proofs.FormedLaws.{Listed, from_empty, same_live, same_array, chosen_all, carried_empty}
use Rattle.set_writer.proofs.WroteLaws.{member_now}
use Rattle.set_writer.proofs.CutZones.{zone_is}
use Rattle.set_writer.proofs.SetImages.{first_of_first, image_has_first}
use Rattle.set_writer.proofs.OtherSets.{member_is, none_more, others_say}
use Rattle.set_writer.proofs.WriterImages.{writer_bytes}
use Rattle.set_writer.proofs.OpeningImages.{opening_bytes}

-- ---- the members of a set that is formed are live

-- the drive was chosen, or the zone is used as it was
abbrev pub FromChosen : (ℕ → Type 0) → List (List ZoneUse) → List (List ZoneUse) → ℕ → ℕ → Type 0
FromChosen P old new d z = P d ⊎ (use_at new d z ≡ use_at old d z)

put_chosen : (P : ℕ → Type 0) (u : ZoneUse) (old zones : List (List ZoneUse)) (d z : ℕ) → P d → ((e y : ℕ) → FromChosen P old zones e y) → (e y : ℕ) → FromChosen P old (put_use d z u zones) e y
put_chosen P u old zones d z chosen each e y = elim (cases_lt d (length zones)) [
  | inr past ↦ still (ap (λ zs. use_at zs e y) (set_past zones d (set (zones_of zones d) z u) past)) (each e y)
  | inl drive ↦ elim (cases_lt z (length (zones_of zones d))) [
    | inr past ↦ still (ap (λ us. use_at (set zones d us) e y) (set_past (zones_of zones d) z u past) ∙ ap (λ zs. use_at zs e y) (set-get_or zones d [])) (each e y)
    | inl zone ↦ elim (each_use zones d z u drive zone e y) [
      | inl here ↦ inl (subst P (sym here.0) chosen)
      | inr same ↦ still same (each e y)
    ]
  ]
]
  where
    still : use_at (put_use d z u zones) e y ≡ use_at zones e y → FromChosen P old zones e y → FromChosen P old (put_use d z u zones) e y
    still same (inl was) = inl was
    still same (inr before) = inr (same ∙ before)

formed_chosen : (t : Table) (set' index : ℕ) (ds : List ℕ) (zones : List (List ZoneUse)) → AllByRecursion (λ d. has_empty t d ≡ true) ds → ((e y : ℕ) → FromChosen (λ d. has_empty t d ≡ true) t.zones zones e y) → (e y : ℕ) → FromChosen (λ d. has_empty t d ≡ true) t.zones (with_members set' (members_from t index ds) zones) e y
formed_chosen t set' index [] zones all each = each
formed_chosen t set' index (d ∷ ds) zones all each = formed_chosen t set' (index + 1) ds (put_use d (before_empty (zones_of t.zones d)) (uses.Carrier set' index) zones) all.1 (put_chosen (λ d. has_empty t d ≡ true) (uses.Carrier set' index) t.zones zones d (before_empty (zones_of t.zones d)) all.0 each)

empty_live : (t : Table) (d : ℕ) → has_empty t d ≡ true → is_live t d ≡ true
empty_live t d has = at (is_live t d) refl (ltb-true 0 (empty_on t d) has)
  where
    at : (b : Bool) → is_live t d ≡ b → 0 < cond b (count_empty (zones_of t.zones d)) 0 → is_live t d ≡ true
    at true is some = is
    at false is some = absurd (omega (arith, some))

-- a drive with a member of the set that was formed is live
pub formed_live : (t f : Table) (set' : ℕ) (members : List Member) (d z i : ℕ) → Listed t → marks_of set' t.sets ≡ None → Forms t set' members f → use_at f.zones d z ≡ uses.Carrier set' i → is_live t d ≡ true
formed_live t f set' members d z i listed absent forms is = elim chosen [
  | inl has ↦ empty_live t d has
  | inr same ↦ let empty = carried_empty t f set' members d z i listed absent forms is in absurd (not_empty (sym (sym is ∙ same ∙ empty)))
]
  where
    chosen : FromChosen (λ d. has_empty t d ≡ true) t.zones f.zones d z
    chosen =
        subst (λ zones. FromChosen (λ d. has_empty t d ≡ true) t.zones zones d z) (sym (ap (λ (s : Table). s.zones) forms.zones ∙ ap (λ (ms : List Member). with_members set' ms t.zones) forms.members_are))
        (formed_chosen t set' 0 (filter forms.is_chosen (drives_of t.geometry)) t.zones (chosen_all t forms.is_chosen (drives_of t.geometry) forms.choice.empty) (λ e y. inr refl) d z)

    not_empty : uses.Empty ≡ uses.Carrier set' i → ⊥
    not_empty e = cc

-- ---- heads

-- a zone that begins with a head of the set
begins_is : (array : Array) (set' : ℕ) (bytes : List ℕ) → begins_with array set' bytes ≡ true → (head : Marker) × (first_of (begun array bytes) ≡ Some head) × (head.set ≡ set')
begins_is array set' bytes = at (first_of (begun array bytes)) refl
  where
    at : (o : Option Marker) → first_of (begun array bytes) ≡ o → is_of_set set' o ≡ true → (head : Marker) × (first_of (begun array bytes) ≡ Some head) × (head.set ≡ set')
    at None is tells = absurd cc
    at (Some head) is tells = (head, is, eqb-true head.set set' tells)

begins_again : (array : Array) (set' : ℕ) (bytes : List ℕ) (head : Marker) → first_of (begun array bytes) ≡ Some head → head.set ≡ set' → begins_with array set' bytes ≡ true
begins_again array set' bytes head is own = ap (is_of_set set') is ∙ eq-eqb head.set set' own

-- where a prefix does, the whole does
pub begins_whole : (n : ℕ) (array : Array) (set' : ℕ) (bytes : List ℕ) → begins_with array set' (take n bytes) ≡ true → begins_with array set' bytes ≡ true
begins_whole n array set' bytes begins =
    let head = begins_is array set' (take n bytes) begins in
    let part = begun-cut n array bytes in
    begins_again array set' bytes head.0 (first_of_first (begun array (take n bytes)) part.0 (begun array bytes) head.0 part.1 head.1) head.2

pub first_set : (own set' index : ℕ) (es : List Entry) → FirstIsOf own es → is_of_set set' (first_of (markers_at index es)) ≡ true → own ≡ set'
first_set own set' index [] head tells = absurd cc
first_set own set' index (e ∷ es) head tells = sym head ∙ eqb-true e.marker.set set' tells

-- a writer's zone begins with a head of its set
pub zone_begins : (v : Writer) (es : List Entry) (set' index : ℕ) → Wrote v es → index < v.geometry.k + v.geometry.p → begins_with (array_by v) set' (zone_bytes v es index) ≡ true → v.set ≡ set'
zone_begins v es set' index wrote below begins =
    let bytes = writer_bytes v es wrote in
    first_set v.set set' index (records_of v es) bytes.head (ap (λ (ms : List Marker). is_of_set set' (first_of ms)) (sym (zone_is v es index below wrote)) ∙ begins)

pub take_first_of : (set' n : ℕ) (es : List Entry) → FirstIsOf set' es → FirstIsOf set' (take n es)
take_first_of set' zero es head = tt
take_first_of set' (suc n) [] head = tt
take_first_of set' (suc n) (e ∷ es) head = head

-- ---- both sets

-- what is left of the set, of the next one, and of the others
pub record LeavesBoth (v : Writer) (es : List Entry) (t f : Table) (set' : ℕ) (held ended_held : Contents) (firm : Lengths) (view : View) : Type 0 where
  pub old_set : HaveFirst (bytes_by v es) t firm view
  pub new_set : HaveFirst (bytes_opened (array_of t) set' []) f firm view
  pub first_others : OthersSay f set' ended_held firm view
  pub others : OthersSay t v.set held firm (record view { held = cut_back ended_held view.held })

module _ (v : Writer) (ended_held : Contents) (m : ℕ → List ℕ) (es : List Entry) (t tc f : Table) (set' : ℕ) (members : List Member) (held : Contents)
    (array : array_by v ≡ array_of t) (other : set' ≢ v.set) (wrote : Wrote v es)
    (zones_are : (d z : ℕ) → ended_held d z ≡ grown_by t (of_members (table.fragments_of t) v.set m) held d z)
    (zone_there : (d z index : ℕ) → index < table.fragments_of t → is_live t d ≡ true → use_at t.zones d z ≡ uses.Carrier v.set index → ended_held d z ≡ zone_bytes v es index)
    (empty : EmptyHold t held) (lost : tc ≡ record t { lost = tc.lost }) (may : MayOpen set' [] t) (forms : Forms tc set' members f) where
  listed_c : Listed tc
  listed_c = subst Listed (sym lost) (let listed : Listed (record t { lost = tc.lost }) = may.together.listed in listed)

  absent_c : marks_of set' tc.sets ≡ None
  absent_c = ap (λ (s : Table). marks_of set' s.sets) lost ∙ may.absent

  pub array_f : array_of f ≡ array_of t
  array_f = same_array tc f set' members forms ∙ ap (λ (s : Table). array_of s) lost

  count_v : table.fragments_of t ≡ v.geometry.k + v.geometry.p
  count_v = ap (λ (a : Array). a.geometry.k + a.geometry.p) (sym array)

  -- zones that carry the new set were empty, and zones of the old one carry it still
  was_empty : (d z i : ℕ) → use_at f.zones d z ≡ uses.Carrier set' i → use_at t.zones d z ≡ uses.Empty
  was_empty d z i is = ap (λ (s : Table). use_at s.zones d z) (sym lost) ∙ carried_empty tc f set' members d z i listed_c absent_c forms is

  none_else : (d z : ℕ) → is_member (table.fragments_of t) v.set (use_at t.zones d z) ≡ false → ended_held d z ≡ held d z
  none_else d z absent = zones_are d z ∙ ap (λ (l : List ℕ). held d z ++ l) (none_more t v.set m d z absent) ∙ append-nil (held d z)

  empty_still : (d z : ℕ) → is_live t d ≡ true → use_at t.zones d z ≡ uses.Empty → ended_held d z ≡ []
  empty_still d z lives is = none_else d z (ap (is_member (table.fragments_of t) v.set) is) ∙ empty d z lives is

  pub are_new : AreSetBytes (bytes_opened (array_of f) set' [])
  are_new = subst (λ (a : Array). AreSetBytes (bytes_opened a set' [])) (sym array_f) (opening_bytes (array_of t) set' may.together.within may.id may.from may.to [] may.cuts_are may.kept)

  -- where no byte of the new set came
  same_else : (d z : ℕ) → is_member (table.fragments_of f) set' (use_at f.zones d z) ≡ false → with_opening set' f ended_held d z ≡ ended_held d z
  same_else d z absent = ap (λ (l : List ℕ). ended_held d z ++ l) (none_more f set' (entries_bytes f.geometry.k (opening (array_of f) set' [])) d z absent) ∙ append-nil (ended_held d z)

  -- a member of the old set isn't one of the new
  no_new_member : (d z i : ℕ) → use_at t.zones d z ≡ uses.Carrier v.set i → is_member (table.fragments_of f) set' (use_at f.zones d z) ≡ false
  no_new_member d z i is = elim (from_empty tc f set' members forms d z) [
    | inl was ↦ absurd (not_empty (sym was.0 ∙ ap (λ (s : Table). use_at s.zones d z) lost ∙ is))
    | inr same ↦ ap (is_member (table.fragments_of f) set') (same ∙ ap (λ (s : Table). use_at s.zones d z) lost ∙ is) ∙ and_left (v.set == set') (nat_lt i (table.fragments_of f)) (ne_eqb v.set set' (λ e. other (sym e)))
  ]
    where
      not_empty : uses.Empty ≡ uses.Carrier v.set i → ⊥
      not_empty e = cc

  pub old_zone : (d z index : ℕ) → index < table.fragments_of t → is_live t d ≡ true → use_at t.zones d z ≡ uses.Carrier v.set index → with_opening set' f ended_held d z ≡ zone_bytes v es index
  old_zone d z index below lives carries = same_else d z (no_new_member d z index carries) ∙ zone_there d z index below lives carries

  pub hold_new : (drives : List ℕ) → AreLive t drives → HoldBytes (bytes_opened (array_of f) set' []) f (with_opening set' f ended_held) drives
  hold_new drives live d z index drive below carries =
      let lives : is_live f d ≡ true = same_live tc f set' members forms d ∙ formed_live tc f set' members d z index listed_c absent_c forms carries in
      member_now f f set' (entries_bytes f.geometry.k (opening (array_of f) set' [])) ended_held (with_opening set' f ended_held) d z index refl below lives carries refl
      ∙ ap (λ (l : List ℕ). l ++ entries_bytes f.geometry.k (opening (array_of f) set' []) index) (empty_still d z (live d drive) (was_empty d z index carries))

  module _ (drives : List ℕ) (live : AreLive t drives) (alone : IsAlone t v.set held drives) (new_set : IsNew (array_of t) set' held drives) where
    -- no zone began with a head of the new set
    pub none_began : (d z : ℕ) → is_among drives d ≡ true → 2 ≤ z → begins_with (array_of t) set' (ended_held d z) ≡ true → ⊥
    none_began d z drive from begins = at (is_member (table.fragments_of t) v.set (use_at t.zones d z)) refl
      where
        at : (b : Bool) → is_member (table.fragments_of t) v.set (use_at t.zones d z) ≡ b → ⊥
        at true is =
            let own = member_is (table.fragments_of t) v.set (use_at t.zones d z) is in
            let bytes = zone_there d z own.0 own.1 (live d drive) own.2 in
            other (sym (zone_begins v es set' own.0 wrote (subst (λ n. own.0 < n) count_v own.1) (ap (λ (a : Array). begins_with a set' (zone_bytes v es own.0)) array ∙ ap (begins_with (array_of t) set') (sym bytes) ∙ begins)))
        at false absent = both_ways _ (new_set d z drive from) (ap (begins_with (array_of t) set') (sym (none_else d z absent)) ∙ begins)

    pub alone_new : IsAlone f set' (with_opening set' f ended_held) drives
    alone_new d z drive from begins = at (is_member (table.fragments_of f) set' (use_at f.zones d z)) refl
      where
        at : (b : Bool) → is_member (table.fragments_of f) set' (use_at f.zones d z) ≡ b → IsMember f set' d z
        at true is = member_is (table.fragments_of f) set' (use_at f.zones d z) is
        at false absent = absurd (none_began d z drive from (ap (λ (a : Array). begins_with a set' (ended_held d z)) (sym array_f) ∙ ap (begins_with (array_of f) set') (sym (same_else d z absent)) ∙ begins))

    pub alone_old : IsAlone t v.set (with_opening set' f ended_held) drives
    alone_old d z drive from begins = at (is_member (table.fragments_of t) v.set (use_at t.zones d z)) refl
      where
        at_new : (b : Bool) → is_member (table.fragments_of f) set' (use_at f.zones d z) ≡ b → is_member (table.fragments_of t) v.set (use_at t.zones d z) ≡ false → IsMember t v.set d z
        at_new true is absent =
            let own = member_is (table.fragments_of f) set' (use_at f.zones d z) is in
            let bytes = hold_new drives live d z own.0 drive own.1 own.2 in
            let begun_by = are_new.first (length (entries_bytes f.geometry.k (opening (array_of f) set' []) own.0)) own.0 own.1 in
            let begun_is = ap (begun (array_of f)) (sym (take_all (length (entries_bytes f.geometry.k (opening (array_of f) set' []) own.0)) (entries_bytes f.geometry.k (opening (array_of f) set' []) own.0) (omega arith))) ∙ begun_by.begins in
            let tells : is_of_set v.set (first_of (markers_at own.0 (take begun_by.count (opening (array_of f) set' [])))) ≡ true =
            ap (λ (ms : List Marker). is_of_set v.set (first_of ms)) (sym begun_is) ∙ ap (λ (a : Array). begins_with a v.set (entries_bytes f.geometry.k (opening (array_of f) set' []) own.0)) array_f ∙ ap (begins_with (array_of t) v.set) (sym bytes) ∙ begins in
            absurd (other (first_set set' v.set own.0 (take begun_by.count (opening (array_of f) set' [])) (take_first_of set' begun_by.count (opening (array_of f) set' []) are_new.head) tells))
        at_new false none absent = alone d z drive from (ap (begins_with (array_of t) v.set) (sym (same_else d z none ∙ none_else d z absent)) ∙ begins)

        at : (b : Bool) → is_member (table.fragments_of t) v.set (use_at t.zones d z) ≡ b → IsMember t v.set d z
        at true is = member_is (table.fragments_of t) v.set (use_at t.zones d z) is
        at false absent = at_new (is_member (table.fragments_of f) set' (use_at f.zones d z)) refl absent

  module _ (firm : Lengths) (view : View) (live : AreLive t view.drives) (alone : IsAlone t v.set held view.drives) (new_set : IsNew (array_of t) set' held view.drives) (image : IsImage (with_opening set' f ended_held) firm view.held) where
    others_first : OthersSay f set' ended_held firm view
    others_first = others_say (bytes_opened (array_of f) set' []) f (entries_bytes f.geometry.k (opening (array_of f) set' [])) ended_held firm view refl are_new (hold_new view.drives live) image

    pub leaves_both : LeavesBoth v es t f set' held ended_held firm view
    leaves_both = record {
      old_set = image_has_first (bytes_by v es) t (with_opening set' f ended_held) firm view array (writer_bytes v es wrote) (λ d z index drive below carries. old_zone d z index below (live d drive) carries) (record { image = image; alone = alone_old view.drives live alone new_set });
      new_set = subst (λ (a : Array). HaveFirst (bytes_opened a set' []) f firm view) array_f (image_has_first (bytes_opened (array_of f) set' []) f (with_opening set' f ended_held) firm view refl are_new (hold_new view.drives live) (record { image = image; alone = alone_new view.drives live alone new_set }));
      first_others = others_first;
      others = others_say (bytes_by v es) t m held firm (record view { held = cut_back ended_held view.held }) array (writer_bytes v es wrote)
          (λ d z index drive below carries. sym (zones_are d z) ∙ zone_there d z index below (live d drive) carries)
          (λ d z. subst (λ (l : List ℕ). IsFirmPrefix l (firm d z) (cut_back ended_held view.held d z)) (zones_are d z) (others_first.before d z));
    }
