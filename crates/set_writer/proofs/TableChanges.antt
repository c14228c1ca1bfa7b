-- What stays of a set where its table is changed outside the writer's calls.
use Rattle.std.proofs.Common.{◌≡◌, ◌≢◌, ◌⊎◌, inl, inr, ℕ, ◌+◌, ◌<◌, Bool, true, false, cond, set, get_or, List, [], length, Option, Some, None, IfSome, refl, sym, ap, ◌∙◌, arith}
use Rattle.std.specs.Prelude.{not}
use Rattle.std.proofs.lemmas.Bool.{cases_lt, cases_eq}
use Rattle.std.proofs.lemmas.List.{set_past, set-get_or, get_or-set_same, get_or-set_other}
use Rattle.zone_bay.specs.Contents.{Contents}
use Rattle.zone_bay.specs.Bay.{BayState}
use Rattle.marker_format.specs.Zone.{Array}
use Rattle.set_table.specs.declared.zone_use.ZoneUse.{ZoneUse}
use Rattle.set_table.specs.declared.zone_use.ZoneUse.TheVariants.{Empty, Taken, Carrier}
use Rattle.set_table.specs.Zones.{carries}
use Rattle.set_table.specs.Table.{Table, zones_of, use_at, put_use, taken, is_live, forgets, without, Adds, KeepsCarried}
use Rattle.set_table.specs.Table as table
use Rattle.set_table.proofs.UseLaws.{each_use, is_carrier_of}
use Rattle.set_table.proofs.ForgetLaws.{use_without}
use Rattle.set_writer.specs.Entry.{Entry}
use Rattle.set_table.specs.Table.{array_of}
use Rattle.set_writer.specs.Writer.{Fits}
use Rattle.set_writer.specs.ImageLaws.{begins_with}
use Rattle.set_writer.specs.TableLaws.{KeepsEmpty, TableKeepsOf, TableKeepsHeld, TableKeepsFirm, TableKeepsWhole, TableKeepsAlone, TableKeepsNew, TableKeepsFits, TableKeepsEmpty, TableKeepsFitsIn, TableKeepsFitsSome, KeepsSet, MarkKeepsSet, RoomKeepsSet, LossKeepsSet, LossesKeepSet, TakeKeepsSet, AddKeepsSet, ReleaseKeepsSet}

-- ---- what stays

-- an index of the one table is one of the other
same_below : (t t' : Table) (index : ℕ) → array_of t' ≡ array_of t → index < table.fragments_of t' → index < table.fragments_of t
same_below t t' index array below = let n = ap (λ (a : Array). a.geometry.k + a.geometry.p) array in omega (arith, below, n)

pub keeps_of : (bay : BayState) → TableKeepsOf bay
keeps_of bay set' w t t' keeps is = record {
  array = is.array ∙ sym keeps.array;
  shape = record {
    devices = ap (λ (a : Array). a.geometry.drives + 1) keeps.array ∙ is.shape.devices;
    zones = ap (λ (a : Array). a.geometry.zones) keeps.array ∙ is.shape.zones;
    blocks = ap (λ (a : Array). a.geometry.blocks) keeps.array ∙ is.shape.blocks;
  };
}

pub keeps_held : TableKeepsHeld
keeps_held s t t' held drives keeps live holds d z index drive below is = holds d z index drive (same_below t t' index keeps.array below) (keeps.no_more d z index (live d drive) is)

pub keeps_firm : TableKeepsFirm
keeps_firm s t t' drives firm count keeps live are d z index drive below is = are d z index drive (same_below t t' index keeps.array below) (keeps.no_more d z index (live d drive) is)

pub keeps_whole : TableKeepsWhole
keeps_whole s t t' drives firm keeps live are d z index drive below is = are d z index drive (same_below t t' index keeps.array below) (keeps.no_more d z index (live d drive) is)

pub keeps_alone : TableKeepsAlone
keeps_alone set' t t' held drives keeps live alone d z drive from begins =
    let m = alone d z drive from (ap (λ (a : Array). begins_with a set' (held d z)) (sym keeps.array) ∙ begins) in
    (m.0, same_below t' t m.0 (sym keeps.array) m.1, keeps.stay d z m.0 (live d drive) m.2)

pub keeps_new : TableKeepsNew
keeps_new set' other t t' held drives keeps new d z drive from = ap (λ (a : Array). begins_with a other (held d z)) keeps.array ∙ new d z drive from

pub keeps_empty : TableKeepsEmpty
keeps_empty set' t t' held keeps empties empty d z live is = elim (empties d z live is) [
  | inl was ↦ empty d z (keeps.live d live) was
  | inr nothing ↦ nothing
]

pub keeps_fits : TableKeepsFits
keeps_fits w es t t' held keeps empties fits = record {
  wrote = fits.wrote;
  bytes = fits.bytes;
  members = λ d z index below live is. fits.members d z index (same_below t t' index keeps.array below) (keeps.live d live) (keeps.no_more d z index (keeps.live d live) is);
  empty = keeps_empty w.set t t' held keeps empties fits.empty;
}

pub keeps_fits_in : (bay : BayState) → TableKeepsFitsIn bay
keeps_fits_in bay w es t t' keeps = at bay.contents
  where
    at : (o : Option Contents) → IfSome o (KeepsEmpty t t') → IfSome o (Fits w es t) → IfSome o (Fits w es t')
    at None empties fits = tt
    at (Some held) empties fits = keeps_fits w es t t' held keeps empties fits

pub keeps_fits_some : (bay : BayState) → TableKeepsFitsSome bay
keeps_fits_some bay w t t' keeps = at bay.contents
  where
    at : (o : Option Contents) → IfSome o (KeepsEmpty t t') → IfSome o (λ held. (es : List Entry) × Fits w es t held) → IfSome o (λ held. (es : List Entry) × Fits w es t' held)
    at None empties fits = tt
    at (Some held) empties fits = (fits.0, keeps_fits w fits.0 t t' held keeps empties fits.1)

-- ---- where no zone changed

same_zones : (set' : ℕ) (t t' : Table) → array_of t' ≡ array_of t → ((d : ℕ) → is_live t' d ≡ true → is_live t d ≡ true) → t'.zones ≡ t.zones → KeepsSet set' t t'
same_zones set' t t' array live zones = record {
  zones = record {
    array = array;
    live = live;
    stay = λ d z index _ is. ap (λ zs. use_at zs d z) zones ∙ is;
    no_more = λ d z index _ is. ap (λ zs. use_at zs d z) (sym zones) ∙ is;
  };
  empty = λ held d z _ is. inl (ap (λ zs. use_at zs d z) (sym zones) ∙ is);
}

pub mark_keeps : MarkKeepsSet
mark_keeps set' t t' same = same_zones set' t t' (ap (λ (u : Table). array_of u) same) (λ d live. ap (λ (u : Table). is_live u d) (sym same) ∙ live) (ap (λ (u : Table). u.zones) same)

pub room_keeps : RoomKeepsSet
room_keeps set' t t' same = same_zones set' t t' (ap (λ (u : Table). array_of u) same) (λ d live. ap (λ (u : Table). is_live u d) (sym same) ∙ live) (ap (λ (u : Table). u.zones) same)

pub losses_keep : LossesKeepSet
losses_keep set' t t' same live = same_zones set' t t' (ap (λ (u : Table). array_of u) same) live (ap (λ (u : Table). u.zones) same)

-- no device is live that wasn't
one_less : (lost : List Bool) (device d : ℕ) → not (get_or (set lost device true) d true) ≡ true → not (get_or lost d true) ≡ true
one_less lost device d live = elim (cases_eq d device) [
  | inr other ↦ ap not (sym (get_or-set_other lost device d true true other)) ∙ live
  | inl same ↦ elim (cases_lt device (length lost)) [
    | inl within ↦ absurd (not_lost (get_or (set lost device true) d true) (ap (λ n. get_or (set lost device true) n true) same ∙ get_or-set_same lost device true true within) live)
    | inr past ↦ ap (λ l. not (get_or l d true)) (sym (set_past lost device true past)) ∙ live
  ]
]
  where
    not_lost : (b : Bool) → b ≡ true → not b ≡ true → ⊥
    not_lost b is live = cc

pub loss_keeps : LossKeepsSet
loss_keeps set' device t t' same = losses_keep set' t t' (same ∙ ap (λ l. record t { lost = l }) (sym (ap (λ (u : Table). u.lost) same))) (λ d live. one_less t.lost device d (ap (λ (u : Table). is_live u d) (sym same) ∙ live))

-- ---- where one zone did

-- it is this zone, or used as it was
put_each : (zones : List (List ZoneUse)) (d z : ℕ) (u : ZoneUse) (e y : ℕ) → ((e ≡ d) × (y ≡ z) × (use_at (put_use d z u zones) e y ≡ u)) ⊎ (use_at (put_use d z u zones) e y ≡ use_at zones e y)
put_each zones d z u e y = elim (cases_lt d (length zones)) [
  | inr past ↦ inr (ap (λ zs. use_at zs e y) (set_past zones d (set (zones_of zones d) z u) past))
  | inl drive ↦ elim (cases_lt z (length (zones_of zones d))) [
    | inr past ↦ inr (ap (λ us. use_at (set zones d us) e y) (set_past (zones_of zones d) z u past) ∙ ap (λ zs. use_at zs e y) (set-get_or zones d []))
    | inl zone ↦ each_use zones d z u drive zone e y
  ]
]

-- what it was used for
was_here : (zones : List (List ZoneUse)) (d z e y : ℕ) → e ≡ d → y ≡ z → use_at zones e y ≡ use_at zones d z
was_here zones d z e y drive zone = ap (λ n. use_at zones n y) drive ∙ ap (use_at zones d) zone

-- where a zone was put from one use to another, and neither carries the set
module _ (set' : ℕ) (zones : List (List ZoneUse)) (d z : ℕ) (u : ZoneUse) (before : (index : ℕ) → use_at zones d z ≢ Carrier set' index) (after : (index : ℕ) → u ≢ Carrier set' index) where
  put_stays : (e y index : ℕ) → use_at zones e y ≡ Carrier set' index → use_at (put_use d z u zones) e y ≡ Carrier set' index
  put_stays e y index is = elim (put_each zones d z u e y) [
    | inl here ↦ absurd (before index (sym (was_here zones d z e y here.0 here.1) ∙ is))
    | inr same ↦ same ∙ is
  ]

  put_had : (e y index : ℕ) → use_at (put_use d z u zones) e y ≡ Carrier set' index → use_at zones e y ≡ Carrier set' index
  put_had e y index is = elim (put_each zones d z u e y) [
    | inl here ↦ absurd (after index (sym here.2 ∙ is))
    | inr same ↦ sym same ∙ is
  ]

-- a zone that gets no empty one
put_empty : (zones : List (List ZoneUse)) (d z : ℕ) (u : ZoneUse) → u ≢ Empty → (e y : ℕ) → use_at (put_use d z u zones) e y ≡ Empty → use_at zones e y ≡ Empty
put_empty zones d z u some e y is = elim (put_each zones d z u e y) [
  | inl here ↦ absurd (some (sym here.2 ∙ is))
  | inr same ↦ sym same ∙ is
]

-- taking a zone changes empty ones alone
module _ (zones : List (List ZoneUse)) (d z : ℕ) where
  take_stays : (u : ZoneUse) → use_at zones d z ≡ u → (e y s i : ℕ) → use_at zones e y ≡ Carrier s i → use_at (put_use d z (taken u) zones) e y ≡ Carrier s i
  take_stays u used e y s i is = elim (put_each zones d z (taken u) e y) [
    | inl here ↦ here.2 ∙ kept u (sym used ∙ sym (was_here zones d z e y here.0 here.1) ∙ is)
    | inr same ↦ same ∙ is
  ]
    where
      kept : (v : ZoneUse) → v ≡ Carrier s i → taken v ≡ Carrier s i
      kept v is = ap taken is

  take_had : (u : ZoneUse) → use_at zones d z ≡ u → (e y s i : ℕ) → use_at (put_use d z (taken u) zones) e y ≡ Carrier s i → use_at zones e y ≡ Carrier s i
  take_had u used e y s i is = elim (put_each zones d z (taken u) e y) [
    | inl here ↦ was_here zones d z e y here.0 here.1 ∙ used ∙ back u (sym here.2 ∙ is)
    | inr same ↦ sym same ∙ is
  ]
    where
      back : (v : ZoneUse) → taken v ≡ Carrier s i → v ≡ Carrier s i
      back Empty e = absurd cc
      back Taken e = absurd cc
      back (Carrier t j) e = e

never_empty : (u : ZoneUse) → taken u ≢ Empty
never_empty Empty e = absurd cc
never_empty Taken e = absurd cc
never_empty (Carrier s i) e = absurd cc

pub take_keeps : TakeKeepsSet
take_keeps set' device zone t t' same =
    let zones = ap (λ (u : Table). u.zones) same in record {
      zones = record {
        array = ap (λ (u : Table). array_of u) same;
        live = λ d live. ap (λ (u : Table). is_live u d) (sym same) ∙ live;
        stay = λ d z index _ is. ap (λ zs. use_at zs d z) zones ∙ take_stays t.zones device zone (use_at t.zones device zone) refl d z set' index is;
        no_more = λ d z index _ is. take_had t.zones device zone (use_at t.zones device zone) refl d z set' index (ap (λ zs. use_at zs d z) (sym zones) ∙ is);
      };
      empty = λ held d z _ is. inl (put_empty t.zones device zone (taken (use_at t.zones device zone)) (never_empty (use_at t.zones device zone)) d z (ap (λ zs. use_at zs d z) (sym zones) ∙ is));
    }

-- ---- where a zone is put to another set

module _ (set' other index device zone : ℕ) (t t' : Table) (differ : other ≢ set') (was_taken : use_at t.zones device zone ≡ Taken) (adds : Adds t other index device zone t') where
  not_own : (i j : ℕ) → Carrier other i ≢ Carrier set' j
  not_own i j e = differ (same_set e)
    where
      same_set : Carrier other i ≡ Carrier set' j → other ≡ set'
      same_set e = cc

  zones_then : t'.zones ≡ put_use device zone (Carrier other index) (without other index t.zones)
  zones_then = ap (λ (u : Table). u.zones) adds.zones

  -- another set's use is forgotten nowhere
  kept_use : (b : Bool) (u : ZoneUse) (i : ℕ) → carries other index u ≡ b → u ≡ Carrier set' i → cond b Taken u ≡ Carrier set' i
  kept_use false u i away is = is
  kept_use true u i there is = absurd (not_own index i (sym (is_carrier_of other index u there) ∙ is))

  had_use : (b : Bool) (u v : ZoneUse) → v ≢ Taken → cond b Taken u ≡ v → u ≡ v
  had_use false u v some is = is
  had_use true u v some is = absurd (some (sym is))

  not_taken : (i : ℕ) → Carrier set' i ≢ Taken
  not_taken i e = absurd cc

  empty_not_taken : Empty ≢ Taken
  empty_not_taken e = absurd cc

  carrier_not_empty : Carrier other index ≢ Empty
  carrier_not_empty e = absurd cc

  taken_then : use_at (without other index t.zones) device zone ≡ Taken
  taken_then = use_without other index t.zones device zone ∙ still (carries other index (use_at t.zones device zone))
    where
      still : (b : Bool) → cond b Taken (use_at t.zones device zone) ≡ Taken
      still true = refl
      still false = was_taken

  not_there : (i : ℕ) → use_at (without other index t.zones) device zone ≢ Carrier set' i
  not_there i e = not_taken i (sym e ∙ taken_then)

  stay_added : (d z i : ℕ) → use_at t.zones d z ≡ Carrier set' i → use_at t'.zones d z ≡ Carrier set' i
  stay_added d z i is =
      ap (λ zs. use_at zs d z) zones_then
      ∙ put_stays set' (without other index t.zones) device zone (Carrier other index) not_there (not_own index) d z i
      (use_without other index t.zones d z ∙ kept_use (carries other index (use_at t.zones d z)) (use_at t.zones d z) i refl is)

  had_added : (d z i : ℕ) → use_at t'.zones d z ≡ Carrier set' i → use_at t.zones d z ≡ Carrier set' i
  had_added d z i is =
      let before = put_had set' (without other index t.zones) device zone (Carrier other index) not_there (not_own index) d z i (ap (λ zs. use_at zs d z) (sym zones_then) ∙ is) in
      had_use (carries other index (use_at t.zones d z)) (use_at t.zones d z) (Carrier set' i) (not_taken i) (sym (use_without other index t.zones d z) ∙ before)

  empty_added : (d z : ℕ) → use_at t'.zones d z ≡ Empty → use_at t.zones d z ≡ Empty
  empty_added d z is =
      let before = put_empty (without other index t.zones) device zone (Carrier other index) carrier_not_empty d z (ap (λ zs. use_at zs d z) (sym zones_then) ∙ is) in
      had_use (carries other index (use_at t.zones d z)) (use_at t.zones d z) Empty empty_not_taken (sym (use_without other index t.zones d z) ∙ before)

  pub added_keeps : KeepsSet set' t t'
  added_keeps = record {
    zones = record {
      array = ap (λ (u : Table). array_of u) adds.zones;
      live = λ d live. ap (λ (u : Table). is_live u d) (sym adds.zones) ∙ live;
      stay = λ d z i _ is. stay_added d z i is;
      no_more = λ d z i _ is. had_added d z i is;
    };
    empty = λ held d z _ is. inl (empty_added d z is);
  }

pub add_keeps : AddKeepsSet
add_keeps set' other index device zone t t' differ was_taken adds = added_keeps set' other index device zone t t' differ was_taken adds

-- ---- where a zone is given back

empty_not_own : (set' i : ℕ) → Empty ≢ Carrier set' i
empty_not_own set' i e = absurd cc

pub release_keeps : ReleaseKeepsSet
release_keeps set' device zone t t' other zones lost keeps = (
  record {
    array = ap (λ (u : Table). array_of u) keeps.same;
    live = λ d live. ap (λ l. not (get_or l d true)) (sym lost) ∙ live;
    stay = λ d z index _ is. ap (λ zs. use_at zs d z) zones ∙ put_stays set' t.zones device zone Empty other (empty_not_own set') d z index is;
    no_more = λ d z index _ is. put_had set' t.zones device zone Empty other (empty_not_own set') d z index (ap (λ zs. use_at zs d z) (sym zones) ∙ is);
  },
  λ held nothing d z _ is. elim (put_each t.zones device zone Empty d z) [
    | inl here ↦ inr (ap (λ n. held n z) here.0 ∙ ap (held device) here.1 ∙ nothing)
    | inr same ↦ inl (sym same ∙ ap (λ zs. use_at zs d z) (sym zones) ∙ is)
  ],
)
