-- What a call on the members of some sets leaves of all other zones.
use Rattle.std.proofs.Common.{◌≡◌, inl, inr, ℕ, ◌≤◌, Bool, true, false, cond, List, [], ◌∷◌, ◌++◌, length, Option, Some, None, IfSome, is_some, refl, sym, ap, ap₂, subst, ◌∙◌, arith}
use Rattle.std.specs.Prelude.{◌&&◌, not, ◌==◌, filter}
use Rattle.std.specs.List.{filter_map, cons_option}
use Rattle.std.proofs.lemmas.Bool.{eq-eqb, or_left, or_right}
use Rattle.std.proofs.lemmas.List.{append-nil, take_all}
use Rattle.rs_code.specs.Coded.{CodedPayload}
use Rattle.smore_base.specs.Told.{Told}
use Rattle.zone_bay.specs.Contents.{Shape, Contents, Extends}
use Rattle.zone_bay.specs.Images.{IsFirmPrefix, LeftSince}
use Rattle.zone_bay.specs.Bay.{BayState, IsSound}
use Rattle.zone_bay.specs.Stretch.{IsOnTheWay}
use Rattle.zone_bay.proofs.Extends.{extends_itself, extends_then}
use Rattle.marker_format.specs.declared.marker.Marker.{Marker}
use Rattle.marker_format.specs.declared.label.Label.{Label}
use Rattle.array_model.specs.Drives.{is_among, is_present, label_on, drives_of, present, labels}
use Rattle.set_table.specs.declared.zone_use.ZoneUse.TheVariants as uses
use Rattle.set_table.specs.Table.{Table, use_at, HangsTogether, Forms}
use Rattle.set_table.specs.Table as table
use Rattle.set_writer.specs.Entry.{Entry, entry_for, entry_bytes, entries_bytes}
use Rattle.set_writer.specs.Members.{of_members, grown_by, is_member, Leads}
use Rattle.set_table.specs.Table.{array_of}
use Rattle.set_writer.specs.Writer.{Writer, opening}
use Rattle.set_writer.specs.Calls.{closing_bytes, with_closing, with_opening, with_end, closes_first}
use Rattle.set_writer.specs.ImageLaws.{Appends, IsFlushed, IsOpened, IsClosing, IsFollowed, IsOne, IsEither}
use Rattle.set_writer.specs.KeptLaws.{CarriesNone, LabelsAreFirm, KeepsRest}
use Rattle.set_writer.proofs.OtherSets.{member_is, none_more}
use Rattle.set_writer.proofs.WriterImages.{appended_grows, left_toward, grown_extends}
use Rattle.set_writer.proofs.KeptSets.{formed_uses, between}

-- ---- labels

-- a firm zone is left whole
whole_left : (held left : List ℕ) (firm : ℕ) → length held ≤ firm → IsFirmPrefix held firm left → left ≡ held
whole_left held left firm all (n, more, is) = is ∙ take_all n held (omega (arith, all, more))

same_label : (shape : Shape) (held image : Contents) (d : ℕ) → image d 0 ≡ held d 0 → label_on shape image d ≡ label_on shape held d
unfolding label_on
same_label shape held image d same = cc

filter_same : (f g : ℕ → Bool) (ds : List ℕ) → ((d : ℕ) → is_among ds d ≡ true → f d ≡ g d) → filter f ds ≡ filter g ds
filter_same f g [] same = refl
filter_same f g (d ∷ ds) same =
    ap₂ (λ b (rest : List ℕ). cond b (d ∷ rest) rest) (same d (or_left (d == d) (is_among ds d) (eq-eqb d d refl)))
    (filter_same f g ds (λ x among. same x (or_right (d == x) (is_among ds x) among)))

mapped_same : (f g : ℕ → Option Label) (p : ℕ → Bool) (ds : List ℕ) → ((d : ℕ) → is_among ds d ≡ true → f d ≡ g d) → filter_map f (filter p ds) ≡ filter_map g (filter p ds)
mapped_same f g p [] same = refl
mapped_same f g p (d ∷ ds) same = at (p d) (mapped_same f g p ds (λ x among. same x (or_right (d == x) (is_among ds x) among)))
  where
    at : (b : Bool) → filter_map f (filter p ds) ≡ filter_map g (filter p ds) → filter_map f (cond b (d ∷ filter p ds) (filter p ds)) ≡ filter_map g (cond b (d ∷ filter p ds) (filter p ds))
    at true rest = ap₂ cons_option (same d (or_left (d == d) (is_among ds d) (eq-eqb d d refl))) rest
    at false rest = rest

module _ (shape : Shape) (away : List ℕ) (held image : Contents) (same : (d : ℕ) → is_among (drives_of shape) d ≡ true → label_on shape image d ≡ label_on shape held d) where
  same_present : present shape image away ≡ present shape held away
  same_present = filter_same (is_present shape image away) (is_present shape held away) (drives_of shape) (λ d among. ap (λ (o : Option Label). not (is_among away d) && is_some o) (same d among))

  same_labels : labels shape image away ≡ labels shape held away
  same_labels =
      mapped_same (label_on shape image) (label_on shape held) (is_present shape image away) (drives_of shape) same
      ∙ ap (filter_map (label_on shape held)) same_present

-- ---- any calls

-- the label's zone carries no set
zero_carries_none : (IsOwn : ℕ → Type 0) (t : Table) (d : ℕ) → HangsTogether t → CarriesNone IsOwn t d 0
zero_carries_none IsOwn t d together set' index own carries = let from = (together.set_zones d 0 set' index carries).from in omega (arith, from)

module _ (IsOwn : ℕ → Type 0) (goal : Contents → Contents) (t t' : Table) (held : Contents) (old new : BayState) (sound : IsSound old) (told : old.contents ≡ Some held) (extends : Extends held (goal held)) (leads : Leads goal t t' old new)
    (same : (d z : ℕ) → CarriesNone IsOwn t' d z → goal held d z ≡ held d z) where
  way : (o n : Option Contents) → Told o n (λ h at. IsOnTheWay h (goal h) old.firm at new.firm) → o ≡ Some held → (at : Contents) × (n ≡ Some at) × IsOnTheWay held (goal held) old.firm at new.firm
  way None n w is = absurd cc
  way (Some h) None w is = absurd w
  way (Some h) (Some at) w is = let e : h ≡ held = cc in (at, refl, subst (λ (c : Contents). IsOnTheWay c (goal c) old.firm at new.firm) e w)

  on_way : (at : Contents) × (new.contents ≡ Some at) × IsOnTheWay held (goal held) old.firm at new.firm
  on_way = way old.contents new.contents leads.toward.toward told

  holds_still : (d z : ℕ) → CarriesNone IsOwn t' d z → on_way.0 d z ≡ held d z
  holds_still d z none = let w = on_way.2 in between (held d z) (on_way.0 d z) (goal held d z) (w.began d z).0 (w.extends d z).0 (w.began d z).1 (w.extends d z).1 (same d z none)

  left_of : (image : Contents) → LeftSince new.left old.moment image → (d z : ℕ) → CarriesNone IsOwn t' d z → IsFirmPrefix (held d z) (old.firm d z) (image d z)
  left_of image left d z none = subst (λ (l : List ℕ). IsFirmPrefix l (old.firm d z) (image d z)) (same d z none) (left_toward goal t t' held old new image sound told extends leads left d z)

  labels_left : HangsTogether t' → (shape : Shape) (image : Contents) → LabelsAreFirm shape held old.firm → LeftSince new.left old.moment image → (d : ℕ) → is_among (drives_of shape) d ≡ true → label_on shape image d ≡ label_on shape held d
  labels_left together shape image firm left d among =
      same_label shape held image d (whole_left (held d 0) (image d 0) (old.firm d 0) (firm d among) (left_of image left d 0 (zero_carries_none IsOwn t' d together)))

  pub rest_kept : KeepsRest IsOwn t' held old new
  rest_kept = record {
    holds = subst (λ (o : Option Contents). IfSome o (λ at. (d z : ℕ) → CarriesNone IsOwn t' d z → at d z ≡ held d z)) (sym on_way.1) holds_still;
    no_less = λ d z. on_way.2.no_less d z;
    left = left_of;
    present = λ together shape away image firm left. (
      same_present shape away held image (labels_left together shape image firm left),
      same_labels shape away held image (labels_left together shape image firm left),
    );
  }

-- ---- call by call

-- a zone that carries the set in no table carries no index of it
no_member : (IsOwn : ℕ → Type 0) (t f : Table) (set' d z : ℕ) → IsOwn set' → ((i : ℕ) → use_at f.zones d z ≡ uses.Carrier set' i → use_at t.zones d z ≡ uses.Carrier set' i) → CarriesNone IsOwn t d z → is_member (table.fragments_of f) set' (use_at f.zones d z) ≡ false
no_member IsOwn t f set' d z own uses_are none = at (is_member (table.fragments_of f) set' (use_at f.zones d z)) refl
  where
    at : (b : Bool) → is_member (table.fragments_of f) set' (use_at f.zones d z) ≡ b → b ≡ false
    at false is = refl
    at true is = let m = member_is (table.fragments_of f) set' (use_at f.zones d z) is in absurd (none set' m.0 own (uses_are m.0 m.2))

grown_same : (f : Table) (set' : ℕ) (more : ℕ → List ℕ) (held : Contents) (d z : ℕ) → is_member (table.fragments_of f) set' (use_at f.zones d z) ≡ false → grown_by f (of_members (table.fragments_of f) set' more) held d z ≡ held d z
grown_same f set' more held d z absent = ap (λ (l : List ℕ). held d z ++ l) (none_more f set' more d z absent) ∙ append-nil (held d z)

-- the zones of a table of which only losses changed
same_uses : (t t' : Table) → t' ≡ record t { lost = t'.lost } → t.zones ≡ t'.zones
same_uses t t' same = sym (ap (λ (u : Table). u.zones) same)

carries_then : (t t' : Table) → t.zones ≡ t'.zones → (d z set' i : ℕ) → use_at t.zones d z ≡ uses.Carrier set' i → use_at t'.zones d z ≡ uses.Carrier set' i
carries_then t t' same d z set' i is = ap (λ zs. use_at zs d z) (sym same) ∙ is

pub flush_keeps_rest : (w : Writer) (es : List Entry) (t t' : Table) (held : Contents) (old new : BayState) → IsFlushed w es t t' held old new → KeepsRest (IsOne w.set) t' held old new
flush_keeps_rest w es t t' held old new is = rest_kept (IsOne w.set) (λ held. held) t t' held old new is.sound is.told (extends_itself held) is.flushed.leads (λ d z none. refl)

pub append_keeps_rest : (w : Writer) (es : List Entry) (m : Marker) (body : CodedPayload) (t t' : Table) (held : Contents) (old new : BayState) → Appends w es m body t t' held old new → KeepsRest (IsOne w.set) t' held old new
append_keeps_rest w es m body t t' held old new is =
    let grows = appended_grows w es m body t t' held old new is in
    let bytes = entry_bytes w.geometry.k (entry_for m body.payload) in
    rest_kept (IsOne w.set) (grown_by t (of_members (table.fragments_of t) w.set bytes)) t t' held old new is.sound is.told (grown_extends t w.set bytes held) grows.leads
    (λ d z none. grown_same t w.set bytes held d z (no_member (IsOne w.set) t' t w.set d z refl (carries_then t t' (same_uses t t' grows.table) d z w.set) none))

pub opening_keeps_rest : (set' : ℕ) (cuts : List (ℕ × ℕ)) (t t' : Table) (held : Contents) (old new : BayState) → IsOpened set' cuts t t' held old new → KeepsRest (IsOne set') t' held old new
opening_keeps_rest set' cuts t t' held old new is =
    let grows = is.opens.grows in
    let f = is.opens.formed in
    let bytes = entries_bytes t.geometry.k (opening (array_of t) set' cuts) in
    rest_kept (IsOne set') (grown_by f (of_members (table.fragments_of f) set' bytes)) f t' held old new is.sound is.told (grown_extends f set' bytes held) grows.leads
    (λ d z none. grown_same f set' bytes held d z (no_member (IsOne set') t' f set' d z refl (carries_then f t' (same_uses f t' grows.table) d z set') none))

pub closing_keeps_rest : (w : Writer) (es : List Entry) (t t' : Table) (held : Contents) (old new : BayState) → IsClosing w es t t' held old new → KeepsRest (IsOne w.set) t' held old new
closing_keeps_rest w es t t' held old new is =
    let grows = is.closes.grows in
    rest_kept (IsOne w.set) (grown_by t (of_members (table.fragments_of t) w.set (closing_bytes w))) t t' held old new is.sound is.told (grown_extends t w.set (closing_bytes w) held) grows.leads
    (λ d z none. grown_same t w.set (closing_bytes w) held d z (no_member (IsOne w.set) t' t w.set d z refl (carries_then t t' (same_uses t t' grows.table) d z w.set) none))

module _ (set' least : ℕ) (w w' : Writer) (es : List Entry) (t t' : Table) (held : Contents) (old new : BayState) (is : IsFollowed set' least w w' es t t' held old new) where
  end_extends : (b : Bool) → Extends held (cond b (with_closing w t held) held)
  end_extends true = grown_extends t w.set (closing_bytes w) held
  end_extends false = extends_itself held

  -- a zone of the old set has it still
  old_uses : (d z i : ℕ) → use_at t.zones d z ≡ uses.Carrier w.set i → use_at t'.zones d z ≡ uses.Carrier w.set i
  old_uses d z i carries =
      ap (λ (u : Table). use_at u.zones d z) is.follows.table
      ∙ (formed_uses t is.follows.closed_table is.follows.formed set' is.follows.members (ap (λ (u : Table). u.zones) is.follows.lost) is.follows.forms d z w.set i (λ e. is.other (sym e))).1 carries

  end_same : (b : Bool) (d z : ℕ) → CarriesNone (IsEither w.set set') t' d z → cond b (with_closing w t held) held d z ≡ held d z
  end_same true d z none = grown_same t w.set (closing_bytes w) held d z (no_member (IsEither w.set set') t' t w.set d z (inl refl) (old_uses d z) none)
  end_same false d z none = refl

  next_same : (d z : ℕ) → CarriesNone (IsEither w.set set') t' d z → with_opening set' is.follows.formed (with_end w t held) d z ≡ held d z
  next_same d z none =
      let f = is.follows.formed in
      grown_same f set' (entries_bytes f.geometry.k (opening (array_of f) set' [])) (with_end w t held) d z (no_member (IsEither w.set set') t' f set' d z (inr refl) (carries_then f t' (same_uses f t' is.follows.table) d z set') none)
      ∙ end_same (closes_first w t) d z none

  pub next_keeps_rest : KeepsRest (IsEither w.set set') t' held old new
  next_keeps_rest =
      let f = is.follows.formed in
      rest_kept (IsEither w.set set') (λ h. with_opening set' f (with_end w t h)) t t' held old new is.sound is.told
      (extends_then held (with_end w t held) (with_opening set' f (with_end w t held)) (end_extends (closes_first w t)) (grown_extends f set' (entries_bytes f.geometry.k (opening (array_of f) set' [])) (with_end w t held)))
      is.follows.leads next_same
