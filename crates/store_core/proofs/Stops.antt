-- What a stop leaves of calls that only read, and of calls that put bytes at the end of the store's zone.
use Rattle.std.proofs.Common.{◌≡◌, ◌≢◌, ◌⊎◌, inl, inr, ℕ, ◌≤◌, cond, List, [], ◌++◌, length, take, Option, Some, None, IfSome, refl, sym, ap, subst, ◌∙◌, arith}
use Rattle.std.specs.Prelude.{IsSome, option_map, unwrap_or}
use Rattle.std.proofs.lemmas.Bool.{cases_eq, eq-eqb, ne_eqb}
use Rattle.std.proofs.lemmas.List.{take_all, length-append}
use Rattle.smore_base.specs.Objects.{Map}
use Rattle.zone_bay.specs.Contents.{Shape, Contents, Lengths, with_zone, appended}
use Rattle.zone_bay.specs.Images.{IsImage, flushed, without_each}
use Rattle.zone_bay.specs.Bay.{BayState, IsSound, held_in, Becomes}
use Rattle.zone_bay.specs.Stretch.{OnlyReads, GoesToward}
use Rattle.zone_bay.specs.Laws.{NoMoreFirm}
use Rattle.zone_bay.proofs.Extends.{at_zone, elsewhere}
use Rattle.zone_bay.proofs.Images.{append_leaves_part, flush_keeps_device, flush_leaves_fewer, others_keep_theirs}
use Rattle.zone_bay.proofs.Stretch.{goes_nowhere, goes_weaker}
use Rattle.marker_format.specs.declared.label.Label.{Label}
use Rattle.marker_format.specs.Zone.{Array}
use Rattle.array_model.specs.Drives.{is_among, label_on}
use Rattle.array_model.specs.Kept.{label_of}
use Rattle.array_model.specs.Reading.{read_of}
use Rattle.array_model.specs.Map.{map_of}
use Rattle.array_model.proofs.Carriers.{label_in, label_on-is, held_without}
use Rattle.store_core.specs.Opening.{BeginsSet, HoldsSet, IsAlone, CanOpen}
use Rattle.store_core.specs.Stopped.{RecoversTo, Keeps, MayStop}

-- ---- no call, and calls that only read

pub stops_nowhere : (array : Array) (objects : Map) (bay : BayState) → Keeps array objects bay → MayStop array objects objects bay bay
stops_nowhere array objects bay keeps = record { within = goes_nowhere bay _ _; keeps = keeps }

pub stops_reading : (array : Array) (objects : Map) (old new : BayState) (Q : ℕ → ℕ → Type 0) → OnlyReads old new Q → Keeps array objects old → MayStop array objects objects old new
stops_reading array objects old new Q reads keeps = record {
  within = goes_weaker old new _ _ _ _ (λ i image since is. inl (keeps.now image is)) (λ d m since q. tt) reads.goes_on;
  keeps = record {
    told = subst (λ (told : Option Contents). IsSome told) (sym reads.contents) keeps.told;
    now = λ image is. subst (λ (shape : Shape). RecoversTo array shape objects image) (sym reads.goes_on.same_shape) (keeps.now image (rw (sym reads.contents, sym reads.firm) is));
  };
}

-- the same of objects in other words
pub stops_as : (array : Array) (before before' after after' : Map) (old new : BayState) → before ≡ before' → after ≡ after' → MayStop array before after old new → MayStop array before' after' old new
stops_as array before before' after after' old new same same' stops =
    subst (λ (objects : Map). MayStop array objects after' old new) same (subst (λ (objects : Map). MayStop array before objects old new) same' stops)

-- ---- bytes at the end of the zone

-- A bay of this array whose zone 2 of drive 0 holds these bytes can be opened, where it has the label and no other set zone is
-- written, and then each name stands for its object.
pub record Gives (array : Array) (shape : Shape) (objects : Map) (bytes : List ℕ) : Type 0 where
  pub zone : BeginsSet array bytes ⊎ HoldsSet array bytes
  pub map : (held : Contents) → label_on shape held 0 ≡ Some (label_of array 0) → IsAlone shape held → held 0 2 ≡ bytes → map_of array.geometry.k (read_of array shape held) ≡ objects

-- what is left of an image has the same bytes in a zone, where the image has
left_same : (missing : List ℕ) (image other : Contents) (d z : ℕ) → other d z ≡ image d z → without_each missing other d z ≡ without_each missing image d z
left_same missing image other d z same = held_without missing other d z ∙ ap (λ (l : List ℕ). cond (is_among missing d) [] l) same ∙ sym (held_without missing image d z)

-- Another image, which differs from one that recovers in the bytes of the zone alone, recovers to what these give.
pub recovers_other : (array : Array) (shape : Shape) (before after : Map) (image other : Contents) → RecoversTo array shape before image → ((d z : ℕ) → (d ≢ 0) ⊎ (z ≢ 2) → other d z ≡ image d z) → Gives array shape after (other 0 2) → RecoversTo array shape after other
recovers_other array shape before after image other recovers same gives left (missing, there, is) =
    let was = recovers (without_each missing image) (missing, there, refl) in
    let zone : left 0 2 ≡ other 0 2 = ap (λ (h : Contents). h 0 2) is ∙ others_keep_theirs missing other 0 2 there in
    let elsewhere : (d z : ℕ) → (d ≢ 0) ⊎ (z ≢ 2) → left d z ≡ without_each missing image d z = λ d z apart. ap (λ (h : Contents). h d z) is ∙ left_same missing image other d z (same d z apart) in
    let label : label_on shape left 0 ≡ Some (label_of array 0) =
    label_on-is shape left 0
    ∙ ap (λ (l : List ℕ). label_in shape 0 (take 512 l)) (elsewhere 0 0 (inr (λ no. absurd cc)))
    ∙ sym (label_on-is shape (without_each missing image) 0)
    ∙ was.can.label in
    let alone : IsAlone shape left = λ d z drive from to apart. elsewhere d z apart ∙ was.can.alone d z drive from to apart in
    record {
      can = record {
        label = label;
        one_source = was.can.one_source;
        one_parity = was.can.one_parity;
        zone = subst (λ (l : List ℕ). BeginsSet array l ⊎ HoldsSet array l) (sym zone) gives.zone;
        alone = alone;
      };
      map = gives.map left label alone zone;
    }

with_other : (bytes : List ℕ) (held : Contents) (d z : ℕ) → (d ≢ 0) ⊎ (z ≢ 2) → with_zone 0 2 bytes held d z ≡ held d z
with_other bytes held d z (inl other) = rw (ne_eqb d 0 other) refl
with_other bytes held d z (inr other) = elim (cases_eq d 0) [
  | inl same ↦ rw (eq-eqb d 0 same, ne_eqb z 2 other) refl
  | inr apart ↦ rw (ne_eqb d 0 apart) refl
]

-- What a crash leaves of bytes at the end of the zone, and not of what was held, differs from an image of that in the zone alone.
part_left : (held : Contents) (firm : Lengths) (bytes : List ℕ) (image : Contents) → NoMoreFirm held firm → IsImage (appended 0 2 bytes held) firm image → IsImage held firm (with_zone 0 2 (held 0 2) image)
part_left held firm bytes image within is d z = elim (cases_eq d 0) [
  | inl same ↦ elim (cases_eq z 2) [
    | inl there ↦ rw (eq-eqb d 0 same, eq-eqb z 2 there, same, there) (length (held 0 2), within 0 2, sym (take_all _ (held 0 2) (omega arith)))
    | inr other ↦ let it = is d z in rw (eq-eqb d 0 same, ne_eqb z 2 other) (rw (eq-eqb d 0 same, ne_eqb z 2 other) at it)
  ]
  | inr other ↦ let it = is d z in rw (ne_eqb d 0 other) (rw (ne_eqb d 0 other) at it)
]

-- Each prefix of the bytes, with what is held in front of it, gives the objects of before or of after, and all of them those
-- of after.
pub record EachGives (array : Array) (shape : Shape) (before after : Map) (held bytes : List ℕ) : Type 0 where
  pub part : (n : ℕ) → n ≤ length bytes → Gives array shape before (held ++ take n bytes) ⊎ Gives array shape after (held ++ take n bytes)
  pub whole : Gives array shape after (held ++ bytes)

module _ (array : Array) (before after : Map) (bytes : List ℕ) (old new : BayState) (sound : IsSound old) where
  -- what an image of more at the end of the zone recovers to
  pub image_recovers : (held : Contents) → old.contents ≡ Some held → Keeps array before old → EachGives array old.shape before after (held 0 2) bytes → (image : Contents) → IsImage (appended 0 2 bytes held) old.firm image
      → RecoversTo array old.shape before image ⊎ RecoversTo array old.shape after image
  image_recovers held told keeps gives image is =
      let within : NoMoreFirm held old.firm = rw told at sound.firm_held in
      elim (append_leaves_part held old.firm 0 2 bytes image is) [
        | inl was ↦ inl (keeps.now image (rw told was))
        | inr part ↦
            let base = with_zone 0 2 (held 0 2) image in
            let recovers : RecoversTo array old.shape before base = keeps.now base (rw told (part_left held old.firm bytes image within is)) in
            let same : (d z : ℕ) → (d ≢ 0) ⊎ (z ≢ 2) → image d z ≡ base d z = λ d z apart. sym (with_other (held 0 2) image d z apart) in
            elim (gives.part part.0 part.1) [
              | inl as_before ↦ inl (recovers_other array old.shape before before base image recovers same (subst (Gives array old.shape before) (sym part.2) as_before))
              | inr as_after ↦ inr (recovers_other array old.shape before after base image recovers same (subst (Gives array old.shape after) (sym part.2) as_after))
            ]
      ]

  -- once they are firm
  firm_recovers : (held : Contents) → old.contents ≡ Some held → Keeps array before old → Gives array old.shape after (held 0 2 ++ bytes) → (image : Contents) → IsImage (appended 0 2 bytes held) (flushed 0 (appended 0 2 bytes held) old.firm) image
      → RecoversTo array old.shape after image
  firm_recovers held told keeps gives image is =
      let within : NoMoreFirm held old.firm = rw told at sound.firm_held in
      let there : image 0 2 ≡ held 0 2 ++ bytes = flush_keeps_device (appended 0 2 bytes held) old.firm 0 image is 2 ∙ at_zone 0 2 (held 0 2 ++ bytes) held in
      let base = with_zone 0 2 (held 0 2) image in
      let less : IsImage (appended 0 2 bytes held) old.firm image = flush_leaves_fewer (appended 0 2 bytes held) old.firm 0 image (within_more held within) is in
      let recovers : RecoversTo array old.shape before base = keeps.now base (rw told (part_left held old.firm bytes image within less)) in
      recovers_other array old.shape before after base image recovers (λ d z apart. sym (with_other (held 0 2) image d z apart)) (subst (Gives array old.shape after) (sym there) gives)
    where
      within_more : (held : Contents) → NoMoreFirm held old.firm → NoMoreFirm (appended 0 2 bytes held) old.firm
      within_more held within = elsewhere 0 2 (held 0 2 ++ bytes) held (λ d z now. old.firm d z ≤ length now) (let w = within 0 2 in omega (arith, length-append (held 0 2) bytes)) within

  -- Calls that put the bytes at the end of the zone and made them firm.
  pub stops_appending : (Q : ℕ → ℕ → Type 0) → GoesToward (appended 0 2 bytes) old new Q → Becomes (appended 0 2 bytes) old new → new.firm ≡ flushed 0 (held_in new) old.firm → Keeps array before old
      → IfSome old.contents (λ held. EachGives array old.shape before after (held 0 2) bytes) → MayStop array before after old new
  stops_appending Q toward becomes firm keeps gives = by_told old.contents refl keeps.told
    where
      by_told : (told : Option Contents) → old.contents ≡ told → IsSome told → MayStop array before after old new
      by_told None e is = absurd cc
      by_told (Some held) e is =
          let each : EachGives array old.shape before after (held 0 2) bytes = rw e at gives in
          let now : new.contents ≡ Some (appended 0 2 bytes held) = becomes ∙ ap (option_map (appended 0 2 bytes)) e in
          let firm_now : new.firm ≡ flushed 0 (appended 0 2 bytes held) old.firm = firm ∙ ap (λ (o : Option Contents). flushed 0 (unwrap_or o (λ _ _. [])) old.firm) now in
          record {
            within = goes_weaker old new _ _ _ _ (λ i image since left. image_recovers held e keeps each image (rw e at left)) (λ d m since q. tt) toward.goes_on;
            keeps = record {
              told = subst (λ (o : Option Contents). IsSome o) (sym now) refl;
              now = λ image is. subst (λ (shape : Shape). RecoversTo array shape after image) (sym toward.goes_on.same_shape) (firm_recovers held e keeps each.whole image (rw (now, firm_now) at is));
            };
          }

-- ---- the array of a bay

abbrev named_by : Label → Array
named_by l = record { geometry = l.geometry; id = l.array }

-- a bay can be opened as one array alone
pub one_array_opens : (shape : Shape) (held : Contents) (one other : Array) → CanOpen shape held one → CanOpen shape held other → one ≡ other
one_array_opens shape held one other as_one as_other =
    let own : Some (label_of one 0) ≡ Some (label_of other 0) = sym as_one.label ∙ as_other.label in
    let same : label_of one 0 ≡ label_of other 0 = cc in
    ap named_by same
