use Rattle.std.proofs.Common.{◌≡◌, ℕ, ◌+◌, ◌<◌, ◌≤◌, ◌^◌, ◌-◌, [], ◌∷◌, refl, sym, ap, subst, ◌∙◌, arith}
use Rattle.std.specs.Prelude.{max, ◌||◌}
use Rattle.std.specs.Int.{div_ceil}
use Rattle.std.proofs.lemmas.List.{length-append}
use mathlib.Core.Logic.{∥∥₁_map}
use Rattle.marker_format.specs.declared.marker.Marker.{Marker}
use Rattle.marker_format.specs.Zone.{blocks_of, has_kind}
use Rattle.marker_format.specs.declared.kind.Kind.TheVariants.{Ready}
use Rattle.store_core.specs.declared.zone.OpenZone.{OpenZone}
use Rattle.store_core.specs.Zone.{counter_of}
use Rattle.store_core.specs.OpenZone.{IsOfSet, IsOpenRecord}
use Rattle.store_core.specs.Sound.{IsSoundIndex, HasPlace}
use Rattle.store_core.proofs.SaidLaws.{Bounds, bounds, well_has_kind}
use Rattle.store_core.proofs.SoundLaws.{sound_later}
use Rattle.store_core.proofs.OpenRecords.{open_record-is, open_record-true, set_added, index_added, end_added, stamp_added, any_added, counter-bound, part_counted, put_counted, placed_added}
use Rattle.store_core.proofs.zone_records.ZoneRecords.add.Goals as goal
use Rattle.store_core.proofs.zone_records.ZoneRecords.add.Goals.{After-add}

pub returns-then-not-is_open-clause-added : goal.returns-then-not-is_open-clause-added
returns-then-not-is_open-clause-added c =
    (λ t. absurd cc, λ can. c.if-not-is_open.ensures ∙ open_record-true c.args.self.now.shard c.args.marker.now can.fitting)

pub returns-in_default-clause-added : goal.returns-in_default-clause-added
returns-in_default-clause-added c =
    let it = open_record-is c.args.self.now.shard c.args.marker.now (sym c.if-not-is_open.ensures) in
    absurd (well_has_kind c.args.marker.now it.well (sym c.from_number.ensures ∙ c.in_default.is))

pub overflow_add-counter_of : goal.overflow_add-counter_of
overflow_add-counter_of c =
    let m = c.args.marker.now in
    let it = open_record-is c.args.self.now.shard m (sym c.if-not-is_open.ensures) in
    let b = bounds m c.in-Some.kind it.well (sym c.from_number.ensures ∙ c.in-Some.is) in
    omega (arith, c.counter_of.ensures, counter-bound m b.stamp b.upload)

-- it has its place, with the stamp that comes next then
place : (blocks used shard stamp counter : ℕ) (m : Marker) → IsOpenRecord shard m → used + blocks_of m ≤ blocks → counter ≡ counter_of m → HasPlace blocks shard (max stamp (counter + 1)) used m
place blocks used shard stamp counter m it within is = record {
  past = λ part. omega (arith, is, part_counted m part);
  noted = λ put. omega (arith, is, put_counted m put);
  within = within;
  small = it.small;
  one_source = it.one_source;
}

fits_in : (blocks used fragment result count : ℕ) → result ≡ div_ceil fragment 511 → 1 + result ≤ blocks - used → used ≤ blocks → used + (1 + div_ceil fragment 511) ≤ blocks
fits_in blocks used fragment result count is within before = subst (λ n. used + (1 + n) ≤ blocks) is (omega (arith, within, before))

-- what is known once the record was added to what is said
record Added (c : goal.After-add) : Type 0 where
  room : c.args.self.now.zone.blocks + blocks_of c.args.marker.now ≤ c.args.self.now.blocks
  bounds_are : Bounds c.args.marker.now
  two : c.args.marker.now.n ≡ 2
  stamp_from : 1 ≤ c.max-self.result
  stamp_to : c.max-self.result ≤ 2 ^ 62
  sound : ∥ IsSoundIndex c.args.self.now.blocks c.args.self.now.shard c.max-self.result c.add.new.self.index ∥₁

added : (c : goal.After-add) → Added c
added c =
    let r = c.args.self.now in
    let m = c.args.marker.now in
    let it = open_record-is r.shard m (sym c.if-not-is_open.ensures) in
    let b = bounds m c.in-Some.kind it.well (sym c.from_number.ensures ∙ c.in-Some.is) in
    let below = counter-bound m b.stamp b.upload in
    let blocks = c.div_ceil-blocks.ensures ∙ ap (λ n. div_ceil n 511) c.from.ensures in
    let room = fits_in r.blocks r.zone.blocks m.fragment _ 0 blocks c.if-blocks-self.false r.within in
    let next = c.max-self.ensures in
    let here = subst (λ n. HasPlace r.blocks r.shard n r.zone.blocks m) (sym next) (place r.blocks r.zone.blocks r.shard r.next_stamp c.counter_of.result m it room c.counter_of.ensures) in
    let later : r.next_stamp ≤ c.max-self.result = omega (arith, next) in
    record {
      room = room;
      bounds_are = b;
      two = it.one_parity;
      stamp_from = omega (arith, r.stamp_from, later);
      stamp_to = omega (arith, r.stamp_to, next, below, c.counter_of.ensures);
      sound = ∥∥₁_map r.sound (λ was. c.add.ensures.sound r.blocks r.shard c.max-self.result (sound_later r.blocks r.shard r.next_stamp c.max-self.result r.said.index later was) here);
    }

pub invariant_of-self : goal.invariant_of-self
invariant_of-self c =
    let r = c.args.self.now in
    let known = added (goal.at.invariant_of-self c).After-add in
    record {
      within = r.within;
      few = r.few;
      placed = r.placed;
      stamp_from = known.stamp_from;
      stamp_to = known.stamp_to;
      sound = known.sound;
    }

pub invariant_of-self-2 : goal.invariant_of-self-2
invariant_of-self-2 c =
    let r = c.args.self.now in
    let m = c.args.marker.now in
    let known = added (goal.at.invariant_of-self-2 c).After-add in
    let blocks = c.div_ceil-blocks.ensures ∙ ap (λ n. div_ceil n 511) c.from.ensures in
    let is = c.with-self.ensures in
    let used : c.with-self.result.blocks ≡ r.zone.blocks + blocks_of m = ap (λ (z : OpenZone). z.blocks) is ∙ ap (λ n. r.zone.blocks + (1 + n)) blocks in
    record {
      within = subst (λ n. n ≤ r.blocks) (sym used) known.room;
      few = omega (arith, used, ap (λ (z : OpenZone). z.records) is, r.few);
      placed = λ some. subst IsOfSet (sym is) (placed_added r.zone m (1 + c.div_ceil-blocks.result) known.bounds_are.set_from known.bounds_are.set_to (subst (λ n. m.index < n) known.two known.bounds_are.index) r.placed);
      stamp_from = known.stamp_from;
      stamp_to = known.stamp_to;
      sound = known.sound;
    }

pub returns-clause-added : goal.returns-clause-added
returns-clause-added c =
    let r = c.args.self.now in
    let it = open_record-is r.shard c.args.marker.now (sym c.if-not-is_open.ensures) in
    let blocks = c.div_ceil-blocks.ensures ∙ ap (λ n. div_ceil n 511) c.from.ensures in
    (λ t. record { fitting = it; room = fits_in r.blocks r.zone.blocks c.args.marker.now.fragment _ 0 blocks c.if-blocks-self.false r.within }, λ can. refl)

pub returns-clause-read : goal.returns-clause-read
returns-clause-read c t ms was =
    let r = c.args.self.now in
    let m = c.args.marker.now in
    let is = c.with-self.ensures in
    let blocks = c.div_ceil-blocks.ensures ∙ ap (λ n. div_ceil n 511) c.from.ensures in
    record {
      set = ap (λ (z : OpenZone). z.set) is ∙ set_added ms m r.zone.set r.zone.records was.set was.records;
      index = ap (λ (z : OpenZone). z.index) is ∙ index_added ms m r.zone.index r.zone.records was.index was.records;
      blocks = ap (λ (z : OpenZone). z.blocks) is ∙ ap (λ n. r.zone.blocks + (1 + n)) blocks ∙ ap (λ n. n + blocks_of m) was.blocks ∙ sym (end_added 0 ms m);
      records = ap (λ (z : OpenZone). z.records) is ∙ ap (λ n. n + 1) was.records ∙ sym (length-append ms (m ∷ []));
      stamp = c.max-self.ensures ∙ ap (λ n. max r.next_stamp (n + 1)) c.counter_of.ensures ∙ ap (λ n. max n (counter_of m + 1)) was.stamp ∙ sym (stamp_added ms m);
      ready = c.is_ready_with-self.ensures ∙ ap (λ b. b || has_kind Ready m) was.ready ∙ sym (any_added (has_kind Ready) ms m);
      said = c.in_ok-add.ensures.said ms was.said was.blocks;
    }
