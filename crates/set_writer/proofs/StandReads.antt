-- Which members of a set are its carriers in an image.
use Rattle.std.proofs.Common.{◌≡◌, ℕ, zero, suc, ◌+◌, ◌<◌, ◌≤◌, Bool, true, false, List, [], ◌∷◌, length, filter, take, Option, Some, None, is_some, refl, sym, ap, ◌∙◌, arith}
use Rattle.std.specs.List.{range_with_len}
use Rattle.std.proofs.lemmas.Bool.{both_ways}
use Rattle.zone_bay.specs.Contents.{Lengths}
use Rattle.marker_format.specs.Zone.{Array}
use Rattle.array_model.specs.Reading.{Carrier, carrier_of, fragments_of}
use Rattle.set_table.specs.declared.zone_use.ZoneUse.TheVariants as uses
use Rattle.set_table.specs.Table.{Table, HangsTogether}
use Rattle.set_table.specs.Table as table
use Rattle.set_writer.specs.Entry.{Entry}
use Rattle.set_table.specs.Table.{array_of}
use Rattle.set_writer.specs.Writer.{blocks_in}
use Rattle.set_writer.specs.ImageLaws.{SetBytes, View, places_of, IsCut, AreFirm, HaveFirst}
use Rattle.set_writer.specs.SetReadLaws.{read_in, carried_on}
use Rattle.set_writer.specs.StandLaws.{FewerAreFirm}
use Rattle.set_writer.proofs.FoundCarriers.{found_has, found_count, is_carried_on, carried_there, there_carried}
use Rattle.set_writer.proofs.SetImageRead.{own_index}

-- fewer records take no more blocks
fewer_blocks : (c n : ℕ) (es : List Entry) → c ≤ n → blocks_in (take c es) ≤ blocks_in (take n es)
fewer_blocks zero n es few = omega arith
fewer_blocks (suc c) n [] few = omega arith
fewer_blocks (suc c) zero (e ∷ es) few = absurd (omega (arith, few))
fewer_blocks (suc c) (suc n) (e ∷ es) few = let rest = fewer_blocks c n es (omega (arith, few)) in omega (arith, rest)

pub fewer_are_firm : FewerAreFirm
fewer_are_firm s t drives firm c count few is d z index drive below carries =
    let all = is d z index drive below carries in
    let less = fewer_blocks c count s.records few in
    omega (arith, all, less)

module _ (s : SetBytes) (t : Table) (firm : Lengths) (view : View) (first : HaveFirst s t firm view) (array : s.array ≡ array_of t) (together : HangsTogether t) (zones : t.geometry.zones ≡ view.shape.zones) (heads : AreFirm s t view.drives firm 1) where
  count_is : s.array.geometry.k + s.array.geometry.p ≡ table.fragments_of t
  count_is = ap (λ (a : Array). a.geometry.k + a.geometry.p) array

  -- an index has a carrier where a drive has a zone that carries it
  carrier_where : (index : ℕ) → 0 ≤ index → index < 0 + (s.array.geometry.k + s.array.geometry.p) → is_some (carrier_of s.array view.held (places_of view) s.set index) ≡ is_carried_on t s.set view.drives index
  carrier_where index from below = at (carrier_of s.array view.held (places_of view) s.set index) (is_carried_on t s.set view.drives index) refl refl
    where
      within : index < table.fragments_of t
      within = let n = count_is in omega (arith, below, n)

      at : (o : Option Carrier) (b : Bool) → carrier_of s.array view.held (places_of view) s.set index ≡ o → is_carried_on t s.set view.drives index ≡ b → is_some o ≡ b
      at (Some c) true is there = refl
      at None false is there = refl
      at None true is there =
          let it = carried_there t s.set index view.drives there in
          let zone = together.set_zones it.0 it.1 s.set index it.3 in
          let same = zones in
          let from_ = zone.from in
          let to_ = zone.to in
          let some = first.found it.0 it.1 index (record { drive = it.2; from = zone.from; to = omega (arith, same, to_); below = within; use_is = it.3 }) (heads it.0 it.1 index it.2 within it.3) in
          sym (ap is_some is) ∙ some
      at (Some c) false is there =
          let cut = found_has (carrier_of s.array view.held (places_of view) s.set) (own_index s.array view s.set) (IsCut s t firm view) 0 (fragments_of s.array) index c first.cut from below is in
          let same = own_index s.array view s.set index c is in
          let carried = there_carried t s.set index view.drives c.place.device c.place.zone cut.drive (cut.use_is ∙ ap (uses.Carrier s.set) same) in
          absurd (both_ways (is_carried_on t s.set view.drives index) there carried)

  pub firm_heads_are_carriers : (read_in view s).carriers ≡ carried_on t s.set view.drives
  firm_heads_are_carriers =
      found_count (carrier_of s.array view.held (places_of view) s.set) (own_index s.array view s.set) (is_carried_on t s.set view.drives) 0 (s.array.geometry.k + s.array.geometry.p) carrier_where
      ∙ ap (λ n. length (filter (is_carried_on t s.set view.drives) (range_with_len 0 n))) count_is
