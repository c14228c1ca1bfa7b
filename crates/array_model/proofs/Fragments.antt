-- The fragments that carriers hold give the payload that they are of.
use Rattle.std.proofs.Common.{◌≡◌, ℕ, zero, suc, ◌+◌, ◌<◌, false, List, [], ◌∷◌, map, take, nat_eq, Option, Some, None, refl, sym, ap, ◌∙◌, subst, arith}
use Rattle.std.specs.List.{AllByRecursion, IsDistinct, filter_map, cons_option, range_with_len}
use Rattle.std.proofs.lemmas.Bool.{ne_eqb}
use Rattle.std.proofs.lemmas.List.{length-map, length-take}
use Rattle.zone_bay.specs.Contents.{Contents}
use Rattle.marker_format.specs.declared.marker.Marker.{Marker}
use Rattle.marker_format.specs.Zone.{Array}
use Rattle.array_model.specs.Payload.{Fragment, indexes_of, payload_from, fragment_of}
use Rattle.array_model.specs.Drives.{Place}
use Rattle.array_model.specs.Reading.{Carrier, carrier_of, fragments_of, carriers_of, fragment_on}
use Rattle.array_model.specs.ReadingLaws.{CarriersGivePayload}
use Rattle.array_model.proofs.Carriers.{carries_some}
use Rattle.array_model.proofs.Lowest.{RiseFrom, rise_from_lower}
use Rattle.array_model.proofs.Payloads.{payload_is_read}

-- numbers that rise are distinct
others_above : (x low : ℕ) (xs : List ℕ) → x < low → RiseFrom low xs → AllByRecursion (λ y. nat_eq x y ≡ false) xs
others_above x low [] above rise = tt
others_above x low (y ∷ xs) above rise = let from = rise.0 in (ne_eqb x y (λ e. omega arith), others_above x (y + 1) xs (omega arith) rise.1)

distinct : (low : ℕ) (xs : List ℕ) → RiseFrom low xs → IsDistinct nat_eq xs
unfolding IsDistinct
distinct low [] rise = tt
distinct low (x ∷ xs) rise = (others_above x (x + 1) xs (omega arith) rise.1, distinct (x + 1) xs rise.1)

module _ (array : Array) (held : Contents) (places : List Place) (set : ℕ) where
  index_is : (index : ℕ) (c : Carrier) → carrier_of array held places set index ≡ Some c → c.index ≡ index
  index_is index c e = (carries_some index _ c e).1

  -- The carriers' indexes rise, and each is that of a fragment.
  indexes_rise : (first count : ℕ) → RiseFrom first (map (λ (c : Carrier). c.index) (filter_map (carrier_of array held places set) (range_with_len first count)))
  indexes_rise first zero = tt
  indexes_rise first (suc count) = at_one (carrier_of array held places set first) refl (indexes_rise (first + 1) count)
    where
      rest : List Carrier
      rest = filter_map (carrier_of array held places set) (range_with_len (first + 1) count)

      at_one : (o : Option Carrier) → carrier_of array held places set first ≡ o → RiseFrom (first + 1) (map (λ (c : Carrier). c.index) rest) → RiseFrom first (map (λ (c : Carrier). c.index) (cons_option o rest))
      at_one None is above = rise_from_lower first (first + 1) (map (λ (c : Carrier). c.index) rest) (omega arith) above
      at_one (Some c) is above = let same = index_is first c is in (omega arith, rise_from_lower (c.index + 1) (first + 1) (map (λ (c : Carrier). c.index) rest) (omega arith) above)

  indexes_below : (first count last : ℕ) → first + count ≡ last → AllByRecursion (λ (c : Carrier). c.index < last) (filter_map (carrier_of array held places set) (range_with_len first count))
  indexes_below first zero last is = tt
  indexes_below first (suc count) last is = at_one (carrier_of array held places set first) refl (indexes_below (first + 1) count last (omega (arith, is)))
    where
      rest : List Carrier
      rest = filter_map (carrier_of array held places set) (range_with_len (first + 1) count)

      at_one : (o : Option Carrier) → carrier_of array held places set first ≡ o → AllByRecursion (λ (c : Carrier). c.index < last) rest → AllByRecursion (λ (c : Carrier). c.index < last) (cons_option o rest)
      at_one None e below = below
      at_one (Some c) e below = let same = index_is first c e in (omega (arith, is), below)

-- the first of them rise too
take_rises : (low k : ℕ) (cs : List Carrier) → RiseFrom low (map (λ (c : Carrier). c.index) cs) → RiseFrom low (map (λ (c : Carrier). c.index) (take k cs))
take_rises low zero cs rise = tt
take_rises low (suc k) [] rise = tt
take_rises low (suc k) (c ∷ cs) rise = (rise.0, take_rises (c.index + 1) k cs rise.1)

map_twice : (held : Contents) (block : ℕ) (m : Marker) (cs : List Carrier) → indexes_of (map (fragment_on held block m) cs) ≡ map (λ (c : Carrier). c.index) cs
map_twice held block m [] = refl
map_twice held block m (c ∷ cs) = ap (λ l. c.index ∷ l) (map_twice held block m cs)

each_given : (held : Contents) (block n k : ℕ) (m : Marker) (fragments : List (List ℕ)) (cs : List Carrier) → AllByRecursion (λ (c : Carrier). c.index < n) cs → AllByRecursion (λ (c : Carrier). (fragment_on held block m c).bytes ≡ fragment_of fragments c.index) cs
    → AllByRecursion (λ (f : Fragment). (f.index < n) × (f.bytes ≡ fragment_of fragments f.index)) (map (fragment_on held block m) (take k cs))
each_given held block n zero m fragments cs below each = tt
each_given held block n (suc k) m fragments [] below each = tt
each_given held block n (suc k) m fragments (c ∷ cs) below each = ((below.0, each.0), each_given held block n k m fragments cs below.1 each.1)

pub carriers_give_payload : CarriersGivePayload
carriers_give_payload array held places set block m one enough fits =
    let k = array.geometry.k in
    let n = fragments_of array in
    let cs = carriers_of array held places set in
    let given = map (fragment_on held block m) (take k cs) in
    ap (payload_from k given) (sym one.bytes)
    ∙ payload_is_read k n one.payload one.fragments given (omega arith) fits one.are record {
      count = length-map (take k cs) (fragment_on held block m) ∙ (let l = length-take k cs in omega arith);
      distinct = subst (IsDistinct nat_eq) (sym (map_twice held block m (take k cs))) (distinct 0 (map (λ (c : Carrier). c.index) (take k cs)) (take_rises 0 k cs (indexes_rise array held places set 0 n)));
      each = each_given held block n k m one.fragments cs (indexes_below array held places set 0 n n (omega arith)) one.each;
    }
