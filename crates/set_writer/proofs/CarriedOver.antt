-- What is so of a set's carriers is so where they hold the same.
use Rattle.std.proofs.Common.{◌≡◌, ℕ, ◌+◌, List, [], ◌∷◌, Contains, sym, ap, subst, ◌∙◌}
use Rattle.std.specs.List.{AllByRecursion}
use Rattle.zone_bay.specs.Contents.{Contents}
use Rattle.marker_format.specs.Zone.{Array, whole_records, end_from}
use Rattle.marker_format.specs.Fragment.{fragment_at}
use Rattle.marker_format.specs.declared.marker.Marker.{Marker}
use Rattle.array_model.specs.Payload.{fragment_of}
use Rattle.array_model.specs.Drives.{Place, bytes_at, records_at, head_at, is_of}
use Rattle.array_model.specs.Reading.{Carrier, carriers_of, IsPrefixAlike, common_of, agreed, fragment_on}
use Rattle.array_model.specs.Kept.{HaveOneList, HaveOnePayload, HavePayloads}
use Rattle.array_model.proofs.SameZones.{all-map, map-same}
use Rattle.set_table.specs.Table.{array_of}
use Rattle.set_writer.specs.ImageLaws.{places_of, cut_back}
use Rattle.set_writer.specs.ReadLaws.{CarriesOver, OthersCarryOver}

-- what follows of two things that are so of each
all_both : {A : Type 0} (P Q R : A → Type 0) (xs : List A) → ((x : A) → P x → Q x → R x) → AllByRecursion P xs → AllByRecursion Q xs → AllByRecursion R xs
all_both P Q R [] more one other = tt
all_both P Q R (x ∷ xs) more one other = (more x one.0 other.0, all_both P Q R xs more one.1 other.1)

module _ (array : Array) (places : List Place) (set' : ℕ) (held then : Contents) where
  -- these carriers hold the same in both
  abbrev HoldSame : List Carrier → Type 0
  HoldSame carriers = AllByRecursion (λ (c : Carrier). bytes_at then c.place ≡ bytes_at held c.place) carriers

  agreed_same : (carriers : List Carrier) → HoldSame carriers → agreed array then carriers ≡ agreed array held carriers
  agreed_same carriers same = ap common_of (map-same (λ (c : Carrier). records_at array then c.place) (λ c. records_at array held c.place) carriers (all-map (λ (c : Carrier). bytes_at then c.place ≡ bytes_at held c.place) (λ c. records_at array then c.place ≡ records_at array held c.place) carriers (λ c is. ap (whole_records array) is) same))

  list_over : (carriers : List Carrier) → HoldSame carriers → HaveOneList array held carriers → HaveOneList array then carriers
  list_over carriers same list = (
    list.0,
    all_both (λ (c : Carrier). bytes_at then c.place ≡ bytes_at held c.place) (λ c. IsPrefixAlike (records_at array held c.place) list.0) (λ c. IsPrefixAlike (records_at array then c.place) list.0) carriers
        (λ c is prefix. subst (λ (bytes : List ℕ). IsPrefixAlike (whole_records array bytes) list.0) (sym is) prefix)
        same list.1,
  )

  payload_over : (carriers : List Carrier) (block : ℕ) (m : Marker) → HoldSame carriers → HaveOnePayload array held carriers block m → HaveOnePayload array then carriers block m
  payload_over carriers block m same one = record {
    payload = one.payload;
    bytes = one.bytes;
    fragments = one.fragments;
    are = one.are;
    each = all_both (λ (c : Carrier). bytes_at then c.place ≡ bytes_at held c.place) (λ c. (fragment_on held block m c).bytes ≡ fragment_of one.fragments c.index) (λ c. (fragment_on then block m c).bytes ≡ fragment_of one.fragments c.index) carriers
        (λ c is own. ap (λ (bytes : List ℕ). fragment_at bytes (block + 1) m.fragment) is ∙ own)
        same one.each;
  }

  payloads_over : (carriers : List Carrier) (count : ℕ) → HoldSame carriers → HavePayloads array held carriers count → HavePayloads array then carriers count
  payloads_over carriers count same have before after m is few = payload_over carriers (end_from 0 before) m same (have before after m (sym (agreed_same carriers same) ∙ is) few)

  pub carries_over : carriers_of array then places set' ≡ carriers_of array held places set' → HoldSame (carriers_of array held places set')
      → ((index : ℕ) (place : Place) → Contains places place → is_of set' index (head_at array then place) ≡ is_of set' index (head_at array held place)) → CarriesOver array places set' held then
  carries_over carriers same heads = record {
    list = λ list. subst (HaveOneList array then) (sym carriers) (list_over (carriers_of array held places set') same list);
    payloads = λ count have. subst (λ (cs : List Carrier). HavePayloads array then cs count) (sym carriers) (payloads_over (carriers_of array held places set') count same have);
    alone = λ alone index one other has_one has_other is_one is_other. alone index one other has_one has_other (sym (heads index one has_one) ∙ is_one) (sym (heads index other has_other) ∙ is_other);
  }

pub others_carry_over : OthersCarryOver
others_carry_over t set' held firm view say other differ =
    carries_over (array_of t) (places_of view) other (cut_back held view.held) view.held (say.carriers other differ) (say.bytes other differ) (λ index place there. say.heads other index place differ there)
