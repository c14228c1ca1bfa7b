-- Any k carriers give the records that were written.
use Rattle.std.proofs.Common.{◌≡◌, ℕ, zero, suc, ◌<◌, ◌≤◌, false, List, [], ◌∷◌, ◌++◌, map, take, nat_eq, refl, sym, ap, ap₂, ◌∙◌, subst, arith, append_assoc}
use Rattle.std.specs.List.{AllByRecursion, IsDistinct}
use Rattle.std.proofs.lemmas.List.{length-map, length-take}
use Rattle.std.proofs.lemmas.Map.Keys.{IsDistinct-head, IsDistinct-tail, IsDistinct-cons}
use Rattle.zone_bay.specs.Contents.{Contents}
use Rattle.marker_format.specs.declared.marker.Marker.{Marker}
use Rattle.marker_format.specs.Kind.{kind_of}
use Rattle.marker_format.specs.Zone.{Array}
use Rattle.array_model.specs.Payload.{Fragment, indexes_of, fragment_of, payload_from}
use Rattle.array_model.specs.Record.{Record}
use Rattle.array_model.specs.Reading.{Carrier, fragments_of, fragment_on, payload_of, record_by, records_from}
use Rattle.array_model.specs.Kept.{HaveOnePayload}
use Rattle.array_model.proofs.Payloads.{payload_is_read}
use Rattle.array_model.proofs.SameZones.{all-map, all-take}
use Rattle.array_model.proofs.SettledRecords.{same_record_by}
use Rattle.set_writer.specs.Entry.{Entry, at_index}
use Rattle.set_writer.specs.Writer.{blocks_in}
use Rattle.set_writer.specs.Laws.{markers_at}
use Rattle.set_writer.specs.PayloadLaws.{BeginsWith, HaveRecords, item_of, AreEnough, CarriersGiveRecords}
use Rattle.set_writer.proofs.WroteLaws.{blocks_in-more}
use Rattle.set_writer.proofs.ReadBack.{one_payload_of}

-- ---- k of them

take-distinct : (n : ℕ) (xs : List ℕ) → IsDistinct nat_eq xs → IsDistinct nat_eq (take n xs)
unfolding IsDistinct
take-distinct zero xs distinct = tt
take-distinct (suc n) [] distinct = tt
take-distinct (suc n) (x ∷ xs) distinct = IsDistinct-cons nat_eq x (take n xs) (all-take (λ y. nat_eq x y ≡ false) n xs (IsDistinct-head nat_eq x xs distinct)) (take-distinct n xs (IsDistinct-tail nat_eq x xs distinct))

given_indexes : (held : Contents) (block k : ℕ) (m : Marker) (cs : List Carrier) → indexes_of (map (fragment_on held block m) (take k cs)) ≡ take k (map (λ (c : Carrier). c.index) cs)
given_indexes held block zero m cs = refl
given_indexes held block (suc k) m [] = refl
given_indexes held block (suc k) m (c ∷ cs) = ap (λ (l : List ℕ). c.index ∷ l) (given_indexes held block k m cs)

-- what is known of the carriers' fragments
abbrev pub HasOne : ℕ → List (List ℕ) → Contents → ℕ → Marker → Carrier → Type 0
HasOne n fragments held block m c = (c.index < n) × ((fragment_on held block m c).bytes ≡ fragment_of fragments c.index)

given_each : (held : Contents) (block n k : ℕ) (m : Marker) (fragments : List (List ℕ)) (cs : List Carrier) → AllByRecursion (HasOne n fragments held block m) cs
    → AllByRecursion (λ (f : Fragment). (f.index < n) × (f.bytes ≡ fragment_of fragments f.index)) (map (fragment_on held block m) (take k cs))
given_each held block n zero m fragments cs each = tt
given_each held block n (suc k) m fragments [] each = tt
given_each held block n (suc k) m fragments (c ∷ cs) each = (each.0, given_each held block n k m fragments cs each.1)

both : {X : Type 0} (P Q : X → Type 0) (xs : List X) → AllByRecursion P xs → AllByRecursion Q xs → AllByRecursion (λ x. P x × Q x) xs
both P Q [] ps qs = tt
both P Q (x ∷ xs) ps qs = ((ps.0, qs.0), both P Q xs ps.1 qs.1)

-- ---- one record

payload_given : (array : Array) (held : Contents) (carriers : List Carrier) (block : ℕ) (m : Marker) → (one : HaveOnePayload array held carriers block m) → AllByRecursion (λ (c : Carrier). c.index < fragments_of array) carriers → fragments_of array ≤ 256 → AreEnough array carriers
    → payload_of array held carriers block m ≡ one.payload
payload_given array held carriers block m one below few enough =
    let k = array.geometry.k in
    let n = fragments_of array in
    let given = map (fragment_on held block m) (take array.geometry.k carriers) in
    ap (payload_from array.geometry.k given) (sym one.bytes)
    ∙ payload_is_read array.geometry.k (fragments_of array) one.payload one.fragments given (omega arith) few one.are record {
      count = length-map (take array.geometry.k carriers) (fragment_on held block m) ∙ (let l = length-take array.geometry.k carriers in let e = enough.enough in omega (arith, l, e));
      distinct = subst (IsDistinct nat_eq) (sym (given_indexes held block array.geometry.k m carriers)) (take-distinct array.geometry.k (map (λ (c : Carrier). c.index) carriers) enough.distinct);
      each = given_each held block (fragments_of array) array.geometry.k m one.fragments carriers (both (λ (c : Carrier). c.index < fragments_of array) (λ (c : Carrier). (fragment_on held block m c).bytes ≡ fragment_of one.fragments c.index) carriers below one.each);
    }

-- so is a record's that was written
pub payload_read_of : (array : Array) (before after : List Entry) (e : Entry) (held : Contents) (carriers : List Carrier) (index : ℕ) → HaveRecords array (before ++ e ∷ after) held carriers → AreEnough array carriers → payload_of array held carriers (blocks_in before) (at_index index e.marker) ≡ e.payload
payload_read_of array before after e held carriers index have enough =
    let w = have.within in
    let one = one_payload_of array before after e held carriers index have in
    let below = all-map (BeginsWith array (before ++ e ∷ after) held) (λ (c : Carrier). c.index < fragments_of array) carriers (λ c begins. begins.below) have.each in
    payload_given array held carriers (blocks_in before) (at_index index e.marker) one.0 below (let f = w.fragments in omega (arith, f)) enough ∙ one.1

-- ---- all of them

records_given : (array : Array) (before es : List Entry) (held : Contents) (carriers : List Carrier) (index : ℕ) → HaveRecords array (before ++ es) held carriers → AreEnough array carriers → records_from array held carriers (blocks_in before) (markers_at index es) ≡ map item_of es
records_given array before [] held carriers index have enough = refl
records_given array before (e ∷ es) held carriers index have enough =
    let payload = payload_read_of array before es e held carriers index have enough in
    let next : HaveRecords array ((before ++ e ∷ []) ++ es) held carriers = subst (λ (l : List Entry). HaveRecords array l held carriers) (sym (append_assoc before (e ∷ []) es)) have in
    let rest = ap (λ b. records_from array held carriers b (markers_at index es)) (sym (blocks_in-more before e)) ∙ records_given array (before ++ e ∷ []) es held carriers index next enough in
    ap₂ (λ (r : Record) (l : List Record). r ∷ l) (ap (record_by (kind_of e.marker.kind) (at_index index e.marker)) payload ∙ same_record_by (at_index index e.marker) e.marker e.payload refl) rest

pub carriers_give_records : CarriersGiveRecords
carriers_give_records array es held carriers index have enough = records_given array [] es held carriers index have enough
