-- The payload of a record, from its source fragments.
use Rattle.std.proofs.Common.{◌≡◌, ℕ, ◌+◌, ◌*◌, ◌≤◌, min, inl, inr, List, [], ◌++◌, length, take, drop, refl, sym, ap, ◌∙◌, arith, append-nil}
use Rattle.std.proofs.Math.Seq.{take-add}
use Rattle.std.proofs.lemmas.Bool.{cases_lt}
use Rattle.std.proofs.lemmas.List.{take-take, take_all}
use Rattle.std.proofs.lemmas.Grind.{div_ceil_times}
use Rattle.zone_bay.specs.Contents.{Contents}
use Rattle.smore_base.specs.declared.place.Place.{Place}
use Rattle.marker_format.specs.declared.marker.Marker.{Marker}
use Rattle.array_model.specs.Payload.{Fragment, payload_from}
use Rattle.set_table.specs.Table.{Table}
use Rattle.set_reader.specs.Carriers.{HasEnough}
use Rattle.set_reader.specs.Record.{IsCut, IsPayload, BeginsWith}
use Rattle.set_reader.specs.Rows.{sources_from}

none_from : (k : ℕ) (given : List Fragment) → [] ≡ payload_from k given 0
unfolding payload_from
none_from k given = refl

-- a payload of no bytes
pub no_payload : (t : Table) (place : Place) (held : Contents) (m : Marker) (old : List ℕ) → HasEnough t place.set → m.payload ≡ 0 → (bytes : List ℕ) × IsPayload t place held m bytes × (old ≡ old ++ bytes)
no_payload t place held m old enough none = (
  [],
  record {
    carriers = enough.carriers;
    are = enough.are;
    enough = enough.enough;
    payload = none_from t.geometry.k _ ∙ ap (payload_from t.geometry.k _) (sym none);
  },
  sym (append-nil old),
)

-- the source fragments begin with it
first_of_sources : (k : ℕ) (given : List Fragment) (m : Marker) (bytes : List ℕ) → IsCut k m → take (k * m.fragment) bytes ≡ sources_from k m.fragment given → take m.payload bytes ≡ payload_from k given m.payload
unfolding payload_from
first_of_sources k given m bytes cut sources =
    let holds = div_ceil_times m.payload k cut.some in
    let long = cut.fragment in
    let within : m.payload ≤ k * m.fragment = grind (arith, holds.0, long) in
    sym (take-take m.payload (k * m.fragment) bytes within)
    ∙ ap (take m.payload) sources
    ∙ ap (λ n. take m.payload (sources_from k n given)) long

-- no list is longer than the most
no_more : (n most : ℕ) (xs : List ℕ) → length xs ≤ most → take (min n most) xs ≡ take n xs
no_more n most xs short = elim (cases_lt n most) [
  | inl within ↦ let e : min n most ≡ n = omega (arith, within) in ap (λ j. take j xs) e
  | inr past ↦ take_all (min n most) xs (omega (arith, short, past)) ∙ sym (take_all n xs (omega (arith, short, past)))
]

pub payload_read : (t : Table) (place : Place) (held : Contents) (m : Marker) (out old new : List ℕ) (from end payload most : ℕ) → BeginsWith t place held m (drop from out) → IsCut t.geometry.k m
    → payload ≡ m.payload → take from out ≡ old → length out ≤ most → end ≡ min (from + payload) most → new ≡ take end out → (bytes : List ℕ) × IsPayload t place held m bytes × (new ≡ old ++ bytes)
payload_read t place held m out old new from end payload most begins cut own kept short ends is = (
  take m.payload (drop from out),
  record {
    carriers = begins.carriers;
    are = begins.are;
    enough = begins.enough;
    payload = first_of_sources t.geometry.k _ m (drop from out) cut begins.sources;
  },
  is ∙ ap (λ n. take n out) (ends ∙ ap (λ n. min (from + n) most) own) ∙ no_more (from + m.payload) most out short ∙ take-add from m.payload out ∙ ap (λ (l : List ℕ). l ++ take m.payload (drop from out)) kept,
)
