-- Reading a zone's records.
use Rattle.std.proofs.Common.{◌≡◌, ℕ, ◌+◌, ◌-◌, ◌*◌, ◌^◌, ◌<◌, ◌≤◌, List, [], ◌∷◌, ◌++◌, length, map, Option, Some, None, IfSome, refl, sym, ap, ◌∙◌, arith, append_assoc, append-nil}
use Rattle.std.specs.Prelude.{option_map, min}
use Rattle.std.proofs.lemmas.List.{map-append}
use Rattle.zone_bay.specs.Bay.{BayState}
use Rattle.marker_format.specs.declared.marker.Marker.{Marker}
use Rattle.marker_format.specs.Zone.{Array, blocks_of, end_from, placed_from, placed_records, whole_records, has_foot, with_more}
use Rattle.marker_format.proofs.ZoneLaws.{placed-stand}
use Rattle.zone_parse.specs.declared.zone_reader.ZoneReader.{ZoneReader}
use Rattle.zone_parse.specs.ZoneReader.{held_at, records_left, foot_left, CanRead, bytes_in, SameZone, Gives}
use Rattle.array_model.specs.Drives.{Place, first_of}
use Rattle.array_scan.specs.Calls.{OnlyRead}
use Rattle.array_scan.specs.declared.set_read.RecordAt.{RecordAt}
use Rattle.array_scan.specs.SetRead.{placed_of}
use Rattle.array_scan.specs.Zones.{IsAt, IsFresh}
use Rattle.array_scan.proofs.Calls.{told_at, told_from, read_then}

-- the first record that a fresh reader gives is the head
pub head_given : (array : Array) (old new : ZoneReader) (found : Option Marker) (bytes : List ℕ) → IsFresh array old → Gives old new found bytes → found ≡ first_of (whole_records array bytes)
head_given array old new found bytes fresh gives = sym (ap first_of (sym (fresh.records bytes) ∙ gives.records) ∙ first_found found)
  where
    first_found : (o : Option Marker) → first_of (with_more o (λ _. records_left new bytes)) ≡ o
    first_found None = refl
    first_found (Some m) = refl

-- ---- records with their blocks

pub end_from-append : (block : ℕ) (some more : List Marker) → end_from block (some ++ more) ≡ end_from (end_from block some) more
end_from-append block [] more = refl
end_from-append block (m ∷ some) more = end_from-append (block + blocks_of m) some more

pub placed_from-append : (block : ℕ) (some more : List Marker) → placed_from block (some ++ more) ≡ placed_from block some ++ placed_from (end_from block some) more
placed_from-append block [] more = refl
placed_from-append block (m ∷ some) more = ap (λ l. record { marker = m; block = block } ∷ l) (placed_from-append (block + blocks_of m) some more)

pub markers_of : List RecordAt → List Marker
markers_of records = map (λ (r : RecordAt). r.marker) records

-- what was read so far of the zone's bytes
pub record Gave (array : Array) (bytes : List ℕ) (reader : ZoneReader) (records : List RecordAt) (block : ℕ) : Type 0 where
  pub ms : List Marker
  pub placed : map placed_of records ≡ placed_from 0 ms
  pub all : whole_records array bytes ≡ ms ++ records_left reader bytes
  pub foot : foot_left reader bytes ≡ has_foot array bytes
  pub block_is : block ≡ end_from 0 ms

pub gave_none : (array : Array) (bytes : List ℕ) (reader : ZoneReader) → IsFresh array reader → Gave array bytes reader [] 0
gave_none array bytes reader fresh = record { ms = []; placed = refl; all = sym (fresh.records bytes); foot = fresh.foot bytes; block_is = refl }

-- A record stands within the zone.
within : (array : Array) (bytes : List ℕ) (some rest : List Marker) (m : Marker) → whole_records array bytes ≡ some ++ m ∷ rest → 512 * (end_from 0 some + blocks_of m) ≤ length bytes
within array bytes some rest m all =
    (placed-stand array bytes (placed_from 0 some) (placed_from (end_from 0 some + blocks_of m) rest) (record { marker = m; block = end_from 0 some }) (ap (placed_from 0) all ∙ placed_from-append 0 some (m ∷ rest))).within

pub gave_more : (array : Array) (bytes : List ℕ) (old new : ZoneReader) (records : List RecordAt) (block behind : ℕ) (m : Marker) → length bytes < 2 ^ 32 → behind ≡ min (block + blocks_of m) (2 ^ 32 - 1)
    → Gave array bytes old records block → Gives old new (Some m) bytes → Gave array bytes new (records ++ record { marker = m; block = block } ∷ []) behind
gave_more array bytes old new records block behind m short sum gave gives =
    let all : whole_records array bytes ≡ gave.ms ++ m ∷ records_left new bytes = gave.all ∙ ap (λ l. gave.ms ++ l) gives.records in
    let fits = within array bytes gave.ms (records_left new bytes) m all in
    let own = gave.block_is in
    record {
      ms = gave.ms ++ m ∷ [];
      placed = map-append placed_of records (record { marker = m; block = block } ∷ []) ∙ ap (λ l. l ++ record { marker = m; block = block } ∷ []) gave.placed
          ∙ ap (λ (b : ℕ). placed_from 0 gave.ms ++ record { marker = m; block = b } ∷ []) own ∙ sym (placed_from-append 0 gave.ms (m ∷ []));
      all = all ∙ sym (append_assoc gave.ms (m ∷ []) (records_left new bytes));
      foot = gives.foot ∙ gave.foot;
      block_is = sum ∙ (let e : min (block + blocks_of m) (2 ^ 32 - 1) ≡ end_from 0 gave.ms + blocks_of m = omega arith in e) ∙ sym (end_from-append 0 gave.ms (m ∷ []));
    }

pub gave_all : (array : Array) (bytes : List ℕ) (old new : ZoneReader) (records : List RecordAt) (block : ℕ) → Gave array bytes old records block → Gives old new None bytes → map placed_of records ≡ placed_records array bytes
gave_all array bytes old new records block gave gives =
    gave.placed ∙ ap (placed_from 0) (sym (gave.all ∙ ap (λ l. gave.ms ++ l) gives.records ∙ append-nil gave.ms))

-- ---- a walk over a zone

-- what is known of a walk over the zone so far
pub record Walked (array : Array) (place : Place) (before now : BayState) (reader : ZoneReader) (records : List RecordAt) (block : ℕ) : Type 0 where
  pub at : IsAt reader now place
  pub read : OnlyRead before now None
  pub gave : IfSome before.contents (λ held. (length (held place.device place.zone) < 2 ^ 32) × Gave array (held place.device place.zone) reader records block)

at_after : (reader reader' : ZoneReader) (mid after : BayState) (place : Place) → IsAt reader mid place → OnlyRead mid after None → CanRead reader' after → SameZone reader reader' → IsAt reader' after place
at_after reader reader' mid after place at read can same = record {
  can = can;
  device = ap (λ s. s.device) same ∙ at.device;
  bytes = ap (λ s. held_at s after) same ∙ ap (option_map (λ held. held reader.source.device reader.source.zone)) read.only.contents ∙ at.bytes ∙ ap (option_map (λ held. held place.device place.zone)) (sym read.only.contents);
}

pub walked_more : (array : Array) (place : Place) (before mid after : BayState) (reader reader' : ZoneReader) (records : List RecordAt) (block behind : ℕ) (m : Marker)
    → Walked array place before mid reader records block → OnlyRead mid after None → CanRead reader' after → SameZone reader reader' → IfSome (bytes_in reader mid) (λ bytes. Gives reader reader' (Some m) bytes) → behind ≡ min (block + blocks_of m) (2 ^ 32 - 1)
    → Walked array place before after reader' (records ++ record { marker = m; block = block } ∷ []) behind
walked_more array place before mid after reader reader' records block behind m walked read can same gives sum = record {
  at = at_after reader reader' mid after place walked.at read can same;
  read = read_then before mid after None walked.read read;
  gave = told_from before.contents _ (λ held is.
      let so_far = told_at before.contents _ held is walked.gave in
      let mid_is : mid.contents ≡ Some held = walked.read.only.contents ∙ is in
      let bytes_is : bytes_in reader mid ≡ Some (held place.device place.zone) = walked.at.bytes ∙ ap (option_map (λ h. h place.device place.zone)) mid_is in
      (so_far.0, gave_more array (held place.device place.zone) reader reader' records block behind m so_far.0 sum so_far.1 (told_at (bytes_in reader mid) _ (held place.device place.zone) bytes_is gives)));
}
