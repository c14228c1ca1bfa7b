-- The carriers of lowest index of a set.
use Rattle.std.proofs.Common.{◌≡◌, ℕ, zero, suc, ◌+◌, ◌*◌, ◌<◌, ◌≤◌, Bool, true, false, ◌&&◌, cond, List, [], ◌∷◌, length, map, filter, take, refl, sym, ap, ap₂, ◌∙◌, subst, arith}
use Rattle.std.specs.Prelude.{nat_le, nat_lt}
use Rattle.std.specs.List.{AllByRecursion, Contains, range_with_len}
use Rattle.std.proofs.lemmas.Bool.{and_parts, le-leb, lt-ltb}
use Rattle.std.proofs.lemmas.List.{length-map, length-take-le, take-map}
use Rattle.zone_bay.specs.Contents.{Contents, Shape, IsOfBay}
use Rattle.marker_format.specs.declared.marker.Marker.{Marker}
use Rattle.rs_code.specs.Fragments.{AreIndexes}
use Rattle.rs_code.proofs.Indexes.{rises, rising_indexes}
use Rattle.array_model.specs.Reading as model
use Rattle.array_model.specs.Reading.{Carrier}
use Rattle.set_table.specs.declared.members.Member.{Member}
use Rattle.set_table.specs.Table.{Table, HangsTogether, is_live, is_carried, fragments_of}
use Rattle.smore_base.specs.declared.place.Place.{Place}
use Rattle.set_reader.specs.Carriers.{carrier_by, carriers_by, IsOneOf, AreCarriers}
use Rattle.set_reader.specs.Record.{StandsAt, BeginsWith}
use Rattle.set_reader.specs.Rows.{IsInBay, HasBlocks, given_by, indexes_of, devices_of, sources_from}

-- what each carrier has, the first ones have
pub first_all : (P : Member → Type 0) (t : Table) (set k : ℕ) (members : List Member) → ((m : Member) → IsOneOf t set (carrier_by m) → P m) → AllByRecursion (IsOneOf t set) (carriers_by members) → AllByRecursion P (take k members)
first_all P t set zero members each all = tt
first_all P t set (suc k) [] each all = tt
first_all P t set (suc k) (m ∷ members) each all = (each m all.0, first_all P t set k members each all.1)

pub in_bay : (t : Table) (shape : Shape) (set : ℕ) (m : Member) → HangsTogether t → IsOfBay t.geometry shape → IsOneOf t set (carrier_by m) → IsInBay shape m
in_bay t shape set m together of_bay is =
    let zone = together.set_zones m.device m.zone set m.index is.carrier.carries in
    let drive = zone.drive in
    let to = zone.to in
    let devices = of_bay.devices in
    let zones = of_bay.zones in
    record { device = omega (arith, drive, devices); zone = omega (arith, to, zones) }

-- the blocks of the record that stands on it
pub has_blocks : (t : Table) (set block f : ℕ) (marker : Marker) (held : Contents) (m : Member) → StandsAt t set block marker held → marker.fragment ≡ f → IsOneOf t set (carrier_by m) → HasBlocks held block f m
has_blocks t set block f marker held m stands long is =
    let has = stands m.index m.device m.zone is.below is.carrier in
    let within = has.whole.within in
    let same : has.own.fragment ≡ f = ap (λ (x : Marker). x.fragment) has.same ∙ long in
    subst (λ (n : ℕ). 512 * (block + 1 + Rattle.marker_format.specs.Fragment.blocks_of n) ≤ length (held m.device m.zone)) same (omega (arith, within))

-- ---- their indexes

both : (a b : Bool) → a ≡ true → b ≡ true → (a && b) ≡ true
both true b first second = second
both false b first second = first

rises_next : (b : Bool) (low from n : ℕ) (rest : List ℕ) → low ≤ from → from < n → rises (suc from) n rest ≡ true → rises low n rest ≡ true → rises low n (cond b (from ∷ rest) rest) ≡ true
rises_next true low from n rest above below behind there = both (nat_le low from) (nat_lt from n && rises (suc from) n rest) (le-leb low from above) (both (nat_lt from n) (rises (suc from) n rest) (lt-ltb from n below) behind)
rises_next false low from n rest above below behind there = there

rises_on : (test : ℕ → Bool) (low from m n : ℕ) → low ≤ from → from + m ≤ n → rises low n (filter test (range_with_len from m)) ≡ true
rises_on test low from zero n above within = refl
rises_on test low from (suc m) n above within =
    rises_next (test from) low from n (filter test (range_with_len (from + 1) m)) above (omega (arith, within))
    (rises_on test (suc from) (from + 1) m n (omega arith) (omega (arith, within)))
    (rises_on test low (from + 1) m n (omega (arith, above)) (omega (arith, within)))

rises_first : (k low n : ℕ) (xs : List ℕ) → rises low n xs ≡ true → rises low n (take k xs) ≡ true
rises_first zero low n xs rise = refl
rises_first (suc k) low n [] rise = refl
rises_first (suc k) low n (x ∷ xs) rise =
    let parts = and_parts (nat_le low x) (nat_lt x n && rises (suc x) n xs) rise in
    let more = and_parts (nat_lt x n) (rises (suc x) n xs) parts.1 in
    both (nat_le low x) (nat_lt x n && rises (suc x) n (take k xs)) parts.0 (both (nat_lt x n) (rises (suc x) n (take k xs)) more.0 (rises_first k (suc x) n xs more.1))

own_indexes : (members : List Member) → map (λ (c : Carrier). c.index) (carriers_by members) ≡ indexes_of members
own_indexes [] = refl
own_indexes (m ∷ members) = ap (λ (l : List ℕ). m.index ∷ l) (own_indexes members)

pub first_indexes : (t : Table) (set k : ℕ) (members : List Member) → AreCarriers t set (carriers_by members) → k ≤ length members → AreIndexes k (fragments_of t) (indexes_of (take k members))
first_indexes t set k members are enough =
    let n = fragments_of t in
    let all : indexes_of members ≡ filter (is_carried t set) (range_with_len 0 n) = sym (own_indexes members) ∙ are.indexes in
    let rise = rises_on (is_carried t set) 0 0 n n (omega arith) (omega arith) in
    let first : take k (indexes_of members) ≡ indexes_of (take k members) = take-map (λ (m : Member). m.index) k members in
    rising_indexes k n (indexes_of (take k members)) (length-map (take k members) (λ (m : Member). m.index) ∙ length-take-le k members enough)
    (subst (λ (l : List ℕ). rises 0 n l ≡ true) first (rises_first k 0 n (indexes_of members) (subst (λ (l : List ℕ). rises 0 n l ≡ true) (sym all) rise)))

-- ---- their devices

no_member : Member
no_member = record { index = 0; device = 0; zone = 0 }

pub devices_are_live : (t : Table) (set k d : ℕ) (members : List Member) → AllByRecursion (IsOneOf t set) (carriers_by members) → Contains (devices_of (take k members)) d → is_live t d ≡ true
devices_are_live t set k d members each has = at (take k members) (first_all (λ m. is_live t m.device ≡ true) t set k members (λ m is. is.carrier.live) each) has
  where
    at : (members : List Member) → AllByRecursion (λ m. is_live t m.device ≡ true) members → Contains (devices_of members) d → is_live t d ≡ true
    at [] all has = let below = has.1 in absurd (omega (arith, below))
    at (m ∷ members) all (zero, below, is) = ap (is_live t) (sym is) ∙ all.0
    at (m ∷ members) all (suc i, below, is) = at members all.1 (i, omega (arith, below), is)

-- ---- their fragments

given_is : (held : Contents) (block k : ℕ) (m : Marker) (members : List Member) → map (model.fragment_on held block m) (take k (carriers_by members)) ≡ given_by held block m.fragment (take k members)
given_is held block zero m members = refl
given_is held block (suc k) m [] = refl
given_is held block (suc k) m (x ∷ members) = ap (λ l. model.fragment_on held block m (carrier_by x) ∷ l) (given_is held block k m members)

pub begins : (t : Table) (place : Place) (held : Contents) (m : Marker) (members : List Member) (f k : ℕ) (bytes : List ℕ) → AreCarriers t place.set (carriers_by members) → t.geometry.k ≤ length members → m.fragment ≡ f → k ≡ t.geometry.k
    → take (k * f) bytes ≡ sources_from k f (given_by held place.block f (take k members)) → BeginsWith t place held m bytes
begins t place held m members f k bytes are enough long same sources =
    let k' = t.geometry.k in
    record {
      carriers = carriers_by members;
      are = are;
      enough = omega (arith, enough, length-map members carrier_by);
      sources =
          ap₂ (λ (i j : ℕ). take (i * j) bytes) (sym same) long
          ∙ sources
          ∙ ap₂ (λ (i j : ℕ). sources_from i j (given_by held place.block j (take i members))) same (sym long)
          ∙ sym (ap (sources_from k' m.fragment) (given_is held place.block k' m members));
    }
