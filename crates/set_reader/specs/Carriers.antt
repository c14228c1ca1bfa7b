-- The live carriers of a set in a table.
use Rattle.std.specs.Prelude.{◌≡◌, ℕ, ◌<◌, ◌≤◌, List, length, map, filter, ⊤}
use Rattle.std.specs.List.{AllByRecursion, range_with_len}
use Rattle.set_table.specs.declared.members.Member.{Member}
use Rattle.set_table.specs.Table.{Table, IsCarrier, fragments_of, is_carried, missing_of}
use Rattle.array_model.specs.Reading.{Carrier}
use Rattle.set_reader.specs.declared.refusal.ReadRefusal.{ReadRefusal}
use Rattle.set_reader.specs.declared.refusal.ReadRefusal.TheVariants.{Memory, TooFewFragments}

-- the zone of a member, which carries its index
abbrev pub carrier_by : Member → Carrier
carrier_by m = record { index = m.index; place = record { device = m.device; zone = m.zone } }

abbrev pub carriers_by : List Member → List Carrier
carriers_by members = map carrier_by members

-- The zone is that of a live drive, and carries the index of the set, which is that of a fragment.
pub record IsOneOf (t : Table) (set : ℕ) (c : Carrier) : Type 0 where
  pub below : c.index < fragments_of t
  pub carrier : IsCarrier t set c.index c.place.device c.place.zone

-- These are the live carriers of the set: of each index that a live drive carries, by rising index.
pub record AreCarriers (t : Table) (set : ℕ) (cs : List Carrier) : Type 0 where
  pub indexes : map (λ c. c.index) cs ≡ filter (is_carried t set) (range_with_len 0 (fragments_of t))
  pub each : AllByRecursion (IsOneOf t set) cs

-- The set has as many live carriers as source fragments, and misses no more of its indexes than it has parity.
pub record HasEnough (t : Table) (set : ℕ) : Type 0 where
  pub carriers : List Carrier
  pub are : AreCarriers t set carriers
  pub enough : t.geometry.k ≤ length carriers
  pub few : missing_of t set ≤ t.geometry.p

-- It misses more than it has parity, and each that it misses has no live carrier. Want of memory is never tied to anything.
abbrev pub Refuses : Table → ℕ → ReadRefusal → Type 0
Refuses t set Memory = ⊤
Refuses t set (TooFewFragments s missing) = (s ≡ set) × (missing ≡ missing_of t set) × (t.geometry.p < missing)
