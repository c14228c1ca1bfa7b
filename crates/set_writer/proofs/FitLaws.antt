-- What fits a set: a record its buffer, and the members' zones.
use Rattle.std.proofs.Common.{◌≡◌, inl, inr, ℕ, suc, ◌+◌, ◌-◌, ◌*◌, ◌/◌, ◌<◌, ◌≤◌, Bool, true, false, cond, List, ◌++◌, length, Option, Some, None, IfSome, refl, sym, ap, subst, ◌∙◌, arith, length-append}
use Rattle.std.specs.Prelude.{nat_le}
use Rattle.std.specs.Int.{div_ceil}
use Rattle.std.proofs.Math.Nat.{mul-le-mul_left, mul-le-mul_right, div-mul-le_self}
use Rattle.std.proofs.lemmas.Bool.{and_parts, and_from, leb-true, le-leb, cases_lt, eq-eqb, lt-ltb}
use Rattle.std.proofs.lemmas.Grind.{div_ceil_times}
use Rattle.smore_base.specs.Told.{Told}
use Rattle.smore_base.specs.declared.geometry.Geometry.{Geometry}
use Rattle.smore_base.specs.Geometry.{IsWithinLimits}
use Rattle.smore_base.specs.Room.{closing, digest_records, digest_blocks, fits}
use Rattle.zone_bay.specs.Contents.{Contents}
use Rattle.zone_bay.specs.Bay.{BayState}
use Rattle.marker_format.specs.declared.marker.Marker.{Marker}
use Rattle.marker_format.specs.Zone.{Array, belongs, blocks_of}
use Rattle.set_table.specs.declared.zone_use.ZoneUse.{ZoneUse}
use Rattle.set_table.specs.declared.zone_use.ZoneUse.TheVariants.{Carrier}
use Rattle.set_table.specs.Table.{Table, use_at, is_live, fragments_of}
use Rattle.set_writer.specs.Entry.{Entry, IsEntry}
use Rattle.set_writer.specs.Inside.{Amounts, CanClose}
use Rattle.set_writer.specs.Members.{of_members, grown_by, Grows, HoldBlocks, AllHaveRoom}
use Rattle.set_writer.proofs.EntryLaws.{of_code}
use Rattle.set_writer.proofs.MemberCalls.{more_live}

-- ---- a record in its buffer

pub ceil_below : (payload k shard : ℕ) → 1 ≤ k → payload ≤ k * shard → div_ceil payload k ≤ shard
ceil_below payload k shard some fits =
    let most = (div_ceil_times payload k some).1 in
    elim (cases_lt shard (div_ceil payload k)) [
      | inr no_more ↦ no_more
      | inl more ↦ let too_much = mul-le-mul_right k (let s : suc shard ≤ div_ceil payload k = more in s) in absurd (omega (arith, most, too_much, fits))
    ]

-- no fragment of the array has more bytes than a shard
fragment_most : (array : Array) (m : Marker) → IsWithinLimits array.geometry → belongs array m ≡ true → m.fragment ≡ div_ceil m.payload m.k → m.fragment ≤ array.geometry.shard
fragment_most array m within ours is =
    let g = array.geometry in
    let most = leb-true m.payload (g.k * g.shard) (and_parts _ (nat_le m.payload (g.k * g.shard)) ours).1 in
    let below = ceil_below m.payload g.k g.shard within.k_from most in
    let same : m.fragment ≡ div_ceil m.payload g.k = is ∙ ap (div_ceil m.payload) (of_code array m ours) in
    omega (arith, below, same)

pub blocks_most : (array : Array) (e : Entry) → IsWithinLimits array.geometry → IsEntry array e → blocks_of e.marker ≤ 1 + array.geometry.shard / 511
blocks_most array e within is =
    let g = array.geometry in
    let some = within.k_from in
    let m = is.markers 0 (omega (arith, some)) in
    let most = fragment_most array e.marker within is.ours m.fragment in
    let whole = within.shard_whole in
    omega (arith, most, whole)

-- ---- a record in the members' zones

-- what fits, is within the zone
pub fits_within : (g : Geometry) (blocks used records : ℕ) → fits g blocks used records ≡ true → used + blocks ≤ g.blocks
fits_within g blocks used records is =
    let both = and_parts (nat_le (used + blocks + closing g (records + 1)) g.blocks) _ is in
    let within = leb-true (used + blocks + closing g (records + 1)) g.blocks both.0 in
    omega (arith, within)

pub fits_closing : (g : Geometry) (blocks used records : ℕ) → fits g blocks used records ≡ true → used + blocks + closing g (records + 1) ≤ g.blocks
fits_closing g blocks used records is = leb-true (used + blocks + closing g (records + 1)) g.blocks (and_parts (nat_le (used + blocks + closing g (records + 1)) g.blocks) _ is).0

pub fits_records : (g : Geometry) (blocks used records : ℕ) → fits g blocks used records ≡ true → records + 1 + digest_records g (records + 1) ≤ 65535
fits_records g blocks used records is = leb-true (records + 1 + digest_records g (records + 1)) 65535 (and_parts (nat_le (used + blocks + closing g (records + 1)) g.blocks) _ is).1

pub room_for : (t : Table) (set' used blocks : ℕ) (o : Option Contents) → used + blocks ≤ t.geometry.blocks → IfSome o (HoldBlocks t set' used) → IfSome o (AllHaveRoom t set' (512 * blocks))
room_for t set' used blocks None within held = tt
room_for t set' used blocks (Some o) within held = λ d z index below live is. let long = held d z index below live is in omega (arith, long, within)

-- the bytes of a member
pub member_more : (count set' index : ℕ) (m : ℕ → List ℕ) (u : ZoneUse) → index < count → u ≡ Carrier set' index → of_members count set' m u ≡ m index
member_more count set' index m u below is = ap (of_members count set' m) is ∙ rw (eq-eqb set' set' refl, lt-ltb index count below) refl

-- Members that grew by so many blocks hold so many more.
pub hold_more : (t t' : Table) (set' used blocks : ℕ) (m : ℕ → List ℕ) (old new : BayState) → Grows set' m t t' old new → ((index : ℕ) → index < fragments_of t → length (m index) ≡ 512 * blocks) → IfSome old.contents (HoldBlocks t set' used) → IfSome new.contents (HoldBlocks t' set' (used + blocks))
hold_more t t' set' used blocks m old new grows each held = told old.contents new.contents grows.whole held
  where
    zones : t'.zones ≡ t.zones
    zones = ap (λ (s : Table). s.zones) grows.table

    count : fragments_of t' ≡ fragments_of t
    count = ap (λ (s : Table). s.geometry.k + s.geometry.p) grows.table

    told : (o n : Option Contents) → Told o n (λ held at. (d z : ℕ) → is_live t' d ≡ true → at d z ≡ grown_by t (of_members (fragments_of t) set' m) held d z) → IfSome o (HoldBlocks t set' used) → IfSome n (HoldBlocks t' set' (used + blocks))
    told o None w h = tt
    told None (Some n) w h = absurd w
    told (Some o) (Some n) w h = λ d z index below live is.
        let before = grows.leads.stays_lost d live in
        let below' : index < fragments_of t = omega (arith, below, count) in
        let is' : use_at t.zones d z ≡ Carrier set' index = ap (λ zs. use_at zs d z) (sym zones) ∙ is in
        let was = h d z index below' before is' in
        let more = each index below' in
        let now : n d z ≡ o d z ++ m index = w d z live ∙ ap (λ (l : List ℕ). o d z ++ l) (more_live t (of_members (fragments_of t) set' m) d z before ∙ member_more (fragments_of t) set' index m (use_at t.zones d z) below' is') in
        let long = ap (λ (l : List ℕ). length l) now in
        omega (arith, was, more, long, length-append (o d z) (m index))

-- ---- the first records of a set

-- so many full payloads, and a last one
few_full : (g : Geometry) (full records : ℕ) → IsWithinLimits g → records ≤ 34 → full * (g.k * g.shard) ≤ 320 * records → full * (1 + div_ceil g.shard 511) ≤ 42
few_full g full records within few payloads =
    let q = g.shard / 511 in
    let shard_is : g.shard ≡ 511 * q = let w = within.shard_whole in omega (arith, w) in
    let some : 1 ≤ q = let f = within.shard_from in omega (arith, f) in
    let all = mul-le-mul_left full (mul-le-mul_right (511 * q) within.k_from) in
    let same : full * (g.k * (511 * q)) ≡ full * (g.k * g.shard) = ap (λ x. full * (g.k * x)) (sym shard_is) in
    let wide : full * q ≤ 21 = omega (arith, all, payloads, same, few) in
    let more = mul-le-mul_left full some in
    let one : div_ceil g.shard 511 ≡ q = let x = within.shard_whole in omega (arith, x) in
    let blocks : full * (1 + div_ceil g.shard 511) ≡ full * (1 + q) = ap (λ x. full * (1 + x)) one in
    omega (arith, wide, more, blocks)

few_last : (g : Geometry) (rest records : ℕ) → IsWithinLimits g → records ≤ 34 → rest ≤ 320 * records → 1 + div_ceil (div_ceil rest g.k) 511 ≤ 23
few_last g rest records within few most =
    let less : div_ceil rest g.k ≤ rest = ceil_below rest g.k rest within.k_from (let m = mul-le-mul_right rest within.k_from in omega (arith, m)) in
    omega (arith, less, most, few)

few_both : (b : Bool) (x y : ℕ) → x ≤ 42 → y ≤ 23 → x + cond b y 0 ≤ 65
few_both true x y p q = omega arith
few_both false x y p q = omega arith

-- so few blocks that a digest of so few records takes in any array
digest_few : (g : Geometry) (records : ℕ) → IsWithinLimits g → records ≤ 34 → digest_blocks g (320 * records) ≤ 65
digest_few g records within few =
    let full = 320 * records / (g.k * g.shard) in
    let rest = 320 * records - full * (g.k * g.shard) in
    few_both (nat_le 1 rest) _ _ (few_full g full records within few (div-mul-le_self (320 * records) (g.k * g.shard))) (few_last g rest records within few (omega arith))

-- each of the first records fits
pub opening_fits : (g : Geometry) (records : ℕ) → IsWithinLimits g → records ≤ 33 → fits g 1 records records ≡ true
opening_fits g records within few =
    let most = digest_few g (records + 1) within (omega (arith, few)) in
    let blocks = within.blocks_from in
    let lines : digest_records g (records + 1) ≤ 320 * (records + 1) = ceil_below (320 * (records + 1)) (g.k * g.shard) (320 * (records + 1)) some (let m = mul-le-mul_right (320 * (records + 1)) some in omega (arith, m)) in
    and_from (nat_le (records + 1 + closing g (records + 1)) g.blocks) (nat_le (records + 1 + digest_records g (records + 1)) 65535)
    (le-leb (records + 1 + closing g (records + 1)) g.blocks (omega (arith, most, blocks, few)))
    (le-leb (records + 1 + digest_records g (records + 1)) 65535 (omega (arith, lines, few)))
  where
    some : 1 ≤ g.k * g.shard
    some = let m = mul-le-mul_right g.shard within.k_from in let f = within.shard_from in omega (arith, m, f)

-- what is kept of a set that isn't closed
pub open_can : (g : Geometry) (a : Amounts) → a.is_closed ≡ false → CanClose g a a.is_closed → CanClose g a false
open_can g a open_ can = subst (CanClose g a) open_ can

-- how many lines it has
pub open_listed : (g : Geometry) (a : Amounts) → a.is_closed ≡ false → CanClose g a a.is_closed → a.lines / 320 ≡ a.records
open_listed g a open_ can = let lines = (open_can g a open_ can).2 in omega (arith, lines)
