-- What a writer wrote, and what its zones hold, behind one record more.
use Rattle.std.proofs.Common.{◌≡◌, ℕ, ◌+◌, ◌*◌, ◌<◌, true, false, cond, List, [], ◌∷◌, ◌++◌, length, Option, Some, None, IfSome, refl, sym, ap, ap₂, subst, ◌∙◌, arith, length-append}
use Rattle.std.specs.List.{AllByRecursion, fold}
use Rattle.std.proofs.lemmas.Bool.{ne_eqb, both_ways}
use Rattle.std.proofs.lemmas.Bool.Decides.{nat_tests}
use Rattle.std.proofs.lemmas.List.{append-nil}
use Rattle.std.proofs.lemmas.Grind.{flat_map-append, fold-append}
use Rattle.smore_base.specs.Told.{Told}
use Rattle.rs_code.specs.Coded.{CodedPayload}
use Rattle.zone_bay.specs.Contents.{Contents}
use Rattle.zone_bay.specs.Bay.{BayState}
use Rattle.marker_format.specs.declared.kind.Kind.TheVariants.{Head, Digest, Trailer}
use Rattle.marker_format.specs.declared.marker.Marker.{Marker}
use Rattle.marker_format.specs.Zone.{Array, has_kind, blocks_of}
use Rattle.set_table.specs.declared.zone_use.ZoneUse.TheVariants.{Empty, Carrier}
use Rattle.set_table.specs.Table.{Table, use_at, is_live, fragments_of}
use Rattle.array_model.proofs.SameZones.{all-append}
use Rattle.set_writer.specs.Entry.{Entry, entry_for, IsEntry, HasBytes, entry_bytes, entries_bytes}
use Rattle.set_writer.specs.Members.{of_members, grown_by, Grows, HoldBlocks}
use Rattle.set_table.specs.Table.{array_of}
use Rattle.set_writer.specs.Writer.{Writer, array_by, begun, behind, written, closed, zone_bytes, blocks_in, IsRecordAt, AreRecordsFrom, Wrote, EmptyHold, Fits, is_appended, IsAppended}
use Rattle.set_writer.specs.Calls.{FitsIn}
use Rattle.set_writer.proofs.MemberCalls.{more_live}
use Rattle.set_writer.proofs.EntryLaws.{length-all_entries}
use Rattle.set_writer.proofs.FitLaws.{member_more}

-- ---- the writer

pub written-none : (w : Writer) (set : ℕ) → written w set [] ≡ begun w set
unfolding written
written-none w set = refl

pub written-more : (w : Writer) (set : ℕ) (es : List Entry) (e : Entry) → written w set (es ++ e ∷ []) ≡ behind (written w set es) e.marker
unfolding written
written-more w set es e = fold-append (λ w (e : Entry). behind w e.marker) (begun w set) es (e ∷ [])

-- what was begun doesn't depend on what the writer had before
pub written-same : (w other : Writer) (set : ℕ) (es : List Entry) → w.geometry ≡ other.geometry → w.id ≡ other.id → w.room ≡ other.room → written w set es ≡ written other set es
unfolding written
written-same w other set es geometry id room = ap (λ b. fold (λ w (e : Entry). behind w e.marker) b es) (same geometry id room)
  where
    same : w.geometry ≡ other.geometry → w.id ≡ other.id → w.room ≡ other.room → begun w set ≡ begun other set
    same g i r = cc

-- what stays of it
pub record Stays (w v : Writer) (set : ℕ) : Type 0 where
  pub geometry : v.geometry ≡ w.geometry
  pub id : v.id ≡ w.id
  pub set_is : v.set ≡ set
  pub room : v.room ≡ w.room
  pub open_ : v.is_closed ≡ false

pub written-stays : (w : Writer) (set : ℕ) (es : List Entry) → Stays w (written w set es) set
unfolding written
written-stays w set es = from (begun w set) es (record { geometry = refl; id = refl; set_is = refl; room = refl; open_ = refl })
  where
    from : (v : Writer) (es : List Entry) → Stays w v set → Stays w (fold (λ w (e : Entry). behind w e.marker) v es) set
    from v [] is = is
    from v (e ∷ es) is = from (behind v e.marker) es (record { geometry = is.geometry; id = is.id; set_is = is.set_is; room = is.room; open_ = is.open_ })

pub written-records : (w : Writer) (set : ℕ) (es : List Entry) → (written w set es).records ≡ length es
unfolding written
written-records w set es = from (begun w set) es ∙ omega arith
  where
    from : (v : Writer) (es : List Entry) → (fold (λ w (e : Entry). behind w e.marker) v es).records ≡ v.records + length es
    from v [] = omega arith
    from v (e ∷ es) = from (behind v e.marker) es ∙ omega arith

-- a writer that isn't closed is what it wrote
pub open_is : (w : Writer) (es : List Entry) → w.is_closed ≡ false → Wrote w es → w ≡ written w w.set es
open_is w es open_ wrote = wrote.is ∙ ap (λ b. cond b (closed (written w w.set es)) (written w w.set es)) open_

-- ---- records of a set

pub records-more : (array : Array) (set position : ℕ) (es : List Entry) (e : Entry) → AreRecordsFrom array set position es → IsRecordAt array set (position + length es) e → AreRecordsFrom array set position (es ++ e ∷ [])
records-more array set position [] e are is = (subst (λ n. IsRecordAt array set n e) (omega arith) is, tt)
records-more array set position (x ∷ es) e are is = (are.0, records-more array set (position + 1) es e are.1 (subst (λ n. IsRecordAt array set n e) (omega arith) is))

-- a record that can be appended is none of these
not_head : (m : Marker) → is_appended m ≡ true → has_kind Head m ≡ false
not_head m is = grind (arith, nat_tests)

not_digest : (m : Marker) → is_appended m ≡ true → has_kind Digest m ≡ false
not_digest m is = grind (arith, nat_tests)

not_trailer : (m : Marker) → is_appended m ≡ true → has_kind Trailer m ≡ false
not_trailer m is = grind (arith, nat_tests)

pub appended_is_record : (w : Writer) (m : Marker) (body : CodedPayload) → 0 < w.records → IsAppended w m body → IsRecordAt (array_by w) w.set w.records (entry_for m body.payload)
appended_is_record w m body some is = record {
  entry = record { markers = is.entry.markers; ours = is.entry.ours; payload = is.entry.payload };
  set_is = is.set_is;
  index_is = refl;
  position_is = is.position_is;
  head = not_head m is.kind ∙ sym (ne_eqb w.records 0 (λ e. omega arith));
  first_zone = λ e. absurd (omega arith);
  no_digest = not_digest m is.kind;
  no_trailer = not_trailer m is.kind;
}

pub entry_same : (k : ℕ) (m : Marker) (payload : List ℕ) → entry_bytes k (record { marker = m; payload = payload }) ≡ entry_bytes k (entry_for m payload)
unfolding entry_bytes
entry_same k m payload = refl

-- ---- the zones

-- what empty zones hold
pub empty_stays : (t t' : Table) (set : ℕ) (m : ℕ → List ℕ) (old new : BayState) → Grows set m t t' old new → IfSome old.contents (EmptyHold t) → IfSome new.contents (EmptyHold t')
empty_stays t t' set m old new grows empty = told old.contents new.contents grows.whole empty
  where
    told : (o n : Option Contents) → Told o n (λ held at. (d z : ℕ) → is_live t' d ≡ true → at d z ≡ grown_by t (of_members (fragments_of t) set m) held d z) → IfSome o (EmptyHold t) → IfSome n (EmptyHold t')
    told o None w h = tt
    told None (Some n) w h = absurd w
    told (Some o) (Some n) w h = λ d z live is.
        let before = grows.leads.stays_lost d live in
        let is' : use_at t.zones d z ≡ Empty = ap (λ (s : Table). use_at s.zones d z) (sym grows.table) ∙ is in
        w d z live ∙ ap₂ (λ (a b : List ℕ). a ++ b) (h d z before is') (more_live t (of_members (fragments_of t) set m) d z before ∙ ap (of_members (fragments_of t) set m) is')

-- what a member's zone holds
pub member_now : (t t' : Table) (set : ℕ) (m : ℕ → List ℕ) (held at : Contents) (d z index : ℕ) → t'.zones ≡ t.zones → index < fragments_of t → is_live t d ≡ true → use_at t'.zones d z ≡ Carrier set index → at d z ≡ grown_by t (of_members (fragments_of t) set m) held d z → at d z ≡ held d z ++ m index
member_now t t' set m held at d z index zones below live is whole =
    let is' : use_at t.zones d z ≡ Carrier set index = ap (λ zs. use_at zs d z) (sym zones) ∙ is in
    whole ∙ ap (λ (l : List ℕ). held d z ++ l) (more_live t (of_members (fragments_of t) set m) d z live ∙ member_more (fragments_of t) set index m (use_at t.zones d z) below is')

pub entries-more : (k : ℕ) (es : List Entry) (e : Entry) (index : ℕ) → entries_bytes k (es ++ e ∷ []) index ≡ entries_bytes k es index ++ entry_bytes k e index
entries-more k es e index = flat_map-append (λ (e : Entry). entry_bytes k e index) es (e ∷ []) ∙ ap (λ (l : List ℕ). entries_bytes k es index ++ l) (append-nil (entry_bytes k e index))

-- of a set that isn't closed
pub zone_open : (w : Writer) (es : List Entry) (index : ℕ) → w.is_closed ≡ false → zone_bytes w es index ≡ entries_bytes w.geometry.k es index
zone_open w es index open_ = rw open_ (append-nil (entries_bytes w.geometry.k es index))

module _ (w : Writer) (es : List Entry) (e : Entry) (t t' : Table) (open_ : w.is_closed ≡ false) (record_is : IsRecordAt (array_by w) w.set w.records e) where
  pub wrote_more : Wrote w es → Wrote (behind w e.marker) (es ++ e ∷ [])
  wrote_more wrote =
      let w_is = open_is w es open_ wrote in
      let count : w.records ≡ length es = ap (λ (v : Writer). v.records) w_is ∙ written-records w w.set es in
      record {
        is =
            ap (λ (v : Writer). behind v e.marker) w_is
            ∙ sym (written-more w w.set es e)
            ∙ written-same w (behind w e.marker) w.set (es ++ e ∷ []) refl refl refl
            ∙ sym (ap (λ b. cond b (closed (written (behind w e.marker) w.set (es ++ e ∷ []))) (written (behind w e.marker) w.set (es ++ e ∷ []))) open_);
        some = omega (arith, length-append es (e ∷ []));
        records = records-more (array_by w) w.set 0 es e wrote.records (subst (λ n. IsRecordAt (array_by w) w.set n e) (omega (arith, count)) record_is);
        can = λ is. absurd (both_ways w.is_closed open_ is);
      }

  pub fits_more : (old new : BayState) → HasBytes e → Grows w.set (entry_bytes w.geometry.k e) t t' old new → FitsIn w es t old → FitsIn (behind w e.marker) (es ++ e ∷ []) t' new
  fits_more old new bytes grows fits = told old.contents new.contents grows.whole stays fits
    where
      zones : t'.zones ≡ t.zones
      zones = ap (λ (s : Table). s.zones) grows.table

      count : fragments_of t' ≡ fragments_of t
      count = ap (λ (s : Table). s.geometry.k + s.geometry.p) grows.table

      empty_of : (o : Option Contents) → IfSome o (Fits w es t) → IfSome o (EmptyHold t)
      empty_of None f = tt
      empty_of (Some o) f = f.empty

      stays : IfSome new.contents (EmptyHold t')
      stays = empty_stays t t' w.set (entry_bytes w.geometry.k e) old new grows (empty_of old.contents fits)

      told : (o n : Option Contents) → Told o n (λ held at. (d z : ℕ) → is_live t' d ≡ true → at d z ≡ grown_by t (of_members (fragments_of t) w.set (entry_bytes w.geometry.k e)) held d z) → IfSome n (EmptyHold t') → IfSome o (Fits w es t) → IfSome n (Fits (behind w e.marker) (es ++ e ∷ []) t')
      told o None whole h f = tt
      told None (Some n) whole h f = absurd whole
      told (Some o) (Some n) whole h f = record {
        wrote = wrote_more f.wrote;
        bytes = all-append HasBytes es (e ∷ []) f.bytes (bytes, tt);
        members = λ d z index below live is.
            let before = grows.leads.stays_lost d live in
            let below' : index < fragments_of t = omega (arith, below, count) in
            let is' : use_at t.zones d z ≡ Carrier w.set index = ap (λ zs. use_at zs d z) (sym zones) ∙ is in
            member_now t t' w.set (entry_bytes w.geometry.k e) o n d z index zones below' before is (whole d z live)
            ∙ ap (λ (l : List ℕ). l ++ entry_bytes w.geometry.k e index) (f.members d z index below' before is' ∙ zone_open w es index open_)
            ∙ sym (entries-more w.geometry.k es e index)
            ∙ sym (zone_open (behind w e.marker) (es ++ e ∷ []) index open_);
        empty = h;
      }

-- ---- how much the zones hold

pub blocks_in-more : (es : List Entry) (e : Entry) → blocks_in (es ++ e ∷ []) ≡ blocks_in es + blocks_of e.marker
blocks_in-more [] e = omega arith
blocks_in-more (x ∷ es) e = let rest = blocks_in-more es e in omega (arith, rest)

pub written-used : (w : Writer) (set : ℕ) (es : List Entry) → (written w set es).used ≡ blocks_in es
unfolding written
written-used w set es = from (begun w set) es ∙ omega arith
  where
    from : (v : Writer) (es : List Entry) → (fold (λ w (e : Entry). behind w e.marker) v es).used ≡ v.used + blocks_in es
    from v [] = omega arith
    from v (e ∷ es) = from (behind v e.marker) es ∙ omega arith

pub entries_are : (array : Array) (set position : ℕ) (es : List Entry) → AreRecordsFrom array set position es → AllByRecursion (IsEntry array) es
entries_are array set position [] are = tt
entries_are array set position (e ∷ es) are = (are.0.entry, entries_are array set (position + 1) es are.1)

pub length-entries : (array : Array) (set position k index : ℕ) (es : List Entry) → k ≡ array.geometry.k → index < array.geometry.k + array.geometry.p → AreRecordsFrom array set position es → length (entries_bytes k es index) ≡ 512 * blocks_in es
length-entries array set position k index es code below are = length-all_entries array k index es code below (entries_are array set position es are)

-- an open set's members hold its blocks
pub fits_hold : (w : Writer) (t : Table) (o : Option Contents) → w.is_closed ≡ false → array_by w ≡ array_of t → IfSome o (λ held. (es : List Entry) × Fits w es t held) → IfSome o (HoldBlocks t w.set w.used)
fits_hold w t None open_ array fits = tt
fits_hold w t (Some o) open_ array fits = λ d z index below live is.
    let es = fits.0 in
    let f = fits.1 in
    let used : w.used ≡ blocks_in es = ap (λ (v : Writer). v.used) (open_is w es open_ f.wrote) ∙ written-used w w.set es in
    let n = ap (λ (a : Array). a.geometry.k + a.geometry.p) array in
    ap (λ (l : List ℕ). length l) (f.members d z index below live is ∙ zone_open w es index open_)
    ∙ length-entries (array_by w) w.set 0 w.geometry.k index es refl (omega (arith, below, n)) f.wrote.records
    ∙ ap (λ n. 512 * n) (sym used)

-- the set has a record
pub fits_some : (w : Writer) (es : List Entry) → w.is_closed ≡ false → Wrote w es → 0 < w.records
fits_some w es open_ wrote =
    let count : w.records ≡ length es = ap (λ (v : Writer). v.records) (open_is w es open_ wrote) ∙ written-records w w.set es in
    let some = wrote.some in
    omega (arith, count, some)

-- the record that was appended, in the words of the call
pub fits_appended : (w w' : Writer) (es : List Entry) (m : Marker) (body : CodedPayload) (t t' : Table) (old new : BayState) → w.is_closed ≡ false → w' ≡ behind w m → IsAppended w m body → HasBytes (record { marker = m; payload = body.payload }) → Grows w.set (entry_bytes w.geometry.k (record { marker = m; payload = body.payload })) t t' old new
    → FitsIn w es t old → FitsIn w' (es ++ entry_for m body.payload ∷ []) t' new
fits_appended w w' es m body t t' old new open_ is appended bytes grows fits = at_told old.contents new.contents grows.whole fits (λ some. fits_more w es (entry_for m body.payload) t t' open_ (appended_is_record w m body some appended) old new (record { payload = bytes.payload; name = bytes.name }) (subst (λ (f : ℕ → List ℕ). Grows w.set f t t' old new) (entry_same w.geometry.k m body.payload) grows) fits)
  where
    e : Entry
    e = entry_for m body.payload

    at_told : (o n : Option Contents) → Told o n (λ held at. (d z : ℕ) → is_live t' d ≡ true → at d z ≡ grown_by t (of_members (fragments_of t) w.set (entry_bytes w.geometry.k (record { marker = m; payload = body.payload }))) held d z) → IfSome o (Fits w es t)
        → (0 < w.records → IfSome n (Fits (behind w m) (es ++ entry_for m body.payload ∷ []) t')) → IfSome n (Fits w' (es ++ entry_for m body.payload ∷ []) t')
    at_told o None whole f then_fits = tt
    at_told None (Some n) whole f then_fits = absurd whole
    at_told (Some o) (Some n) whole f then_fits = subst (λ (v : Writer). Fits v (es ++ entry_for m body.payload ∷ []) t' n) (sym is) (then_fits (fits_some w es open_ f.wrote))
