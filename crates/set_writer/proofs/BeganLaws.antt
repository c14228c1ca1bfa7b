-- The first records of a set, one behind the other.
use Rattle.std.proofs.Common.{◌≡◌, ℕ, suc, ◌+◌, ◌<◌, ◌≤◌, Bool, true, false, cond, List, [], ◌∷◌, ◌++◌, length, take, get_or, Option, Some, None, IfSome, refl, sym, ap, ap₂, subst, ◌∙◌, arith, length-append}
use Rattle.std.proofs.lemmas.List.{append-nil, take_more}
use Rattle.smore_base.specs.Geometry.{IsWithinLimits}
use Rattle.marker_format.specs.declared.marker.TheConstants.{COUNTER_END}
use Rattle.zone_bay.specs.Contents.{Contents, Lengths, IsOfBay}
use Rattle.zone_bay.specs.Bay.{BayState, IsSound}
use Rattle.marker_format.specs.Zone.{Array}
use Rattle.set_table.specs.declared.zone_use.ZoneUse.{ZoneUse}
use Rattle.set_table.specs.declared.zone_use.ZoneUse.TheVariants.{Empty, Taken, Carrier}
use Rattle.set_table.specs.Table.{Table, use_at, is_live, fragments_of}
use Rattle.set_writer.specs.declared.first.First.{First}
use Rattle.set_writer.specs.declared.first.First.TheVariants.{Opens, Keeps, IsReady}
use Rattle.set_writer.specs.Entry.{Entry, entry_bytes, entries_bytes}
use Rattle.set_writer.specs.Members.{of_members, GrowsBy, Grows, Spreads, Flushes, is_member, HasZone, AllFirm, OthersStay, MembersFirm, HoldBlocks}
use Rattle.set_table.specs.Table.{array_of}
use Rattle.set_writer.specs.Writer.{Writer, array_by, begun, behind, written, first_marker, first_record, cuts_from, headed, opening, IsRecordAt}
use Rattle.set_writer.specs.Calls.{IsOf, IsCuts, MayBegin, Began}
use Rattle.set_writer.proofs.MemberCalls.{grows_none, grows_then, flush_grows}
use Rattle.set_writer.proofs.FirstLaws.{CanBegin, first_is_record, one_block}
use Rattle.set_writer.proofs.WroteLaws.{written-none, written-more, written-records, written-stays, Stays, records-more, entries-more}

-- ---- bytes of members

-- two parts of the bytes of members, one behind the other
pub members_joined : (count set' : ℕ) (a b c : ℕ → List ℕ) → ((index : ℕ) → a index ++ b index ≡ c index) → (u : ZoneUse) → of_members count set' a u ++ of_members count set' b u ≡ of_members count set' c u
members_joined count set' a b c both Empty = refl
members_joined count set' a b c both Taken = refl
members_joined count set' a b c both (Carrier s i) = at_one _
  where
    at_one : (x : Bool) → cond x (a i) [] ++ cond x (b i) [] ≡ cond x (c i) []
    at_one true = both i
    at_one false = refl

pub members_none : (count set' : ℕ) (m : ℕ → List ℕ) → ((index : ℕ) → m index ≡ []) → (u : ZoneUse) → of_members count set' m u ≡ []
members_none count set' m none Empty = refl
members_none count set' m none Taken = refl
members_none count set' m none (Carrier s i) = at_one _
  where
    at_one : (x : Bool) → cond x (m i) [] ≡ []
    at_one true = none i
    at_one false = refl

-- members that grow twice
pub grows_more : (set' : ℕ) (a b c : ℕ → List ℕ) (t t' t'' : Table) (old mid new : BayState) → IsSound old → IsSound mid → Grows set' a t t' old mid → Grows set' b t' t'' mid new → ((index : ℕ) → a index ++ b index ≡ c index) → Grows set' c t t'' old new
grows_more set' a b c t t' t'' old mid new sound sound' first second both =
    let count : fragments_of t' ≡ fragments_of t = ap (λ (s : Table). s.geometry.k + s.geometry.p) first.table in
    let second' = subst (λ n. GrowsBy (of_members n set' b) t' t'' mid new) count second in
    grows_then (of_members (fragments_of t) set' a) (of_members (fragments_of t) set' b) (of_members (fragments_of t) set' c) t t' t'' old mid new sound sound' first second' (members_joined (fragments_of t) set' a b c both)

-- ---- what a call asks

-- the table is that of the writer's array still
pub of_now : (w w' : Writer) (t t' : Table) (old new : BayState) → array_by w' ≡ array_by w → t' ≡ record t { lost = t'.lost } → new.shape ≡ old.shape → IsOf w t old → IsOf w' t' new
of_now w w' t t' old new array table shape is = record {
  array = array ∙ is.array ∙ sym (ap (λ (s : Table). array_of s) table);
  shape = subst (IsOfBay t'.geometry) (sym shape) (subst (λ g. IsOfBay g old.shape) (sym (ap (λ (s : Table). s.geometry) table)) is.shape);
}

-- ---- one first record more

-- before the first
pub began_none : (w : Writer) (t : Table) (bay : BayState) → w ≡ begun w w.set → IsOf w t bay → IfSome bay.contents (HoldBlocks t w.set 0) → Began w [] w t t bay bay
began_none w t bay is of_ held = record {
  is = is ∙ none;
  records = tt;
  used = ap (λ (v : Writer). v.used) is;
  grows = grows_none _ t bay (members_none (fragments_of t) w.set (entries_bytes w.geometry.k []) (λ index. refl));
  held = subst (λ n. IfSome bay.contents (HoldBlocks t w.set n)) (sym (ap (λ (v : Writer). v.used) is)) held;
  of = of_;
}
  where
    none : begun w w.set ≡ written w w.set []
    none = sym (written-none w w.set)

-- the length of a writer's list is its number of records
pub began_count : (w0 w : Writer) (es : List Entry) (t t' : Table) (old new : BayState) → Began w0 es w t t' old new → w.records ≡ length es
began_count w0 w es t t' old new began = ap (λ (v : Writer). v.records) began.is ∙ written-records w0 w0.set es

-- what it has of the writer that began
pub began_stays : (w0 w : Writer) (es : List Entry) (t t' : Table) (old new : BayState) → Began w0 es w t t' old new → Stays w0 w w0.set
began_stays w0 w es t t' old new began = subst (λ (v : Writer). Stays w0 v w0.set) (sym began.is) (written-stays w0 w0.set es)

pub began_more : (w0 w w' : Writer) (es : List Entry) (f : First) (t t' t'' : Table) (old mid new : BayState) → IsSound old → IsSound mid → CanBegin (array_by w0) w0.set (length es) → MayBegin w0.set (length es) f → Began w0 es w t t' old mid
    → w' ≡ behind w (first_marker (array_by w) w.set w.records f) → Spreads w.set (entry_bytes w.geometry.k (first_record (array_by w) w.set w.records f)) t' t'' mid new → IfSome new.contents (HoldBlocks t'' w'.set w'.used)
    → Began w0 (es ++ first_record (array_by w0) w0.set (length es) f ∷ []) w' t t'' old new
began_more w0 w w' es f t t' t'' old mid new sound sound' can0 may0 began is spread held =
    let st = began_stays w0 w es t t' old mid began in
    let count = began_count w0 w es t t' old mid began in
    let array_is : array_by w ≡ array_by w0 = ap₂ (λ g i. record { geometry = g; id = i }) st.geometry st.id in
    let e : Entry = first_record (array_by w0) w0.set (length es) f in
    let e_is : first_record (array_by w) w.set w.records f ≡ first_record (array_by w0) w0.set (length es) f =
    ap (λ (a : Array). first_record a w.set w.records f) array_is ∙ ap (λ s. first_record (array_by w0) s w.records f) st.set_is ∙ ap (λ n. first_record (array_by w0) w0.set n f) count in
    let marker_is : first_marker (array_by w) w.set w.records f ≡ first_marker (array_by w0) w0.set (length es) f = ap (λ (x : Entry). x.marker) e_is in
    let k_is = ap (λ (a : Array). a.geometry.k) array_is in
    let is0 : w' ≡ behind w (first_marker (array_by w0) w0.set (length es) f) = is ∙ ap (behind w) marker_is in
    let one = one_block (array_by w0) w0.set (length es) f in
    let second : Grows w0.set (entry_bytes w0.geometry.k (first_record (array_by w0) w0.set (length es) f)) t' t'' mid new =
    subst (λ s. Grows s (entry_bytes w0.geometry.k (first_record (array_by w0) w0.set (length es) f)) t' t'' mid new) st.set_is
    (subst (λ n. Grows w.set (entry_bytes n (first_record (array_by w0) w0.set (length es) f)) t' t'' mid new) k_is
    (subst (λ (x : Entry). Grows w.set (entry_bytes w.geometry.k x) t' t'' mid new) e_is spread.grows)) in
    record {
      is = is0 ∙ ap (λ (v : Writer). behind v (first_marker (array_by w0) w0.set (length es) f)) began.is ∙ sym (written-more w0 w0.set es (first_record (array_by w0) w0.set (length es) f));
      records = records-more (array_by w0) w0.set 0 es (first_record (array_by w0) w0.set (length es) f) began.records (subst (λ n. IsRecordAt (array_by w0) w0.set n (first_record (array_by w0) w0.set (length es) f)) (omega arith) (first_is_record (array_by w0) w0.set (length es) f can0 may0));
      used = let u = ap (λ (v : Writer). v.used) is0 in let was = began.used in omega (arith, u, was, one, length-append es (first_record (array_by w0) w0.set (length es) f ∷ []));
      grows = grows_more w0.set (entries_bytes w0.geometry.k es) (entry_bytes w0.geometry.k (first_record (array_by w0) w0.set (length es) f)) (entries_bytes w0.geometry.k (es ++ first_record (array_by w0) w0.set (length es) f ∷ [])) t t' t'' old mid new sound sound' began.grows second (λ index. sym (entries-more w0.geometry.k es (first_record (array_by w0) w0.set (length es) f) index));
      held = subst (λ s. IfSome new.contents (HoldBlocks t'' s w'.used)) (ap (λ (v : Writer). v.set) is0 ∙ st.set_is) held;
      of = of_now w w' t' t'' mid new (ap (λ (v : Writer). array_by v) is0) spread.grows.table spread.grows.leads.toward.goes_on.same_shape began.of;
    }

-- ---- the cuts

cuts-length : (array : Array) (set' position : ℕ) (cuts : List (ℕ × ℕ)) → length (cuts_from array set' position cuts) ≡ length cuts
cuts-length array set' position [] = refl
cuts-length array set' position (cut ∷ cuts) = ap suc (cuts-length array set' (position + 1) cuts)

-- one cut more
cuts-more : (array : Array) (set' position : ℕ) (cuts : List (ℕ × ℕ)) (cut : ℕ × ℕ) → cuts_from array set' position (cuts ++ cut ∷ []) ≡ cuts_from array set' position cuts ++ first_record array set' (position + length cuts) (Keeps cut.0 cut.1) ∷ []
cuts-more array set' position [] cut = ap (λ n. first_record array set' n (Keeps cut.0 cut.1) ∷ []) (omega arith)
cuts-more array set' position (x ∷ cuts) cut =
    ap (λ (l : List Entry). first_record array set' position (Keeps x.0 x.1) ∷ l)
    (cuts-more array set' (position + 1) cuts cut
    ∙ ap (λ n. cuts_from array set' (position + 1) cuts ++ first_record array set' n (Keeps cut.0 cut.1) ∷ []) (let e : position + 1 + length cuts ≡ position + suc (length cuts) = omega arith in e))

pub headed-length : (array : Array) (set' : ℕ) (cuts : List (ℕ × ℕ)) → length (headed array set' cuts) ≡ 1 + length cuts
headed-length array set' cuts = let n = cuts-length array set' 1 cuts in omega (arith, n)

pub headed-more : (array : Array) (set' : ℕ) (cuts : List (ℕ × ℕ)) (cut : ℕ × ℕ) → headed array set' cuts ++ first_record array set' (length (headed array set' cuts)) (Keeps cut.0 cut.1) ∷ [] ≡ headed array set' (cuts ++ cut ∷ [])
headed-more array set' cuts cut =
    ap (λ n. headed array set' cuts ++ first_record array set' n (Keeps cut.0 cut.1) ∷ []) (headed-length array set' cuts)
    ∙ sym (ap (λ (l : List Entry). first_record array set' 0 Opens ∷ l) (cuts-more array set' 1 cuts cut))

pub opening-is : (array : Array) (set' : ℕ) (cuts : List (ℕ × ℕ)) → headed array set' cuts ++ first_record array set' (length (headed array set' cuts)) IsReady ∷ [] ≡ opening array set' cuts
opening-is array set' cuts = ap (λ n. headed array set' cuts ++ first_record array set' n IsReady ∷ []) (headed-length array set' cuts)

-- ---- what the next first record asks

pub record MayPush (w : Writer) (t : Table) (bay : BayState) (f : First) : Type 0 where
  pub of : IsOf w t bay
  pub open_ : w.is_closed ≡ false
  pub blocks : w.used ≡ w.records
  pub few : w.records ≤ 33
  pub room : w.records + 1 ≤ w.room
  pub set_from : 1 ≤ w.set
  pub set_to : w.set < COUNTER_END
  pub first_may : MayBegin w.set w.records f
  pub held : IfSome bay.contents (HoldBlocks t w.set w.used)

pub may_push : (w0 w : Writer) (es : List Entry) (f : First) (t t' : Table) (old mid : BayState) → Began w0 es w t t' old mid → CanBegin (array_by w0) w0.set (length es) → length es + 1 ≤ w0.room → MayBegin w0.set (length es) f → MayPush w t' mid f
may_push w0 w es f t t' old mid began can room may =
    let st = began_stays w0 w es t t' old mid began in
    let count = began_count w0 w es t t' old mid began in
    let few = can.few in
    let from = can.set_from in
    let to = can.set_to in
    let set_is = st.set_is in
    record {
      of = began.of;
      open_ = st.open_;
      blocks = began.used ∙ sym count;
      few = omega (arith, count, few);
      room = let r = st.room in omega (arith, count, room, r);
      set_from = subst (λ s. 1 ≤ s) (sym set_is) from;
      set_to = subst (λ s. s < COUNTER_END) (sym set_is) to;
      first_may = subst (λ s. MayBegin s w.records f) (sym set_is) (subst (λ n. MayBegin w0.set n f) (sym count) may);
      held = subst (λ s. IfSome mid.contents (HoldBlocks t' s w.used)) (sym set_is) began.held;
    }

-- what is needed of a set that is begun, whatever position comes next
pub can_at : (array : Array) (set' position : ℕ) → IsWithinLimits array.geometry → length array.id ≡ 16 → (1 ≤ set') × (set' < COUNTER_END) → position ≤ 33 → CanBegin array set' position
can_at array set' position within id bounds few = record { within = within; id = id; set_from = bounds.0; set_to = bounds.1; few = few }

-- a cut of the list
pub cut_may : (set' : ℕ) (cuts : List (ℕ × ℕ)) (i position : ℕ) (d : ℕ × ℕ) → IsCuts set' cuts → i < length cuts → (get_or cuts i d).1 < 65536 → 1 ≤ position → MayBegin set' position (Keeps (get_or cuts i d).0 (get_or cuts i d).1)
cut_may set' cuts i position d is within short from = let targets = is.targets i d within in (from, targets.0, targets.1, short)

-- the first so many and one more
pub take-next : (cuts : List (ℕ × ℕ)) (i : ℕ) (d : ℕ × ℕ) → i < length cuts → take i cuts ++ get_or cuts i d ∷ [] ≡ take (i + 1) cuts
take-next cuts i d within = sym (take_more cuts i d within)

-- a flush puts nothing on the members
pub hold_still : (t' t'' : Table) (set' used : ℕ) (o n : Option Contents) → n ≡ o → t'' ≡ record t' { lost = t''.lost } → ((d : ℕ) → is_live t'' d ≡ true → is_live t' d ≡ true) → IfSome o (HoldBlocks t' set' used) → IfSome n (HoldBlocks t'' set' used)
hold_still t' t'' set' used o None is table stays h = tt
hold_still t' t'' set' used None (Some n) is table stays h = absurd cc
hold_still t' t'' set' used (Some o) (Some n) is table stays h = λ d z index below live carries.
    let same : n ≡ o = cc in
    ap (λ (c : Contents). length (c d z)) same
    ∙ h d z index (subst (λ (s : Table). index < fragments_of s) table below) (stays d live) (ap (λ (s : Table). use_at s.zones d z) (sym table) ∙ carries)

pub flushed_hold : (set' used : ℕ) (t t' : Table) (old new : BayState) → Flushes set' t t' old new → IfSome old.contents (HoldBlocks t set' used) → IfSome new.contents (HoldBlocks t' set' used)
flushed_hold set' used t t' old new flushed = hold_still t t' set' used old.contents new.contents flushed.contents flushed.table flushed.leads.stays_lost

pub flushed_grows : (set' : ℕ) (t t' : Table) (old new : BayState) → IsSound old → Flushes set' t t' old new → Grows set' (λ index. []) t t' old new
flushed_grows set' t t' old new sound flushed = flush_grows _ _ t t' old new sound (members_none (fragments_of t) set' (λ index. []) (λ index. refl)) flushed

-- members that are flushed and then grow, or grow and then are flushed
pub flushed_then : (set' : ℕ) (m : ℕ → List ℕ) (t t' t'' : Table) (old mid new : BayState) → IsSound old → IsSound mid → Flushes set' t t' old mid → Grows set' m t' t'' mid new → Grows set' m t t'' old new
flushed_then set' m t t' t'' old mid new sound sound' flushed grows = grows_more set' (λ index. []) m m t t' t'' old mid new sound sound' (flushed_grows set' t t' old mid sound flushed) grows (λ index. refl)

pub then_flushed : (set' : ℕ) (m : ℕ → List ℕ) (t t' t'' : Table) (old mid new : BayState) → IsSound old → IsSound mid → Grows set' m t t' old mid → Flushes set' t' t'' mid new → Grows set' m t t'' old new
then_flushed set' m t t' t'' old mid new sound sound' grows flushed = grows_more set' m (λ index. []) m t t' t'' old mid new sound sound' grows (flushed_grows set' t' t'' mid new sound' flushed) (λ index. append-nil (m index))

-- a flush behind them
pub began_flushed : (w0 w : Writer) (es : List Entry) (t t' t'' : Table) (old mid new : BayState) → IsSound old → IsSound mid → Began w0 es w t t' old mid → Flushes w.set t' t'' mid new → Began w0 es w t t'' old new
began_flushed w0 w es t t' t'' old mid new sound sound' began flushed =
    let st = began_stays w0 w es t t' old mid began in
    record {
      is = began.is;
      records = began.records;
      used = began.used;
      grows = then_flushed w0.set (entries_bytes w0.geometry.k es) t t' t'' old mid new sound sound' began.grows (subst (λ s. Flushes s t' t'' mid new) st.set_is flushed);
      held = hold_still t' t'' w0.set w.used mid.contents new.contents flushed.contents flushed.table flushed.leads.stays_lost began.held;
      of = of_now w w t' t'' mid new refl flushed.table flushed.leads.toward.goes_on.same_shape began.of;
    }

-- behind a flush the members are firm
pub firm_after : (set' : ℕ) (t t' : Table) (old new : BayState) → Flushes set' t t' old new → MembersFirm set' t' new
firm_after set' t t' old new flushed =
    let count : fragments_of t' ≡ fragments_of t = ap (λ (s : Table). s.geometry.k + s.geometry.p) flushed.table in
    subst (λ n. AllFirm (is_member n set') t' new) (sym count) flushed.firm

-- a device that has a member had one before devices were lost
pub has_before : (set' : ℕ) (t t' : Table) (d : ℕ) → t' ≡ record t { lost = t'.lost } → ((e : ℕ) → is_live t' e ≡ true → is_live t e ≡ true) → HasZone (is_member (fragments_of t') set') t' d → HasZone (is_member (fragments_of t) set') t d
has_before set' t t' d table stays has = record {
  live = stays d has.live;
  zone = has.zone;
  passes = let passes : is_member (fragments_of t) set' (use_at t.zones d has.zone) ≡ true = subst (λ (s : Table). is_member (fragments_of s) set' (use_at s.zones d has.zone) ≡ true) table has.passes in passes;
}

-- calls behind which nothing more is firm, and a flush
pub flushed_others : (set' : ℕ) (t t' t'' : Table) (old mid new : BayState) → t' ≡ record t { lost = t'.lost } → ((e : ℕ) → is_live t' e ≡ true → is_live t e ≡ true) → OthersStay set' t old mid → Flushes set' t' t'' mid new → OthersStay set' t old new
flushed_others set' t t' t'' old mid new table stays others flushed d z none = flushed.others d z (λ (has : HasZone (is_member (fragments_of t') set') t' d). none (has_before set' t t' d table stays has)) ∙ others d z none

pub still_others : (set' : ℕ) (t : Table) (old mid new : BayState) → new.firm ≡ mid.firm → OthersStay set' t old mid → OthersStay set' t old new
still_others set' t old mid new firm others d z none = ap (λ (f : Lengths). f d z) firm ∙ others d z none
