-- What a call on the members of one set keeps of the others.
use Rattle.std.proofs.Common.{◌≡◌, ◌≢◌, ◌⊎◌, inl, inr, ℕ, ◌+◌, ◌<◌, Bool, true, false, List, [], ◌∷◌, ◌++◌, length, take, Option, Some, None, refl, sym, ap, subst, ◌∙◌, arith, length-append}
use Rattle.std.specs.Prelude.{◌==◌, nat_lt}
use Rattle.std.proofs.lemmas.Bool.{and_left, ne_eqb, both_ways}
use Rattle.std.proofs.lemmas.List.{append-nil, nil_from_length, take_at, take_all}
use Rattle.rs_code.specs.Coded.{CodedPayload}
use Rattle.smore_base.specs.Told.{Told}
use Rattle.zone_bay.specs.Contents.{Contents, Lengths}
use Rattle.zone_bay.specs.Images.{IsImage}
use Rattle.zone_bay.specs.Bay.{BayState}
use Rattle.zone_bay.specs.Stretch.{IsOnTheWay}
use Rattle.marker_format.specs.declared.marker.Marker.{Marker}
use Rattle.marker_format.specs.Zone.{Array, begun}
use Rattle.array_model.specs.Drives.{is_among, first_of}
use Rattle.array_model.specs.ReadingLaws.{is_of_set}
use Rattle.set_table.specs.declared.zone_use.ZoneUse.TheVariants as uses
use Rattle.set_table.specs.declared.members.Member.{Member}
use Rattle.set_table.specs.Table.{Table, use_at, is_live, Forms}
use Rattle.set_table.specs.Table as table
use Rattle.set_writer.specs.Entry.{Entry, entry_for, entry_bytes, entries_bytes}
use Rattle.set_writer.specs.Members.{of_members, grown_by, is_member, Grows}
use Rattle.set_table.specs.Table.{array_of}
use Rattle.set_writer.specs.Writer.{Writer, behind, closed, opening}
use Rattle.set_writer.specs.Calls.{closing_bytes}
use Rattle.set_writer.specs.ImageLaws.{SetBytes, bytes_by, bytes_opened, AreSetBytes, HoldBytes, AreLive, begins_with, IsMember, IsAlone, Appends, IsNew, IsOpened, IsClosing, KeepsSets, IsOne, IsFlushed}
use Rattle.set_writer.proofs.FormedLaws.{from_empty}
use Rattle.set_writer.proofs.OtherSets.{member_is, none_more}
use Rattle.set_writer.proofs.WriterImages.{appended_bytes, appended_holds, appended_grows}
use Rattle.set_writer.proofs.OpeningImages.{new_alone, array_f, opened_bytes, opened_holds}
use Rattle.set_writer.proofs.ClosingImages.{bytes_then, hold_then}
use Rattle.set_writer.proofs.NextImages.{begins_whole, first_set, take_first_of}

-- ---- a set's own zones

-- a whole zone of a set begins with a head of no other set
own_begins : (s : SetBytes) (set' index : ℕ) → AreSetBytes s → index < s.array.geometry.k + s.array.geometry.p → begins_with s.array set' (s.zone index) ≡ true → s.set ≡ set'
own_begins s set' index are below begins =
    let has = are.first (length (s.zone index)) index below in
    let is : begun s.array (s.zone index) ≡ _ = ap (begun s.array) (sym (take_all (length (s.zone index)) (s.zone index) (omega arith))) ∙ has.begins in
    first_set s.set set' index (take has.count s.records) (take_first_of s.set has.count s.records are.head) (ap (λ ms. is_of_set set' (first_of ms)) (sym is) ∙ begins)

-- where a set was formed, each other has the zones that it had
pub formed_uses : (t tc f : Table) (set' : ℕ) (members : List Member) → tc.zones ≡ t.zones → Forms tc set' members f → (d z n i : ℕ) → n ≢ set'
    → (use_at f.zones d z ≡ uses.Carrier n i → use_at t.zones d z ≡ uses.Carrier n i) × (use_at t.zones d z ≡ uses.Carrier n i → use_at f.zones d z ≡ uses.Carrier n i)
formed_uses t tc f set' members zones forms d z n i differ = elim (from_empty tc f set' members forms d z) [
  | inl was ↦ (
    (λ e. absurd (differ (same_set was.1 (sym e ∙ was.2)))),
    (λ e. absurd (not_empty (sym was.0 ∙ ap (λ zs. use_at zs d z) zones ∙ e))),
  )
  | inr same ↦ (
    (λ e. ap (λ zs. use_at zs d z) (sym zones) ∙ sym same ∙ e),
    (λ e. same ∙ ap (λ zs. use_at zs d z) zones ∙ e),
  )
]
  where
    same_set : (j : ℕ) → uses.Carrier n i ≡ uses.Carrier set' j → n ≡ set'
    same_set j e = cc

    not_empty : uses.Empty ≡ uses.Carrier n i → ⊥
    not_empty e = cc

-- ---- what is kept

-- on the way from one to the other, where both are the same, all is so
pub between : (held at goal a b : List ℕ) → at ≡ held ++ a → goal ≡ at ++ b → goal ≡ held → at ≡ held
between held at goal a b first second same =
    let none : a ≡ [] = nil_from_length a (let x = ap length first in let y = ap length second in let z = ap length same in omega (arith, x, y, z, length-append held a, length-append at b)) in
    first ∙ ap (λ (l : List ℕ). held ++ l) none ∙ append-nil held

-- Calls led on the set's zones from what was held toward the goal, in a table in which the other sets have the zones that they had.
module _ (s : SetBytes) (more : ℕ → List ℕ) (t f t' : Table) (held at : Contents) (firm firm_now : Lengths) (drives : List ℕ) (array : s.array ≡ array_of f) (array_t : array_of t ≡ array_of f) (same : t' ≡ record f { lost = t'.lost })
    (others : (d z n i : ℕ) → n ≢ s.set → (use_at f.zones d z ≡ uses.Carrier n i → use_at t.zones d z ≡ uses.Carrier n i) × (use_at t.zones d z ≡ uses.Carrier n i → use_at f.zones d z ≡ uses.Carrier n i))
    (are : AreSetBytes s) (hold : HoldBytes s f (grown_by f (of_members (table.fragments_of f) s.set more) held) drives) (own_alone : IsAlone f s.set held drives)
    (way : IsOnTheWay held (grown_by f (of_members (table.fragments_of f) s.set more) held) firm at firm_now) where
  goal : Contents
  goal = grown_by f (of_members (table.fragments_of f) s.set more) held

  count_f : table.fragments_of t ≡ table.fragments_of f
  count_f = ap (λ (a : Array). a.geometry.k + a.geometry.p) array_t

  -- the same of the last table
  member_then : (n d z : ℕ) → IsMember f n d z → IsMember t' n d z
  member_then n d z is = subst (λ (u : Table). IsMember u n d z) (sym same) (is.0, is.1, is.2)

  array_then : array_of t' ≡ array_of f
  array_then = ap (λ (u : Table). array_of u) same

  same_else : (d z : ℕ) → is_member (table.fragments_of f) s.set (use_at f.zones d z) ≡ false → grown_by f (of_members (table.fragments_of f) s.set more) held d z ≡ held d z
  same_else d z absent = ap (λ (l : List ℕ). held d z ++ l) (none_more f s.set more d z absent) ∙ append-nil (held d z)

  -- a zone that begins with a head is one of the set, or began with it
  began : (n d z : ℕ) → is_among drives d ≡ true → begins_with (array_of f) n (at d z) ≡ true → ((s.set ≡ n) × IsMember f s.set d z) ⊎ (begins_with (array_of f) n (held d z) ≡ true)
  began n d z drive begins = by_use (is_member (table.fragments_of f) s.set (use_at f.zones d z)) refl
    where
      whole : begins_with (array_of f) n (grown_by f (of_members (table.fragments_of f) s.set more) held d z) ≡ true
      whole =
          let extends = way.extends d z in
          let cut : at d z ≡ take (length (at d z)) (grown_by f (of_members (table.fragments_of f) s.set more) held d z) = sym (ap (take (length (at d z))) extends.1 ∙ take_at (at d z) extends.0 (length (at d z)) refl) in
          begins_whole (length (at d z)) (array_of f) n (grown_by f (of_members (table.fragments_of f) s.set more) held d z) (ap (begins_with (array_of f) n) (sym cut) ∙ begins)

      by_use : (b : Bool) → is_member (table.fragments_of f) s.set (use_at f.zones d z) ≡ b → ((s.set ≡ n) × IsMember f s.set d z) ⊎ (begins_with (array_of f) n (held d z) ≡ true)
      by_use true is =
          let m = member_is (table.fragments_of f) s.set (use_at f.zones d z) is in
          let c = ap (λ (a : Array). a.geometry.k + a.geometry.p) array in
          inl (
            own_begins s n m.0 are (subst (λ k. m.0 < k) (sym c) m.1) (ap (λ (a : Array). begins_with a n (s.zone m.0)) array ∙ ap (begins_with (array_of f) n) (sym (hold d z m.0 drive m.1 m.2)) ∙ whole),
            m,
          )
      by_use false absent = inr (ap (begins_with (array_of f) n) (sym (same_else d z absent)) ∙ whole)

  own_alone_then : IsAlone t' s.set at drives
  own_alone_then d z drive from begins = member_then s.set d z (elim (began s.set d z drive (ap (λ (a : Array). begins_with a s.set (at d z)) (sym array_then) ∙ begins)) [
    | inl own ↦ own.1
    | inr was ↦ own_alone d z drive from was
  ])

  own_then : (n : ℕ) → n ≡ s.set → IsAlone t' n at drives
  own_then n is = subst (λ k. IsAlone t' k at drives) (sym is) own_alone_then

  alone_then : (other : ℕ) → other ≢ s.set → IsAlone t other held drives → IsAlone t' other at drives
  alone_then other differ alone d z drive from begins = member_then other d z (elim (began other d z drive (ap (λ (a : Array). begins_with a other (at d z)) (sym array_then) ∙ begins)) [
    | inl own ↦ absurd (differ (sym own.0))
    | inr was ↦
        let m = alone d z drive from (ap (λ (a : Array). begins_with a other (held d z)) array_t ∙ was) in
        (m.0, subst (λ k. m.0 < k) count_f m.1, (others d z other m.0 differ).1 m.2)
  ])

  none_then : (other : ℕ) → other ≢ s.set → IsNew (array_of t) other held drives → IsNew (array_of t) other at drives
  none_then other differ none d z drive from = by (begins_with (array_of t) other (at d z)) refl
    where
      by : (b : Bool) → begins_with (array_of t) other (at d z) ≡ b → b ≡ false
      by false is = refl
      by true is = elim (began other d z drive (ap (λ (a : Array). begins_with a other (at d z)) (sym array_t) ∙ is)) [
        | inl own ↦ absurd (differ (sym own.0))
        | inr was ↦ absurd (both_ways _ (none d z drive from) (ap (λ (a : Array). begins_with a other (held d z)) array_t ∙ was))
      ]

  -- a zone of another set
  other_zone : (o : SetBytes) (d z index : ℕ) → o.set ≢ s.set → use_at t'.zones d z ≡ uses.Carrier o.set index → (use_at t.zones d z ≡ uses.Carrier o.set index) × (at d z ≡ held d z)
  other_zone o d z index differ is =
      let in_f : use_at f.zones d z ≡ uses.Carrier o.set index = ap (λ (u : Table). use_at u.zones d z) (sym same) ∙ is in
      let absent = ap (is_member (table.fragments_of f) s.set) in_f ∙ and_left (o.set == s.set) (nat_lt index (table.fragments_of f)) (ne_eqb o.set s.set differ) in (
        (others d z o.set index differ).0 in_f,
        between (held d z) (at d z) (grown_by f (of_members (table.fragments_of f) s.set more) held d z) (way.began d z).0 (way.extends d z).0 (way.began d z).1 (way.extends d z).1 (same_else d z absent),
      )

  below_then : (index : ℕ) → index < table.fragments_of t' → index < table.fragments_of t
  below_then index below = subst (λ k. index < k) (sym count_f) (subst (λ (u : Table). index < table.fragments_of u) same below)

  pub keeps_sets : KeepsSets (IsOne s.set) t t' drives held at firm firm_now
  keeps_sets = record {
    own = own_then;
    alone = alone_then;
    none = none_then;
    holds = λ o differ holds d z index drive below is. let it = other_zone o d z index differ is in it.1 ∙ holds d z index drive (below_then index below) it.0;
    firm_still = λ o count differ firm_of d z index drive below is.
        let it = other_zone o d z index differ is in
        let was = firm_of d z index drive (below_then index below) it.0 in
        let less = way.no_less d z in
        omega (arith, was, less);
    whole_still = λ o differ whole d z index drive below is.
        let it = other_zone o d z index differ is in
        let was = whole d z index drive (below_then index below) it.0 in
        let less = way.no_less d z in
        omega (arith, was, less);
  }

-- ---- call by call

-- what is told of both
pub told_both : (held at : Contents) (P : Contents → Contents → Type 0) (o n : Option Contents) → Told o n P → o ≡ Some held → n ≡ Some at → P held at
told_both held at P None n told e e' = absurd cc
told_both held at P (Some x) None told e e' = absurd cc
told_both held at P (Some x) (Some y) told e e' =
    let first : x ≡ held = cc in
    let second : y ≡ at = cc in
    subst (λ c. P c at) first (subst (λ c. P x c) second told)

on_way : (set' : ℕ) (m : ℕ → List ℕ) (t t' : Table) (held at : Contents) (old new : BayState) → Grows set' m t t' old new → old.contents ≡ Some held → new.contents ≡ Some at → IsOnTheWay held (grown_by t (of_members (table.fragments_of t) set' m) held) old.firm at new.firm
on_way set' m t t' held at old new grows told told' = told_both held at (λ held at. IsOnTheWay held (grown_by t (of_members (table.fragments_of t) set' m) held) old.firm at new.firm) old.contents new.contents grows.leads.toward.toward told told'

-- the same zones in a table of which only losses changed
same_alone : (t t' : Table) (n : ℕ) (held : Contents) (drives : List ℕ) → t' ≡ record t { lost = t'.lost } → IsAlone t n held drives → IsAlone t' n held drives
same_alone t t' n held drives same alone = subst (λ (u : Table). IsAlone u n held drives) (sym same) (let as_it_was : IsAlone (record t { lost = t'.lost }) n held drives = alone in as_it_was)

same_holds : (t t' : Table) (s : SetBytes) (held : Contents) (drives : List ℕ) → t' ≡ record t { lost = t'.lost } → HoldBytes s t held drives → HoldBytes s t' held drives
same_holds t t' s held drives same hold = subst (λ (u : Table). HoldBytes s u held drives) (sym same) (let as_it_was : HoldBytes s (record t { lost = t'.lost }) held drives = hold in as_it_was)

pub flush_keeps_sets : (w : Writer) (es : List Entry) (t t' : Table) (held : Contents) (old new : BayState) (drives : List ℕ) → IsFlushed w es t t' held old new → IsAlone t w.set held drives → KeepsSets (IsOne w.set) t t' drives held held old.firm new.firm
flush_keeps_sets w es t t' held old new drives is alone =
    record {
      own = λ n own. subst (λ k. IsAlone t' k held drives) (sym own) (same_alone t t' w.set held drives is.flushed.table alone);
      alone = λ other differ was. same_alone t t' other held drives is.flushed.table was;
      none = λ other differ was. was;
      holds = λ s differ hold. same_holds t t' s held drives is.flushed.table hold;
      firm_still = λ s count differ firm d z index drive below carries.
          let was = firm d z index drive (subst (λ (u : Table). index < table.fragments_of u) is.flushed.table below) (subst (λ (u : Table). use_at u.zones d z ≡ uses.Carrier s.set index) is.flushed.table carries) in
          let less = way.no_less d z in
          omega (arith, was, less);
      whole_still = λ s differ whole d z index drive below carries.
          let was = whole d z index drive (subst (λ (u : Table). index < table.fragments_of u) is.flushed.table below) (subst (λ (u : Table). use_at u.zones d z ≡ uses.Carrier s.set index) is.flushed.table carries) in
          let less = way.no_less d z in
          omega (arith, was, less);
    }
  where
    way : IsOnTheWay held held old.firm held new.firm
    way = told_both held held (λ held at. IsOnTheWay held held old.firm at new.firm) old.contents new.contents is.flushed.leads.toward.toward is.told (is.flushed.contents ∙ is.told)

pub append_keeps_sets : (w : Writer) (es : List Entry) (m : Marker) (body : CodedPayload) (t t' : Table) (held at : Contents) (old new : BayState) (drives : List ℕ) → Appends w es m body t t' held old new → new.contents ≡ Some at → AreLive t drives → IsAlone t w.set held drives
    → KeepsSets (IsOne w.set) t t' drives held at old.firm new.firm
append_keeps_sets w es m body t t' held at old new drives appends told live alone =
    let grows = appended_grows w es m body t t' held old new appends in
    keeps_sets (bytes_by (behind w m) (es ++ entry_for m body.payload ∷ [])) (entry_bytes w.geometry.k (entry_for m body.payload)) t t t' held at old.firm new.firm drives appends.of.array refl grows.table (λ d z n i differ. ((λ e. e), (λ e. e)))
    (appended_bytes w es m body t t' held old new appends) (appended_holds w es m body t t' held old new appends drives live) alone
    (on_way w.set (entry_bytes w.geometry.k (entry_for m body.payload)) t t' held at old new grows appends.told told)

pub closing_keeps_sets : (w : Writer) (es : List Entry) (t t' : Table) (held at : Contents) (old new : BayState) (drives : List ℕ) → IsClosing w es t t' held old new → new.contents ≡ Some at → AreLive t drives → IsAlone t w.set held drives
    → KeepsSets (IsOne w.set) t t' drives held at old.firm new.firm
closing_keeps_sets w es t t' held at old new drives is told live alone =
    keeps_sets (bytes_by (closed w) es) (closing_bytes w) t t t' held at old.firm new.firm drives is.of.array refl is.closes.grows.table (λ d z n i differ. ((λ e. e), (λ e. e)))
    (bytes_then w es t t' held old new is) (λ d z index drive below carries. hold_then w es t t' held old new is d z index below (live d drive) carries) alone
    (on_way w.set (closing_bytes w) t t' held at old new is.closes.grows is.told told)

pub opening_keeps_sets : (set' : ℕ) (cuts : List (ℕ × ℕ)) (t t' : Table) (held at : Contents) (old new : BayState) (drives : List ℕ) → IsOpened set' cuts t t' held old new → new.contents ≡ Some at → AreLive t drives → IsNew (array_of t) set' held drives
    → KeepsSets (IsOne set') t t' drives held at old.firm new.firm
opening_keeps_sets set' cuts t t' held at old new drives is told live none =
    let array = array_f set' cuts t t' held old new is in
    keeps_sets (bytes_opened (array_of t) set' cuts) (entries_bytes t.geometry.k (opening (array_of t) set' cuts)) t is.opens.formed t' held at old.firm new.firm drives (sym array) (sym array) is.opens.grows.table
    (formed_uses t (record t { spare = is.room }) is.opens.formed set' is.opens.members refl is.opens.forms)
    (opened_bytes set' cuts t t' held old new is) (opened_holds set' cuts t t' held old new is drives live)
    (new_alone is.opens.formed set' held drives (λ d z drive from. ap (λ (a : Array). begins_with a set' (held d z)) array ∙ none d z drive from))
    (on_way set' (entries_bytes t.geometry.k (opening (array_of t) set' cuts)) is.opens.formed t' held at old new is.opens.grows is.told told)

-- ---- crashes

pub crash_keeps_alone : (t : Table) (set' : ℕ) (held : Contents) (firm : Lengths) (image : Contents) (drives : List ℕ) → IsImage held firm image
    → (IsAlone t set' held drives → IsAlone t set' image drives) × (IsNew (array_of t) set' held drives → IsNew (array_of t) set' image drives)
crash_keeps_alone t set' held firm image drives left = ((λ alone d z drive from begins. alone d z drive from (before d z begins)), none_left)
  where
    before : (d z : ℕ) → begins_with (array_of t) set' (image d z) ≡ true → begins_with (array_of t) set' (held d z) ≡ true
    before d z begins = begins_whole (left d z).0 (array_of t) set' (held d z) (ap (begins_with (array_of t) set') (sym (left d z).2) ∙ begins)

    none_left : IsNew (array_of t) set' held drives → IsNew (array_of t) set' image drives
    none_left none d z drive from = by (begins_with (array_of t) set' (image d z)) refl
      where
        by : (b : Bool) → begins_with (array_of t) set' (image d z) ≡ b → b ≡ false
        by false is = refl
        by true is = absurd (both_ways _ (none d z drive from) (before d z is))
