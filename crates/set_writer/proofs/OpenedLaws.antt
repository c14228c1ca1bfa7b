-- A set that was opened.
use Rattle.std.proofs.Common.{◌≡◌, ℕ, ◌+◌, ◌<◌, ◌≤◌, true, false, cond, List, [], ◌++◌, length, Option, Some, None, IfSome, sym, ap, ap₂, subst, ◌∙◌, arith}
use Rattle.std.proofs.lemmas.List.{nil_from_length}
use Rattle.smore_base.specs.Told.{Told}
use Rattle.zone_bay.specs.Contents.{Contents}
use Rattle.zone_bay.specs.Bay.{BayState}
use Rattle.marker_format.specs.Zone.{Array}
use Rattle.set_table.specs.declared.members.Member.{Member}
use Rattle.set_table.specs.declared.zone_use.ZoneUse.TheVariants.{Carrier}
use Rattle.set_table.specs.Table.{Table, use_at, is_live, fragments_of, marks_of, Forms}
use Rattle.set_writer.specs.Entry.{Entry, entries_bytes}
use Rattle.set_writer.specs.Members.{of_members, grown_by, OthersStay, Grows, MembersFirm, HoldBlocks}
use Rattle.set_table.specs.Table.{array_of}
use Rattle.set_writer.specs.Writer.{Writer, array_by, begun, written, closed, opening, AreRecordsFrom, Wrote, EmptyHold, Fits}
use Rattle.set_writer.specs.Rounds.{InRounds}
use Rattle.set_writer.specs.Calls.{FitsIn, Began, Opens}
use Rattle.set_writer.proofs.FormedLaws.{Listed, formed_spare, reserved_hold, reserved_empty}
use Rattle.std.proofs.lemmas.Bool.{both_ways}
use Rattle.set_writer.proofs.BeganLaws.{began_stays}
use Rattle.set_writer.proofs.ByteLaws.{opening_bytes}
use Rattle.set_writer.proofs.WroteLaws.{written-same, empty_stays, member_now, zone_open}

module _ (w0 w : Writer) (t r f t' : Table) (id : ℕ) (cuts : List (ℕ × ℕ)) (members : List Member) (old new : BayState)
    (begins : w0 ≡ begun w0 id) (array : array_by w0 ≡ array_of t) (reserved : r ≡ record t { spare = r.spare }) (forms : Forms r id members f)
    (began : Began w0 (opening (array_by w0) w0.set cuts) w f t' old new) where
  es : List Entry
  es = opening (array_of t) id cuts

  set_is : w0.set ≡ id
  set_is = ap (λ (v : Writer). v.set) begins

  same_es : opening (array_by w0) w0.set cuts ≡ opening (array_of t) id cuts
  same_es = ap (λ (a : Array). opening a w0.set cuts) array ∙ ap (λ s. opening (array_of t) s cuts) set_is

  k_is : w0.geometry.k ≡ t.geometry.k
  k_is = ap (λ (a : Array). a.geometry.k) array

  pub opened_writer : w ≡ written w id (opening (array_of t) id cuts)
  opened_writer =
      let st = began_stays w0 w _ f t' old new began in
      began.is
      ∙ ap (λ (l : List Entry). written w0 w0.set l) same_es
      ∙ ap (λ s. written w0 s (opening (array_of t) id cuts)) set_is
      ∙ written-same w0 w id (opening (array_of t) id cuts) (sym st.geometry) (sym st.id) (sym st.room)

  pub opened_array : array_by w ≡ array_of t
  opened_array = let st = began_stays w0 w _ f t' old new began in ap₂ (λ g i. record { geometry = g; id = i }) st.geometry st.id ∙ array

  pub opened_grows : Grows id (entries_bytes t.geometry.k (opening (array_of t) id cuts)) f t' old new
  opened_grows =
      subst (λ s. Grows s (entries_bytes t.geometry.k (opening (array_of t) id cuts)) f t' old new) set_is
      (subst (λ k. Grows w0.set (entries_bytes k (opening (array_of t) id cuts)) f t' old new) k_is
      (subst (λ (l : List Entry). Grows w0.set (entries_bytes w0.geometry.k l) f t' old new) same_es began.grows))

  pub opened : MembersFirm w0.set t' new → OthersStay w0.set f old new → InRounds w0.set (length cuts + 3) f t' old new → (room : ℕ) × Opens id cuts (record t { spare = room }) t' old new
  opened firm others calls = (
    r.spare,
    record {
      members = members;
      formed = f;
      forms = subst (λ (s : Table). Forms s id members f) reserved forms;
      grows = opened_grows;
      firm = subst (λ s. MembersFirm s t' new) set_is firm;
      others = subst (λ s. OthersStay s f old new) set_is others;
      calls = subst (λ s. InRounds s (length cuts + 3) f t' old new) set_is calls;
    },
  )

  -- the empty zones hold nothing still
  pub opened_empty : IfSome old.contents (EmptyHold t) → IfSome new.contents (EmptyHold t')
  opened_empty empty = empty_stays f t' id (entries_bytes t.geometry.k (opening (array_of t) id cuts)) old new opened_grows (reserved_empty t r f id members old.contents reserved forms empty)

  -- and there is room for one set less at most
  pub opened_room : t.spare ≤ r.spare → t.spare ≤ t'.spare + 1
  opened_room no_less = let kept = ap (λ (s : Table). s.spare) began.grows.table in let one = formed_spare r f id members forms in omega (arith, no_less, kept, one)

  pub opened_fits : Listed t → marks_of id t.sets ≡ None → IfSome old.contents (EmptyHold t) → FitsIn w (opening (array_of t) id cuts) t' new
  opened_fits listed absent empty =
      told old.contents new.contents grows.whole
      (reserved_hold t r f id members old.contents reserved listed absent forms empty)
      (empty_stays f t' id (entries_bytes t.geometry.k (opening (array_of t) id cuts)) old new grows (reserved_empty t r f id members old.contents reserved forms empty))
    where
      grows : Grows id (entries_bytes t.geometry.k (opening (array_of t) id cuts)) f t' old new
      grows = opened_grows

      open_ : w.is_closed ≡ false
      open_ = (began_stays w0 w _ f t' old new began).open_

      w_set : w.set ≡ id
      w_set = (began_stays w0 w _ f t' old new began).set_is ∙ set_is

      w_k : w.geometry.k ≡ t.geometry.k
      w_k = ap (λ (a : Array). a.geometry.k) opened_array

      zones : t'.zones ≡ f.zones
      zones = ap (λ (s : Table). s.zones) grows.table

      count : fragments_of t' ≡ fragments_of f
      count = ap (λ (s : Table). s.geometry.k + s.geometry.p) grows.table

      wrote : Wrote w (opening (array_of t) id cuts)
      wrote = record {
        is = opened_writer ∙ ap (λ s. written w s (opening (array_of t) id cuts)) (sym w_set) ∙ sym (ap (λ b. cond b (closed (written w w.set (opening (array_of t) id cuts))) (written w w.set (opening (array_of t) id cuts))) open_);
        some = omega arith;
        records =
            subst (λ (a : Array). AreRecordsFrom a w.set 0 (opening (array_of t) id cuts)) (sym opened_array)
            (subst (λ s. AreRecordsFrom (array_of t) s 0 (opening (array_of t) id cuts)) (sym w_set)
            (subst (λ (l : List Entry). AreRecordsFrom (array_of t) id 0 l) same_es
            (subst (λ s. AreRecordsFrom (array_of t) s 0 (opening (array_by w0) w0.set cuts)) set_is
            (subst (λ (a : Array). AreRecordsFrom a w0.set 0 (opening (array_by w0) w0.set cuts)) array began.records))));
        can = λ is. absurd (both_ways w.is_closed open_ is);
      }

      told : (o n : Option Contents) → Told o n (λ held at. (d z : ℕ) → is_live t' d ≡ true → at d z ≡ grown_by f (of_members (fragments_of f) id (entries_bytes t.geometry.k (opening (array_of t) id cuts))) held d z) → IfSome o (HoldBlocks f id 0) → IfSome n (EmptyHold t') → IfSome n (Fits w (opening (array_of t) id cuts) t')
      told o None whole h e = tt
      told None (Some n) whole h e = absurd whole
      told (Some o) (Some n) whole h e = record {
        wrote = wrote;
        bytes = opening_bytes (array_of t) id cuts;
        members = λ d z index below live is.
            let is_id : use_at t'.zones d z ≡ Carrier id index = is ∙ ap (λ s. Carrier s index) w_set in
            let before = grows.leads.stays_lost d live in
            let below' : index < fragments_of f = omega (arith, below, count) in
            let was : use_at f.zones d z ≡ Carrier id index = ap (λ zs. use_at zs d z) (sym zones) ∙ is_id in
            let nothing : o d z ≡ [] = nil_from_length (o d z) (let l = h d z index below' before was in omega (arith, l)) in
            member_now f t' id (entries_bytes t.geometry.k (opening (array_of t) id cuts)) o n d z index zones below' before is_id (whole d z live)
            ∙ ap (λ (l : List ℕ). l ++ entries_bytes t.geometry.k (opening (array_of t) id cuts) index) nothing
            ∙ ap (λ k. entries_bytes k (opening (array_of t) id cuts) index) (sym w_k)
            ∙ sym (zone_open w (opening (array_of t) id cuts) index open_);
        empty = e;
      }
