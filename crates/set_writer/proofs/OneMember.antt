-- A call on one member.
use Rattle.std.proofs.Common.{◌≡◌, ◌≢◌, inl, inr, ℕ, Bool, true, false, cond, List, [], ◌++◌, length, take, Option, Some, None, IfSome, Result, Ok, Err, set, refl, sym, ap, subst, ◌∙◌, arith}
use Rattle.std.specs.Prelude.{not, unwrap_or}
use Rattle.std.specs.Result.{is_err, IsErr}
use Rattle.std.proofs.lemmas.Bool.{cases_eq, cases_lt, eq-eqb, ne_eqb, both_ways}
use Rattle.std.proofs.lemmas.List.{append-nil, get_or-set_same, get_or-set_other, get_or_past, length-set}
use Rattle.smore_base.specs.Told.{Told}
use Rattle.smore_base.proofs.Told.{Told-same}
use Rattle.zone_bay.specs.Outside.{Rose}
use Rattle.zone_bay.specs.Contents.{Contents, Lengths, appended, Extends}
use Rattle.zone_bay.specs.Images.{flushed}
use Rattle.zone_bay.specs.Bay.{BayState, IsSound, Call, Append, Flush, device_of, held_in, Makes}
use Rattle.zone_bay.specs.Stretch.{FailsToward, StaysToward}
use Rattle.zone_bay.proofs.Extends.{at_zone, extends_itself}
use Rattle.zone_bay.proofs.Toward.{toward_start, toward_call, fails_toward}
use Rattle.zone_bay.proofs.Calls.{told_made, same_held}
use Rattle.set_table.specs.Zones.{carries}
use Rattle.set_table.specs.Table.{Table, use_at, is_live, IsCarrier, TellsCarrier, Loses}
use Rattle.set_table.proofs.UseLaws.{carries_carrier, is_carrier_of}
use Rattle.set_writer.specs.Members.{of_one, more_at, grown_by, Leads, SpreadsBy, HasZone, FlushesBy}
use Rattle.set_writer.proofs.MemberCalls.{more_live, more_lost, live_or_lost, leads_nowhere}

-- ---- a device that is lost

-- the table without the device
abbrev pub less : Table → ℕ → Table
less t d = record t { lost = set t.lost d true }

less_lost : (t : Table) (d : ℕ) → is_live (less t d) d ≡ false
less_lost t d = ap not (elim (cases_lt d (length t.lost)) [
  | inl within ↦ get_or-set_same t.lost d true true within
  | inr past ↦ get_or_past (set t.lost d true) d true (omega (arith, past, length-set t.lost d true))
])

less_others : (t : Table) (d e : ℕ) → e ≢ d → is_live (less t d) e ≡ is_live t e
less_others t d e other = ap not (get_or-set_other t.lost d e true true other)

-- only it is lost
lost_is : (t : Table) (d e : ℕ) → Loses t (less t d) e → e ≡ d
lost_is t d e loses = elim (cases_eq e d) [
  | inl same ↦ same
  | inr other ↦ absurd (both_ways (is_live t e) (sym (less_others t d e other) ∙ loses.1) loses.0)
]

less_live : (t : Table) (d e : ℕ) → is_live (less t d) e ≡ true → (e ≢ d) × (is_live t e ≡ true)
less_live t d e live = elim (cases_eq e d) [
  | inl same ↦ absurd (both_ways (is_live (less t d) d) (less_lost t d) (subst (λ n. is_live (less t d) n ≡ true) same live))
  | inr other ↦ (other, sym (less_others t d e other) ∙ live)
]

-- none is lost
loses_none : (t : Table) (e : ℕ) → Loses t t e → ⊥
loses_none t e loses = both_ways (is_live t e) loses.1 loses.0

ok_err : (T E : Type 0) (x : T) → IsErr {T = T} {E = E} (Ok x) → ⊥
ok_err T E x is = cc

-- ---- a call that leads toward a goal

module _ (call : Call) (goal : Contents → Contents) (t : Table) (old new : BayState) (sound : IsSound old) (live : is_live t (device_of call) ≡ true)
    (extends : (held : Contents) → Extends held (goal held)) where
  pub leads_ok : {T E : Type 0} (x : T) → Told old.contents old.contents (λ held at. StaysToward call (goal held) at) → Makes {E = E} call old new (Ok x) → Leads goal t t old new
  leads_ok {T} {E} x stays makes = record {
    stays_lost = λ d l. l;
    toward = toward_call call goal old old new _ sound (toward_start goal old _ extends) (let ok : Result T E = Ok x in ok) stays makes (λ m is. absurd (ok_err T E x is));
    rose = λ d loses. absurd (loses_none t d loses);
    failed = λ d loses. absurd (loses_none t d loses);
  }

  pub leads_err : {T E : Type 0} (e : E) → Told old.contents old.contents (λ held at. StaysToward call (goal held) at) → Makes {T = T} call old new (Err e) → Leads goal t (less t (device_of call)) old new
  leads_err {T} {E} e stays makes =
      let failure : Result T E = Err e in
      record {
        stays_lost = λ d l. (less_live t (device_of call) d l).1;
        toward = toward_call call goal old old new _ sound (toward_start goal old _ extends) failure stays makes (λ m is. (live, less_lost t (device_of call)));
        rose = λ d loses. subst (λ n. Rose (old.faults n) (new.faults n)) (sym (lost_is t (device_of call) d loses)) makes.cause.err;
        failed = λ d loses. subst (λ n. FailsToward goal n old new) (sym (lost_is t (device_of call) d loses)) (fails_toward call goal old old new (λ _ _. Unit {0}) sound (toward_start goal old _ extends) failure refl makes);
      }

-- ---- an append

module _ (t : Table) (set' index d z : ℕ) (bytes : List ℕ) (carrier : IsCarrier t set' index d z) where
  goal : Contents → Contents
  goal = grown_by t (of_one set' index bytes)

  here : of_one set' index bytes (use_at t.zones d z) ≡ bytes
  here = ap (λ b. cond b bytes []) (ap (carries set' index) carrier.carries ∙ carries_carrier set' index)

  there : (e y : ℕ) → ((e ≡ d) × (y ≡ z) → ⊥) → of_one set' index bytes (use_at t.zones e y) ≡ []
  there e y other = at_one (carries set' index (use_at t.zones e y)) refl
    where
      at_one : (b : Bool) → carries set' index (use_at t.zones e y) ≡ b → of_one set' index bytes (use_at t.zones e y) ≡ []
      at_one true is = absurd (other (carrier.alone e y (is_carrier_of set' index (use_at t.zones e y) is)))
      at_one false is = ap (λ b. cond b bytes []) is

  none_there : (e y : ℕ) → ((e ≡ d) × (y ≡ z) → ⊥) → more_at t (of_one set' index bytes) e y ≡ []
  none_there e y other = elim (live_or_lost t e) [
    | inl live ↦ more_live t (of_one set' index bytes) e y live ∙ there e y other
    | inr lost ↦ more_lost t (of_one set' index bytes) e y lost
  ]

  -- the append makes what is aimed at
  pub grown_is : (held : Contents) (e y : ℕ) → appended d z bytes held e y ≡ grown_by t (of_one set' index bytes) held e y
  unfolding goal
  grown_is held e y = elim (cases_eq e d) [
    | inl drive ↦ elim (cases_eq y z) [
      | inl zone ↦
          rw (drive, zone)
          (at_zone d z (held d z ++ bytes) held ∙ ap (λ (l : List ℕ). held d z ++ l) (sym (more_live t (of_one set' index bytes) d z carrier.live ∙ here)))
      | inr other ↦ not_here held e y (λ at. other at.1)
    ]
    | inr other ↦ not_here held e y (λ at. other at.0)
  ]
    where
      outside : (held : Contents) (e y : ℕ) → ((e ≡ d) × (y ≡ z) → ⊥) → appended d z bytes held e y ≡ held e y
      outside held e y other = elim (cases_eq e d) [
        | inl drive ↦ elim (cases_eq y z) [
          | inl zone ↦ absurd (other (drive, zone))
          | inr apart ↦ rw (eq-eqb e d drive, ne_eqb y z apart) refl
        ]
        | inr apart ↦ rw (ne_eqb e d apart) refl
      ]

      not_here : (held : Contents) (e y : ℕ) → ((e ≡ d) × (y ≡ z) → ⊥) → appended d z bytes held e y ≡ grown_by t (of_one set' index bytes) held e y
      not_here held e y other = outside held e y other ∙ sym (append-nil (held e y)) ∙ ap (λ (l : List ℕ). held e y ++ l) (sym (none_there e y other))

  extends_goal : (held : Contents) → Extends held (grown_by t (of_one set' index bytes) held)
  extends_goal held e y = (more_at t (of_one set' index bytes) e y, refl)

  stays : (o : Option Contents) → Told o o (λ held at. StaysToward (Append d z bytes) (grown_by t (of_one set' index bytes) held) at)
  stays o = Told-same o _ (λ held e y. ([], sym (grown_is held e y) ∙ sym (append-nil (appended d z bytes held e y))))

  pub append_ok : {T E : Type 0} (old new : BayState) (x : T) → IsSound old → Makes {E = E} (Append d z bytes) old new (Ok x) → SpreadsBy (of_one set' index bytes) t t old new
  append_ok old new x sound makes = record {
    grows = record {
      table = refl;
      leads = leads_ok (Append d z bytes) (grown_by t (of_one set' index bytes)) t old new sound carrier.live extends_goal x (stays old.contents) makes;
      whole = told_made (appended d z bytes) old.contents new.contents _ makes.done (λ held e y live. grown_is held e y);
    };
    firm = makes.firm;
  }

  pub append_err : {T E : Type 0} (old new : BayState) (e : E) → IsSound old → Makes {T = T} (Append d z bytes) old new (Err e) → SpreadsBy (of_one set' index bytes) t (less t d) old new
  append_err old new e sound makes = record {
    grows = record {
      table = refl;
      leads = leads_err (Append d z bytes) (grown_by t (of_one set' index bytes)) t old new sound carrier.live extends_goal e (stays old.contents) makes;
      whole = told_made (appended d z (take makes.part.0 bytes)) old.contents new.contents _ makes.part.1 (λ held e y live.
          let other = (less_live t d e live).0 in
          rw (ne_eqb e d other) (sym (append-nil (held e y)) ∙ ap (λ (l : List ℕ). held e y ++ l) (sym (none_there e y (λ at. other at.0)))));
    };
    firm = makes.firm;
  }

-- no zone of a live drive carries the index
pub append_none : (t : Table) (set' index : ℕ) (bytes : List ℕ) (bay : BayState) → TellsCarrier t set' index None → SpreadsBy (of_one set' index bytes) t t bay bay
append_none t set' index bytes bay none = record {
  grows = record {
    table = refl;
    leads = leads_nowhere (grown_by t (of_one set' index bytes)) t bay (λ held d z. (more_at t (of_one set' index bytes) d z, refl));
    whole = Told-same bay.contents _ (λ held d z live. sym (append-nil (held d z)) ∙ ap (λ (l : List ℕ). held d z ++ l) (sym (more_live t (of_one set' index bytes) d z live ∙ nothing d z live)));
  };
  firm = refl;
}
  where
    nothing : (d z : ℕ) → is_live t d ≡ true → of_one set' index bytes (use_at t.zones d z) ≡ []
    nothing d z live = at_one (carries set' index (use_at t.zones d z)) refl
      where
        at_one : (b : Bool) → carries set' index (use_at t.zones d z) ≡ b → of_one set' index bytes (use_at t.zones d z) ≡ []
        at_one true is = absurd (none d z live (is_carrier_of set' index (use_at t.zones d z) is))
        at_one false is = ap (λ b. cond b bytes []) is

-- the same by the answer
pub append_at : {T E : Type 0} (t : Table) (set' index d z : ℕ) (bytes : List ℕ) (old new : BayState) (r : Result T E) → IsCarrier t set' index d z → IsSound old → is_err r ≡ false → Makes (Append d z bytes) old new r → SpreadsBy (of_one set' index bytes) t t old new
append_at t set' index d z bytes old new (Ok x) carrier sound answered makes = append_ok t set' index d z bytes carrier old new x sound makes
append_at t set' index d z bytes old new (Err e) carrier sound answered makes = absurd cc

pub append_fails : {T E : Type 0} (t t' : Table) (set' index d z : ℕ) (bytes : List ℕ) (old new : BayState) (r : Result T E) → IsCarrier t set' index d z → IsSound old → is_err r ≡ true → t' ≡ less t d → Makes (Append d z bytes) old new r → SpreadsBy (of_one set' index bytes) t t' old new
append_fails t t' set' index d z bytes old new (Ok x) carrier sound failed is makes = absurd cc
append_fails t t' set' index d z bytes old new (Err e) carrier sound failed is makes = subst (λ (s : Table). SpreadsBy (of_one set' index bytes) t s old new) (sym is) (append_err t set' index d z bytes carrier old new e sound makes)

-- ---- a flush

module _ (t : Table) (set' index d z : ℕ) (carrier : IsCarrier t set' index d z) where
  -- it is the one drive with a zone of the index
  only_drive : (e zone : ℕ) → carries set' index (use_at t.zones e zone) ≡ true → e ≡ d
  only_drive e zone passes = (carrier.alone e zone (is_carrier_of set' index (use_at t.zones e zone) passes)).0

  has_it : HasZone (carries set' index) t d
  has_it = record { live = carrier.live; zone = z; passes = ap (carries set' index) carrier.carries ∙ carries_carrier set' index }

  flush_here : (held : Contents) (firm : Lengths) (e y : ℕ) → e ≡ d → flushed d held firm e y ≡ length (held e y)
  flush_here held firm e y same = rw (eq-eqb e d same) refl

  flush_there : (held : Contents) (firm : Lengths) (e y : ℕ) → e ≢ d → flushed d held firm e y ≡ firm e y
  flush_there held firm e y other = rw (ne_eqb e d other) refl

  flush_stays : (o : Option Contents) → Told o o (λ held at. StaysToward (Flush d) held at)
  flush_stays o = Told-same o _ (λ held. tt)

  pub flush_ok : {T E : Type 0} (old new : BayState) (x : T) → IsSound old → Makes {E = E} (Flush d) old new (Ok x) → FlushesBy (carries set' index) t t old new
  flush_ok old new x sound makes = record {
    table = refl;
    leads = leads_ok (Flush d) (λ held. held) t old new sound carrier.live extends_itself x (flush_stays old.contents) makes;
    contents = makes.done ∙ same_held old.contents;
    firm = at_told new.contents refl;
    others = λ e y other. ap (λ (f : Lengths). f e y) makes.firm ∙ flush_there (held_in new) old.firm e y (λ same. other (subst (HasZone (carries set' index) t) (sym same) has_it));
  }
    where
      at_told : (o : Option Contents) → new.contents ≡ o → IfSome o (λ held. (e y : ℕ) → HasZone (carries set' index) t e → new.firm e y ≡ length (held e y))
      at_told None is = tt
      at_told (Some held) is = λ e y has.
          ap (λ (f : Lengths). f e y) makes.firm
          ∙ flush_here (held_in new) old.firm e y (only_drive e has.zone has.passes)
          ∙ ap (λ (c : Option Contents). length (unwrap_or c (λ _ _. []) e y)) is

  pub flush_err : {T E : Type 0} (old new : BayState) (e : E) → IsSound old → Makes {T = T} (Flush d) old new (Err e) → FlushesBy (carries set' index) t (less t d) old new
  flush_err old new e sound makes = record {
    table = refl;
    leads = leads_err (Flush d) (λ held. held) t old new sound carrier.live extends_itself e (flush_stays old.contents) makes;
    contents = makes.part.1 ∙ same_held old.contents;
    firm = at_told new.contents;
    others = λ e y other. ap (λ (f : Lengths). f e y) makes.firm;
  }
    where
      at_told : (o : Option Contents) → IfSome o (λ held. (e y : ℕ) → HasZone (carries set' index) (less t d) e → new.firm e y ≡ length (held e y))
      at_told None = tt
      at_told (Some held) = λ e y has. absurd ((less_live t d e has.live).0 (only_drive e has.zone has.passes))

pub flush_none : (t : Table) (set' index : ℕ) (bay : BayState) → TellsCarrier t set' index None → FlushesBy (carries set' index) t t bay bay
flush_none t set' index bay none = record {
  table = refl;
  leads = leads_nowhere (λ held. held) t bay extends_itself;
  contents = refl;
  firm = at_told bay.contents;
  others = λ d z other. refl;
}
  where
    at_told : (o : Option Contents) → IfSome o (λ held. (d z : ℕ) → HasZone (carries set' index) t d → bay.firm d z ≡ length (held d z))
    at_told None = tt
    at_told (Some held) = λ d z has. absurd (none d has.zone has.live (is_carrier_of set' index (use_at t.zones d has.zone) has.passes))

-- the same by the answer
pub flush_at : {T E : Type 0} (t : Table) (set' index d z : ℕ) (old new : BayState) (r : Result T E) → IsCarrier t set' index d z → IsSound old → is_err r ≡ false → Makes (Flush d) old new r → FlushesBy (carries set' index) t t old new
flush_at t set' index d z old new (Ok x) carrier sound answered makes = flush_ok t set' index d z carrier old new x sound makes
flush_at t set' index d z old new (Err e) carrier sound answered makes = absurd cc

pub flush_fails : {T E : Type 0} (t t' : Table) (set' index d z : ℕ) (old new : BayState) (r : Result T E) → IsCarrier t set' index d z → IsSound old → is_err r ≡ true → t' ≡ less t d → Makes (Flush d) old new r → FlushesBy (carries set' index) t t' old new
flush_fails t t' set' index d z old new (Ok x) carrier sound failed is makes = absurd cc
flush_fails t t' set' index d z old new (Err e) carrier sound failed is makes = subst (λ (s : Table). FlushesBy (carries set' index) t s old new) (sym is) (flush_err t set' index d z carrier old new e sound makes)
