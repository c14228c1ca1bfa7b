-- What stays of a table where zones carry no more than they did: sets that no zone carries leave it.
use Rattle.std.proofs.Common.{◌≡◌, ◌⊎◌, ◌≢◌, ℕ, zero, suc, ◌+◌, ◌-◌, ◌<◌, ◌≤◌, Bool, false, cond, List, [], length, replicate, get_or, set, map, option_map, Option, Some, None, IsSome, IsSomeAnd, IfSome, inl, inr, refl, sym, ap, subst, ◌∙◌, arith}
use mathlib.Core.Bool.{false≢true}
use Rattle.std.proofs.lemmas.Bool.{eq-eqb, ne_eqb, cases_eq, cases_lt}
use Rattle.std.proofs.lemmas.List.{length-replicate, get_or-set_same, get_or-set_other, length-set}
use Rattle.smore_base.specs.declared.geometry.Geometry.{Geometry}
use Rattle.smore_base.specs.Geometry.{IsWithinLimits}
use Rattle.smore_base.specs.declared.limits.TheConstants.{MAX_FRAGMENTS}
use Rattle.set_table.specs.declared.zone_use.ZoneUse.{ZoneUse}
use Rattle.set_table.specs.declared.zone_use.ZoneUse.TheVariants.{Empty, Taken, Carrier}
use Rattle.set_table.specs.declared.rows.Row.{Row}
use Rattle.set_table.specs.Zones.{blank}
use Rattle.set_table.specs.Rows.{row_of, IsLeastAbove, TakesRow}
use Rattle.set_table.specs.Table.{marks_of, marked, zones_of, use_at, IsCarried, IsDrive, put_use, IsBare, HasPlace, Leaves, Stays, Table, KeepsCarried, IsTable}
use Rattle.set_table.proofs.TableLaws.{marks_row}
use Rattle.set_table.proofs.UseLaws.{taken_is_bare, empty_is_bare, each_use, keeps_carrier}
use Rattle.set_table.proofs.ZoneLaws.{length-blank}

-- Of the sets up to this one, each that is carried has the row that it had, and each other none; of the sets above it, each that
-- still has the row that it had may be carried or not.
abbrev pub StaysUpTo : ℕ → List (List ZoneUse) → List Row → List Row → Type 0
StaysUpTo last zones old new =
    (q : ℕ) → ((row_of q new ≡ row_of q old) × (q ≤ last → IsSome (row_of q new) → IsCarried zones q))
    ⊎ ((row_of q new ≡ None) × (IsCarried zones q → ⊥))

some_none : (o : Option Row) → o ≡ None → IsSome o → ⊥
some_none o e some = false≢true (subst IsSome e some)

taken_row : (set q : ℕ) (old new : List Row) → TakesRow set old new → q ≡ set → row_of q new ≡ None
taken_row set q old new takes same = takes q ∙ ap (λ b. cond b None (row_of q old)) (eq-eqb set q (sym same))

other_row : (set q : ℕ) (old new : List Row) → TakesRow set old new → q ≢ set → row_of q new ≡ row_of q old
other_row set q old new takes apart = takes q ∙ ap (λ b. cond b None (row_of q old)) (ne_eqb set q (λ e. apart (sym e)))

-- one set leaves
pub leaving : (zones : List (List ZoneUse)) (set : ℕ) (old new : List Row) → Leaves zones set old new → (q : ℕ)
    → (q ≡ set → ((row_of q new ≡ row_of q old) × IsCarried zones q) ⊎ ((row_of q new ≡ None) × (IsCarried zones q → ⊥))) × (q ≢ set → row_of q new ≡ row_of q old)
leaving zones set old new (inl it) q = (λ same. inl (ap (row_of q) it.1, subst (IsCarried zones) (sym same) it.0), λ apart. ap (row_of q) it.1)
leaving zones set old new (inr it) q = (λ same. inr (taken_row set q old new it.1 same, subst (λ n. IsCarried zones n → ⊥) (sym same) it.0), other_row set q old new it.1)

pub stays_one : (zones : List (List ZoneUse)) (set : ℕ) (old new : List Row) → Leaves zones set old new → ((q : ℕ) → q ≢ set → IsSome (row_of q old) → IsCarried zones q) → Stays zones old new
stays_one zones set old new leaves others q = elim (cases_eq q set) [
  | inl same ↦ elim ((leaving zones set old new leaves q).0 same) [ inl it ↦ inl (it.0, λ some. it.1) | inr it ↦ inr it ]
  | inr apart ↦
      let row = (leaving zones set old new leaves q).1 apart in
      inl (row, λ some. others q apart (subst IsSome row some))
]

pub stays_none : (zones : List (List ZoneUse)) (rows : List Row) → ((q : ℕ) → IsSome (row_of q rows) → IsCarried zones q) → Stays zones rows rows
stays_none zones rows all q = inl (refl, all q)

-- set 0 leaves, the least
pub stays_first : (zones : List (List ZoneUse)) (old new : List Row) → Leaves zones 0 old new → StaysUpTo 0 zones old new
stays_first zones old new leaves q = elim (cases_eq q 0) [
  | inl same ↦ elim ((leaving zones 0 old new leaves q).0 same) [ inl it ↦ inl (it.0, λ le some. it.1) | inr it ↦ inr it ]
  | inr apart ↦ inl ((leaving zones 0 old new leaves q).1 apart, λ le some. absurd (omega (arith, le, apart)))
]

-- then the next one
pub stays_next : (zones : List (List ZoneUse)) (last next : ℕ) (old mid new : List Row) → StaysUpTo last zones old mid → IsLeastAbove last mid (Some next) → Leaves zones next mid new → StaysUpTo next zones old new
stays_next zones last next old mid new before least leaves q = at_one (before q) (cases_eq q next)
  where
    at_one : ((row_of q mid ≡ row_of q old) × (q ≤ last → IsSome (row_of q mid) → IsCarried zones q)) ⊎ ((row_of q mid ≡ None) × (IsCarried zones q → ⊥))
        → (q ≡ next) ⊎ (q ≢ next)
        → ((row_of q new ≡ row_of q old) × (q ≤ next → IsSome (row_of q new) → IsCarried zones q)) ⊎ ((row_of q new ≡ None) × (IsCarried zones q → ⊥))
    at_one (inl it) (inl same) = elim ((leaving zones next mid new leaves q).0 same) [
      | inl now ↦ inl (now.0 ∙ it.0, λ le some. now.1)
      | inr now ↦ inr now
    ]
    at_one (inr it) (inl same) = elim ((leaving zones next mid new leaves q).0 same) [
      | inl now ↦ absurd (it.1 now.1)
      | inr now ↦ inr now
    ]
    at_one (inl it) (inr apart) =
        let row = (leaving zones next mid new leaves q).1 apart in
        inl (
          row ∙ it.0,
          λ le some. elim (cases_lt last q) [
            | inl more ↦ absurd (omega (arith, least.2 q (subst IsSome row some) more, le, apart))
            | inr below ↦ it.1 below (subst IsSome row some)
          ],
        )
    at_one (inr it) (inr apart) = inr ((leaving zones next mid new leaves q).1 apart ∙ it.0, it.1)

pub stays_last : (zones : List (List ZoneUse)) (last : ℕ) (old new : List Row) → StaysUpTo last zones old new → IsLeastAbove last new None → Stays zones old new
stays_last zones last old new before none q = elim (before q) [
  | inl it ↦ inl (it.0, λ some. it.1 (none q some) some)
  | inr it ↦ inr it
]

-- each set that is carried had its row all along
pub carried_row : (zones : List (List ZoneUse)) (last : ℕ) (old new : List Row) → StaysUpTo last zones old new → (q : ℕ) → IsCarried zones q → row_of q new ≡ row_of q old
carried_row zones last old new stays q carried = elim (stays q) [ inl it ↦ it.0 | inr it ↦ absurd (it.1 carried) ]

-- ---- what it makes of the table

module _ (zones : List (List ZoneUse)) (old new : List Row) (stays : Stays zones old new) where
  same_row : (q : ℕ) → IsCarried zones q → row_of q new ≡ row_of q old
  same_row q carried = elim (stays q) [ inl it ↦ it.0 | inr it ↦ absurd (it.1 carried) ]

  pub marks_stay : (q : ℕ) → IsCarried zones q → marks_of q (map marked new) ≡ marks_of q (map marked old)
  marks_stay q carried = marks_row new q ∙ ap (option_map marked) (same_row q carried) ∙ sym (marks_row old q)

  pub marks_leave : (q : ℕ) → (IsCarried zones q → ⊥) → marks_of q (map marked new) ≡ None
  marks_leave q not_carried = marks_row new q ∙ ap (option_map marked) (elim (stays q) [
    | inl it ↦ none (row_of q new) (λ some. not_carried (it.1 some))
    | inr it ↦ it.0
  ])
    where
      none : (o : Option Row) → (IsSome o → ⊥) → o ≡ None
      none None never = refl
      none (Some row) never = absurd (never refl)

  -- where each zone that carries a set carried it before
  pub table_stays : (g : Geometry) (lost lost_now : List Bool) (was : List (List ZoneUse)) → IsTable g lost was old → length lost_now ≡ length lost → length zones ≡ length was
      → ((d : ℕ) → d < length zones → IsDrive g.zones (zones_of zones d)) → ((d z s i : ℕ) → use_at zones d z ≡ Carrier s i → use_at was d z ≡ Carrier s i)
      → IsTable g lost_now zones new
  table_stays g lost lost_now was table devices drives shaped had = record {
    within = table.within;
    devices = devices ∙ table.devices;
    drives = drives ∙ table.drives;
    shaped = shaped;
    carried = λ q some. elim (stays q) [ inl it ↦ it.1 some | inr it ↦ absurd (some_none (row_of q new) it.0 some) ];
    indexes = λ d z s i is. table.indexes d z s i (had d z s i is);
    places = λ d z s i is. subst (λ o. IsSomeAnd o (λ r. HasPlace r i d z)) (sym (same_row s (d, z, i, is))) (table.places d z s i (had d z s i is));
    full = λ q. elim (stays q) [
      | inl it ↦ subst (λ o. IfSome o (λ r. length r.places ≡ MAX_FRAGMENTS)) (sym it.0) (table.full q)
      | inr it ↦ subst (λ o. IfSome o (λ r. length r.places ≡ MAX_FRAGMENTS)) (sym it.0) tt
    ];
  }

-- ---- zones that become empty

module _ (g : Geometry) (lost : List Bool) (zones : List (List ZoneUse)) (rows : List Row) (table : IsTable g lost zones rows) (d z : ℕ) (drive : d < length zones) (zone : z < length (zones_of zones d)) where
  -- each set but the one that the zone carried is carried still
  pub others_carried : (s j : ℕ) → use_at zones d z ≡ Carrier s j → (q : ℕ) → q ≢ s → IsSome (row_of q rows) → IsCarried (put_use d z Empty zones) q
  others_carried s j was q apart some =
      let it = table.carried q some in
      elim (each_use zones d z Empty drive zone it.0 it.1) [
        | inl here ↦ absurd (apart (same_set (sym it.3 ∙ ap (λ n. use_at zones n it.1) here.0 ∙ ap (use_at zones d) here.1 ∙ was)))
        | inr same ↦ (it.0, it.1, it.2, same ∙ it.3)
      ]
    where
      same_set : {i : ℕ} → Carrier q i ≡ Carrier s j → q ≡ s
      same_set e = cc

  pub all_carried : IsBare (use_at zones d z) → (q : ℕ) → IsSome (row_of q rows) → IsCarried (put_use d z Empty zones) q
  all_carried bare q some =
      let it = table.carried q some in
      (it.0, it.1, it.2, keeps_carrier zones d z Empty drive zone bare it.0 it.1 q it.2 it.3)

blank_bare : (n y : ℕ) → IsBare (get_or (blank n) y Taken)
blank_bare n zero = taken_is_bare
blank_bare n (suc zero) = taken_is_bare
blank_bare n (suc (suc y)) = at_one (n - 2) y
  where
    at_one : (m y : ℕ) → IsBare (get_or (replicate m Empty) y Taken)
    at_one zero y = taken_is_bare
    at_one (suc m) zero = empty_is_bare
    at_one (suc m) (suc y) = at_one m y

pub blank_drive : (n : ℕ) → 2 ≤ n → IsDrive n (blank n)
blank_drive n some = record { length_is = length-blank n some; first = refl; second = refl }

-- a drive whose set zones became empty
module _ (zones : List (List ZoneUse)) (d n : ℕ) (drive : d < length zones) where
  pub cleared_had : (e y s i : ℕ) → use_at (set zones d (blank n)) e y ≡ Carrier s i → use_at zones e y ≡ Carrier s i
  cleared_had e y s i is = elim (cases_eq e d) [
    | inl same ↦ absurd (blank_bare n y s i (sym (ap (λ (l : List ZoneUse). get_or l y Taken) (ap (zones_of (set zones d (blank n))) same ∙ get_or-set_same zones d (blank n) [] drive)) ∙ is))
    | inr apart ↦ sym (ap (λ (l : List ZoneUse). get_or l y Taken) (get_or-set_other zones d e (blank n) [] apart)) ∙ is
  ]

  pub cleared_shaped : 2 ≤ n → ((e : ℕ) → e < length zones → IsDrive n (zones_of zones e)) → (e : ℕ) → e < length (set zones d (blank n)) → IsDrive n (zones_of (set zones d (blank n)) e)
  cleared_shaped some shaped e within = elim (cases_eq e d) [
    | inl same ↦ subst (IsDrive n) (sym (ap (zones_of (set zones d (blank n))) same ∙ get_or-set_same zones d (blank n) [] drive)) (blank_drive n some)
    | inr apart ↦ subst (IsDrive n) (sym (get_or-set_other zones d e (blank n) [] apart)) (shaped e (omega (arith, within, length-set zones d (blank n))))
  ]

-- ---- a table whose zones are all empty

no_carrier : (m n d z s i : ℕ) → use_at (replicate m (blank n)) d z ≡ Carrier s i → ⊥
no_carrier zero n d z s i is = taken_is_bare s i is
no_carrier (suc m) n zero z s i is = blank_bare n z s i is
no_carrier (suc m) n (suc d) z s i is = no_carrier m n d z s i is

blank_shaped : (m n : ℕ) → 2 ≤ n → (e : ℕ) → e < length (replicate m (blank n)) → IsDrive n (zones_of (replicate m (blank n)) e)
blank_shaped zero n some e within = absurd (omega (arith, within))
blank_shaped (suc m) n some zero within = blank_drive n some
blank_shaped (suc m) n some (suc e) within = blank_shaped m n some e (omega (arith, within))

pub table_blank : (g : Geometry) → IsWithinLimits g → IsTable g (replicate (g.drives + 1) false) (replicate g.drives (blank g.zones)) []
table_blank g within = record {
  within = within;
  devices = length-replicate (g.drives + 1) false;
  drives = length-replicate g.drives (blank g.zones);
  shaped = blank_shaped g.drives g.zones (omega (arith, within.zones_from));
  carried = λ q some. absurd (some_none (row_of q []) refl some);
  indexes = λ d z s i is. absurd (no_carrier g.drives g.zones d z s i is);
  places = λ d z s i is. absurd (no_carrier g.drives g.zones d z s i is);
  full = λ q. tt;
}

-- what callers see of it
pub keeps_carried : (old new : Table) (was now : List Row) → Stays new.zones was now → old.sets ≡ map marked was → new.sets ≡ map marked now
    → new ≡ record new { geometry = old.geometry; array = old.array } → old.spare ≤ new.spare → KeepsCarried old new
keeps_carried old new was now stays old_is new_is same room = record {
  same = same;
  stays = λ q carried. ap (marks_of q) new_is ∙ marks_stay new.zones was now stays q carried ∙ ap (marks_of q) (sym old_is);
  leaves = λ q none. ap (marks_of q) new_is ∙ marks_leave new.zones was now stays q none;
  room = room;
}
