-- Devices that are lost by reading.
use Rattle.std.proofs.Common.{◌≡◌, ◌≢◌, ◌⊎◌, ℕ, zero, suc, ◌<◌, Bool, true, false, List, [], ◌∷◌, length, filter, get_or, set, Some, None, refl, sym, ap, ◌∙◌, subst, inl, inr, arith}
use mathlib.Core.Bool.{false≢true}
use Rattle.std.specs.Prelude.{not}
use Rattle.std.proofs.lemmas.Bool.{cases_lt, cases_eq}
use Rattle.std.proofs.lemmas.List.{get_or_past, get_or-set_same, get_or-set_other, length-set}
use Rattle.zone_bay.specs.Bay.{BayState}
use Rattle.zone_bay.specs.Stretch.{FailsReading}
use Rattle.zone_bay.specs.Outside.{Rose}
use Rattle.zone_bay.proofs.Stretch.{reads_nothing, reads_join, reads_weaker, fails_over_stays}
use Rattle.zone_bay.proofs.Calls.{fails_reading_then}
use Rattle.set_table.specs.Table.{Table, is_live, Loses}
use Rattle.set_reader.proofs.Told.{told_at, told_from}
use Rattle.set_reader.specs.Calls.{live_count, OnlyReadsBy, ReadsUntil}

-- the table without a device
abbrev pub lost_of : Table → ℕ → Table
lost_of t d = record t { lost = set t.lost d true }

module _ (t : Table) (d : ℕ) (live : is_live t d ≡ true) where
  was_live : get_or t.lost d true ≡ false
  was_live = not_true (get_or t.lost d true) live
    where
      not_true : (b : Bool) → not b ≡ true → b ≡ false
      not_true true e = absurd (false≢true e)
      not_true false e = refl

  pub within : d < length t.lost
  within = elim (cases_lt d (length t.lost)) [
    | inl lt ↦ lt
    | inr past ↦ absurd (false≢true (sym was_live ∙ get_or_past t.lost d true past))
  ]

  pub is_lost : Loses t (lost_of t d) d
  is_lost = (live, ap not (get_or-set_same t.lost d true true within))

  others : (e : ℕ) → e ≢ d → is_live (lost_of t d) e ≡ is_live t e
  others e other = ap not (get_or-set_other t.lost d e true true other)

  pub stays_lost : (e : ℕ) → is_live (lost_of t d) e ≡ true → is_live t e ≡ true
  stays_lost e now = elim (cases_eq e d) [
    | inl same ↦ absurd (false≢true (sym is_lost.1 ∙ ap (is_live (lost_of t d)) (sym same) ∙ now))
    | inr other ↦ sym (others e other) ∙ now
  ]

  pub lost_alone : (e : ℕ) → Loses t (lost_of t d) e → e ≡ d
  lost_alone e loses = elim (cases_eq e d) [
    | inl same ↦ same
    | inr other ↦ absurd (false≢true (sym loses.1 ∙ others e other ∙ loses.0))
  ]

  fewer : (lost : List Bool) (i : ℕ) → i < length lost → get_or lost i true ≡ false → length (filter not (set lost i true)) < length (filter not lost)
  fewer [] i less here = absurd (omega (arith, less))
  fewer (true ∷ lost) zero less here = absurd (false≢true (sym here))
  fewer (false ∷ lost) zero less here = omega arith
  fewer (true ∷ lost) (suc i) less here = fewer lost i (omega (arith, less)) here
  fewer (false ∷ lost) (suc i) less here = omega (arith, fewer lost i (omega (arith, less)) here)

  pub count_falls : live_count (lost_of t d) < live_count t
  count_falls = fewer t.lost d within was_live

  -- a read failed, and its device is lost
  pub reads_lost : (n : ℕ) (old new : BayState) → ReadsUntil n (Some d) old new → OnlyReadsBy t (lost_of t d) old new
  reads_lost n old new reads = record {
    table = refl;
    devices = length-set t.lost d true;
    stays_lost = stays_lost;
    bay = reads_weaker old new _ _ (λ e m since same. subst (Loses t (lost_of t d)) (some_is d e same) is_lost) reads.bay;
    rose = λ e loses. subst (λ (e : ℕ). Rose (old.faults e) (new.faults e)) (sym (lost_alone e loses)) reads.rose;
    over = λ e loses. subst (λ (e : ℕ). FailsReading e old new) (sym (lost_alone e loses)) reads.over;
  }
    where
      some_is : (a b : ℕ) → Some a ≡ Some b → a ≡ b
      some_is a b e = cc

not_both : (b : Bool) → b ≡ true → b ≡ false → ⊥
not_both b holds fails = false≢true (sym fails ∙ holds)

-- none failed
pub reads_kept : (t : Table) (n : ℕ) (old new : BayState) → ReadsUntil n None old new → OnlyReadsBy t t old new
reads_kept t n old new reads = record {
  table = refl;
  devices = refl;
  stays_lost = λ d live. live;
  bay = reads_weaker old new _ _ (λ d m since same. absurd (no_some d same)) reads.bay;
  rose = λ d loses. absurd (not_both (is_live t d) loses.0 loses.1);
  over = λ d loses. absurd (not_both (is_live t d) loses.0 loses.1);
}
  where
    no_some : (d : ℕ) → None ≡ Some d → ⊥
    no_some d e = cc

pub nothing_read : (t : Table) (bay : BayState) → OnlyReadsBy t t bay bay
nothing_read t bay = record {
  table = refl;
  devices = refl;
  stays_lost = λ d live. live;
  bay = reads_nothing bay _;
  rose = λ d loses. absurd (not_both (is_live t d) loses.0 loses.1);
  over = λ d loses. absurd (not_both (is_live t d) loses.0 loses.1);
}

-- one after the other
module _ (t u v : Table) (old mid new : BayState) (first : OnlyReadsBy t u old mid) (then : OnlyReadsBy u v mid new) where
  earlier : (d : ℕ) → Loses t u d → Loses t v d
  earlier d loses = (loses.0, gone (is_live v d) (λ live. false≢true (sym loses.1 ∙ then.stays_lost d live)))
    where
      gone : (b : Bool) → (b ≡ true → ⊥) → b ≡ false
      gone true never = absurd (never refl)
      gone false never = refl

  later : (d : ℕ) → Loses u v d → Loses t v d
  later d loses = (first.stays_lost d loses.0, loses.1)

  either : (d : ℕ) → Loses t v d → Loses t u d ⊎ Loses u v d
  either d loses = by (is_live u d) refl
    where
      by : (b : Bool) → is_live u d ≡ b → Loses t u d ⊎ Loses u v d
      by true e = inr (e, loses.1)
      by false e = inl (loses.0, e)

  -- what was told of a failure stays told
  still_told : (d : ℕ) → FailsReading d old mid → FailsReading d old new
  still_told d over = told_from old.contents _ (λ held is.
      let told = told_at old.contents _ held is over in
      (told.0, told.1, fails_over_stays d told.0 held old.firm mid new _ _ then.bay.goes_on told.2))

  pub reads_then : OnlyReadsBy t v old new
  reads_then = record {
    table = then.table ∙ ap (λ (x : Table). record x { lost = v.lost }) first.table;
    devices = then.devices ∙ first.devices;
    stays_lost = λ d live. first.stays_lost d (then.stays_lost d live);
    bay = reads_join old mid new _ (reads_weaker old mid _ _ (λ d m since loses. earlier d loses) first.bay) (reads_weaker mid new _ _ (λ d m since loses. later d loses) then.bay);
    rose = λ d loses. elim (either d loses) [
      | inl one ↦ let more = then.bay.goes_on.no_fewer d in λ below. let rose = first.rose d one (omega (arith, more, below)) in omega (arith, rose, more)
      | inr two ↦ let before = first.bay.goes_on.no_fewer d in λ below. let rose = then.rose d two below in omega (arith, rose, before)
    ];
    over = λ d loses. elim (either d loses) [
      | inl one ↦ still_told d (first.over d one)
      | inr two ↦ fails_reading_then d old mid new _ first.bay (then.over d two)
    ];
  }
