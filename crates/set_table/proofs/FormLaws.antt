-- A set that is formed drive by drive.
use Rattle.std.proofs.Common.{◌≡◌, ◌≢◌, ℕ, suc, ◌+◌, ◌-◌, ◌<◌, ◌≤◌, Bool, true, false, cond, List, [], ◌∷◌, ◌++◌, length, map, get_or, not, set, Option, Some, None, is_some, inl, inr, refl, sym, ap, subst, ◌∙◌, arith}
use Rattle.std.specs.Prelude.{nat_lt, ◌==◌}
use Rattle.std.specs.Int.{from_bool}
use Rattle.std.specs.Option.{unwrap_or}
use Rattle.std.specs.List.{range_with_len}
use Rattle.std.proofs.lemmas.Bool.{cases_lt, cases_Bool, lt-ltb, le-ltb, ltb-true, ltb-false, eq-eqb, ne_eqb, or_from, and_left, false_from_ne_true, both_ways}
use Rattle.std.proofs.lemmas.List.{get_or-set_same, get_or-set_other, get_or_default, length-append, append-nil}
use Rattle.smore_base.specs.declared.geometry.Geometry.{Geometry}
use Rattle.smore_base.specs.Room.{room}
use Rattle.set_table.specs.declared.zone_use.ZoneUse.{ZoneUse}
use Rattle.set_table.specs.declared.zone_use.ZoneUse.TheVariants.{Empty, Taken, Carrier}
use Rattle.set_table.specs.declared.members.Member.{Member}
use Rattle.set_table.specs.Zones.{carries, is_empty, count_empty, before_empty, lowest_empty}
use Rattle.set_table.specs.Table.{Table, Marked, Puts, marks_of, unmarked, or_unmarked, zones_of, use_at, put_use, is_live, empty_on, has_empty, fragments_of, room_of, is_rather, IsChoice, members_from, with_members, PutsFormed, Adds, Forms, IsDrive, IsSetZone}
use Rattle.set_table.proofs.Counts.{below, count, below_more, count_yes, count_grows}
use Rattle.set_table.proofs.ZoneLaws.{count_set}
use Rattle.set_table.proofs.TableLaws.{length-put}
use Rattle.set_table.proofs.UseLaws.{each_use, is_carrier_of}
use Rattle.set_table.proofs.ForgetLaws.{without_none}
use Rattle.set_table.proofs.RoomLaws.{room_not_raised, room_one_less}

-- ---- the lowest empty zone of a drive

before_within : (uses : List ZoneUse) → 0 < count_empty uses → before_empty uses < length uses
before_within [] some = absurd (omega (arith, some))
before_within (Empty ∷ uses) some = omega arith
before_within (Taken ∷ uses) some = omega (arith, before_within uses some)
before_within (Carrier s i ∷ uses) some = omega (arith, before_within uses some)

before_is_empty : (uses : List ZoneUse) → 0 < count_empty uses → get_or uses (before_empty uses) Taken ≡ Empty
before_is_empty [] some = absurd (omega (arith, some))
before_is_empty (Empty ∷ uses) some = refl
before_is_empty (Taken ∷ uses) some = before_is_empty uses some
before_is_empty (Carrier s i ∷ uses) some = before_is_empty uses some

pub lowest_is : (uses : List ZoneUse) → 0 < count_empty uses → lowest_empty uses ≡ Some (before_empty uses)
lowest_is uses some = ap (λ b. cond b (Some (before_empty uses)) None) (lt-ltb (before_empty uses) (length uses) (before_within uses some))

not_low : (uses : List ZoneUse) (z : ℕ) → get_or uses z Taken ≡ Taken → get_or uses (before_empty uses) Taken ≡ Empty → before_empty uses ≢ z
not_low uses z taken is same = differ (sym taken ∙ ap (λ n. get_or uses n Taken) (sym same) ∙ is)
  where
    differ : Taken ≡ Empty → ⊥
    differ e = absurd cc

module _ (t : Table) (d : ℕ) (has : has_empty t d ≡ true) where
  some_empty : 0 < empty_on t d
  some_empty = ltb-true 0 (empty_on t d) has

  pub lives : is_live t d ≡ true
  lives = at_one (is_live t d) refl some_empty
    where
      at_one : (b : Bool) → is_live t d ≡ b → 0 < cond b (count_empty (zones_of t.zones d)) 0 → is_live t d ≡ true
      at_one true e some = e
      at_one false e some = absurd (omega (arith, some))

  pub counts : 0 < count_empty (zones_of t.zones d)
  counts = subst (λ b. 0 < cond b (count_empty (zones_of t.zones d)) 0) lives some_empty

  pub lowest_use : use_at t.zones d (before_empty (zones_of t.zones d)) ≡ Empty
  lowest_use = before_is_empty (zones_of t.zones d) counts

  pub lowest_zone : IsDrive t.geometry.zones (zones_of t.zones d) → d < t.geometry.drives → IsSetZone t.geometry d (before_empty (zones_of t.zones d))
  lowest_zone shaped drive = record {
    drive = drive;
    from = omega (arith, not_low (zones_of t.zones d) 0 shaped.first lowest_use, not_low (zones_of t.zones d) 1 shaped.second lowest_use);
    to = omega (arith, before_within (zones_of t.zones d) counts, shaped.length_is);
  }

-- the zone that is found
pub zone_found : (t : Table) (d : ℕ) → has_empty t d ≡ true → (zones : List (List ZoneUse)) (found : List ZoneUse) (o : Option ℕ) (z : ℕ) → d < length zones → zones ≡ t.zones
    → found ≡ get_or zones d found → o ≡ lowest_empty found → z ≡ unwrap_or o 0 → z ≡ before_empty (zones_of t.zones d)
zone_found t d has zones found o z within same is lowest zone =
    let uses = is ∙ get_or_default zones d found [] within ∙ ap (λ l. zones_of l d) same in
    zone ∙ ap (λ p. unwrap_or p 0) (lowest ∙ ap lowest_empty uses ∙ lowest_is (zones_of t.zones d) (counts t d has))

-- ---- one member more

pub members_more : (t : Table) (index : ℕ) (ds : List ℕ) (d : ℕ) → members_from t index (ds ++ (d ∷ [])) ≡ members_from t index ds ++ (record { index = index + length ds; device = d; zone = before_empty (zones_of t.zones d) } ∷ [])
members_more t index [] d = ap (λ n. record { index = n; device = d; zone = before_empty (zones_of t.zones d) } ∷ []) {x = index} {y = index + 0} (omega arith)
members_more t index (x ∷ ds) d =
    let rest = members_more t (index + 1) ds d in
    ap (λ l. record { index = index; device = x; zone = before_empty (zones_of t.zones x) } ∷ l)
    (rest ∙ ap (λ n. members_from t (index + 1) ds ++ (record { index = n; device = d; zone = before_empty (zones_of t.zones d) } ∷ [])) {x = index + 1 + length ds} {y = index + suc (length ds)} (omega arith))

pub members_long : (t : Table) (index : ℕ) (ds : List ℕ) → length (members_from t index ds) ≡ length ds
members_long t index [] = refl
members_long t index (d ∷ ds) = ap suc (members_long t (index + 1) ds)

with_more : (number : ℕ) (members : List Member) (m : Member) (zones : List (List ZoneUse)) → with_members number (members ++ (m ∷ [])) zones ≡ put_use m.device m.zone (Carrier number m.index) (with_members number members zones)
with_more number [] m zones = refl
with_more number (x ∷ members) m zones = with_more number members m (put_use x.device x.zone (Carrier number x.index) zones)

twice : (b : Bool) (x y : Option Marked) → cond b x (cond b x y) ≡ cond b x y
twice true x y = refl
twice false x y = refl

-- The set is formed on the chosen drives below this one.
pub record FormedBelow (old : Table) (number : ℕ) (chosen : ℕ → Bool) (device : ℕ) (members : List Member) (now : Table) : Type 0 where
  pub geometry : now.geometry ≡ old.geometry
  pub array : now.array ≡ old.array
  pub lost : now.lost ≡ old.lost
  pub long : length now.zones ≡ length old.zones
  pub items : members ≡ members_from old 0 (below chosen device)
  pub zones : now.zones ≡ with_members number members old.zones
  pub later : (d : ℕ) → device ≤ d → zones_of now.zones d ≡ zones_of old.zones d
  pub earlier : (d : ℕ) → d < device → count_empty (zones_of now.zones d) + from_bool (chosen d) ≡ count_empty (zones_of old.zones d)
  pub carried : (d z i : ℕ) → use_at now.zones d z ≡ Carrier number i → i < length members
  pub sets : PutsFormed number members old now

pub formed_none : (old : Table) (number : ℕ) (chosen : ℕ → Bool) → ((d z i : ℕ) → use_at old.zones d z ≡ Carrier number i → ⊥) → FormedBelow old number chosen 0 [] old
formed_none old number chosen absent = record {
  geometry = refl;
  array = refl;
  lost = refl;
  long = refl;
  items = refl;
  zones = refl;
  later = λ d le. refl;
  earlier = λ d lt. absurd (omega (arith, lt));
  carried = λ d z i is. absurd (absent d z i is);
  sets = (refl, refl);
}

module _ (old : Table) (number : ℕ) (chosen : ℕ → Bool) (device : ℕ) (members : List Member) (now : Table) (before : FormedBelow old number chosen device members now) where
  -- the drive isn't chosen
  pub formed_past : chosen device ≡ false → FormedBelow old number chosen (device + 1) members now
  formed_past not_chosen = record {
    geometry = before.geometry;
    array = before.array;
    lost = before.lost;
    long = before.long;
    items = before.items ∙ ap (members_from old 0) (sym (below_more chosen device ∙ ap (λ b. below chosen device ++ cond b (device ∷ []) []) not_chosen ∙ append-nil (below chosen device)));
    zones = before.zones;
    later = λ d le. before.later d (omega (arith, le));
    earlier = λ d lt. elim (cases_lt d device) [
      | inl less ↦ before.earlier d less
      | inr ge ↦
          let same : d ≡ device = omega (arith, lt, ge) in
          let none : from_bool (chosen d) ≡ 0 = ap from_bool (ap chosen same ∙ not_chosen) in
          omega (arith, ap count_empty (before.later d ge), none)
    ];
    carried = before.carried;
    sets = before.sets;
  }

  -- what the drive has now is what it had
  pub has_now : has_empty old device ≡ true → has_empty now device ≡ true
  has_now has = ap (λ l. nat_lt 0 (cond (not (get_or l device true)) (count_empty (zones_of now.zones device)) 0)) before.lost
      ∙ ap (λ l. nat_lt 0 (cond (is_live old device) (count_empty l) 0)) (before.later device (omega arith)) ∙ has

  pub zone_now : before_empty (zones_of now.zones device) ≡ before_empty (zones_of old.zones device)
  zone_now = ap before_empty (before.later device (omega arith))

  pub index_is : length members ≡ count chosen device
  index_is = ap length before.items ∙ members_long old 0 (below chosen device)

  -- the set has room for a member on the drive
  pub room_left : IsChoice old chosen → chosen device ≡ true → length members < fragments_of old
  room_left choice is =
      let more = count_yes chosen device is in
      omega (arith, index_is, more, count_grows chosen (device + 1) old.geometry.drives (omega (arith, choice.drives device is)), choice.count)

  -- the drive is chosen, and the set gets a member on it
  pub formed_here : (m : Member) (new : Table) → chosen device ≡ true → has_empty old device ≡ true → device < length now.zones
      → m ≡ record { index = length members; device = device; zone = before_empty (zones_of now.zones device) }
      → Adds now number (length members) device m.zone new → marks_of number old.sets ≡ None
      → FormedBelow old number chosen (device + 1) (members ++ (m ∷ [])) new
  formed_here m new is_chosen has within m_is adds absent = record {
    geometry = ap (λ (t : Table). t.geometry) adds.zones ∙ before.geometry;
    array = ap (λ (t : Table). t.array) adds.zones ∙ before.array;
    lost = ap (λ (t : Table). t.lost) adds.zones ∙ before.lost;
    long = ap length zones_are ∙ length-put now.zones device m.zone used ∙ before.long;
    items = ap (λ l. l ++ (m ∷ [])) before.items ∙ ap (λ x. members_from old 0 (below chosen device) ++ (x ∷ [])) m_old ∙ sym (members_more old 0 (below chosen device) device)
        ∙ ap (members_from old 0) (sym (below_more chosen device ∙ ap (λ b. below chosen device ++ cond b (device ∷ []) []) is_chosen));
    zones = zones_are ∙ ap (put_use device m.zone (Carrier number (length members))) before.zones ∙ ap (λ (x : Member). put_use x.device m.zone (Carrier number x.index) (with_members number members old.zones)) (sym m_is) ∙ sym (with_more number members m old.zones);
    later = λ d le. drive_other d (λ e. omega (arith, le, e)) ∙ before.later d (omega (arith, le));
    earlier = λ d lt. elim (cases_lt d device) [
      | inl less ↦ ap (λ l. count_empty l + from_bool (chosen d)) (drive_other d (λ e. omega (arith, less, e))) ∙ before.earlier d less
      | inr ge ↦ subst (λ k. count_empty (zones_of new.zones k) + from_bool (chosen k) ≡ count_empty (zones_of old.zones k)) {x = device} {y = d} (omega (arith, lt, ge)) here
    ];
    carried = λ d z i is. elim (each_use now.zones device m.zone used within zone_within d z) [
      | inl it ↦ let same : length members ≡ i = carrier_index (sym it.2 ∙ ap (λ l. use_at l d z) (sym zones_are) ∙ is) in omega (arith, same, long)
      | inr same ↦ omega (arith, before.carried d z i (sym same ∙ ap (λ l. use_at l d z) (sym zones_are) ∙ is), long)
    ];
    sets = puts_more members before.sets adds.sets adds.spare;
  }
    where
      used : ZoneUse
      used = Carrier number (length members)

      not_yet : (d z : ℕ) → carries number (length members) (use_at now.zones d z) ≡ false
      not_yet d z = false_from_ne_true _ (λ does. omega (arith, before.carried d z (length members) (is_carrier_of number (length members) (use_at now.zones d z) does)))

      zones_are : new.zones ≡ put_use device m.zone used now.zones
      zones_are = ap (λ (t : Table). t.zones) adds.zones ∙ ap (put_use device m.zone used) (without_none number (length members) now.zones not_yet)

      carrier_index : {i : ℕ} → Carrier number (length members) ≡ Carrier number i → length members ≡ i
      carrier_index e = cc

      long : length (members ++ (m ∷ [])) ≡ length members + 1
      long = length-append members (m ∷ [])

      m_old : m ≡ record { index = 0 + length (below chosen device); device = device; zone = before_empty (zones_of old.zones device) }
      m_old = m_is ∙ ap (λ n. record { index = n; device = device; zone = before_empty (zones_of now.zones device) }) {x = length members} {y = 0 + length (below chosen device)} (omega (arith, index_is))
          ∙ ap (λ z. record { index = 0 + length (below chosen device); device = device; zone = z }) zone_now

      m_zone : m.zone ≡ before_empty (zones_of now.zones device)
      m_zone = ap (λ (x : Member). x.zone) m_is

      zone_within : m.zone < length (zones_of now.zones device)
      zone_within = omega (arith, m_zone, before_within (zones_of now.zones device) (counts now device (has_now has)))

      drive_other : (d : ℕ) → d ≢ device → zones_of new.zones d ≡ zones_of now.zones d
      drive_other d apart = ap (λ l. zones_of l d) zones_are ∙ get_or-set_other now.zones device d (set (zones_of now.zones device) m.zone used) [] apart

      was_empty : from_bool (is_empty (get_or (zones_of now.zones device) m.zone Taken)) ≡ 1
      was_empty = ap (λ z. from_bool (is_empty (get_or (zones_of now.zones device) z Taken))) m_zone ∙ ap (λ u. from_bool (is_empty u)) (lowest_use now device (has_now has))

      here : count_empty (zones_of new.zones device) + from_bool (chosen device) ≡ count_empty (zones_of old.zones device)
      here =
          let is : zones_of new.zones device ≡ set (zones_of now.zones device) m.zone used = ap (λ l. zones_of l device) zones_are ∙ get_or-set_same now.zones device (set (zones_of now.zones device) m.zone used) [] within in
          let one : from_bool (chosen device) ≡ 1 = ap from_bool is_chosen in
          omega (arith, ap count_empty is, count_set (zones_of now.zones device) m.zone used zone_within, was_empty, one, ap count_empty (before.later device (omega arith)))

      puts_more : (members : List Member) → PutsFormed number members old now → Puts (or_unmarked number (marks_of number now.sets)) now.sets new.sets
          → new.spare ≡ now.spare - cond (is_some (marks_of number now.sets)) 0 1 → PutsFormed number (members ++ (m ∷ [])) old new
      puts_more [] it puts spare =
          let none : marks_of number now.sets ≡ None = ap (marks_of number) it.0 ∙ absent in (
            subst (λ l. Puts (unmarked number) l new.sets) it.0 (subst (λ o. Puts (or_unmarked number o) now.sets new.sets) none puts),
            spare ∙ ap (λ o. now.spare - cond (is_some o) 0 1) none ∙ ap (λ n. n - 1) it.1,
          )
      puts_more (x ∷ more) it puts spare =
          let some : marks_of number now.sets ≡ Some (unmarked number) = it.0 number ∙ ap (λ b. cond b (Some (unmarked number)) (marks_of number old.sets)) (eq-eqb number number refl) in
          let again = subst (λ o. Puts (or_unmarked number o) now.sets new.sets) some puts in (
            (λ q. again q ∙ ap (λ o. cond (number == q) (Some (unmarked number)) o) (it.0 q) ∙ twice (number == q) (Some (unmarked number)) (marks_of q old.sets)),
            spare ∙ ap (λ o. now.spare - cond (is_some o) 0 1) some ∙ omega arith ∙ it.1,
          )

-- ---- the set is formed

rather_more : (t : Table) (a b : ℕ) → is_rather t a b ≡ true → empty_on t b ≤ empty_on t a
rather_more t a b is = elim (cases_lt (empty_on t a) (empty_on t b)) [
  | inr no_more ↦ no_more
  | inl fewer ↦ absurd (both_ways (is_rather t a b) (or_from _ _ (le-ltb (empty_on t b) (empty_on t a) (omega (arith, fewer))) (and_left _ _ (ne_eqb (empty_on t a) (empty_on t b) (λ e. omega (arith, fewer, e))))) is)
]

module _ (old : Table) (number : ℕ) (chosen : ℕ → Bool) (members : List Member) (now : Table) (choice : IsChoice old chosen) (formed : FormedBelow old number chosen old.geometry.drives members now) where
  one_each : (d : ℕ) → d < old.geometry.drives → empty_on now d + from_bool (chosen d) ≡ empty_on old d
  one_each d below = at_one (is_live old d) refl
    where
      live_is : is_live now d ≡ is_live old d
      live_is = ap (λ l. not (get_or l d true)) formed.lost

      left : (b : Bool) → chosen d ≡ b → is_live old d ≡ false → from_bool (chosen d) ≡ 0
      left true e lost_is = absurd (both_ways (is_live old d) lost_is (lives old d (choice.empty d e)))
      left false e lost_is = ap from_bool e

      at_one : (b : Bool) → is_live old d ≡ b → empty_on now d + from_bool (chosen d) ≡ empty_on old d
      at_one true e =
          let was : empty_on old d ≡ count_empty (zones_of old.zones d) = ap (λ b. cond b (count_empty (zones_of old.zones d)) 0) e in
          let is : empty_on now d ≡ count_empty (zones_of now.zones d) = ap (λ b. cond b (count_empty (zones_of now.zones d)) 0) (live_is ∙ e) in
          omega (arith, was, is, formed.earlier d below)
      at_one false e =
          let was : empty_on old d ≡ 0 = ap (λ b. cond b (count_empty (zones_of old.zones d)) 0) e in
          let is : empty_on now d ≡ 0 = ap (λ b. cond b (count_empty (zones_of now.zones d)) 0) (live_is ∙ e) in
          omega (arith, was, is, left (chosen d) refl e)

  room_now : room_of now ≡ room (fragments_of old) (map (empty_on now) (range_with_len 0 old.geometry.drives))
  room_now = ap (λ (g : Geometry). room (g.k + g.p) (map (empty_on now) (range_with_len 0 g.drives))) formed.geometry

  rather : (a b : ℕ) → a < old.geometry.drives → b < old.geometry.drives → chosen a ≡ true → chosen b ≡ false → empty_on old b ≤ empty_on old a
  rather a b a_below b_below is is_not = elim (cases_Bool (has_empty old b)) [
    | inl has ↦ rather_more old a b (choice.best a b is is_not b_below has)
    | inr none ↦ omega (arith, ltb-false 0 (empty_on old b) none)
  ]

  pub forms : 1 ≤ fragments_of old → Forms old number members now
  forms some = record {
    is_chosen = chosen;
    choice = choice;
    members_are = formed.items;
    zones = ap (λ x. record now { geometry = x }) formed.geometry ∙ ap (λ x. record now { geometry = old.geometry; array = x }) formed.array
        ∙ ap (λ x. record now { geometry = old.geometry; array = old.array; lost = x }) formed.lost ∙ ap (λ x. record now { geometry = old.geometry; array = old.array; lost = old.lost; zones = x }) formed.zones;
    sets = formed.sets;
    no_more = subst (λ n. n ≤ room_of old) (sym room_now) (room_not_raised (fragments_of old) old.geometry.drives (empty_on old) (empty_on now) chosen some one_each);
    one_less = λ all. subst (λ n. room_of old ≤ n + 1) (sym room_now)
        (room_one_less (fragments_of old) old.geometry.drives (empty_on old) (empty_on now) chosen some one_each (sym (members_long old 0 (below chosen old.geometry.drives)) ∙ sym (ap length formed.items) ∙ all) rather);
  }
