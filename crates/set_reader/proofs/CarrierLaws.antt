-- The live carriers of a set.
use Rattle.std.proofs.Common.{◌≡◌, ℕ, zero, suc, ◌+◌, ◌<◌, ◌≤◌, Bool, cond, List, [], ◌∷◌, ◌++◌, length, map, filter, Some, None, refl, sym, ap, ap₂, ◌∙◌, subst, arith, add-one, append-nil}
use Rattle.std.specs.Prelude.{not}
use Rattle.std.specs.List.{AllByRecursion, range_with_len}
use Rattle.std.proofs.lemmas.List.{length-append, length-map, map-append}
use Rattle.std.proofs.lemmas.List.Elements.{filter-append}
use Rattle.std.proofs.lemmas.List.Filters.{length-filter_both}
use Rattle.std.proofs.lemmas.List.FromFn.{length-range_with_len}
use Rattle.set_table.specs.declared.members.Member.{Member}
use Rattle.set_table.specs.Table.{Table, TellsCarrier, fragments_of, is_carried, missing_of}
use Rattle.set_table.proofs.MissingLaws.{carried_where, not_carried_where}
use Rattle.array_model.specs.Reading.{Carrier}
use Rattle.set_reader.specs.Carriers.{carrier_by, carriers_by, IsOneOf, AreCarriers}

range_next : (a n j : ℕ) → a + n ≡ j → range_with_len a (suc n) ≡ range_with_len a n ++ j ∷ []
range_next a zero j is = ap (λ x. x ∷ []) (omega (arith, is))
range_next a (suc n) j is = ap (λ l. a ∷ l) (range_next (a + 1) n j (omega (arith, is)))

carried_next : (t : Table) (set i : ℕ) → filter (is_carried t set) (range_with_len 0 (i + 1)) ≡ filter (is_carried t set) (range_with_len 0 i) ++ cond (is_carried t set i) (i ∷ []) []
carried_next t set i =
    ap (λ n. filter (is_carried t set) (range_with_len 0 n)) (add-one i)
    ∙ ap (filter (is_carried t set)) (range_next 0 i i (omega arith))
    ∙ filter-append (is_carried t set) (range_with_len 0 i) (i ∷ [])

all_behind : (t : Table) (set : ℕ) (cs : List Carrier) (c : Carrier) → AllByRecursion (IsOneOf t set) cs → IsOneOf t set c → AllByRecursion (IsOneOf t set) (cs ++ c ∷ [])
all_behind t set [] c all one = (one, tt)
all_behind t set (x ∷ cs) c all one = (all.0, all_behind t set cs c all.1 one)

-- those of the first so many indexes
pub record CarriersBelow (t : Table) (set i : ℕ) (members : List Member) : Type 0 where
  pub indexes : map (λ (c : Carrier). c.index) (carriers_by members) ≡ filter (is_carried t set) (range_with_len 0 i)
  pub each : AllByRecursion (IsOneOf t set) (carriers_by members)
  pub few : length members ≤ i

pub below_none : (t : Table) (set : ℕ) → CarriersBelow t set 0 []
below_none t set = record { indexes = refl; each = tt; few = omega arith }

pub below_more : (t : Table) (set i : ℕ) (members : List Member) (m : Member) → length t.zones ≡ t.geometry.drives → i < fragments_of t → m.index ≡ i → TellsCarrier t set i (Some (m.device, m.zone)) → CarriersBelow t set i members → CarriersBelow t set (i + 1) (members ++ m ∷ [])
below_more t set i members m drives within here told below =
    let carried = carried_where t set i drives (Some (m.device, m.zone)) told refl in
    let parts = map-append carrier_by members (m ∷ []) in
    let all = map-append (λ (c : Carrier). c.index) (carriers_by members) (carrier_by m ∷ []) in
    record {
      indexes = ap (map (λ (c : Carrier). c.index)) parts ∙ all ∙ ap₂ (λ (l : List ℕ) (n : ℕ). l ++ n ∷ []) below.indexes here
          ∙ ap (λ (b : Bool). filter (is_carried t set) (range_with_len 0 i) ++ cond b (i ∷ []) []) (sym carried) ∙ sym (carried_next t set i);
      each = subst (λ (l : List Carrier). AllByRecursion (IsOneOf t set) l) (sym parts) (all_behind t set (carriers_by members) (carrier_by m) below.each (subst (λ (n : ℕ). IsOneOf t set (record { index = n; place = record { device = m.device; zone = m.zone } })) (sym here) (record { below = within; carrier = told })));
      few = let l = length-append members (m ∷ []) in omega (arith, l, below.few);
    }

pub below_past : (t : Table) (set i : ℕ) (members : List Member) → length t.zones ≡ t.geometry.drives → TellsCarrier t set i None → CarriersBelow t set i members → CarriersBelow t set (i + 1) members
below_past t set i members drives told below =
    let carried = not_carried_where t set i drives None told refl in
    record {
      indexes = below.indexes
          ∙ sym (append-nil (filter (is_carried t set) (range_with_len 0 i)))
          ∙ ap (λ (b : Bool). filter (is_carried t set) (range_with_len 0 i) ++ cond b (i ∷ []) []) (sym carried)
          ∙ sym (carried_next t set i);
      each = below.each;
      few = let f = below.few in omega (arith, f);
    }

pub below_all : (t : Table) (set i : ℕ) (members : List Member) → i ≡ fragments_of t → CarriersBelow t set i members → AreCarriers t set (carriers_by members)
below_all t set i members all below = record {
  indexes = below.indexes ∙ ap (λ n. filter (is_carried t set) (range_with_len 0 n)) all;
  each = below.each;
}

-- ---- how many there are

pub carriers_and_missing : (t : Table) (set : ℕ) (cs : List Carrier) → AreCarriers t set cs → length cs + missing_of t set ≡ fragments_of t
carriers_and_missing t set cs are =
    let n = fragments_of t in
    let counted : length cs ≡ length (filter (is_carried t set) (range_with_len 0 n)) = sym (length-map cs (λ (c : Carrier). c.index)) ∙ ap (λ (l : List ℕ). length l) are.indexes in
    let both = length-filter_both (is_carried t set) (λ i. not (is_carried t set i)) (λ i. refl) (range_with_len 0 n) in
    omega (arith, counted, both, length-range_with_len 0 n)
