use Rattle.std.proofs.Common.{◌≡◌, ℕ, List, Some, Vec, Global, subst}
use Rattle.std.specs.Ordering.{eq_by_cmp}
use Rattle.std.specs.Map.{lookup, KeepsOthers}
use Rattle.std.specs.BTreeMap.{is_at}
use Rattle.store_core.proofs.IndexMaps.{at, keys_cmp, by_name-inserted}
use Rattle.store_core.proofs.said.Said.set_stamp.Goals as goal

abbrev items : Vec ℕ Global → List ℕ
items k = k.items

pub returns-clause-stamps : goal.returns-clause-stamps
returns-clause-stamps c =
    let updates = c.in_ok-insert.ensures.updates in
    let es = c.args.self.now.stamps.entries in
    let new = c.insert.new.self.entries in
    by_name-inserted items es new c.args.name.now c.args.stamp
    (subst (λ (l : List ℕ). lookup (is_at (at items l)) new ≡ Some c.args.stamp) c.in_ok-name.ensures.items updates.1)
    (subst (λ (l : List ℕ). KeepsOthers (eq_by_cmp (keys_cmp items)) (is_at (at items l)) es new) c.in_ok-name.ensures.items updates.3)
