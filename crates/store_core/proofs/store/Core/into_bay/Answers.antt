use Rattle.store_core.proofs.CoreAppends.{core_map}
use Rattle.store_core.proofs.store.Core.into_bay.Goals as goal

pub returns-clause-map : goal.returns-clause-map
returns-clause-map g c = core_map c.args.self
