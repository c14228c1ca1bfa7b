use Rattle.array_model.proofs.Flash.{flash_may_leave}
use Rattle.array_model.proofs.reading_laws.flash_may_leave.Goals as goal

pub returns : goal.returns
returns c = flash_may_leave
