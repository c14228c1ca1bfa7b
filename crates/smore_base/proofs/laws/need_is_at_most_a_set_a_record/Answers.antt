use Rattle.smore_base.proofs.RoomLaws.{need_at_most}
use Rattle.smore_base.proofs.laws.need_is_at_most_a_set_a_record.Goals as goal

pub returns : goal.returns
returns c = need_at_most
