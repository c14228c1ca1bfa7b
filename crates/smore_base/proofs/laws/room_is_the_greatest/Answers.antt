use Rattle.smore_base.proofs.RoomLaws.{room_is_greatest}
use Rattle.smore_base.proofs.laws.room_is_the_greatest.Goals as goal

pub returns : goal.returns
returns c = room_is_greatest
