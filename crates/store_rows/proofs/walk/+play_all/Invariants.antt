use Rattle.std.proofs.Common.{length}
use Rattle.store_rows.proofs.walk.+play_all.Given as goal

abbrev pub decreases-play_all : goal.decreases-play_all
decreases-play_all l = length l.segments.now
