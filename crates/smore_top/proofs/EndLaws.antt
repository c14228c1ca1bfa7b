-- Ends and their statuses.
use Rattle.std.proofs.Common.{◌≡◌, refl, subst}
use Rattle.smore_top.specs.declared.end.End.{End}
use Rattle.smore_top.specs.declared.end.End.TheVariants.{Done, NoMemory, BadWords, SourceFailed, SinkFailed, BadFrame, NotOpened, NotFormatted}
use Rattle.smore_top.specs.End.{status_of, end_of, EndsOpen}

-- each end has a status of its own
pub end_of-status_of : (end : End) → end_of (status_of end) ≡ end
end_of-status_of Done = refl
end_of-status_of NoMemory = refl
end_of-status_of BadWords = refl
end_of-status_of SourceFailed = refl
end_of-status_of SinkFailed = refl
end_of-status_of BadFrame = refl
end_of-status_of NotOpened = refl
end_of-status_of NotFormatted = refl

pub open_is_not_words : (end : End) → EndsOpen end → end ≡ BadWords → ⊥
open_is_not_words end ends is = subst EndsOpen is ends
