use Rattle.std.proofs.Common.{ℕ, Bool, Option, Ok, Err, Some, None, false, sym, ◌∙◌, subst}
use Rattle.std.proofs.lemmas.Result.{err_from_is_err_and}
use Rattle.zone_parse.specs.declared.walk.Walk.{Walk}
use Rattle.zone_parse.specs.declared.zone_reader.Progress.{Progress}
use Rattle.zone_parse.specs.declared.zone_reader.Progress.TheVariants.{Walking, Again, Ended}
use Rattle.zone_parse.specs.Walk.{start}
use Rattle.zone_parse.specs.ZoneReader.{IsNext}
use Rattle.zone_parse.proofs.Reading.{BlockRead, EndRead, first_none, first_walking, first_again, first_open, first_lost, none_from, end_read}
use Rattle.zone_parse.proofs.zone_reader.ZoneReader.first.Goals as goal

pub returns-in_default : goal.returns-in_default
returns-in_default g c =
    let s = c.args.self.now.source in
    let before = g.B.Bay.state c.args.bay.now in
    let mid = g.B.Bay.state c.block.new.bay in
    let read : BlockRead s before mid c.in_ok-block.block start = record { inside = c.requires.zone; shows = c.in_ok-block.ensures.shown; only = c.in_ok-block.ensures.reads; once = c.in_ok-block.ensures.once } in
    let step = first_none s before mid mid c.in_ok-block.block read (sym (none_from c.record_in.result c.in_default.not-Some) ∙ c.record_in.ensures.record) in
    subst (λ (p : Progress). IsNext (record { source = s; progress = p }) (record { source = s; progress = Ended false }) before mid (Ok None)) (sym c.requires.fresh) step

pub returns-then-not-has_rebuilt_mark : goal.returns-then-not-has_rebuilt_mark
returns-then-not-has_rebuilt_mark g c =
    let s = c.args.self.now.source in
    let before = g.B.Bay.state c.args.bay.now in
    let mid = g.B.Bay.state c.block.new.bay in
    let head = c.in-Some.head in
    let read : BlockRead s before mid c.in_ok-block.block start = record { inside = c.requires.zone; shows = c.in_ok-block.ensures.shown; only = c.in_ok-block.ensures.reads; once = c.in_ok-block.ensures.once } in
    let step = first_walking s before mid mid c.in_ok-block.block head read c.in-Some.ensures.record (sym c.has_rebuilt_mark.ensures ∙ c.if-not-has_rebuilt_mark.true) in
    subst (λ (p : Progress). IsNext (record { source = s; progress = p }) (record { source = s; progress = Walking c.behind-walk.result }) before mid (Ok (Some head))) (sym c.requires.fresh)
    (subst (λ (w : Walk). IsNext (record { source = s; progress = _ }) (record { source = s; progress = Walking w }) before mid (Ok (Some head))) (sym c.behind-walk.ensures) step)

pub returns-in_err-left : goal.returns-in_err-left
returns-in_err-left g c =
    let s = c.args.self.now.source in
    let before = g.B.Bay.state c.args.bay.now in
    let mid = g.B.Bay.state c.block.new.bay in
    let after = g.B.Bay.state c.rebuilt_end.new.bay in
    let head = c.in-Some.head in
    let block = c.in_ok-block.block in
    let read : BlockRead s before mid block start = record { inside = c.requires.zone; shows = c.in_ok-block.ensures.shown; only = c.in_ok-block.ensures.reads; once = c.in_ok-block.ensures.once } in
    let ends = end_read s before mid after block head c.behind-walk.result _ c.in_ok-block.ensures.reads c.behind-walk.ensures c.in_err-left.ensures.end c.in_err-left.ensures.reads c.in_err-left.ensures.few in
    let step = first_lost s before mid after block head c.in_err-left.field-0.0 read c.in-Some.ensures.record (sym c.has_rebuilt_mark.ensures ∙ c.if-not-has_rebuilt_mark.false) ends in
    let lost = err_from_is_err_and c.from_residual-in_err-left.result c.from_residual-in_err-left.ensures.1 in
    rw (lost.1, lost.2) (subst (λ (p : Progress). IsNext (record { source = s; progress = p }) (record { source = s; progress = p }) before after (Err c.in_err-left.field-0.0)) (sym c.requires.fresh) step)

pub returns-in-Some-2 : goal.returns-in-Some-2
returns-in-Some-2 g c =
    let s = c.args.self.now.source in
    let before = g.B.Bay.state c.args.bay.now in
    let mid = g.B.Bay.state c.block.new.bay in
    let after = g.B.Bay.state c.rebuilt_end.new.bay in
    let head = c.in-Some.head in
    let block = c.in_ok-block.block in
    let read : BlockRead s before mid block start = record { inside = c.requires.zone; shows = c.in_ok-block.ensures.shown; only = c.in_ok-block.ensures.reads; once = c.in_ok-block.ensures.once } in
    let ends = end_read s before mid after block head c.behind-walk.result _ c.in_ok-block.ensures.reads c.behind-walk.ensures c.in_ok-left.ensures.end c.in_ok-left.ensures.reads c.in_ok-left.ensures.few in
    let counted = subst (λ (o : Option (ℕ × Bool)). EndRead s before mid after block head (Ok o)) c.in-Some-2.is ends in
    let step = first_again s before mid after block head c.in-Some-2.left c.in-Some-2.foot read c.in-Some.ensures.record (sym c.has_rebuilt_mark.ensures ∙ c.if-not-has_rebuilt_mark.false) counted in
    subst (λ (p : Progress). IsNext (record { source = s; progress = p }) (record { source = s; progress = Again c.behind-walk.result c.in-Some-2.left c.in-Some-2.foot }) before after (Ok (Some head))) (sym c.requires.fresh)
    (subst (λ (w : Walk). IsNext (record { source = s; progress = _ }) (record { source = s; progress = Again w c.in-Some-2.left c.in-Some-2.foot }) before after (Ok (Some head))) (sym c.behind-walk.ensures) step)

pub returns-in-None : goal.returns-in-None
returns-in-None g c =
    let s = c.args.self.now.source in
    let before = g.B.Bay.state c.args.bay.now in
    let mid = g.B.Bay.state c.block.new.bay in
    let after = g.B.Bay.state c.rebuilt_end.new.bay in
    let head = c.in-Some.head in
    let block = c.in_ok-block.block in
    let read : BlockRead s before mid block start = record { inside = c.requires.zone; shows = c.in_ok-block.ensures.shown; only = c.in_ok-block.ensures.reads; once = c.in_ok-block.ensures.once } in
    let ends = end_read s before mid after block head c.behind-walk.result _ c.in_ok-block.ensures.reads c.behind-walk.ensures c.in_ok-left.ensures.end c.in_ok-left.ensures.reads c.in_ok-left.ensures.few in
    let counted = subst (λ (o : Option (ℕ × Bool)). EndRead s before mid after block head (Ok o)) c.in-None.is ends in
    let step = first_open s before mid after block head read c.in-Some.ensures.record (sym c.has_rebuilt_mark.ensures ∙ c.if-not-has_rebuilt_mark.false) counted in
    subst (λ (p : Progress). IsNext (record { source = s; progress = p }) (record { source = s; progress = Ended false }) before after (Ok None)) (sym c.requires.fresh) step
