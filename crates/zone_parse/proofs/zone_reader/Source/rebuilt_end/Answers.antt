use Rattle.std.proofs.Common.{Option, ap, sym, ◌∙◌, true, false}
use Rattle.marker_format.specs.declared.foot.Foot.{Foot}
use Rattle.zone_parse.specs.Walk.{holds_foot}
use Rattle.zone_parse.proofs.Reading.{rebuilt_told}
use Rattle.zone_parse.proofs.zone_reader.Source.rebuilt_end.Goals as goal

pub returns-then-is_trailer_in-clause-end : goal.returns-then-is_trailer_in-clause-end
returns-then-is_trailer_in-clause-end g c =
    let end = c.in_ok-end.end in
    let foot = c.is_foot_in-foot.ensures ∙ ap (λ (o : Option Foot). holds_foot o end.block) c.foot.ensures in
    rebuilt_told c.args.self.now (g.B.Bay.state c.args.bay.now) (g.B.Bay.state c.walk_to_end.new.bay) end c.args.from end.walk end.records end.block c.in_ok-behind.behind c.is_foot_in-foot.result true
    c.in_ok-end.ensures.reads c.in_ok-end.ensures.end c.in_ok-behind.ensures.shown foot (sym c.if-is_trailer_in.true ∙ c.is_trailer_in.ensures)

pub returns-else-is_trailer_in-clause-end : goal.returns-else-is_trailer_in-clause-end
returns-else-is_trailer_in-clause-end g c =
    let end = c.in_ok-end.end in
    let foot = c.is_foot_in-foot.ensures ∙ ap (λ (o : Option Foot). holds_foot o end.block) c.foot.ensures in
    rebuilt_told c.args.self.now (g.B.Bay.state c.args.bay.now) (g.B.Bay.state c.walk_to_end.new.bay) end c.args.from end.walk end.records end.block c.in_ok-behind.behind c.is_foot_in-foot.result false
    c.in_ok-end.ensures.reads c.in_ok-end.ensures.end c.in_ok-behind.ensures.shown foot (sym c.if-is_trailer_in.false ∙ c.is_trailer_in.ensures)
