use Rattle.std.proofs.Common.{Option, Ok, Some, None, sym, ap, ◌∙◌, subst, arith}
use Rattle.zone_parse.specs.declared.walk.Walk.{Walk}
use Rattle.zone_parse.specs.declared.zone_reader.Progress.{Progress}
use Rattle.zone_parse.specs.declared.zone_reader.Progress.TheVariants.{Walking, Ended}
use Rattle.marker_format.specs.declared.foot.Foot.{Foot}
use Rattle.zone_parse.specs.Walk.{holds_foot}
use Rattle.zone_parse.specs.ZoneReader.{IsNext}
use Rattle.zone_parse.proofs.Reading.{BlockRead, record_in-within, walking_some, walking_none}
use Rattle.zone_parse.proofs.zone_reader.ZoneReader.go_on.Goals as goal

pub behind-requires : goal.behind-requires
behind-requires g c = omega (arith, record_in-within c.args.self.now.source c.args.walk c.in_ok-block.block c.in-Some.marker c.in-Some.ensures.record, c.in-Some.ensures.few)

pub returns-in-Some : goal.returns-in-Some
returns-in-Some g c =
    let s = c.args.self.now.source in
    let before = g.B.Bay.state c.args.bay.now in
    let after = g.B.Bay.state c.block.new.bay in
    let m = c.in-Some.marker in
    let read : BlockRead s before after c.in_ok-block.block c.args.walk = record { inside = c.requires.zone; shows = c.in_ok-block.ensures.shown; only = c.in_ok-block.ensures.reads; once = c.in_ok-block.ensures.once } in
    let step = walking_some s before after c.in_ok-block.block c.args.walk m read c.in-Some.ensures.record in
    subst (λ (p : Progress). IsNext (record { source = s; progress = p }) (record { source = s; progress = Walking c.behind.result }) before after (Ok (Some m))) (sym c.requires.place)
    (subst (λ (w : Walk). IsNext (record { source = s; progress = Walking c.args.walk }) (record { source = s; progress = Walking w }) before after (Ok (Some m))) (sym c.behind.ensures) step)

pub returns-in-None : goal.returns-in-None
returns-in-None g c =
    let s = c.args.self.now.source in
    let before = g.B.Bay.state c.args.bay.now in
    let after = g.B.Bay.state c.block.new.bay in
    let read : BlockRead s before after c.in_ok-block.block c.args.walk = record { inside = c.requires.zone; shows = c.in_ok-block.ensures.shown; only = c.in_ok-block.ensures.reads; once = c.in_ok-block.ensures.once } in
    let foot = c.is_foot_in.ensures ∙ ap (λ (o : Option Foot). holds_foot o c.in_ok-block.block) c.foot.ensures in
    let step = walking_none s before after c.in_ok-block.block c.args.walk c.is_foot_in.result read c.in-None.ensures.record foot in
    subst (λ (p : Progress). IsNext (record { source = s; progress = p }) (record { source = s; progress = Ended c.is_foot_in.result }) before after (Ok None)) (sym c.requires.place) step
