use Rattle.std.proofs.Common.{◌≡◌, ℕ, suc, ◌-◌, Ok, Some, None, sym, ap, ◌∙◌, subst, arith}
use Rattle.zone_parse.specs.declared.walk.Walk.{Walk}
use Rattle.zone_parse.specs.declared.zone_reader.Progress.{Progress}
use Rattle.zone_parse.specs.declared.zone_reader.Progress.TheVariants.{Again, Ended}
use Rattle.zone_parse.specs.ZoneReader.{IsNext}
use Rattle.zone_parse.proofs.Reading.{BlockRead, record_in-within, again_some, again_none, again_zero}
use Rattle.zone_parse.proofs.zone_reader.ZoneReader.go_again.Goals as goal

pub returns-then-left-eq0 : goal.returns-then-left-eq0
returns-then-left-eq0 g c =
    let s = c.args.self.now.source in
    let before = g.B.Bay.state c.args.bay.now in
    let place = c.requires.place ∙ ap (λ (n : ℕ). Again c.args.walk n c.args.foot) c.if-left-eq0.true in
    subst (λ (p : Progress). IsNext (record { source = s; progress = p }) (record { source = s; progress = Ended c.args.foot }) before before (Ok None)) (sym place) (again_zero s before c.args.walk c.args.foot c.requires.zone)

pub behind-requires : goal.behind-requires
behind-requires g c = omega (arith, record_in-within c.args.self.now.source c.args.walk c.in_ok-block.block c.in-Some.marker c.in-Some.ensures.record, c.in-Some.ensures.few)

pub returns-in-Some : goal.returns-in-Some
returns-in-Some g c =
    let s = c.args.self.now.source in
    let before = g.B.Bay.state c.args.bay.now in
    let after = g.B.Bay.state c.block.new.bay in
    let m = c.in-Some.marker in
    let left = c.args.left - 1 in
    let one_more : c.args.left ≡ suc left = omega arith in
    let place = c.requires.place ∙ ap (λ (n : ℕ). Again c.args.walk n c.args.foot) one_more in
    let read : BlockRead s before after c.in_ok-block.block c.args.walk = record { inside = c.requires.zone; shows = c.in_ok-block.ensures.shown; only = c.in_ok-block.ensures.reads; once = c.in_ok-block.ensures.once } in
    let step = again_some s before after c.in_ok-block.block c.args.walk m left c.args.foot read c.in-Some.ensures.record in
    subst (λ (p : Progress). IsNext (record { source = s; progress = p }) (record { source = s; progress = Again c.behind.result left c.args.foot }) before after (Ok (Some m))) (sym place)
    (subst (λ (w : Walk). IsNext (record { source = s; progress = Again c.args.walk (suc left) c.args.foot }) (record { source = s; progress = Again w left c.args.foot }) before after (Ok (Some m))) (sym c.behind.ensures) step)

pub returns-in-None : goal.returns-in-None
returns-in-None g c =
    let s = c.args.self.now.source in
    let before = g.B.Bay.state c.args.bay.now in
    let after = g.B.Bay.state c.block.new.bay in
    let left = c.args.left - 1 in
    let one_more : c.args.left ≡ suc left = omega arith in
    let place = c.requires.place ∙ ap (λ (n : ℕ). Again c.args.walk n c.args.foot) one_more in
    let read : BlockRead s before after c.in_ok-block.block c.args.walk = record { inside = c.requires.zone; shows = c.in_ok-block.ensures.shown; only = c.in_ok-block.ensures.reads; once = c.in_ok-block.ensures.once } in
    let step = again_none s before after c.in_ok-block.block c.args.walk left c.args.foot read c.in-None.ensures.record in
    subst (λ (p : Progress). IsNext (record { source = s; progress = p }) (record { source = s; progress = Ended c.args.foot }) before after (Ok None)) (sym place) step
