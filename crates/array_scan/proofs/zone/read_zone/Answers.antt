use Rattle.std.proofs.Common.{List, Option, Some, IfSome, sym, ap, ◌∙◌, subst, ◌+◌, ◌-◌, ◌^◌, min}
use Rattle.marker_format.specs.declared.marker.Marker.{Marker}
use Rattle.zone_parse.specs.declared.lost.Lost.{Lost}
use Rattle.zone_parse.specs.ZoneReader.{bytes_in, Gives}
use Rattle.array_scan.specs.declared.set_read.RecordAt.{RecordAt}
use Rattle.array_scan.specs.SetRead.{array_by, place_of}
use Rattle.array_scan.proofs.Calls.{read_answered}
use Rattle.array_scan.proofs.Zones.{Walked, walked_more}
use Rattle.array_scan.proofs.zone.read_zone.Goals as goal

pub loop-records-preserved : goal.loop-records-preserved
loop-records-preserved g c =
    let array = array_by c.args.label.now in
    let place = place_of c.args.place in
    let before = g.B.Bay.state c.args.bay.now in
    let mid = g.B.Bay.state c.loop-records.bay in
    let after = g.B.Bay.state c.next.new.bay in
    let reader = c.loop-records.reader in
    let m = c.in-Some.marker in
    let gives : IfSome (bytes_in reader mid) (λ bytes. Gives reader c.next.new.self (Some m) bytes) = subst (λ (o : Option Marker). IfSome (bytes_in reader mid) (λ bytes. Gives reader c.next.new.self o bytes)) c.in-Some.is c.in_ok-marker.ensures.gives in
    let read = read_answered Lost c.in_ok-marker.field-0 _ mid after c.in_ok-marker.ensures.only in
    let more = walked_more array place before mid after reader c.next.new.self c.loop-records.records.items c.loop-records.block c.saturating_add-behind.result m c.loop-records.invariant read c.in_ok-marker.ensures.still c.in_ok-marker.ensures.same gives (c.saturating_add-behind.ensures ∙ ap (λ n. min (c.loop-records.block + n) (2 ^ 32 - 1)) c.blocks_of.ensures) in
    subst (λ (l : List RecordAt). Walked array place before after c.next.new.self l c.saturating_add-behind.result) (sym c.in_ok-push.ensures.items) more
