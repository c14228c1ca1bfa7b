use Rattle.std.proofs.Common.{Some, None}
use Rattle.array_scan.specs.Valid.{items_with}
use Rattle.array_scan.proofs.ToldObjects.{told_more}
use Rattle.array_scan.proofs.objects.tell.Goals as goal

pub returns-in_ok-insert-in-Some-value_of : goal.returns-in_ok-insert-in-Some-value_of
returns-in_ok-insert-in-Some-value_of c = λ payload own rest lengths told.
    let items = items_with payload c.args.records.now in
    told_more c.args.objects.now c.insert.new.self items rest c.in-Some.name.now (Some c.in-Some-value_of.what) _ (c.in-Some.ensures own items rest) (c.in-Some-value_of.ensures payload lengths) c.in_ok-insert-in-Some-value_of.ensures.updates told

pub returns-in-None : goal.returns-in-None
returns-in-None c = λ payload own rest lengths told.
    let items = items_with payload c.args.records.now in
    told_more c.args.objects.now c.remove.new.self items rest c.in-Some.name.now None _ (c.in-Some.ensures own items rest) (c.in-None.ensures payload lengths) c.remove.ensures.updates told
