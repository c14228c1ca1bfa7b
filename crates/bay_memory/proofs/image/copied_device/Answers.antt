use Rattle.std.proofs.Common.{ℕ, Bool, List, Decides, eqb, ◌≡◌}
use Rattle.std.specs.List.{Contains, IsAnyAnswer}
use Rattle.std.proofs.lemmas.List.Elements.{contains_decides, Decides-contains}
use Rattle.std.proofs.lemmas.Bool.Decides.{Decides-eqb}
use Rattle.std.proofs.lemmas.Result.{IfOk-weaker}
use Rattle.bay_memory.specs.Array.{contents_in, firm_in}
use Rattle.bay_memory.specs.Views.{views_of}
use Rattle.bay_memory.specs.Device.{view_of}
use Rattle.bay_memory.proofs.Copies.{copy_there, copy_removed}
use Rattle.bay_memory.proofs.image.copied_device.Goals as goal

-- whether the device is removed
decided : (list : List ℕ) (n : ℕ) (b : Bool) → IsAnyAnswer (λ y b. eqb y n ≡ b) list b → Decides b (Contains list n)
decided list n b cases = Decides-contains list n b (contains_decides eqb Decides-eqb list n b cases)

pub returns-then-contains : goal.returns-then-contains
returns-then-contains c =
    let array = c.args.array.now in
    IfOk-weaker c.blank.result _ _ (λ copy is. copy_removed c.args.crash.now (contents_in (views_of array)) (firm_in (views_of array)) c.args.device array.zones (view_of copy) ((decided c.args.crash.now.removed.now c.args.device c.contains.result c.contains.ensures.cases).0 c.if-contains.true) (rw c.zones.ensures at is)) c.blank.ensures

pub returns : goal.returns
returns c =
    let array = c.args.array.now in
    copy_there c.args.crash.now (contents_in (views_of array)) (firm_in (views_of array)) c.args.device array.zones (view_of c.of.result) _ (λ gone. cc ((decided c.args.crash.now.removed.now c.args.device c.contains.result c.contains.ensures.cases).1 gone)) c.of.ensures c.in_ok-zones.ensures
