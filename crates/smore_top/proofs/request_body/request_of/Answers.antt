use Rattle.std.proofs.Common.{◌≡◌, ℕ, List, Option, Some, None, IfSome, arith, sym}
use Rattle.std.proofs.lemmas.Result.{IfOk-weaker}
use Rattle.object_machine.specs.Coding.{Coding}
use Rattle.smore_top.specs.declared.request.Request.{Request}
use Rattle.smore_top.specs.Frames.{IsSpelledBy}
use Rattle.smore_top.specs.Reading.{request_in}
use Rattle.smore_top.proofs.FrameLaws.{IsBytes, request_found}
use Rattle.smore_top.proofs.request_body.request_of.Goals as goal

spelled_if : (coding : Coding) (body : List ℕ) (found : Option Request) → IsBytes body → found ≡ request_in coding body → IfSome found (IsSpelledBy coding body)
spelled_if coding body None bytes is = tt
spelled_if coding body (Some r) bytes is = request_found coding body r bytes (sym is)

pub returns-clause-spelled : goal.returns-clause-spelled
returns-clause-spelled c = IfOk-weaker c.request_by_tag.result _ _ (λ found is. spelled_if c.args.coder.now c.args.body.now found (λ i. omega (arith, c.type_inv.body i)) is) c.request_by_tag.ensures
