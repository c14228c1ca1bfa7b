use Rattle.std.proofs.Common.{List, ◌∙◌, subst, ◌↔◌}
use Rattle.std.specs.Prelude.{IsTrue}
use Rattle.marker_format.specs.declared.label.Label.{Label}
use Rattle.array_scan.specs.Drives.{HasTwo}
use Rattle.array_scan.proofs.answers.Scan.is_mixed.Goals as goal

pub returns : goal.returns
returns c = λ shape held away scan. subst (λ (ls : List Label). IsTrue c.is_mixed.result ↔ HasTwo ls) (c.deref.ensures.value ∙ scan.labels_are) c.is_mixed.ensures
