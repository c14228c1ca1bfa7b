use Rattle.smore_top.proofs.WordsLemmas.{IsBatch-folder, same_bytes}
use Rattle.smore_top.proofs.words.is_batch.Goals as goal

pub returns : goal.returns
returns c =
    let words = c.args.words.now in
    let command = c.in-Some-Some.command.now in
    let batch = same_bytes command _ c.ne.result c.ne.ensures c.if-ne.false in
    IsBatch-folder words command c.in-Some-Some.folder.now c.is_option.result (cc) c.in-Some-Some.ensures c.in-Some-Some.ensures' batch c.is_option.ensures
