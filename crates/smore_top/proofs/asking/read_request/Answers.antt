use Rattle.std.proofs.Common.{◌≡◌, length, arith, sym, ◌∙◌}
use Rattle.std.proofs.lemmas.List.{take_at}
use Rattle.std.specs.Int.{w32, from_be_bytes}
use Rattle.smore_top.proofs.ReadSteps.{read_failed, read_cut, read_without_memory, read_bad, read_request_of}
use Rattle.smore_top.proofs.asking.read_request.Goals as goal
use Rattle.smore_top.proofs.asking.read_request.Goals.{After-deref_mut, After-deref}

-- the buffer has as many bytes as the length says
room : (g : _) (c : After-deref_mut g) → length c.deref_mut.result.now ≡ from_be_bytes w32 c.fill.new.out
room g c = omega (arith, c.deref_mut.ensures.len, c.in-Ok-vec.ensures.len, c.body_length-length.ensures.value)

-- the body is what was filled
body_is : (g : _) (c : After-deref g) → c.deref.result.now ≡ c.fill-2.new.out
body_is g c = c.deref.ensures.value ∙ take_at c.fill-2.new.out _ _ (omega (arith, c.in-Ok-fill.ensures.length, c.deref_mut.ensures.len))

pub returns-in-Err-fill-clause-read : goal.returns-in-Err-fill-clause-read
returns-in-Err-fill-clause-read g c = read_failed c.args.coder.now _ _ _ c.fill.new.out c.fill-2.new.out c.in-Ok.count _ c.in-Ok.ensures.length c.if-count-lt-LENGTH_BYTES.false (room g (goal.at.returns-in-Err-fill-clause-read g c).After-deref_mut) c.in-Ok.ensures.taken _ c.in-Err-fill.ensures.taken

pub returns-in-Ok-fill-clause-read : goal.returns-in-Ok-fill-clause-read
returns-in-Ok-fill-clause-read g c = read_cut c.args.coder.now _ _ _ c.fill.new.out c.fill-2.new.out c.in-Ok.count _ c.in-Ok.ensures.length c.if-count-lt-LENGTH_BYTES.false (room g (goal.at.returns-in-Ok-fill-clause-read g c).After-deref_mut) c.in-Ok.ensures.taken _ (omega (arith, c.if-count-len.true, c.len.ensures, c.deref_mut.ensures.len)) c.in-Ok-fill.ensures.taken

pub returns-in-Err-request_of-clause-read : goal.returns-in-Err-request_of-clause-read
returns-in-Err-request_of-clause-read g c = read_without_memory c.args.coder.now _ _ _ c.fill.new.out c.fill-2.new.out c.in-Ok.count _ c.in-Ok.ensures.length c.if-count-lt-LENGTH_BYTES.false (room g (goal.at.returns-in-Err-request_of-clause-read g c).After-deref_mut) c.in-Ok.ensures.taken c.in-Ok-fill.count c.deref.result.now
    (omega (arith, c.if-count-len.false, c.len.ensures, c.deref_mut.ensures.len)) c.in-Ok-fill.ensures.length (body_is g (goal.at.returns-in-Err-request_of-clause-read g c).After-deref) c.in-Ok-fill.ensures.taken

pub returns-in-Ok-None-clause-read : goal.returns-in-Ok-None-clause-read
returns-in-Ok-None-clause-read g c = read_bad c.args.coder.now _ _ _ c.fill.new.out c.fill-2.new.out c.in-Ok.count _ c.in-Ok.ensures.length c.if-count-lt-LENGTH_BYTES.false (room g (goal.at.returns-in-Ok-None-clause-read g c).After-deref_mut) c.in-Ok.ensures.taken c.in-Ok-fill.count c.deref.result.now
    (omega (arith, c.if-count-len.false, c.len.ensures, c.deref_mut.ensures.len)) c.in-Ok-fill.ensures.length (body_is g (goal.at.returns-in-Ok-None-clause-read g c).After-deref) c.in-Ok-fill.ensures.taken (sym c.in-Ok-None.ensures.value ∙ c.in-Ok-None.field-0-is)

pub returns-clause-read : goal.returns-clause-read
returns-clause-read g c = read_request_of c.args.coder.now _ _ _ c.fill.new.out c.fill-2.new.out c.in-Ok.count _ c.in-Ok.ensures.length c.if-count-lt-LENGTH_BYTES.false (room g (goal.at.returns-clause-read g c).After-deref_mut) c.in-Ok.ensures.taken c.in-Ok-fill.count c.deref.result.now
    (omega (arith, c.if-count-len.false, c.len.ensures, c.deref_mut.ensures.len)) c.in-Ok-fill.ensures.length (body_is g (goal.at.returns-clause-read g c).After-deref) c.in-Ok-fill.ensures.taken c.in-Ok-Some.request c.body_length-length.result c.body_length-length.ensures.spelled (omega (arith, c.in-Ok-vec.ensures.len, c.deref_mut.ensures.len)) (omega (arith, c.in-Ok-vec.ensures.len, c.deref_mut.ensures.len, c.if-length-gt-MAX_BODY_BYTES.false)) (rw c.in-Ok-Some.field-0-is at c.in-Ok-Some.ensures.spelled)
