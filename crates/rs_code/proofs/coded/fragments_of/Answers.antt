use Rattle.std.proofs.Common.{◌≡◌, ◌+◌, ◌*◌, length, take, drop, ap, ◌∙◌, arith}
use Rattle.rs_code.proofs.Payloads.{made_whole}
use Rattle.rs_code.proofs.coded.fragments_of.Goals as goal

pub returns-clause-payload : goal.returns-clause-payload
returns-clause-payload c =
    let code = c.args.code.now in
    let whole = c.add_parity.new.bytes in
    let items = c.resize.new.self.ok.0 in
    let lent = ap length c.as_mut_slice.ensures.value in
    let same = c.add_parity.auto.bytes in
    let count = c.n.ensures in
    let size : c.in-Some.size ≡ (code.k + code.p) * c.args.f = c.in-Some.ensures.1 ∙ ap (λ n. n * c.args.f) count in
    let started = c.in_ok-bytes.ensures.len in
    let added = c.in_ok-extend_from_slice.ensures.len in
    (made_whole code.k code.p c.args.f c.in-Some.size c.extend_from_slice.new.self.len c.resize.new.self.len
    c.args.payload.now c.in_ok-bytes.bytes.items c.extend_from_slice.new.self.items c.resize.new.self.items whole (drop (length whole) c.resize.new.self.items)
    code.has_source c.requires size c.in_ok-bytes.ensures.items c.in_ok-extend_from_slice.ensures.items (omega arith) c.in_ok-resize.ensures.items
    c.in_ok-resize.ensures.len (omega arith) c.add_parity.ensures.code (c.add_parity.ensures.sources ∙ ap (take (code.k * c.args.f)) c.as_mut_slice.ensures.value)).0

pub returns-clause-fragments : goal.returns-clause-fragments
returns-clause-fragments c =
    let code = c.args.code.now in
    let whole = c.add_parity.new.bytes in
    let items = c.resize.new.self.ok.0 in
    let lent = ap length c.as_mut_slice.ensures.value in
    let same = c.add_parity.auto.bytes in
    let count = c.n.ensures in
    let size : c.in-Some.size ≡ (code.k + code.p) * c.args.f = c.in-Some.ensures.1 ∙ ap (λ n. n * c.args.f) count in
    let started = c.in_ok-bytes.ensures.len in
    let added = c.in_ok-extend_from_slice.ensures.len in
    (made_whole code.k code.p c.args.f c.in-Some.size c.extend_from_slice.new.self.len c.resize.new.self.len
    c.args.payload.now c.in_ok-bytes.bytes.items c.extend_from_slice.new.self.items c.resize.new.self.items whole (drop (length whole) c.resize.new.self.items)
    code.has_source c.requires size c.in_ok-bytes.ensures.items c.in_ok-extend_from_slice.ensures.items (omega arith) c.in_ok-resize.ensures.items
    c.in_ok-resize.ensures.len (omega arith) c.add_parity.ensures.code (c.add_parity.ensures.sources ∙ ap (take (code.k * c.args.f)) c.as_mut_slice.ensures.value)).1
