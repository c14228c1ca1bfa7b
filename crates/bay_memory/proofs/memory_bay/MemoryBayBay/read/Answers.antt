use Rattle.std.proofs.Common.{◌≡◌, ◌∙◌, refl, sym, ap, List, ℕ, ◌+◌, ◌-◌, length, take, drop, arith}
use Rattle.zone_bay.specs.Contents.{Contents, Reads}
use Rattle.zone_bay.specs.Bay.{Read}
use Rattle.bay_memory.specs.MemoryBay.{contents_of}
use Rattle.bay_memory.proofs.Calls.{held_same}
use Rattle.bay_memory.proofs.Results.{on_ok}
use Rattle.bay_memory.proofs.memory_bay.MemoryBayBay.read.Goals as goal

-- what stands in the buffer
reads_part : (zone held out : List ℕ) (at n : ℕ) → held ≡ zone → length out ≡ n → out ≡ take (at + n - at) (drop at held) → Reads zone at out
reads_part zone held out at n is len after =
    let e : at + n - at ≡ length out = omega arith in
    after ∙ ap (λ (k : ℕ). take k (drop at held)) e ∙ ap (λ (l : List ℕ). take (length out) (drop at l)) is

pub slice_bounds-copy_from_slice-end : goal.slice_bounds-copy_from_slice-end
slice_bounds-copy_from_slice-end c =
    let same = held_same (Read c.args.device c.args.zone) c.args.self.now c.make-made.new.self c.make-made.result (sym c.is_ok.ensures.value ∙ c.if-is_ok.true) (λ held. refl) c.make-made.ensures.call in
    let there : length c.held.result.now ≡ length (contents_of c.args.self.now c.args.device c.args.zone) = ap length c.held.ensures ∙ ap (λ (held : Contents). length (held c.args.device c.args.zone)) same in
    omega (arith, there, c.requires.written)

pub returns-then-is_ok-clause-bytes : goal.returns-then-is_ok-clause-bytes
returns-then-is_ok-clause-bytes c =
    let same = held_same (Read c.args.device c.args.zone) c.args.self.now c.make-made.new.self c.make-made.result (sym c.is_ok.ensures.value ∙ c.if-is_ok.true) (λ held. refl) c.make-made.ensures.call in
    let there : c.held.result.now ≡ contents_of c.args.self.now c.args.device c.args.zone = c.held.ensures ∙ ap (λ (held : Contents). held c.args.device c.args.zone) same in
    on_ok c.make-made.result (reads_part (contents_of c.args.self.now c.args.device c.args.zone) c.held.result.now c.copy_from_slice.new.self c.args.at (length c.args.out.now) there c.copy_from_slice.ensures.len c.copy_from_slice.ensures.after)
