use Rattle.std.proofs.Common.{arith, refl}
use Rattle.zone_parse.proofs.Shown.{shows_zeros, shows_block}
use Rattle.zone_parse.proofs.zone_reader.Source.block.Goals as goal

pub returns-then-at-from-clause-shown : goal.returns-then-at-from-clause-shown
returns-then-at-from-clause-shown g c = shows_zeros (g.B.Bay.state c.args.bay.now).contents c.args.self.now.device c.args.self.now.zone c.args.self.now.written c.args.block _ c.requires.written (omega arith) refl

pub returns-in-Ok-clause-shown : goal.returns-in-Ok-clause-shown
returns-in-Ok-clause-shown g c = let h = c.in-Ok.ensures.bytes in shows_block (g.B.Bay.state c.args.bay.now).contents c.args.self.now.device c.args.self.now.zone c.args.self.now.written c.args.block _ c.read.new.out c.requires.written (omega arith) (omega arith) (omega arith) h
