use Rattle.set_writer.proofs.WroteLaws.{fits_hold, fits_appended}
use Rattle.set_writer.proofs.writer.SetWriter.append_record.Goals as goal

pub push-requires-clause-held : goal.push-requires-clause-held
push-requires-clause-held g c = fits_hold c.args.self.now c.args.table.now (g.B.Bay.state c.args.bay.now).contents c.requires.open c.requires.of.array c.requires.held

pub returns-clause-held : goal.returns-clause-held
returns-clause-held g c = λ fits es was. fits_appended c.args.self.now c.push.new.self es c.args.m.now c.args.body.now c.args.table.now c.push.new.table (g.B.Bay.state c.args.bay.now) (g.B.Bay.state c.push.new.bay) c.requires.open c.push.ensures.writer c.requires.record c.push.ensures.bytes c.push.ensures.spread.grows was
