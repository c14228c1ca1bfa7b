use Rattle.set_writer.proofs.DigestRead.{lines_are_of_records, digest_has_lines, digest_lists_records}
use Rattle.set_writer.proofs.payloads.digest_lists_the_records.Goals as goal

pub returns-clause-lines : goal.returns-clause-lines
returns-clause-lines c = lines_are_of_records

pub returns-clause-parts : goal.returns-clause-parts
returns-clause-parts c = digest_has_lines

pub returns-clause-lists : goal.returns-clause-lists
returns-clause-lists c = digest_lists_records
