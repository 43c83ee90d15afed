-- A line says what its record's text says.
use Rattle.std.proofs.Common.{rules}
use Rattle.records.specs.Reading.{record_of}
use Rattle.records.proofs.reading.read_record.Goals as goal

pub returns-in_default : goal.returns-in_default
unfolding record_of
returns-in_default c = search rules

pub returns : goal.returns
unfolding record_of
returns c = search rules
