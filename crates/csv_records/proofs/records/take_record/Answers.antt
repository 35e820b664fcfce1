use Rattle.csv.specs.Records.{fields_of}
use Rattle.csv_records.proofs.Reader.{reads_on}
use Rattle.csv_records.proofs.records.take_record.Goals as goal

pub returns : goal.returns
returns c =
    reads_on c.args.reader.now c.read_byte_record.new.self c.in-Ok.found (fields_of c.read_byte_record.new.row) c.requires (c.in-Ok.ensures.ready c.requires.trim) (c.in-Ok.ensures.reads c.requires.trim c.requires.ready)
