-- What is seen of a reader as a source, and of a writer as a sink.
use Rattle.std.specs.Prelude.{ℕ}
use Rattle.ot_io.specs.declared.std_streams.StdSource.{StdSource}
use Rattle.ot_io.specs.declared.std_streams.StdSink.{StdSink}

abbrev pub reader_of : {R : Type 0} → StdSource R → R
reader_of source = source.reader

abbrev pub reads_failed : {R : Type 0} → StdSource R → ℕ
reads_failed source = source.faults

abbrev pub reads_ended : {R : Type 0} → StdSource R → ℕ
reads_ended source = source.ends

abbrev pub writer_of : {W : Type 0} → StdSink W → W
writer_of sink = sink.writer

abbrev pub writes_failed : {W : Type 0} → StdSink W → ℕ
writes_failed sink = sink.faults
