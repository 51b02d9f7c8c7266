-- What is seen of a source and of a sink in memory.
use Rattle.std.specs.Prelude.{ℕ, Bool, List}
use Rattle.ot_io.specs.Demand.{is_demanded}
use Rattle.ot_io.specs.declared.mem_source.MemSource.{MemSource}
use Rattle.ot_io.specs.declared.mem_sink.MemSink.{MemSink}

-- the bytes that a source has left
abbrev pub bytes_left : MemSource → List ℕ
bytes_left source = source.left.now

-- how many faults a source has counted, and how many ends
abbrev pub source_faults : MemSource → ℕ
source_faults source = source.faults.count

abbrev pub source_ends : MemSource → ℕ
source_ends source = source.ends

-- the lengths of the pieces that a source is still to give
abbrev pub lengths_left : MemSource → List ℕ
lengths_left source = source.lengths.now

-- the numbers, from 0, of the reads of a source that are to fail
abbrev pub failing_reads : MemSource → List ℕ
failing_reads source = source.failing.now

-- how many reads of a source were made, which is the number of the next one
abbrev pub reads_made : MemSource → ℕ
reads_made source = source.faults.calls

-- the next read of a source is to fail
abbrev pub is_read_failing : MemSource → Bool
is_read_failing source = is_demanded (failing_reads source) (reads_made source)

-- the bytes that were written to a sink
abbrev pub bytes_written : MemSink → List ℕ
bytes_written sink = sink.written.items

-- how many bytes a sink has room for, in all
abbrev pub room_of : MemSink → ℕ
room_of sink = sink.room

-- how many faults a sink has counted
abbrev pub sink_faults : MemSink → ℕ
sink_faults sink = sink.faults.count

-- the numbers, from 0, of the writes to a sink that are to fail
abbrev pub failing_writes : MemSink → List ℕ
failing_writes sink = sink.failing.now

-- how many writes to a sink were made, which is the number of the next one
abbrev pub writes_made : MemSink → ℕ
writes_made sink = sink.faults.calls

-- the next write to a sink is to fail
abbrev pub is_write_failing : MemSink → Bool
is_write_failing sink = is_demanded (failing_writes sink) (writes_made sink)

-- how many bytes a sink takes at once, where 0 counts as 1
abbrev pub piece_of : MemSink → ℕ
piece_of sink = sink.piece
