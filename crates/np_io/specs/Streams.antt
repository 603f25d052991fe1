-- The adapters over readers and writers of the standard library.
use Rattle.std.specs.Prelude.{ℕ}
use Rattle.np_io.specs.declared.stdin_source.StdinSource.{StdinSource}
use Rattle.np_io.specs.declared.stdout_sink.StdoutSink.{StdoutSink}

-- the reader that the source takes its bytes from
abbrev pub stdin_reader : {R : Type 0} → StdinSource R → R
stdin_reader source = source.reader

-- how many reads failed
abbrev pub stdin_faults : {R : Type 0} → StdinSource R → ℕ
stdin_faults source = source.faults

-- the writer that the sink gives its bytes to
abbrev pub stdout_writer : {W : Type 0} → StdoutSink W → W
stdout_writer sink = sink.writer

-- how many writes and flushes failed
abbrev pub stdout_faults : {W : Type 0} → StdoutSink W → ℕ
stdout_faults sink = sink.faults
