-- What a contract sees of the forms over the standard library.
use Rattle.std.specs.Prelude.{ℕ}
use Rattle.lq_outside.specs.declared.std_source.StdSource.{StdSource}
use Rattle.lq_outside.specs.declared.std_sink.StdSink.{StdSink}
use Rattle.lq_outside.specs.declared.std_files.StdFiles.{StdFiles}

-- the reader of a source
abbrev pub reader_of : {R : Type 0} → StdSource R → R
reader_of s = s.inner

-- how many reads failed
abbrev pub read_faults : {R : Type 0} → StdSource R → ℕ
read_faults s = s.faults

-- the writer of a sink
abbrev pub writer_of : {W : Type 0} → StdSink W → W
writer_of s = s.inner

-- how many writes failed
abbrev pub write_faults : {W : Type 0} → StdSink W → ℕ
write_faults s = s.faults

-- how many loads were faults
abbrev pub load_faults : {R : Type 0} → StdFiles R → ℕ
load_faults f = f.faults
