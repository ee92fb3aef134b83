-- What a source and a sink in memory do at their next call.
use Rattle.std.specs.Prelude.{ℕ, ◌-◌, Option, Some, None, List, length, drop, min, nat_le, if◌then◌else◌}
use Rattle.std.specs.Option.{option_map}
use Rattle.outside_io.specs.Plan.{moves}
use Rattle.outside_io.specs.declared.mem_source.MemSource.{MemSource}
use Rattle.outside_io.specs.declared.mem_sink.MemSink.{MemSink}

-- the bytes not yet read
abbrev pub left_of : MemSource → List ℕ
left_of source = drop source.at source.bytes

-- how many bytes the next read gives where there is room for so many, and `None` where it fails
abbrev pub read_of : MemSource → ℕ → Option ℕ
read_of source asked = option_map (min (length (left_of source))) (moves source.plan asked)

-- what is to be written, where the room has place for it
abbrev pub fitting : ℕ → Option ℕ → Option ℕ
fitting room None = None
fitting room (Some n) = if nat_le n room then Some n else None

-- how many of so many bytes the next write takes, and `None` where it fails
abbrev pub write_of : MemSink → ℕ → Option ℕ
write_of sink asked = fitting (sink.room - length sink.bytes.items) (moves sink.plan asked)
