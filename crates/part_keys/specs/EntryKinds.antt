-- The first bytes of entries, and of a vertex's changes.
use Rattle.std.specs.Prelude.{ℕ}

-- a call begins a chain
abbrev pub prime_entry : ℕ
prime_entry = 1

-- a chain's out-halves are written, and it ends
abbrev pub local_entry : ℕ
local_entry = 2

-- a chain's out-halves are written first
abbrev pub double_entry : ℕ
double_entry = 3

-- a chain whose out-halves were written first ends
abbrev pub close_entry : ℕ
close_entry = 4

-- a chain that wrote nothing ends
abbrev pub abort_entry : ℕ
abort_entry = 5

-- a chain writes its in-halves
abbrev pub remote_entry : ℕ
remote_entry = 6

-- a chain's Remotes of lower terms count no more
abbrev pub fence_entry : ℕ
fence_entry = 7

-- a call changes a vertex
abbrev pub vertex_entry : ℕ
vertex_entry = 8

-- a call reads
abbrev pub read_entry : ℕ
read_entry = 9

-- a row is put at a vertex
abbrev pub put_change : ℕ
put_change = 1

-- a vertex is deleted
abbrev pub delete_change : ℕ
delete_change = 2
