-- By what a recursion over a dtype ends: two for each node.
use Rattle.std.specs.Prelude.{ℕ, ◌+◌}
use Rattle.scan_values.specs.DataType.{DataType, Fields, size_of, fields_size}

abbrev pub weight_of : DataType → ℕ
weight_of d = size_of d + size_of d

abbrev pub fields_weight : Fields → ℕ
fields_weight fs = fields_size fs + fields_size fs
