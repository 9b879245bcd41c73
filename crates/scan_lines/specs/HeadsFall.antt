-- The heads within the heads of a dtype are those of smaller dtypes.
use Rattle.std.specs.Prelude.{◌≡◌, ◌+◌, ◌≤◌, max, List, [], ◌∷◌}
use Rattle.std.proofs.Common.{arith, subst, sym}
use denote.Param.Weighed.{most}
use Rattle.scan_values.specs.DataType.{DataType, Fields, no_fields, field, bool_type, int_type, utf8_type, list_type, struct_type, size_of, fields_size}
use Rattle.scan_lines.specs.Heads.{dtypes_in, parts_of}

fields_most : (fs : Fields) → most (λ d. size_of d + 1) (dtypes_in fs) ≤ fields_size fs
fields_most no_fields = omega arith
fields_most (field n d fs) = omega (arith, fields_most fs)

parts_most : (d : DataType) → max (most (λ d. size_of d + 1) (parts_of d)) 0 ≤ size_of d
parts_most (bool_type n) = omega arith
parts_most (int_type p n) = omega arith
parts_most (utf8_type n) = omega arith
parts_most (list_type d n) = omega arith
parts_most (struct_type fs n) = omega (arith, fields_most fs)

pub heads_fall : (d : DataType) (parts : List DataType) → parts ≡ parts_of d → max (most (λ d. size_of d + 1) parts) 0 ≤ size_of d
heads_fall d parts h = subst (λ ps. max (most (λ d. size_of d + 1) ps) 0 ≤ size_of d) (sym h) (parts_most d)
