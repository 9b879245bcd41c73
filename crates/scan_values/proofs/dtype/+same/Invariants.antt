use Rattle.std.proofs.Common.{◌≡◌, drop, zip}
use Rattle.scan_values.specs.DataType.{fields_of}
use Rattle.scan_values.specs.Same.{same_fields}
use Rattle.scan_values.proofs.dtype.+same.Given as goal

abbrev pub invariant-same_fields-loop-i : goal.invariant-same_fields-loop-i
invariant-same_fields-loop-i l =
    same_fields (fields_of (zip (drop l.i l.names) (drop l.i l.dtypes))) (fields_of (zip (drop l.i l.other_names) (drop l.i l.other_dtypes)))
    ≡ same_fields (fields_of (zip l.names l.dtypes)) (fields_of (zip l.other_names l.other_dtypes))
