-- Whether two dtypes are one, as code compares them.
use Rattle.std.proofs.Common.{◌≡◌, ◌≢◌, Bool, true, false, not, refl}
use Rattle.scan_values.specs.DataType.{DataType}
use Rattle.scan_values.specs.Same.{same_type, same_type-Decides}

differ : (b : Bool) → b ≡ true → true ≡ not b → ⊥
differ true p q = cc
differ false p q = cc

is_true : (b : Bool) → false ≡ not b → b ≡ true
is_true true h = refl
is_true false h = absurd cc

pub other_type : (a b : DataType) → true ≡ not (same_type a b) → a ≢ b
other_type a b h e = differ (same_type a b) ((same_type-Decides a b).1 e) h

pub one_type : (a b : DataType) → false ≡ not (same_type a b) → a ≡ b
one_type a b h = (same_type-Decides a b).0 (is_true (same_type a b) h)
