-- What binds, and why it does not.
use Rattle.std.proofs.Common.{◌≡◌, false, List, [], ◌∷◌, length, Some, None, Ok, refl, ap}
use Rattle.std.specs.Prelude.{option_map}
use Rattle.scan_values.specs.DataType.{DataType, bool_type, int_type, utf8_type, list_type, struct_type, Fields, fields_of, field, Name}
use Rattle.scan_values.specs.Kinds.{struct_fields_of}
use Rattle.scan_expr.specs.Bound.{Bound, bound_of, bound_unless}
use Rattle.scan_expr.specs.Expr.{Expr}
use Rattle.scan_expr.specs.Typing.{Fault, bind_fault, or_fault}
use Rattle.scan_partition.proofs.Partable.{bound_partable}
use Rattle.scan_core.specs.BuilderData.{IsOver}
use Rattle.scan_sources.specs.Requests.{is_bare_struct}
use Rattle.scan_sources.specs.declared.fault.SourceFault.{SourceFault}
use Rattle.scan_sources.specs.declared.fault.SourceFault.TheVariants as fault

-- what binds is over the dtype
bound_is : (f : Fault) (d : DataType) (e : Expr) (b : Bound) → Ok b ≡ bound_unless f d e → b ≡ bound_of d e
bound_is None d e b h = cc
bound_is (Some f) d e b h = cc

pub over_bound : (d : DataType) (e : Expr) (b : Bound) → Ok b ≡ bound_unless (bind_fault d e) d e → IsOver d b
over_bound d e b h = record { scope = ap (λ (x : Bound). x.scope) (bound_is (bind_fault d e) d e b h); bound = bound_partable d e b h }

-- the first of two faults
pub second_fault : (a b : Fault) (f : SourceFault) → option_map fault.Bind a ≡ None → option_map fault.Bind b ≡ Some f → option_map fault.Bind (or_fault a b) ≡ Some f
second_fault None b f h k = k
second_fault (Some g) b f h k = cc

-- a struct with a field is not bare
with_fields : (d : DataType) (n : Name) (t : DataType) (fs : Fields) → Some (field n t fs) ≡ struct_fields_of d → is_bare_struct d ≡ false
with_fields (bool_type m) n t fs h = refl
with_fields (int_type p m) n t fs h = refl
with_fields (utf8_type m) n t fs h = refl
with_fields (list_type e m) n t fs h = refl
with_fields (struct_type gs m) n t fs h = let is : gs ≡ field n t fs = cc in rw is refl

pub not_bare : (d : DataType) (fs : List (Name × DataType)) → Some (fields_of fs) ≡ struct_fields_of d → (length fs ≡ 0 → ⊥) → is_bare_struct d ≡ false
not_bare d [] h e = absurd (e refl)
not_bare d (f ∷ fs) h e = with_fields d f.0 f.1 (fields_of fs) h
