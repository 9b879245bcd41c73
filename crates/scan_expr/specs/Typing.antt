-- Binding: the conditions of each node, and the first fault that the walk over a scope and an expression meets.
use Rattle.std.specs.Prelude.{Bool, true, false, cond, ◌&&◌, ◌||◌, leb, List, [], ◌∷◌, ◌++◌, not, Option, Some, None, is_some, Result, Ok, Err}
use Rattle.scan_values.specs.DataType.{DataType, Fields, Name, nullability_of, is_null_kind, depth_of}
use Rattle.scan_values.specs.FieldLists.{dtype_named}
use Rattle.scan_values.specs.Kinds.{element_of, struct_fields_of, ptype_of, is_scalar_type}
use Rattle.scan_values.specs.NameFaults.{has_name, names_fault, field_names, dtype_fault}
use Rattle.scan_values.specs.declared.text.NameFault.{NameFault}
use Rattle.scan_values.specs.declared.text.NameFault.TheVariants.{Repeated, Reserved}
use Rattle.scan_values.specs.Fits.{fits, is_bool_type, is_utf8_type}
use Rattle.scan_values.specs.Val.{Val, marked}
use Rattle.scan_values.specs.declared.ptype.PType.{PType}
use Rattle.scan_values.specs.declared.ptype.PType.TheVariants.{U8, U16, U32, U64, I8, I16, I32, I64}
use Rattle.scan_expr.specs.declared.op.Unary.{Unary}
use Rattle.scan_expr.specs.declared.op.Unary.TheVariants.{GetItem, Select, Exclude, Not, IsNull, IsNotNull, ListLength}
use Rattle.scan_expr.specs.declared.op.Binary.{Binary}
use Rattle.scan_expr.specs.declared.op.Binary.TheVariants.{Mask, And, Or, Equal, NotEqual, Less, LessOrEqual, Greater, GreaterOrEqual, CheckedAdd, CheckedSub}
use Rattle.scan_expr.specs.declared.op.BindFault.{BindFault}
use Rattle.scan_expr.specs.declared.op.BindFault.TheVariants.{NoField, NotStruct, NotList, NotBool, Operands, RepeatedName, ReservedName, Literal, Deep}
use Rattle.scan_expr.specs.Expr.{Expr, root, row_index, literal, unary, binary, pack, Parts, no_parts, part, expr_depth}
use Rattle.scan_expr.specs.Infer.{infer, infer_all}

abbrev pub Fault : Type 0
Fault = Option BindFault

-- a fault, where its condition does not hold
abbrev pub unless : Bool → BindFault → Fault
unless true f = None
unless false f = Some f

-- the first of two faults
abbrev pub or_fault : Fault → Fault → Fault
or_fault None g = g
or_fault (Some f) g = Some f

abbrev pub of_names : Option NameFault → Fault
of_names None = None
of_names (Some Repeated) = Some RepeatedName
of_names (Some Reserved) = Some ReservedName

abbrev pub depth_fault : DataType → Fault
depth_fault d = unless (leb (depth_of d) 64) Deep

-- ---- the conditions of each node, from left to right
-- whether a name stands twice, here or among those before
abbrev pub repeats : List Name → List Name → Bool
repeats seen [] = false
repeats seen (n ∷ ns) = has_name n seen || repeats (seen ++ n ∷ []) ns

abbrev pub has_field : Name → Fields → Bool
has_field n fs = is_some (dtype_named n fs)

abbrev pub have_fields : List Name → Fields → Bool
have_fields [] fs = true
have_fields (n ∷ ns) fs = has_field n fs && have_fields ns fs

abbrev pub in_struct : Option Fields → (Fields → Fault) → Fault
in_struct None f = Some NotStruct
in_struct (Some fs) f = f fs

-- of the names that a select or an exclude writes
abbrev pub choice_fault : List Name → Fields → Fault
choice_fault ns fs = or_fault (unless (not (repeats [] ns)) RepeatedName) (unless (have_fields ns fs) NoField)

abbrev pub literal_fault : DataType → Val → Fault
literal_fault d v = unless (is_scalar_type d && fits (marked v) d) Literal

abbrev pub unary_fault : Unary → DataType → Fault
unary_fault (GetItem n) d = in_struct (struct_fields_of d) (λ fs. unless (has_field n fs) NoField)
unary_fault (Select ns) d = in_struct (struct_fields_of d) (choice_fault ns)
unary_fault (Exclude ns) d = in_struct (struct_fields_of d) (choice_fault ns)
unary_fault Not d = unless (is_bool_type d) NotBool
unary_fault IsNull d = None
unary_fault IsNotNull d = None
unary_fault ListLength d = unless (is_some (element_of d)) NotList

abbrev pub same_ptype : PType → PType → Bool
same_ptype U8 U8 = true
same_ptype U16 U16 = true
same_ptype U32 U32 = true
same_ptype U64 U64 = true
same_ptype I8 I8 = true
same_ptype I16 I16 = true
same_ptype I32 I32 = true
same_ptype I64 I64 = true
same_ptype _ _ = false

-- both of one integer type
abbrev pub same_ptypes : Option PType → Option PType → Bool
same_ptypes None q = false
same_ptypes (Some p) None = false
same_ptypes (Some p) (Some q) = same_ptype p q

-- both Bool, both Utf8, or both of one integer type
abbrev pub are_operands : DataType → DataType → Bool
are_operands d e = cond (is_bool_type d) (is_bool_type e) (cond (is_utf8_type d) (is_utf8_type e) (same_ptypes (ptype_of d) (ptype_of e)))

abbrev pub logic_fault : DataType → DataType → Fault
logic_fault d e = or_fault (unless (is_bool_type d) NotBool) (unless (is_bool_type e) NotBool)

abbrev pub comparison_fault : DataType → DataType → Fault
comparison_fault d e = unless (are_operands d e) Operands

-- both of one integer type
abbrev pub sum_fault : DataType → DataType → Fault
sum_fault d e = unless (same_ptypes (ptype_of d) (ptype_of e)) Operands

abbrev pub binary_fault : Binary → DataType → DataType → Fault
binary_fault Mask d e = unless (is_bool_type e && not (is_null_kind (nullability_of e))) NotBool
binary_fault And d e = logic_fault d e
binary_fault Or d e = logic_fault d e
binary_fault Equal d e = comparison_fault d e
binary_fault NotEqual d e = comparison_fault d e
binary_fault Less d e = comparison_fault d e
binary_fault LessOrEqual d e = comparison_fault d e
binary_fault Greater d e = comparison_fault d e
binary_fault GreaterOrEqual d e = comparison_fault d e
binary_fault CheckedAdd d e = sum_fault d e
binary_fault CheckedSub d e = sum_fault d e

abbrev pub pack_fault : Fields → Fault
pack_fault fs = of_names (names_fault [] (field_names fs))

-- ---- the walk over the nodes: parts first, from left to right; a node's conditions, and last its depth
abbrev mutual
  pub nodes_fault : DataType → Expr → Fault
  nodes_fault s root = depth_fault s
  nodes_fault s row_index = None
  nodes_fault s (literal d v) = literal_fault d v
  nodes_fault s (unary u e) = or_fault (nodes_fault s e) (or_fault (unary_fault u (infer s e)) (depth_fault (infer s (unary u e))))
  nodes_fault s (binary b x y) =
      or_fault (nodes_fault s x) (or_fault (nodes_fault s y) (or_fault (binary_fault b (infer s x) (infer s y)) (depth_fault (infer s (binary b x y)))))
  nodes_fault s (pack ps n) = or_fault (parts_fault s ps) (or_fault (pack_fault (infer_all s ps)) (depth_fault (infer s (pack ps n))))

  pub parts_fault : DataType → Parts → Fault
  parts_fault s no_parts = None
  parts_fault s (part n e ps) = or_fault (nodes_fault s e) (parts_fault s ps)

-- the conditions of the nodes without those of depth and of a pack's names: where they hold, each value has its dtype
abbrev mutual
  pub typing_fault : DataType → Expr → Fault
  typing_fault s root = None
  typing_fault s row_index = None
  typing_fault s (literal d v) = literal_fault d v
  typing_fault s (unary u e) = or_fault (typing_fault s e) (unary_fault u (infer s e))
  typing_fault s (binary b x y) = or_fault (typing_fault s x) (or_fault (typing_fault s y) (binary_fault b (infer s x) (infer s y)))
  typing_fault s (pack ps n) = parts_typing_fault s ps

  pub parts_typing_fault : DataType → Parts → Fault
  parts_typing_fault s no_parts = None
  parts_typing_fault s (part n e ps) = or_fault (typing_fault s e) (parts_typing_fault s ps)

-- the whole walk: the scope's depth and names, the expression's depth, the nodes
abbrev pub bind_fault : DataType → Expr → Fault
bind_fault s e =
    or_fault (depth_fault s) (or_fault (of_names (dtype_fault s)) (or_fault (unless (leb (expr_depth e) 100) Deep) (nodes_fault s e)))

abbrev pub typed : {A : Type 0} → Fault → A → Result A BindFault
typed None d = Ok d
typed (Some f) d = Err f

-- the dtype of an expression over a scope, or the first fault
abbrev pub bind_type : DataType → Expr → Result DataType BindFault
bind_type s e = typed (bind_fault s e) (infer s e)

-- ---- requests
-- a filter binds, and to a Bool
abbrev pub filter_fault : DataType → Option Expr → Fault
filter_fault s None = None
filter_fault s (Some e) = or_fault (bind_fault s e) (unless (is_bool_type (infer s e)) NotBool)

-- the first fault of a projection and a filter
abbrev pub request_fault : DataType → Expr → Option Expr → Fault
request_fault s projection filter = or_fault (bind_fault s projection) (filter_fault s filter)
