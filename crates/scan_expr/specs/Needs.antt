-- What an expression reads of its scope.
use Rattle.std.specs.Prelude.{Bool, true, false, cond, ◌&&◌, ◌||◌, List, [], ◌∷◌, ◌++◌, bytes_eq}
use Rattle.std.specs.List.{list_any}
use Rattle.scan_values.specs.DataType.{DataType, bool_type, int_type, utf8_type, list_type, struct_type, Fields, no_fields, field, Name, is_null_kind}
use Rattle.scan_values.specs.NameFaults.{has_name, field_names}
use Rattle.scan_values.specs.Paths.{to_field, to_validity, to_offsets, to_elements, Path}
use Rattle.scan_values.specs.declared.ptype.Nullability.{Nullability}
use Rattle.scan_values.specs.declared.ptype.Nullability.TheVariants.{NonNullable, Nullable}
use Rattle.scan_expr.specs.declared.op.Unary.{Unary}
use Rattle.scan_expr.specs.declared.op.Unary.TheVariants.{GetItem, Select, Exclude, Not, IsNull, IsNotNull, ListLength}
use Rattle.scan_expr.specs.Expr.{Expr, root, row_index, literal, unary, binary, pack, Parts, no_parts, part}
use Rattle.scan_expr.specs.Infer.{struct_fields, field_type, infer}

-- ---- what is read of a value
-- the whole of it, whether it is null, its length, some of its fields, or something of one field
pub data Demand : Type 0 where
  whole : Demand
  null_alone : Demand
  length_alone : Demand
  fields : List Name → Demand
  at : Name → Demand → Demand

-- the names of other fields
abbrev pub other_names : List Name → Fields → List Name
other_names ns no_fields = []
other_names ns (field n d fs) = cond (has_name n ns) (other_names ns fs) (n ∷ other_names ns fs)

-- what an operator reads of its part, whose fields these are, where k is read of its result
abbrev pub asked : Unary → Fields → Demand → Demand
asked (GetItem n) fs k = at n k
asked (Select ns) fs k = fields ns
asked (Exclude ns) fs k = fields (other_names ns fs)
asked Not fs k = whole
asked IsNull fs k = null_alone
asked IsNotNull fs k = null_alone
asked ListLength fs k = length_alone

-- the uses of `$`: each longest chain `$.f1..fk`, with what is read of it; k is read of the whole expression
abbrev mutual
  pub uses : DataType → Expr → Demand → List Demand
  uses s root k = k ∷ []
  uses s row_index k = []
  uses s (literal d v) k = []
  uses s (unary u e) k = uses s e (asked u (struct_fields (infer s e)) k)
  uses s (binary b x y) k = uses s x whole ++ uses s y whole
  uses s (pack ps n) k = uses_all s ps

  pub uses_all : DataType → Parts → List Demand
  uses_all s no_parts = []
  uses_all s (part n e ps) = uses s e whole ++ uses_all s ps

-- ---- the leaves of a dtype, as a test on paths
abbrev pub is_end : Path → Bool
is_end [] = true
is_end (t ∷ p) = false

abbrev pub is_validity : Path → Bool
is_validity [] = false
is_validity (to_field n ∷ p) = false
is_validity (to_validity ∷ p) = is_end p
is_validity (to_offsets ∷ p) = false
is_validity (to_elements ∷ p) = false

-- the validity of what is nullable
abbrev pub is_validity_of : Nullability → Path → Bool
is_validity_of n p = is_null_kind n && is_validity p

abbrev pub is_offsets : Path → Bool
is_offsets [] = false
is_offsets (to_field n ∷ p) = false
is_offsets (to_validity ∷ p) = false
is_offsets (to_offsets ∷ p) = is_end p
is_offsets (to_elements ∷ p) = false

abbrev pub under_elements : (Path → Bool) → Path → Bool
under_elements test [] = false
under_elements test (to_field n ∷ p) = false
under_elements test (to_validity ∷ p) = false
under_elements test (to_offsets ∷ p) = false
under_elements test (to_elements ∷ p) = test p

abbrev pub under_field : Name → (Path → Bool) → Path → Bool
under_field f test [] = false
under_field f test (to_field n ∷ p) = bytes_eq f n && test p
under_field f test (to_validity ∷ p) = false
under_field f test (to_offsets ∷ p) = false
under_field f test (to_elements ∷ p) = false

abbrev mutual
  pub is_leaf : DataType → Path → Bool
  is_leaf (bool_type n) p = is_end p
  is_leaf (int_type t n) p = is_end p
  is_leaf (utf8_type n) p = is_end p
  is_leaf (list_type d n) p = is_validity_of n p || (is_offsets p || under_elements (is_leaf d) p)
  is_leaf (struct_type fs n) p = is_validity_of n p || is_field_leaf fs p

  pub is_field_leaf : Fields → Path → Bool
  is_field_leaf no_fields p = false
  is_field_leaf (field f d fs) p = under_field f (is_leaf d) p || is_field_leaf fs p

-- a leaf of the field of this name
abbrev pub is_leaf_of : Fields → Name → Path → Bool
is_leaf_of fs f p = has_name f (field_names fs) && under_field f (is_leaf (field_type f fs)) p

abbrev pub is_leaf_of_any : Fields → List Name → Path → Bool
is_leaf_of_any fs [] p = false
is_leaf_of_any fs (f ∷ ns) p = is_leaf_of fs f p || is_leaf_of_any fs ns p

-- ---- the leaves that a use needs
-- of a null test: the validity, or the nullable leaf itself
abbrev pub null_needs : DataType → Path → Bool
null_needs (bool_type n) p = is_null_kind n && is_end p
null_needs (int_type t n) p = is_null_kind n && is_end p
null_needs (utf8_type n) p = is_null_kind n && is_end p
null_needs (list_type d n) p = is_validity_of n p
null_needs (struct_type fs n) p = is_validity_of n p

-- of a length: the offsets and the validity
abbrev pub length_needs : DataType → Path → Bool
length_needs (bool_type n) p = is_end p
length_needs (int_type t n) p = is_end p
length_needs (utf8_type n) p = is_end p
length_needs (list_type d n) p = is_validity_of n p || is_offsets p
length_needs (struct_type fs n) p = is_leaf (struct_type fs n) p

-- of some fields: these whole, and the validity
abbrev pub fields_needs : List Name → DataType → Path → Bool
fields_needs ns (bool_type n) p = is_end p
fields_needs ns (int_type t n) p = is_end p
fields_needs ns (utf8_type n) p = is_end p
fields_needs ns (list_type d n) p = is_leaf (list_type d n) p
fields_needs ns (struct_type fs n) p = is_validity_of n p || is_leaf_of_any fs ns p

-- of something of one field: that of the field, or under a nullable struct the validity and the whole field
abbrev pub field_needs : Name → (DataType → Path → Bool) → DataType → Path → Bool
field_needs f test (bool_type n) p = is_end p
field_needs f test (int_type t n) p = is_end p
field_needs f test (utf8_type n) p = is_end p
field_needs f test (list_type d n) p = is_leaf (list_type d n) p
field_needs f test (struct_type fs NonNullable) p = has_name f (field_names fs) && under_field f (test (field_type f fs)) p
field_needs f test (struct_type fs Nullable) p = is_validity p || is_leaf_of fs f p

abbrev pub use_needs : Demand → DataType → Path → Bool
use_needs whole d p = is_leaf d p
use_needs null_alone d p = null_needs d p
use_needs length_alone d p = length_needs d p
use_needs (fields ns) d p = fields_needs ns d p
use_needs (at f k) d p = field_needs f (use_needs k) d p

-- whether an expression needs the leaf at a path of its scope, where k is read of its value
abbrev mutual
  pub needs : DataType → Expr → Demand → Path → Bool
  needs s root k p = use_needs k s p
  needs s row_index k p = false
  needs s (literal d v) k p = false
  needs s (unary u e) k p = needs s e (asked u (struct_fields (infer s e)) k) p
  needs s (binary b x y) k p = needs s x whole p || needs s y whole p
  needs s (pack ps n) k p = any_needs s ps p

  pub any_needs : DataType → Parts → Path → Bool
  any_needs s no_parts p = false
  any_needs s (part n e ps) p = needs s e whole p || any_needs s ps p

-- the validity of a nullable list
abbrev pub list_validity : DataType → Path → Bool
list_validity (bool_type n) p = false
list_validity (int_type t n) p = false
list_validity (utf8_type n) p = false
list_validity (list_type d n) p = is_validity_of n p
list_validity (struct_type fs n) p = false

abbrev pub has_none : {A : Type 0} → List A → Bool
has_none [] = true
has_none (x ∷ xs) = false

-- whether an expression over a file's dtype needs the leaf at a path: without uses, the validity of a nullable list alone
abbrev pub needed : DataType → Expr → Path → Bool
needed s e p = cond (has_none (uses s e whole)) (list_validity s p) (needs s e whole p)

-- whether one of several expressions needs it
abbrev pub needed_by : DataType → List Expr → Path → Bool
needed_by s es p = list_any (λ e. needed s e p) es
