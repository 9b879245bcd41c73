-- The laws of expansion, stepping in and partitioning.
use Rattle.std.specs.Prelude.{◌≡◌, ℕ, ◌<◌, ◌^◌, [], length, Some, None}
use Rattle.scan_values.specs.DataType.{DataType, bool_type, struct_type, nullability_of, Fields}
use Rattle.scan_values.specs.declared.ptype.Nullability.TheVariants.{NonNullable}
use Rattle.scan_expr.specs.Infer.{infer}
use Rattle.scan_values.specs.declared.ptype.Nullability.{Nullability}
use Rattle.scan_values.specs.Marked.{Marked, struct, Markeds}
use Rattle.scan_partition.specs.Direct.{Choice, direct, chosen_types, chosen_values}
use Rattle.scan_expr.specs.Eval.{eval}
use Rattle.scan_expr.specs.Typing.{typing_fault}
use Rattle.scan_partition.specs.declared.item.Item.{Item}
use Rattle.scan_partition.specs.Items.{AtMost, IsExpanded, spelled, one, use_of}
use Rattle.scan_partition.specs.Expand.{expand}
use Rattle.scan_partition.specs.Partition.{cuts, root_of, step_into, joined_type, joined_value, stepped_type, stepped_value}
use Rattle.scan_partition.specs.Rows.{Distinct, Even, IsRow, Agrees, item_type, AllPlain}
use Rattle.scan_partition.specs.Found.{NamesFound, NoneReserved}
use Rattle.scan_partition.specs.Clean.{NodesKnown, NodesSound}
use Rattle.scan_partition.specs.Tighter.{IsTighter}
use Rattle.scan_partition.specs.Lift.{lift, row_item_type, row_item_value}
use Rattle.scan_partition.specs.Lists.{necessary, rewrite_validity, rewrite_offsets, IsClass, IsListRow}
use Rattle.scan_partition.specs.declared.list_.ListChildrenNeeded.TheVariants.{Validity, OffsetsAndValidity}
use Rattle.scan_expr.specs.Expr.{Expr, root, unary}
use Rattle.scan_expr.specs.declared.op.Unary.TheVariants.{IsNotNull, ListLength}

abbrev pub ExpansionKeepsValues : Type 0
ExpansionKeepsValues = (fs : Fields) (n : Nullability) (e : Expr) (v : Marked) (k : ℕ) → Distinct fs → IsRow fs n v
    → eval (struct_type fs n) (expand (struct_type fs n) e) v k ≡ eval (struct_type fs n) e v k

abbrev pub SteppingInKeepsValues : Type 0
SteppingInKeepsValues = (s : DataType) (i : Item) (e : Expr) (v : Marked) (k : ℕ) → IsExpanded e → use_of e ≡ one i
    → eval (infer s (spelled i)) (step_into e) (eval s (spelled i) v k) k ≡ eval s e v k

-- a struct whose fields have names of their own, an expression that takes fields that there are, a value of the
-- struct, and what is read of its items there: whatever it may be of the fields where the struct is not here
pub record Case (fs : Fields) (n : Nullability) (e : Expr) (v : Marked) (w : Item → Marked) : Type 0 where
  pub distinct : Distinct fs
  pub free : NoneReserved fs
  pub found : NamesFound fs e
  pub row : IsRow fs n v
  pub read : Agrees fs v w

-- several parts, joined
abbrev pub PartsJoinToTheWhole : Type 0
PartsJoinToTheWhole = (fs : Fields) (n : Nullability) (e : Expr) (v : Marked) (w : Item → Marked) (k : ℕ) → Case fs n e v w
    → let s = struct_type fs n in let cs = cuts (expand s e) in length cs < 2 ^ 64
    → (infer (joined_type (stepped_type (item_type fs)) cs) (root_of cs [] (expand s e)) ≡ infer s e)
    × (eval (joined_type (stepped_type (item_type fs)) cs) (root_of cs [] (expand s e))
    (joined_value (stepped_value (item_type fs) w k) cs) k ≡ eval s e v k)

-- one part, which is the whole
abbrev pub OnePartIsTheWhole : Type 0
OnePartIsTheWhole = (fs : Fields) (n : Nullability) (e : Expr) (v : Marked) (w : Item → Marked) (k : ℕ) (i : Item)
    → Case fs n e v w
    → let s = struct_type fs n in use_of (expand s e) ≡ one i
    → (infer (item_type fs i) (step_into (expand s e)) ≡ infer s e)
    × (eval (item_type fs i) (step_into (expand s e)) (w i) k ≡ eval s e v k)

-- where the item's own dtype is not nullable as over the struct
abbrev pub SteppingInKeepsKnownValues : Type 0
SteppingInKeepsKnownValues = (fs : Fields) (n : Nullability) (i : Item) (e : Expr) (v : Marked) (k : ℕ)
    → let s = struct_type fs n in let w = eval s (spelled i) v k in IsExpanded e → use_of e ≡ one i
    → NodesKnown s e v k → NodesSound (item_type fs i) (step_into e) w k
    → eval (item_type fs i) (step_into e) w k ≡ eval s e v k

-- an item's own dtype, and its dtype over the struct, are null at no more places than that
abbrev pub OwnDTypesAreTighter : Type 0
OwnDTypesAreTighter = (fs : Fields) (n : Nullability) (i : Item) → let d = infer (struct_type fs n) (spelled i) in IsTighter (item_type fs i) d × IsTighter d d

-- a typed expression, over what the item is
abbrev pub SteppingInKeepsTheTyping : Type 0
SteppingInKeepsTheTyping = (s : DataType) (i : Item) (e : Expr) → IsExpanded e → AtMost i (use_of e)
    → typing_fault s e ≡ None → typing_fault (infer s (spelled i)) (step_into e) ≡ None

-- by row numbers and the scope: the parts of the lifted expression
abbrev pub RowPartsJoinToTheWhole : Type 0
RowPartsJoinToTheWhole = (s : DataType) (e : Expr) (v : Marked) (k : ℕ)
    → let cs = cuts (lift e) in AllPlain cs → length cs < 2 ^ 64
    → (infer (joined_type (stepped_type (row_item_type s)) cs) (root_of cs [] (lift e)) ≡ infer s e)
    × (eval (joined_type (stepped_type (row_item_type s)) cs) (root_of cs [] (lift e))
    (joined_value (stepped_value (row_item_type s) (row_item_value v k) k) cs) k ≡ eval s e v k)

abbrev pub RewritingValidityKeepsValues : Type 0
RewritingValidityKeepsValues = (s : DataType) (e : Expr) (v : Marked) (k : ℕ) → IsClass Validity (necessary e)
    → (infer (bool_type NonNullable) (rewrite_validity e) ≡ infer s e)
    × (eval (bool_type NonNullable) (rewrite_validity e) (eval s (unary IsNotNull root) v k) k ≡ eval s e v k)

abbrev pub RewritingOffsetsKeepsValues : Type 0
RewritingOffsetsKeepsValues = (s : DataType) (e : Expr) (v : Marked) (k : ℕ) → IsListRow (nullability_of s) v → IsClass OffsetsAndValidity (necessary e)
    → let d = infer s (unary ListLength root) in (infer d (rewrite_offsets e) ≡ infer s e)
    × (eval d (rewrite_offsets e) (eval s (unary ListLength root) v k) k ≡ eval s e v k)

-- the fields that are chosen, read alone
abbrev pub ChosenFieldsAreTheWhole : Type 0
ChosenFieldsAreTheWhole = (fs : Fields) (e : Expr) (ms : Markeds) (k : ℕ) (c : Choice) → Distinct fs → Even fs ms
    → direct fs e ≡ Some c
    → let s = struct_type fs NonNullable in (infer s e ≡ struct_type (chosen_types c fs) NonNullable) × (eval s e (struct ms) k ≡ struct (chosen_values c fs ms))
