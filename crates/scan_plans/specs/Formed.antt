-- When a node may stand in a plan.
use Rattle.std.specs.Prelude.{◌≡◌, ◌<◌, ℕ, pos, Bool, true, false, ◌||◌, length}
use Rattle.scan_values.specs.DataType.{DataType, Fields, struct_type, bool_type, list_type, is_nullable, nullability_of}
use Rattle.scan_values.specs.declared.ptype.Nullability.TheVariants.{NonNullable, Nullable}
use Rattle.scan_values.specs.Kinds.{is_scalar_type}
use Rattle.scan_values.specs.Marked.{null, integer, list, Markeds, listed}
use Rattle.scan_expr.specs.Eval.{eval}
use Rattle.scan_expr.specs.Infer.{infer}
use Rattle.scan_expr.specs.Overflow.{overflows}
use Rattle.scan_values.specs.Fits.{is_struct_type}
use Rattle.scan_expr.specs.declared.op.Unary.{Unary}
use Rattle.scan_expr.specs.declared.op.Unary.TheVariants.{GetItem, Select, Exclude, Not, IsNull, IsNotNull, ListLength}
use Rattle.scan_expr.specs.Expr.{Expr, root, row_index, literal, unary, binary, pack, Parts, no_parts, part, uses_row_index}
use Rattle.scan_plans.specs.PlanTree.{PlanTree, leaf, rows, evaluate, over, constant, lists, lengths, valid, numbers, by_lengths}
use Rattle.scan_segments.specs.Source.{Store}
use Rattle.scan_plans.specs.Meaning.{plan_dtype, overflow_at, AreFields}

-- what an operator reads of `$` itself: of what is never null a null test reads nothing
abbrev pub reads_root : Unary → DataType → Bool
reads_root (GetItem n) d = true
reads_root (Select ns) d = true
reads_root (Exclude ns) d = true
reads_root Not d = true
reads_root IsNull d = is_nullable d
reads_root IsNotNull d = is_nullable d
reads_root ListLength d = true

-- whether an expression reads anything of its scope
abbrev mutual
  pub reads : DataType → Expr → Bool
  reads d root = true
  reads d row_index = false
  reads d (literal t v) = false
  reads d (unary u root) = reads_root u d
  reads d (unary u row_index) = false
  reads d (unary u (literal t v)) = false
  reads d (unary u (unary w e)) = reads d (unary w e)
  reads d (unary u (binary b x y)) = reads d (binary b x y)
  reads d (unary u (pack ps n)) = reads d (pack ps n)
  reads d (binary b x y) = reads d x || reads d y
  reads d (pack ps n) = any_reads d ps

  pub any_reads : DataType → Parts → Bool
  any_reads d no_parts = false
  any_reads d (part n e ps) = reads d e || any_reads d ps

-- nothing that a plan evaluates may overflow at one of so many rows
abbrev pub NeverOverflows : PlanTree → ℕ → Type 0
NeverOverflows p n = (store : Store) (i : ℕ) → i < n → overflow_at p store i ≡ false

-- the values are lengths of lists
abbrev pub AreLengths : PlanTree → Type 0
AreLengths (lengths o) = Unit {0}
AreLengths (valid (lengths o) v) = Unit {0}
AreLengths _ = ⊥

-- an expression over lists reads only whether they are null and how many elements they have: another, over that, means the same
pub record IsByLengths (d : DataType) (e : Expr) (t : DataType) (f : Expr) : Type 0 where
  pub dtype : infer t f ≡ infer d e
  pub unnumbered : uses_row_index f ≡ false
  pub value : (ms : Markeds) → eval t f (integer (pos (length (listed ms)))) 0 ≡ eval d e (list ms) 0
  pub overflow : (ms : Markeds) → overflows t f (integer (pos (length (listed ms)))) 0 ≡ overflows d e (list ms) 0
  pub null_value : nullability_of t ≡ Nullable → eval t f null 0 ≡ eval d e null 0
  pub null_overflow : nullability_of t ≡ Nullable → overflows t f null 0 ≡ overflows d e null 0

-- the form of a node, over the forms of its parts
abbrev pub IsNode : PlanTree → Type 0
IsNode (leaf d s gs) = is_scalar_type d ≡ true
IsNode (rows d vs) = Unit {0}
IsNode (evaluate d e p) = (plan_dtype p ≡ d) × (uses_row_index e ≡ false)
IsNode (over d e ps) = (fs : Fields) × (d ≡ struct_type fs NonNullable) × AreFields fs ps × (uses_row_index e ≡ false)
IsNode (constant d e) = (reads d e ≡ false) × (uses_row_index e ≡ false) × (is_struct_type d ≡ false)
IsNode (lists d p o) = (d ≡ list_type (plan_dtype p) NonNullable) × NeverOverflows p o.elements
IsNode (lengths o) = Unit {0}
IsNode (valid p v) = plan_dtype v ≡ bool_type NonNullable
IsNode (numbers k) = Unit {0}
IsNode (by_lengths d e t f p) = (plan_dtype p ≡ t) × AreLengths p × IsByLengths d e t f
