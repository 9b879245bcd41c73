-- Expressions as a person reads them.
use Rattle.std.specs.Prelude.{◌≡◌, ℕ, ◌++◌, Bool, true, false, List, [], ◌∷◌, codes, length, map}
use Rattle.scan_values.specs.DataType.{Name}
use Rattle.scan_values.specs.Shown.{comma, shown_dtype, shown_null, shown_val}
use Rattle.scan_values.specs.Values.{val_of}
use Rattle.scan_expr.specs.declared.tree.Top.{Top}
use Rattle.scan_expr.specs.declared.tree.Top.TheVariants as top
use Rattle.scan_expr.specs.Expr.{Expr, parts_of, root, row_index, literal, unary, binary, pack, Parts, no_parts, part}
use Rattle.scan_expr.specs.declared.op.Unary.{Unary}
use Rattle.scan_expr.specs.declared.op.Unary.TheVariants.{GetItem, Select, Exclude, Not, IsNull, IsNotNull, ListLength}
use Rattle.scan_expr.specs.declared.op.Binary.{Binary}
use Rattle.scan_expr.specs.declared.op.Binary.TheVariants.{Mask, And, Or, Equal, NotEqual, Less, LessOrEqual, Greater, GreaterOrEqual, CheckedAdd, CheckedSub}

-- names, behind others or not
abbrev pub shown_names : Bool → List Name → List ℕ
shown_names first [] = []
shown_names first (n ∷ ns) = (comma first ++ n) ++ shown_names false ns

-- what stands before the part of an operator on one expression, and what behind it
abbrev pub unary_front : Unary → List ℕ
unary_front (GetItem n) = []
unary_front (Select ns) = codes "select("
unary_front (Exclude ns) = codes "exclude("
unary_front Not = codes "not("
unary_front IsNull = codes "is_null("
unary_front IsNotNull = codes "is_not_null("
unary_front ListLength = codes "list_length("

abbrev pub unary_back : Unary → List ℕ
unary_back (GetItem n) = codes "." ++ n
unary_back (Select ns) = codes ", {" ++ (shown_names true ns ++ codes "})")
unary_back (Exclude ns) = codes ", {" ++ (shown_names true ns ++ codes "})")
unary_back Not = codes ")"
unary_back IsNull = codes ")"
unary_back IsNotNull = codes ")"
unary_back ListLength = codes ")"

-- what stands before the first part of an operator on two, and what between them
abbrev pub binary_front : Binary → List ℕ
binary_front Mask = codes "mask("
binary_front And = codes "("
binary_front Or = codes "("
binary_front Equal = codes "("
binary_front NotEqual = codes "("
binary_front Less = codes "("
binary_front LessOrEqual = codes "("
binary_front Greater = codes "("
binary_front GreaterOrEqual = codes "("
binary_front CheckedAdd = codes "("
binary_front CheckedSub = codes "("

abbrev pub binary_middle : Binary → List ℕ
binary_middle Mask = codes ", "
binary_middle And = codes " and "
binary_middle Or = codes " or "
binary_middle Equal = codes " == "
binary_middle NotEqual = codes " != "
binary_middle Less = codes " < "
binary_middle LessOrEqual = codes " <= "
binary_middle Greater = codes " > "
binary_middle GreaterOrEqual = codes " >= "
binary_middle CheckedAdd = codes " + "
binary_middle CheckedSub = codes " - "

-- an expression, as `($.v >= 5 as i32)` or `pack(id: $.id, n: list_length($.l))`
abbrev mutual
  pub shown_expr : Expr → List ℕ
  shown_expr root = codes "$"
  shown_expr row_index = codes "#row_idx"
  shown_expr (literal d v) = shown_val v ++ (codes " as " ++ shown_dtype d)
  shown_expr (unary u e) = unary_front u ++ (shown_expr e ++ unary_back u)
  shown_expr (binary b x y) = binary_front b ++ (shown_expr x ++ (binary_middle b ++ (shown_expr y ++ codes ")")))
  shown_expr (pack ps n) = codes "pack(" ++ (shown_parts true ps ++ (codes ")" ++ shown_null n))

  -- its parts under their names, behind others or not
  pub shown_parts : Bool → Parts → List ℕ
  shown_parts first no_parts = []
  shown_parts first (part n e ps) = (comma first ++ (n ++ (codes ": " ++ shown_expr e))) ++ shown_parts false ps

-- a part behind others or not
abbrev pub shown_part : Bool → Name → Expr → List ℕ
shown_part first n e = comma first ++ (n ++ (codes ": " ++ shown_expr e))

-- the expression that a top with its parts is, each of which is an expression
abbrev pub top_expr : {T : Type 0} → (T → Expr) → Top T → Expr
top_expr expr top.Root = root
top_expr expr top.RowIdx = row_index
top_expr expr (top.Literal d v) = literal d.now (val_of v.now)
top_expr expr (top.Unary u e) = unary u.now (expr e.now)
top_expr expr (top.Binary b x y) = binary b (expr x.now) (expr y.now)
top_expr expr (top.Pack ns es n) = pack (parts_of ns.now (map expr es.now)) n

-- a pack has a name for each part
abbrev pub IsEvenTop : {T : Type 0} → Top T → Type 0
IsEvenTop top.Root = Unit {0}
IsEvenTop top.RowIdx = Unit {0}
IsEvenTop (top.Literal d v) = Unit {0}
IsEvenTop (top.Unary u e) = Unit {0}
IsEvenTop (top.Binary b x y) = Unit {0}
IsEvenTop (top.Pack ns es n) = length es.now ≡ length ns.now
