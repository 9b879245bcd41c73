-- Nodes of an expression whose values are known, and of their dtypes.
use Rattle.std.specs.Prelude.{◌≡◌, ℕ, true}
use Rattle.scan_values.specs.DataType.{DataType, is_nullable}
use Rattle.scan_values.specs.Val.{marked}
use Rattle.scan_values.specs.Marked.{Marked, lost, null, gone, boolean, integer, text, list, struct}
use Rattle.scan_expr.specs.Infer.{infer}
use Rattle.scan_expr.specs.Eval.{eval}
use Rattle.scan_expr.specs.Expr.{Expr, root, row_index, literal, unary, binary, pack, Parts, no_parts, part}

-- known at its top, and null only where its dtype is nullable
abbrev pub IsKnown : DataType → Marked → Type 0
IsKnown d lost = ⊥
IsKnown d null = is_nullable d ≡ true
IsKnown d gone = ⊥
IsKnown d (boolean b) = Unit {0}
IsKnown d (integer z) = Unit {0}
IsKnown d (text s) = Unit {0}
IsKnown d (list ms) = Unit {0}
IsKnown d (struct ms) = Unit {0}

-- each node but `$`
abbrev mutual
  pub NodesKnown : DataType → Expr → Marked → ℕ → Type 0
  NodesKnown s root v k = Unit {0}
  NodesKnown s row_index v k = Unit {0}
  NodesKnown s (literal d m) v k = IsKnown d (marked m)
  NodesKnown s (unary u e) v k = IsKnown (infer s (unary u e)) (eval s (unary u e) v k) × NodesKnown s e v k
  NodesKnown s (binary b x y) v k = IsKnown (infer s (binary b x y)) (eval s (binary b x y) v k) × NodesKnown s x v k × NodesKnown s y v k
  NodesKnown s (pack ps n) v k = AllNodesKnown s ps v k

  pub AllNodesKnown : DataType → Parts → Marked → ℕ → Type 0
  AllNodesKnown s no_parts v k = Unit {0}
  AllNodesKnown s (part n e ps) v k = NodesKnown s e v k × AllNodesKnown s ps v k

-- null only where the dtype is nullable, which each value of a dtype is
abbrev pub IsSound : DataType → Marked → Type 0
IsSound d lost = Unit {0}
IsSound d null = is_nullable d ≡ true
IsSound d gone = Unit {0}
IsSound d (boolean b) = Unit {0}
IsSound d (integer z) = Unit {0}
IsSound d (text s) = Unit {0}
IsSound d (list ms) = Unit {0}
IsSound d (struct ms) = Unit {0}

abbrev mutual
  pub NodesSound : DataType → Expr → Marked → ℕ → Type 0
  NodesSound s root v k = IsSound s v
  NodesSound s row_index v k = Unit {0}
  NodesSound s (literal d m) v k = IsSound d (marked m)
  NodesSound s (unary u e) v k = IsSound (infer s (unary u e)) (eval s (unary u e) v k) × NodesSound s e v k
  NodesSound s (binary b x y) v k = IsSound (infer s (binary b x y)) (eval s (binary b x y) v k) × NodesSound s x v k × NodesSound s y v k
  NodesSound s (pack ps n) v k = AllNodesSound s ps v k

  pub AllNodesSound : DataType → Parts → Marked → ℕ → Type 0
  AllNodesSound s no_parts v k = Unit {0}
  AllNodesSound s (part n e ps) v k = NodesSound s e v k × AllNodesSound s ps v k
