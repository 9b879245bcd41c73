-- How an expression is kept as a tree of numbers.
use Rattle.std.specs.Prelude.{◌≡◌, ℕ, zero, suc, List, [], ◌∷◌, refl}
use Rattle.std.specs.Coded.{Coded, code_by}
use Rattle.std.proofs.Common.{ap, ◌∙◌}
use base.Stored.{Gv, gnil, gnum, gcons, num}
use Rattle.scan_values.specs.Trees.{left, right, text_tree, tree_text, tree_text-text_tree, itself}
use Rattle.scan_values.specs.DataType.{Name}
use Rattle.scan_values.specs.DataType as dtypes
use Rattle.scan_values.specs.Marked as marks
use Rattle.scan_values.specs.Val.{Val, marked, read_marked, read-marked}
use Rattle.scan_expr.specs.declared.op.Unary.{Unary}
use Rattle.scan_expr.specs.declared.op.Unary.TheVariants.{GetItem, Select, Exclude, Not, IsNull, IsNotNull, ListLength}
use Rattle.scan_expr.specs.declared.op.Binary.{Binary}
use Rattle.scan_expr.specs.declared.op.Binary.TheVariants.{Mask, And, Or, Equal, NotEqual, Less, LessOrEqual, Greater, GreaterOrEqual, CheckedAdd, CheckedSub}
use Rattle.scan_expr.specs.Expr.{Expr, root, row_index, literal, unary, binary, pack, Parts, no_parts, part}

abbrev pub names_tree : List Name → Gv
names_tree [] = gnil
names_tree (n ∷ ns) = gcons (text_tree n) (names_tree ns)

abbrev pub tree_names : Gv → List Name
tree_names gnil = []
tree_names (gnum n) = []
tree_names (gcons a b) = tree_text a ∷ tree_names b

pub tree_names-names_tree : (ns : List Name) → tree_names (names_tree ns) ≡ ns
tree_names-names_tree [] = refl
tree_names-names_tree (n ∷ ns) = λ i. tree_text-text_tree n i ∷ tree_names-names_tree ns i

abbrev pub unary_tree : Unary → Gv
unary_tree (GetItem n) = gcons (gnum 0) (text_tree n)
unary_tree (Select ns) = gcons (gnum 1) (names_tree ns)
unary_tree (Exclude ns) = gcons (gnum 2) (names_tree ns)
unary_tree Not = gcons (gnum 3) gnil
unary_tree IsNull = gcons (gnum 4) gnil
unary_tree IsNotNull = gcons (gnum 5) gnil
unary_tree ListLength = gcons (gnum 6) gnil

abbrev pub unary_by_tag : ℕ → Gv → Unary
unary_by_tag zero g = GetItem (tree_text g)
unary_by_tag (suc zero) g = Select (tree_names g)
unary_by_tag (suc (suc zero)) g = Exclude (tree_names g)
unary_by_tag (suc (suc (suc zero))) g = Not
unary_by_tag (suc (suc (suc (suc zero)))) g = IsNull
unary_by_tag (suc (suc (suc (suc (suc zero))))) g = IsNotNull
unary_by_tag (suc (suc (suc (suc (suc (suc k)))))) g = ListLength

abbrev pub tree_unary : Gv → Unary
tree_unary g = unary_by_tag (num (left g)) (right g)

pub tree_unary-unary_tree : (u : Unary) → tree_unary (unary_tree u) ≡ u
tree_unary-unary_tree (GetItem n) = λ i. GetItem (tree_text-text_tree n i)
tree_unary-unary_tree (Select ns) = λ i. Select (tree_names-names_tree ns i)
tree_unary-unary_tree (Exclude ns) = λ i. Exclude (tree_names-names_tree ns i)
tree_unary-unary_tree Not = refl
tree_unary-unary_tree IsNull = refl
tree_unary-unary_tree IsNotNull = refl
tree_unary-unary_tree ListLength = refl

abbrev pub binary_tree : Binary → ℕ
binary_tree Mask = 0
binary_tree And = 1
binary_tree Or = 2
binary_tree Equal = 3
binary_tree NotEqual = 4
binary_tree Less = 5
binary_tree LessOrEqual = 6
binary_tree Greater = 7
binary_tree GreaterOrEqual = 8
binary_tree CheckedAdd = 9
binary_tree CheckedSub = 10

abbrev pub tree_binary : ℕ → Binary
tree_binary zero = Mask
tree_binary (suc zero) = And
tree_binary (suc (suc zero)) = Or
tree_binary (suc (suc (suc zero))) = Equal
tree_binary (suc (suc (suc (suc zero)))) = NotEqual
tree_binary (suc (suc (suc (suc (suc zero))))) = Less
tree_binary (suc (suc (suc (suc (suc (suc zero)))))) = LessOrEqual
tree_binary (suc (suc (suc (suc (suc (suc (suc zero))))))) = Greater
tree_binary (suc (suc (suc (suc (suc (suc (suc (suc zero)))))))) = GreaterOrEqual
tree_binary (suc (suc (suc (suc (suc (suc (suc (suc (suc zero))))))))) = CheckedAdd
tree_binary (suc (suc (suc (suc (suc (suc (suc (suc (suc (suc k)))))))))) = CheckedSub

pub tree_binary-binary_tree : (b : Binary) → tree_binary (binary_tree b) ≡ b
tree_binary-binary_tree Mask = refl
tree_binary-binary_tree And = refl
tree_binary-binary_tree Or = refl
tree_binary-binary_tree Equal = refl
tree_binary-binary_tree NotEqual = refl
tree_binary-binary_tree Less = refl
tree_binary-binary_tree LessOrEqual = refl
tree_binary-binary_tree Greater = refl
tree_binary-binary_tree GreaterOrEqual = refl
tree_binary-binary_tree CheckedAdd = refl
tree_binary-binary_tree CheckedSub = refl

abbrev pub val_tree : Val → Gv
val_tree v = marks.tree (marked v)

abbrev pub tree_val : Gv → Val
tree_val g = read_marked (marks.read g).0

pub tree_val-val_tree : (v : Val) → tree_val (val_tree v) ≡ v
tree_val-val_tree v = ap read_marked (marks.read-tree (marked v)) ∙ read-marked v

-- an expression is its tag, what it says besides its parts, and the list of its parts, which have names in a pack
abbrev mutual
  pub tree : Expr → Gv
  tree root = gcons (gcons (gnum 0) gnil) gnil
  tree row_index = gcons (gcons (gnum 1) gnil) gnil
  tree (literal d v) = gcons (gcons (gnum 2) (gcons (dtypes.tree d) (val_tree v))) gnil
  tree (unary u e) = gcons (gcons (gnum 3) (unary_tree u)) (gcons (gcons gnil (tree e)) gnil)
  tree (binary b x y) = gcons (gcons (gnum 4) (gnum (binary_tree b))) (gcons (gcons gnil (tree x)) (gcons (gcons gnil (tree y)) gnil))
  tree (pack ps n) = gcons (gcons (gnum 5) (gnum (dtypes.null_tree n))) (trees ps)

  pub trees : Parts → Gv
  trees no_parts = gnil
  trees (part n e ps) = gcons (gcons (text_tree n) (tree e)) (trees ps)

abbrev pub first_of_parts : Parts → Expr
first_of_parts no_parts = root
first_of_parts (part n e ps) = e

abbrev pub rest_of_parts : Parts → Parts
rest_of_parts no_parts = no_parts
rest_of_parts (part n e ps) = ps

abbrev pub by_tag : ℕ → Gv → Parts → Expr
by_tag zero g ps = root
by_tag (suc zero) g ps = row_index
by_tag (suc (suc zero)) g ps = literal (dtypes.read (left g)).0 (tree_val (right g))
by_tag (suc (suc (suc zero))) g ps = unary (tree_unary g) (first_of_parts ps)
by_tag (suc (suc (suc (suc zero)))) g ps = binary (tree_binary (num g)) (first_of_parts ps) (first_of_parts (rest_of_parts ps))
by_tag (suc (suc (suc (suc (suc k))))) g ps = pack ps (dtypes.tree_null (num g))

-- a tree read as an expression, as parts, and its right side read as an expression
abbrev mutual
  pub read : Gv → Expr × Parts
  read gnil = (root, no_parts)
  read (gnum n) = (root, no_parts)
  read (gcons a b) = (by_tag (num (left a)) (right a) (read b).1, part (tree_text (left a)) (read_right a) (read b).1)

  pub read_right : Gv → Expr
  read_right gnil = root
  read_right (gnum n) = root
  read_right (gcons a b) = (read b).0

mutual
  pub read-tree : (e : Expr) → (read (tree e)).0 ≡ e
  read-tree root = refl
  read-tree row_index = refl
  read-tree (literal d v) = λ i. literal (dtypes.read-tree d i) (tree_val-val_tree v i)
  read-tree (unary u e) = λ i. unary (tree_unary-unary_tree u i) (read-tree e i)
  read-tree (binary b x y) = λ i. binary (tree_binary-binary_tree b i) (read-tree x i) (read-tree y i)
  read-tree (pack ps n) = λ i. pack (read-trees ps i) (dtypes.tree_null-null_tree n i)

  pub read-trees : (ps : Parts) → (read (trees ps)).1 ≡ ps
  read-trees no_parts = refl
  read-trees (part n e ps) = λ i. part (tree_text-text_tree n i) (read-tree e i) (read-trees ps i)

abbrev pub expr_code : Coded Expr
expr_code = code_by Gv itself tree (λ g. (read g).0) read-tree
