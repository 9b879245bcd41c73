-- Expressions: what a contract sees of an `Expression`.
use Rattle.std.specs.Prelude.{ℕ, ◌+◌, max, Bool, true, false, cond, ◌||◌, List, [], ◌∷◌, ◌++◌, Option, Some, None}
use Rattle.scan_values.specs.DataType.{DataType, Name}
use Rattle.scan_values.specs.Val.{Val}
use Rattle.scan_values.specs.declared.ptype.Nullability.{Nullability}
use Rattle.scan_expr.specs.declared.op.Unary.{Unary}
use Rattle.scan_expr.specs.declared.op.Binary.{Binary}
use Rattle.scan_expr.specs.declared.op.Binary.TheVariants.{Mask, And, Or, Equal, NotEqual, Less, LessOrEqual, Greater, GreaterOrEqual, CheckedAdd, CheckedSub}

mutual
  -- the scope's value, the row's number, a literal, an operator on one or on two expressions, and a struct of expressions
  pub data Expr : Type 0 where
    root : Expr
    row_index : Expr
    literal : DataType → Val → Expr
    unary : Unary → Expr → Expr
    binary : Binary → Expr → Expr → Expr
    pack : Parts → Nullability → Expr

  -- names, with an expression each
  pub data Parts : Type 0 where
    no_parts : Parts
    part : Name → Expr → Parts → Parts

-- names beside expressions; a name that lacks is empty
abbrev pub parts_of : List Name → List Expr → Parts
parts_of ns [] = no_parts
parts_of [] (e ∷ es) = part [] e (parts_of [] es)
parts_of (n ∷ ns) (e ∷ es) = part n e (parts_of ns es)

abbrev mutual
  pub expr_depth : Expr → ℕ
  expr_depth root = 1
  expr_depth row_index = 1
  expr_depth (literal d v) = 1
  expr_depth (unary u e) = expr_depth e + 1
  expr_depth (binary b x y) = max (expr_depth x) (expr_depth y) + 1
  expr_depth (pack ps n) = parts_depth ps + 1

  pub parts_depth : Parts → ℕ
  parts_depth no_parts = 0
  parts_depth (part n e ps) = max (expr_depth e) (parts_depth ps)

-- the number of nodes
abbrev mutual
  pub expr_size : Expr → ℕ
  expr_size root = 1
  expr_size row_index = 1
  expr_size (literal d v) = 1
  expr_size (unary u e) = expr_size e + 1
  expr_size (binary b x y) = expr_size x + expr_size y + 1
  expr_size (pack ps n) = parts_size ps + 1

  pub parts_size : Parts → ℕ
  parts_size no_parts = 0
  parts_size (part n e ps) = expr_size e + parts_size ps

abbrev pub is_root : Expr → Bool
is_root root = true
is_root row_index = false
is_root (literal d v) = false
is_root (unary u e) = false
is_root (binary b x y) = false
is_root (pack ps n) = false

-- whether the row's number stands in an expression
abbrev mutual
  pub uses_row_index : Expr → Bool
  uses_row_index root = false
  uses_row_index row_index = true
  uses_row_index (literal d v) = false
  uses_row_index (unary u e) = uses_row_index e
  uses_row_index (binary b x y) = uses_row_index x || uses_row_index y
  uses_row_index (pack ps n) = any_uses_row_index ps

  pub any_uses_row_index : Parts → Bool
  any_uses_row_index no_parts = false
  any_uses_row_index (part n e ps) = uses_row_index e || any_uses_row_index ps

abbrev pub is_and : Binary → Bool
is_and Mask = false
is_and And = true
is_and Or = false
is_and Equal = false
is_and NotEqual = false
is_and Less = false
is_and LessOrEqual = false
is_and Greater = false
is_and GreaterOrEqual = false
is_and CheckedAdd = false
is_and CheckedSub = false

-- what top-level `and`s join, from left to right
abbrev pub conjuncts_of : Expr → List Expr
conjuncts_of root = root ∷ []
conjuncts_of row_index = row_index ∷ []
conjuncts_of (literal d v) = literal d v ∷ []
conjuncts_of (unary u e) = unary u e ∷ []
conjuncts_of (binary b x y) = cond (is_and b) (conjuncts_of x ++ conjuncts_of y) (binary b x y ∷ [])
conjuncts_of (pack ps n) = pack ps n ∷ []

-- the conjuncts of a filter; no filter has none
abbrev pub filter_conjuncts : Option Expr → List Expr
filter_conjuncts None = []
filter_conjuncts (Some e) = conjuncts_of e
