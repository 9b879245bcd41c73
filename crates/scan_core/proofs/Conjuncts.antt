-- The conjuncts of a filter are filters.
use Rattle.std.proofs.Common.{◌≡◌, ◌≤◌, Bool, true, false, List, [], ◌∷◌, ◌++◌, map, None, refl, sym, subst}
use Rattle.std.proofs.lemmas.List.{map-append}
use Rattle.scan_values.specs.DataType.{DataType, depth_of}
use Rattle.scan_values.specs.Fits.{is_bool_type}
use Rattle.scan_values.specs.NameFaults.{dtype_fault}
use Rattle.scan_expr.specs.declared.op.Binary.TheVariants.{And}
use Rattle.scan_expr.specs.declared.op.BindFault.{BindFault}
use Rattle.scan_expr.specs.declared.op.BindFault.TheVariants.{NotBool}
use Rattle.scan_expr.specs.Bound.{Bound, bound_of, bound_conjuncts}
use Rattle.scan_expr.specs.Expr.{Expr, root, row_index, literal, unary, binary, pack, conjuncts_of}
use Rattle.scan_expr.specs.Infer.{infer}
use Rattle.scan_expr.specs.Typing.{typing_fault, or_fault, unless, logic_fault}
use Rattle.scan_expr.proofs.Sound.{no_fault}
use Rattle.scan_partition.specs.Shallow.{IsPart}
use Rattle.scan_partition.proofs.Part.{shallow_part}
use Rattle.scan_core.specs.BuilderData.{IsFilter, AreFilters}

held : (b : Bool) (f : BindFault) → unless b f ≡ None → b ≡ true
held true f h = refl
held false f h = cc

filters_append : (d : DataType) (xs ys : List Bound) → AreFilters d xs → AreFilters d ys → AreFilters d (xs ++ ys)
filters_append d [] ys p q = q
filters_append d (x ∷ xs) ys p q = (p.0, filters_append d xs ys p.1 q)

module _ (s : DataType) (names : dtype_fault s ≡ None) (shallow : depth_of s ≤ 64) where
  as_filter : (e : Expr) → typing_fault s e ≡ None → IsPart s e → is_bool_type (infer s e) ≡ true → IsFilter s (bound_of s e)
  as_filter e t p b = record { over = record { scope = refl; bound = record { names = names; scope = shallow; typed = t; nodes = p } }; bool = b }

  parts_are : (e : Expr) → typing_fault s e ≡ None → IsPart s e → is_bool_type (infer s e) ≡ true → AreFilters s (map (bound_of s) (conjuncts_of e))
  parts_are root t p b = (as_filter root t p b, tt)
  parts_are row_index t p b = (as_filter row_index t p b, tt)
  parts_are (literal d v) t p b = (as_filter (literal d v) t p b, tt)
  parts_are (unary u e) t p b = (as_filter (unary u e) t p b, tt)
  parts_are (pack ps n) t p b = (as_filter (pack ps n) t p b, tt)
  parts_are (binary And x y) t p b =
      let first = no_fault (typing_fault s x) (or_fault (typing_fault s y) (logic_fault (infer s x) (infer s y))) t in
      let second = no_fault (typing_fault s y) (logic_fault (infer s x) (infer s y)) first.1 in
      let bools = no_fault (unless (is_bool_type (infer s x)) NotBool) (unless (is_bool_type (infer s y)) NotBool) second.1 in
      let left = parts_are x first.0 (shallow_part s x p.1) (held (is_bool_type (infer s x)) NotBool bools.0) in
      let right = parts_are y second.0 (shallow_part s y p.2) (held (is_bool_type (infer s y)) NotBool bools.1) in
      subst (AreFilters s) (sym (map-append (bound_of s) (conjuncts_of x) (conjuncts_of y))) (filters_append s (map (bound_of s) (conjuncts_of x)) (map (bound_of s) (conjuncts_of y)) left right)
  parts_are (binary o x y) t p b = (as_filter (binary o x y) t p b, tt)

pub conjuncts_are_filters : (d : DataType) (f : Bound) → IsFilter d f → AreFilters d (bound_conjuncts f)
conjuncts_are_filters d f h =
    let over = (h.over).bound in
    subst (λ z. AreFilters z (bound_conjuncts f)) (h.over).scope (parts_are f.scope over.names over.scope f.expr over.typed over.nodes h.bool)
