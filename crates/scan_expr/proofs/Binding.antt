-- What binds.
use Rattle.std.proofs.Common.{◌≡◌, leb, Some, None, Ok, refl}
use Rattle.scan_values.specs.DataType.{DataType}
use Rattle.scan_values.specs.NameFaults.{dtype_fault}
use Rattle.scan_expr.specs.declared.op.BindFault.TheVariants.{Deep}
use Rattle.scan_expr.specs.Expr.{Expr, root, row_index, literal, unary, binary, pack, Parts, no_parts, part, expr_depth}
use Rattle.scan_expr.specs.Infer.{infer, infer_all}
use Rattle.scan_expr.specs.Typing.{Fault, unless, or_fault, of_names, depth_fault, unary_fault, binary_fault, pack_fault, nodes_fault, parts_fault, typing_fault, parts_typing_fault, bind_fault, typed, bind_type}
use Rattle.scan_expr.proofs.Faultless.{neither, unary_faultless, binary_faultless}
use Rattle.scan_expr.proofs.Sound.{no_fault}

pub typed-Ok : {A : Type 0} (f : Fault) (x y : A) → typed f x ≡ Ok y → (x ≡ y) × (f ≡ None)
typed-Ok None x y h = ((cc), refl)
typed-Ok (Some e) x y h = cc

pub bound_nodes : (s : DataType) (e : Expr) → bind_fault s e ≡ None → nodes_fault s e ≡ None
bound_nodes s e h =
    let a = no_fault (depth_fault s) (or_fault (of_names (dtype_fault s)) (or_fault (unless (leb (expr_depth e) 100) Deep) (nodes_fault s e))) h in
    let b = no_fault (of_names (dtype_fault s)) (or_fault (unless (leb (expr_depth e) 100) Deep) (nodes_fault s e)) a.1 in
    (no_fault (unless (leb (expr_depth e) 100) Deep) (nodes_fault s e) b.1).1

-- where all conditions hold, those of the dtypes do
mutual
  pub nodes_typed : (s : DataType) (e : Expr) → nodes_fault s e ≡ None → typing_fault s e ≡ None
  nodes_typed s root h = refl
  nodes_typed s row_index h = refl
  nodes_typed s (literal d v) h = h
  nodes_typed s (unary u e) h =
      let a = no_fault (nodes_fault s e) (or_fault (unary_fault u (infer s e)) (depth_fault (infer s (unary u e)))) h in
      let b = no_fault (unary_fault u (infer s e)) (depth_fault (infer s (unary u e))) a.1 in
      unary_faultless s u e (nodes_typed s e a.0) b.0
  nodes_typed s (binary o x y) h =
      let a = no_fault (nodes_fault s x) (or_fault (nodes_fault s y) (or_fault (binary_fault o (infer s x) (infer s y)) (depth_fault (infer s (binary o x y))))) h in
      let b = no_fault (nodes_fault s y) (or_fault (binary_fault o (infer s x) (infer s y)) (depth_fault (infer s (binary o x y)))) a.1 in
      let c = no_fault (binary_fault o (infer s x) (infer s y)) (depth_fault (infer s (binary o x y))) b.1 in
      binary_faultless s o x y (nodes_typed s x a.0) (nodes_typed s y b.0) c.0
  nodes_typed s (pack ps n) h = parts_typed s ps (no_fault (parts_fault s ps) (or_fault (pack_fault (infer_all s ps)) (depth_fault (infer s (pack ps n)))) h).0

  pub parts_typed : (s : DataType) (ps : Parts) → parts_fault s ps ≡ None → parts_typing_fault s ps ≡ None
  parts_typed s no_parts h = refl
  parts_typed s (part n e ps) h =
      let a = no_fault (nodes_fault s e) (parts_fault s ps) h in
      neither (typing_fault s e) (parts_typing_fault s ps) (nodes_typed s e a.0) (parts_typed s ps a.1)

pub bound_infers : (s : DataType) (e : Expr) (d : DataType) → bind_type s e ≡ Ok d → (infer s e ≡ d) × (nodes_fault s e ≡ None) × (typing_fault s e ≡ None)
bound_infers s e d h =
    let p = typed-Ok (bind_fault s e) (infer s e) d h in
    let n = bound_nodes s e p.1 in
    (p.0, n, nodes_typed s e n)
