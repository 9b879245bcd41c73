-- An expression whose nodes' conditions hold has no fault, also where it is stepped in.
use Rattle.std.proofs.Common.{◌≡◌, None, refl, ap, ◌∙◌}
use Rattle.scan_values.specs.DataType.{DataType}
use Rattle.scan_values.specs.Marked.{null}
use Rattle.scan_expr.specs.Expr.{Expr, root, row_index, literal, unary, binary, pack, Parts, no_parts, part}
use Rattle.scan_expr.specs.Infer.{infer}
use Rattle.scan_expr.specs.Typing.{Fault, or_fault, unary_fault, binary_fault, typing_fault, parts_typing_fault}
use Rattle.scan_partition.specs.declared.item.Item.{Item}
use Rattle.scan_partition.specs.Items.{spelled, AtMost, use_of, IsExpanded}
use Rattle.scan_partition.specs.Partition.{step_into}
use Rattle.scan_partition.proofs.Through.{own_reads}
use Rattle.scan_partition.proofs.Typed.{NodesTyped, AllNodesTyped, typed_nodes, own_typed, step_typed}

neither : (f g : Fault) → f ≡ None → g ≡ None → or_fault f g ≡ None
neither f g h k = ap (λ x. or_fault x g) h ∙ k

mutual
  pub nodes_faultless : (s : DataType) (e : Expr) → NodesTyped s e → typing_fault s e ≡ None
  nodes_faultless s root t = refl
  nodes_faultless s row_index t = refl
  nodes_faultless s (literal d v) t = t
  nodes_faultless s (unary u e) t = neither (typing_fault s e) (unary_fault u (infer s e)) (nodes_faultless s e t.1) t.0
  nodes_faultless s (binary b x y) t =
      neither (typing_fault s x) (or_fault (typing_fault s y) (binary_fault b (infer s x) (infer s y))) (nodes_faultless s x t.1) (neither (typing_fault s y) (binary_fault b (infer s x) (infer s y)) (nodes_faultless s y t.2) t.0)
  nodes_faultless s (pack ps n) t = parts_faultless s ps t

  parts_faultless : (s : DataType) (ps : Parts) → AllNodesTyped s ps → parts_typing_fault s ps ≡ None
  parts_faultless s no_parts t = refl
  parts_faultless s (part n e ps) t = neither (typing_fault s e) (parts_typing_fault s ps) (nodes_faultless s e t.0) (parts_faultless s ps t.1)

pub stepped_faultless : (s : DataType) (i : Item) (e : Expr) → IsExpanded e → AtMost i (use_of e) → typing_fault s e ≡ None → typing_fault (infer s (spelled i)) (step_into e) ≡ None
stepped_faultless s i e p a t = nodes_faultless (infer s (spelled i)) (step_into e) (step_typed (own_reads s null 0) 0 i e p a (own_typed s null 0 e p (typed_nodes s e t)))
