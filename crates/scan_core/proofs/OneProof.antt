-- That expressions, a filter and boundaries are over a reader's rows has one proof.
use Rattle.std.proofs.Common.{ℕ, List, Option, None, Some, IfSome}
use Rattle.std.proofs.Math.Logic.{∥∥₁_elim}
use Rattle.std.specs.Coded.{Coded-set, coded_bool, coded_option, ×_prop, Unit-prop, le_prop}
use Rattle.scan_values.specs.DataType.{DataType, data_type_code}
use Rattle.scan_values.specs.NameFaults.{dtype_fault}
use Rattle.scan_values.specs.contracts.text.NameFault as name
use Rattle.scan_expr.specs.Bound.{Bound}
use Rattle.scan_expr.specs.Expr.{Expr, root, row_index, literal, unary, binary, pack, Parts, no_parts, part}
use Rattle.scan_expr.specs.Typing.{typing_fault}
use Rattle.scan_expr.specs.contracts.op.BindFault as bind
use Rattle.scan_partition.specs.Partable.{IsPartable}
use Rattle.scan_partition.specs.Shallow.{AllNodesWithin, IsPart, NodesWithin}
use Rattle.scan_readers.specs.Readers.{ReaderState}
use Rattle.scan_core.specs.BuilderData.{AreBoundaries, IsBuilder, IsFilter, IsOver}

mutual
  nodes_prop : (n : ℕ) (s : DataType) (e : Expr) → IsProp (NodesWithin n s e)
  nodes_prop n s root = le_prop
  nodes_prop n s row_index = Unit-prop
  nodes_prop n s (literal d v) = le_prop
  nodes_prop n s (unary u e) = ×_prop le_prop (nodes_prop n s e)
  nodes_prop n s (binary b x y) = λ h k i. (le_prop h.0 k.0 i, nodes_prop n s x h.1 k.1 i, nodes_prop n s y h.2 k.2 i)
  nodes_prop n s (pack ps m) = ×_prop le_prop (parts_prop n s ps)

  parts_prop : (n : ℕ) (s : DataType) (ps : Parts) → IsProp (AllNodesWithin n s ps)
  parts_prop n s no_parts = Unit-prop
  parts_prop n s (part m e ps) = ×_prop (nodes_prop n s e) (parts_prop n s ps)

part_prop : (s : DataType) (e : Expr) → IsProp (IsPart s e)
part_prop s root = nodes_prop 64 s root
part_prop s row_index = nodes_prop 64 s row_index
part_prop s (literal d v) = nodes_prop 64 s (literal d v)
part_prop s (unary u e) = nodes_prop 64 s (unary u e)
part_prop s (binary b x y) = nodes_prop 64 s (binary b x y)
part_prop s (pack ps n) = parts_prop 64 s ps

partable_prop : (b : Bound) → IsProp (IsPartable b)
partable_prop b x y = λ i. record {
  names = Coded-set (coded_option name.the_row.coded) (dtype_fault b.scope) None x.names y.names i;
  scope = le_prop x.scope y.scope i;
  typed = Coded-set (coded_option bind.the_row.coded) (typing_fault b.scope b.expr) None x.typed y.typed i;
  nodes = part_prop b.scope b.expr x.nodes y.nodes i;
}

over_prop : (d : DataType) (e : Bound) → IsProp (IsOver d e)
over_prop d e x y = λ i. record {
  scope = Coded-set data_type_code e.scope d x.scope y.scope i;
  bound = partable_prop e x.bound y.bound i;
}

filter_prop : (d : DataType) (e : Bound) → IsProp (IsFilter d e)
filter_prop d e x y = λ i. record {
  over = over_prop d e x.over y.over i;
  bool = Coded-set coded_bool _ _ x.bool y.bool i;
}

passes_prop : (d : DataType) (f : Option Bound) → IsProp (IfSome f (IsFilter d))
passes_prop d None = Unit-prop
passes_prop d (Some e) = filter_prop d e

rising_prop : (a b : ℕ) (bs : List ℕ) → IsProp (AreBoundaries a b bs)
rising_prop a b bs x y = λ i. record {
  rising = Coded-set coded_bool _ _ x.rising y.rising i;
  ends = Coded-set coded_bool _ _ x.ends y.ends i;
}

splits_prop : (n : ℕ) (bs : Option (List ℕ)) → IsProp (IfSome bs (AreBoundaries 0 n))
splits_prop n None = Unit-prop
splits_prop n (Some bs) = rising_prop 0 n bs

builder_prop : (s : ReaderState) (e : Bound) (f : Option Bound) (bs : Option (List ℕ)) → IsProp (IsBuilder s e f bs)
builder_prop s e f bs x y = λ i. record {
  over = over_prop s.dtype e x.over y.over i;
  passes = passes_prop s.dtype f x.passes y.passes i;
  splits = splits_prop s.rows bs x.splits y.splits i;
}

-- so it may be told of what is only known to have a proof
pub builder_is : (s : ReaderState) (e : Bound) (f : Option Bound) (bs : Option (List ℕ)) → ∥ IsBuilder s e f bs ∥₁ → IsBuilder s e f bs
builder_is s e f bs h = ∥∥₁_elim h (builder_prop s e f bs) (λ x. x)
