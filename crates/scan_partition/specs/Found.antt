-- Names that a struct has, and reserved names that it has not.
use Rattle.std.specs.Prelude.{◌≡◌, Bool, true, false, List, [], ◌∷◌}
use Rattle.scan_values.specs.DataType.{Fields, Name}
use Rattle.scan_values.specs.NameFaults.{field_names, has_name}
use Rattle.scan_partition.specs.Items.{validity_name}
use Rattle.scan_expr.specs.Expr.{is_root, Expr, root, row_index, literal, unary, binary, pack, Parts, no_parts, part}
use Rattle.scan_expr.specs.declared.op.Unary.{Unary}
use Rattle.scan_expr.specs.declared.op.Unary.TheVariants.{GetItem, Select}

abbrev pub AllFound : Fields → List Name → Type 0
AllFound fs [] = Unit {0}
AllFound fs (n ∷ ns) = (has_name n (field_names fs) ≡ true) × AllFound fs ns

-- an operator on `$` names fields that there are
abbrev pub FoundBy : Fields → Unary → Type 0
FoundBy fs (GetItem n) = has_name n (field_names fs) ≡ true
FoundBy fs (Select ns) = AllFound fs ns
FoundBy fs u = Unit {0}

abbrev pub FoundAt : Bool → Type 0 → Type 0
FoundAt true P = P
FoundAt false P = Unit {0}

-- each name that is taken of `$` is one of its fields', as it is in a typed expression
abbrev mutual
  pub NamesFound : Fields → Expr → Type 0
  NamesFound fs root = Unit {0}
  NamesFound fs row_index = Unit {0}
  NamesFound fs (literal d m) = Unit {0}
  NamesFound fs (unary u e) = FoundAt (is_root e) (FoundBy fs u) × NamesFound fs e
  NamesFound fs (binary b x y) = NamesFound fs x × NamesFound fs y
  NamesFound fs (pack ps n) = AllNamesFound fs ps

  pub AllNamesFound : Fields → Parts → Type 0
  AllNamesFound fs no_parts = Unit {0}
  AllNamesFound fs (part n e ps) = NamesFound fs e × AllNamesFound fs ps

abbrev pub NoneReserved : Fields → Type 0
NoneReserved fs = has_name validity_name (field_names fs) ≡ false
