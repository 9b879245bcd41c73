-- Expressions that only choose fields.
use Rattle.std.specs.Prelude.{ℕ, cond, List, [], ◌∷◌, map, Option, Some, None, option_map, bytes_eq, refl}
use Rattle.std.specs.List.{position_or_len}
use Rattle.std.specs.Coded.{Coded, code_by, coded×, coded_list, coded_ℕ}
use Rattle.scan_values.specs.DataType.{DataType, Fields, no_fields, field, Name, nullability_of}
use Rattle.scan_values.specs.declared.ptype.Nullability.{Nullability}
use Rattle.scan_values.specs.declared.ptype.Nullability.TheVariants.{NonNullable, Nullable}
use Rattle.scan_values.specs.NameFaults.{field_names}
use Rattle.scan_expr.specs.Infer.{field_type, struct_fields}
use Rattle.scan_values.specs.Marked.{Markeds, none, more}
use Rattle.scan_expr.specs.Eval.{pick}
use Rattle.scan_partition.specs.declared.item.Item.{Item}
use Rattle.scan_partition.specs.declared.item.Item.TheVariants.{Field, Validity}
use Rattle.scan_partition.specs.Items.{item_of}
use Rattle.scan_expr.specs.Expr.{is_root, Expr, root, row_index, literal, unary, binary, pack, Parts, no_parts, part}
use Rattle.scan_expr.specs.declared.op.Unary.{Unary}
use Rattle.scan_expr.specs.declared.op.Unary.TheVariants.{GetItem, Select, Exclude, Not, IsNull, IsNotNull, ListLength}

-- names given, each with the field that is read
abbrev pub Choice : Type 0
Choice = List (Name × Name)

abbrev pub same_names : List Name → Choice
same_names [] = []
same_names (n ∷ ns) = (n, n) ∷ same_names ns

abbrev pub field_item : Option Item → Option Name
field_item None = None
field_item (Some (Field f)) = Some f
field_item (Some Validity) = None

abbrev pub field_of : Expr → Option Name
field_of root = None
field_of row_index = None
field_of (literal d m) = None
field_of (unary u e) = field_item (item_of u e)
field_of (binary b x y) = None
field_of (pack ps n) = None

abbrev pub chose : Name → Option Name → Option Choice → Option Choice
chose n None c = None
chose n (Some f) None = None
chose n (Some f) (Some c) = Some ((n, f) ∷ c)

abbrev pub direct_parts : Parts → Option Choice
direct_parts no_parts = Some []
direct_parts (part n e ps) = chose n (field_of e) (direct_parts ps)

abbrev pub direct_at : Unary → Option Choice
direct_at (GetItem n) = None
direct_at (Select ns) = Some (same_names ns)
direct_at (Exclude ns) = None
direct_at Not = None
direct_at IsNull = None
direct_at IsNotNull = None
direct_at ListLength = None

abbrev pub if_here : Nullability → Option Choice → Option Choice
if_here NonNullable c = c
if_here Nullable c = None

-- over a struct that is not nullable
abbrev pub direct : Fields → Expr → Option Choice
direct fs root = Some (same_names (field_names fs))
direct fs row_index = None
direct fs (literal d m) = None
direct fs (unary u e) = cond (is_root e) (direct_at u) None
direct fs (binary b x y) = None
direct fs (pack ps n) = if_here n (direct_parts ps)

-- of an expression over any struct
abbrev pub chosen_directly : DataType → Expr → Option Choice
chosen_directly s e = if_here (nullability_of s) (direct (struct_fields s) e)

abbrev pub chosen_types : Choice → Fields → Fields
chosen_types [] fs = no_fields
chosen_types (c ∷ cs) fs = field c.0 (field_type c.1 fs) (chosen_types cs fs)

abbrev pub chosen_values : Choice → Fields → Markeds → Markeds
chosen_values [] fs ms = none
chosen_values (c ∷ cs) fs ms = more (pick c.1 fs ms) (chosen_values cs fs ms)

-- ---- what a contract sees of a projection: names, and the place of the field that each stands for
pub record Projection : Type 0 where
  pub names : List Name
  pub fields : List ℕ

abbrev pub projection_code : Coded Projection
projection_code = code_by (List Name × List ℕ) (coded× (coded_list (coded_list coded_ℕ)) (coded_list coded_ℕ))
    (λ p. (p.names, p.fields)) (λ p. record { names = p.0; fields = p.1 }) (λ _. refl)

-- the place of the first field of this name; the number of fields where there is none
abbrev pub place : Fields → Name → ℕ
place fs n = position_or_len (bytes_eq n) (field_names fs)

abbrev pub projected : Fields → Choice → Projection
projected fs c = record { names = map (λ (x : Name × Name). x.0) c; fields = map (λ (x : Name × Name). place fs x.1) c }

abbrev pub before_all : Option ℕ → Option (List ℕ) → Option (List ℕ)
before_all None is = None
before_all (Some i) is = option_map (λ js. i ∷ js) is

-- the places of the fields that these expressions are, where each is one
abbrev pub read_places : Fields → List Expr → Option (List ℕ)
read_places fs [] = Some []
read_places fs (e ∷ es) = before_all (option_map (place fs) (field_of e)) (read_places fs es)
