-- The fields of a struct are its own.
use Rattle.std.proofs.Common.{◌≡◌, Bool, true, false, cond, ◌||◌, is_some, Option, Some, None, List, [], ◌∷◌, refl, ap, sym, ◌∙◌, bytes_eq}
use Rattle.scan_values.specs.DataType.{DataType, Name, Fields, no_fields, field, fields_of}
use Rattle.scan_values.specs.FieldLists.{names_of, dtype_named}
use Rattle.scan_values.specs.Kinds.{struct_fields_of}
use Rattle.scan_values.specs.NameFaults.{has_name, field_names}
use Rattle.scan_expr.specs.declared.op.BindFault.TheVariants.{NoField}
use Rattle.scan_expr.specs.Infer.{fields_or_none, struct_fields}
use Rattle.scan_expr.specs.Typing.{unless, in_struct, has_field}
use Rattle.scan_partition.specs.Expand.{items_of}
use Rattle.scan_partition.specs.Found.{AllFound}
use Rattle.scan_partition.specs.Rewrite.{AllNodesHold}
use Rattle.scan_partition.proofs.FieldParts.{names_are}
use Rattle.scan_partition.proofs.Having.{names_found}

named_has : (n : Name) (fs : Fields) → has_field n fs ≡ has_name n (field_names fs)
named_has n no_fields = refl
named_has n (field m d fs) = go (bytes_eq n m) (named_has n fs)
  where
    go : (b : Bool) → has_field n fs ≡ has_name n (field_names fs) → is_some (cond b (Some d) (dtype_named n fs)) ≡ b || has_name n (field_names fs)
    go true h = refl
    go false h = h

-- each may be taken
items_held : (s : DataType) (fs : Fields) → struct_fields_of s ≡ Some fs → (ns : List Name) → AllFound fs ns → AllNodesHold s (items_of ns)
items_held s fs h [] f = tt
items_held s fs h (n ∷ ns) f = ((ap (λ o. in_struct o (λ gs. unless (has_field n gs) NoField)) h ∙ ap (λ b. unless b NoField) (named_has n fs ∙ f.0), tt), items_held s fs h ns f.1)

pub own_held : (s : DataType) → AllNodesHold s (items_of (field_names (struct_fields s)))
own_held s = go (struct_fields_of s) refl
  where
    go : (o : Option Fields) → struct_fields_of s ≡ o → AllNodesHold s (items_of (field_names (fields_or_none o)))
    go None h = tt
    go (Some fs) h = items_held s fs h (field_names fs) (names_found fs)

-- the names of a struct that is lent
pub names_lent : (s : DataType) (fs : List (Name × DataType)) → Some (fields_of fs) ≡ struct_fields_of s → field_names (struct_fields s) ≡ names_of fs
names_lent s fs h = ap (λ o. field_names (fields_or_none o)) (sym h) ∙ names_are fs
