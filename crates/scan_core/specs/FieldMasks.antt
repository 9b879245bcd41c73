-- The fields that the expressions of a scan ask for.
use Rattle.std.specs.Prelude.{not, List, [], ◌∷◌, ◌++◌, map, filter, Option, Some, None}
use Rattle.std.specs.List.{flat_map}
use Rattle.std.specs.Borrow.{Bor}
use Rattle.scan_values.specs.DataType.{Name}
use Rattle.scan_values.specs.Same.{same_names}
use Rattle.scan_values.specs.declared.field_path.FieldMask.{FieldMask}
use Rattle.scan_values.specs.declared.field_path.FieldMask.TheVariants.{All, Prefix}
use Rattle.scan_expr.specs.Bound.{Bound}
use Rattle.scan_expr.specs.Needs.{Demand, whole, null_alone, length_alone, fields, at, uses}

-- the paths of what is read of a value: of some fields that of each, else that of the value itself
abbrev pub demand_paths : Demand → List (List Name)
demand_paths whole = [] ∷ []
demand_paths null_alone = [] ∷ []
demand_paths length_alone = [] ∷ []
demand_paths (fields ns) = map (λ n. n ∷ []) ns
demand_paths (at f k) = map (λ p. f ∷ p) (demand_paths k)

-- those of the uses of an expression, in the order of the uses
abbrev pub used_paths : Bound → List (List Name)
used_paths e = flat_map demand_paths (uses e.scope e.expr whole)

-- those of a projection, then those of a filter
abbrev pub scan_paths : Bound → Option Bound → List (List Name)
scan_paths p None = used_paths p
scan_paths p (Some f) = used_paths p ++ used_paths f

-- each path at its first place alone
abbrev pub firsts : List (List Name) → List (List Name)
firsts [] = []
firsts (p ∷ ps) = p ∷ filter (λ q. not (same_names p q)) (firsts ps)

-- the mask of a path
abbrev pub path_mask : List Name → FieldMask
path_mask [] = All
path_mask (n ∷ ns) = Prefix (n ∷ ns)

-- ---- the walk of an expression
-- of a field within fields of these names, the last one outermost, a demand
abbrev pub below : List Name → Demand → Demand
below [] k = k
below (n ∷ ns) k = below ns (at n k)

-- some fields, or all
abbrev pub ends_of : Option (List Name) → Demand
ends_of None = whole
ends_of (Some ns) = fields ns

-- a path below a field within fields of these names, the last one outermost
abbrev pub onto : List Name → List Name → List Name
onto [] p = p
onto (n ∷ ns) p = onto ns (n ∷ p)

-- one field, or none
abbrev pub end_of : Option Name → List Name
end_of None = []
end_of (Some n) = n ∷ []

abbrev pub lent_names : List (Bor Name) → List Name
lent_names = map (λ n. n.now)
