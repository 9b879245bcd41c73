-- Parts may be parted again.
use Rattle.std.proofs.Common.{◌≡◌, ◌≤◌, ℕ, Bool, true, false, cond, Option, Some, None, List, [], ◌∷◌, map, refl, ap, sym, subst, ◌∙◌, bytes_eq, arith, lit≤}
use Rattle.std.specs.Prelude.{Ok, zero, suc, slice_get}
use Rattle.scan_values.specs.DataType.{DataType, bool_type, int_type, utf8_type, list_type, struct_type, Fields, no_fields, field, Name, depth_of, fields_depth}
use Rattle.scan_values.specs.FieldLists.{dtype_named}
use Rattle.scan_values.specs.NameFaults.{field_names, names_fault, dtype_fault, fields_fault, or_else}
use Rattle.scan_expr.specs.Bound.{Bound, bound_of}
use Rattle.scan_expr.specs.Expr.{is_root, Expr, root, row_index, literal, unary, binary, pack, Parts, no_parts, part, uses_row_index}
use Rattle.scan_expr.specs.Infer.{infer, struct_fields, type_or_bool, field_type}
use Rattle.scan_expr.specs.Typing.{Fault, bind_fault, typed}
use Rattle.scan_expr.specs.declared.op.Unary.TheVariants.{ListLength}
use Rattle.scan_expr.proofs.Binding.{bound_infers}
use Rattle.scan_partition.specs.declared.item.Item.{Item}
use Rattle.scan_partition.specs.declared.item.Item.TheVariants.{Field, Validity}
use Rattle.scan_partition.specs.Conditions.{IsStruct, IsOverStruct}
use Rattle.scan_partition.specs.Direct.{Choice, chosen_directly}
use Rattle.scan_partition.specs.Divided.{kept, stepped, group_part}
use Rattle.scan_partition.specs.Expand.{expand}
use Rattle.scan_partition.specs.Found.{NamesFound, AllNamesFound}
use Rattle.scan_partition.specs.Items.{Use, no_use, one, many, use_of, spelled}
use Rattle.scan_partition.specs.Lift.{lift}
use Rattle.scan_partition.specs.Lists.{rewrite_offsets}
use Rattle.scan_partition.specs.Partition.{Group, cuts, groups_of, part_of, step_into}
use Rattle.scan_partition.specs.Partable.{IsScope, IsPartable, ArePartable, PartsPartable, RowPartsPartable, BoundIsPartable, StructPartsPartable, KeptPartsPartable, RowPartsArePartable, ExpandedIsPartable, ValidityIsPartable, LengthsArePartable, SteppedIsPartable}
use Rattle.scan_partition.specs.RowDivided.{uses_root, number_type, over_number, numbered_scope}
use Rattle.scan_partition.specs.RowSplit.{IsOverRows, row_split_by}
use Rattle.scan_partition.specs.Rows.{item_type}
use Rattle.scan_partition.specs.Split.{split_by, split_by_items, direct_or}
use Rattle.scan_partition.proofs.Binding.{found_at, struct_names, distinct, unreserved, first_of_two, second_of_two, bind_parts, one_bound}
use Rattle.scan_partition.proofs.Bare.{bare, bare_all, bare-with}
use Rattle.scan_partition.proofs.Depths.{as_deep}
use Rattle.scan_partition.proofs.Part.{step_into_part}
use Rattle.scan_partition.proofs.Stepping.{stepped_typed}
use Rattle.scan_partition.proofs.Tighter.{tighter-bare}
use Rattle.scan_partition.proofs.Calls.{expand_is_part, expand_nodes, validity_part, length_part, length_nodes, same_type}
use Rattle.scan_partition.proofs.Dividing.{IsTypedPart, AllParts, kept_cuts}
use Rattle.scan_partition.proofs.Expanded.{is_root-sound}
use Rattle.scan_partition.proofs.Faultless.{nodes_faultless}
use Rattle.scan_partition.proofs.ListTyped.{validity_typed}
use Rattle.scan_partition.proofs.RowParts.{number_part, number_typed, row_parts_are}
use Rattle.scan_partition.proofs.Splitting.{split_parts, split_single}
use Rattle.scan_partition.proofs.Typed.{NodesTyped, AllNodesTyped, typed_nodes}

-- ---- what binds
pub bound_is_partable : BoundIsPartable
bound_is_partable s e d h = let r = bind_parts s e d h in record {
  names = r.0;
  scope = r.1;
  typed = (bound_infers s e d h).2;
  nodes = r.2;
}

-- ---- the conditions
mutual
  names_taken : (s : DataType) (e : Expr) → NodesTyped s e → NamesFound (struct_fields s) e
  names_taken s root t = tt
  names_taken s row_index t = tt
  names_taken s (literal d v) t = tt
  names_taken s (unary u e) t = (found_at s u e (is_root e) (is_root-sound e) t.0, names_taken s e t.1)
  names_taken s (binary b x y) t = (names_taken s x t.1, names_taken s y t.2)
  names_taken s (pack ps n) t = all_names_taken s ps t

  all_names_taken : (s : DataType) (ps : Parts) → AllNodesTyped s ps → AllNamesFound (struct_fields s) ps
  all_names_taken s no_parts t = tt
  all_names_taken s (part n e ps) t = (names_taken s e t.0, all_names_taken s ps t.1)

pub partable_over : (b : Bound) → IsPartable b → IsStruct b.scope → IsOverStruct b
partable_over b p st =
    let once_each = struct_names b.scope p.names st in
    record {
      structure = st;
      distinct = distinct [] (struct_fields b.scope) once_each;
      free = unreserved [] (field_names (struct_fields b.scope)) once_each;
      found = names_taken b.scope b.expr (typed_nodes b.scope b.expr p.typed);
      nodes = p.nodes;
    }

pub partable_over_rows : (b : Bound) → IsPartable b → IsOverRows b
partable_over_rows b p = record { scope = p.scope; nodes = p.nodes }

-- ---- the dtypes of items
field_names_ok : (f : Name) (fs : Fields) → fields_fault fs ≡ None → dtype_fault (field_type f fs) ≡ None
field_names_ok f no_fields h = refl
field_names_ok f (field m d fs) h = go (bytes_eq f m) (field_names_ok f fs (second_of_two (dtype_fault d) (fields_fault fs) h))
  where
    go : (b : Bool) → dtype_fault (field_type f fs) ≡ None → dtype_fault (type_or_bool (cond b (Some d) (dtype_named f fs))) ≡ None
    go true r = first_of_two (dtype_fault d) (fields_fault fs) h
    go false r = r

field_within : (f : Name) (fs : Fields) → fields_depth fs ≤ 64 → depth_of (field_type f fs) ≤ 64
field_within f no_fields h = lit≤ tt
field_within f (field m d fs) h = go (bytes_eq f m) (field_within f fs (omega (arith, h)))
  where
    go : (b : Bool) → depth_of (field_type f fs) ≤ 64 → depth_of (type_or_bool (cond b (Some d) (dtype_named f fs))) ≤ 64
    go true r = omega (arith, h)
    go false r = r

-- ---- the scopes of parts
item_scope : (fs : Fields) (i : Item) → fields_fault fs ≡ None → fields_depth fs ≤ 64 → IsScope (item_type fs i)
item_scope fs (Field f) n w = (field_names_ok f fs n, field_within f fs w)
item_scope fs Validity n w = (refl, lit≤ tt)

part_partable : (d : DataType) (e : Expr) → IsScope d → IsTypedPart d e → IsPartable (bound_of d e)
part_partable d e s h = record {
  names = s.0;
  scope = s.1;
  typed = nodes_faultless d e h.1;
  nodes = h.0;
}

all_partable : (b : Item → Expr → Bound) → ((i : Item) (e : Expr) → IsScope (b i e).scope) → (gs : List Group) → AllParts b gs → ArePartable (map (group_part b) gs)
all_partable b s [] a = tt
all_partable b s (g ∷ gs) a = (part_partable (group_part b g).scope (group_part b g).expr (s g.0 (part_of g.1)) a.0, all_partable b s gs a.1)

-- ---- over a struct
struct_fields_ok : (s : DataType) → dtype_fault s ≡ None → IsStruct s → fields_fault (struct_fields s) ≡ None
struct_fields_ok s h st = subst (λ (t : DataType). dtype_fault t ≡ None → fields_fault (struct_fields t) ≡ None) st (λ q. second_of_two (names_fault [] (field_names (struct_fields s))) (fields_fault (struct_fields s)) q) h

struct_fields_within : (s : DataType) → depth_of s ≤ 64 → IsStruct s → fields_depth (struct_fields s) ≤ 64
struct_fields_within s h st = subst (λ (t : DataType). depth_of t ≤ 64 → fields_depth (struct_fields t) ≤ 64) st (λ q. omega (arith, q)) h

pub items_partable : (b : Bound) → IsPartable b → IsStruct b.scope → PartsPartable (split_by_items b.scope (expand b.scope b.expr))
items_partable b p st = used (use_of (expand b.scope b.expr)) refl
  where
    over : IsOverStruct b
    over = partable_over b p st

    scopes : (i : Item) → IsScope (item_type (struct_fields b.scope) i)
    scopes i = item_scope (struct_fields b.scope) i (struct_fields_ok b.scope p.names st) (struct_fields_within b.scope p.scope st)

    all : ArePartable (map (group_part (stepped b.scope)) (groups_of (cuts (expand b.scope b.expr))))
    all = all_partable (stepped b.scope) (λ i e. scopes i) (groups_of (cuts (expand b.scope b.expr))) (split_parts b over p.typed)

    used : (w : Use) → use_of (expand b.scope b.expr) ≡ w → PartsPartable (split_by w b.scope (expand b.scope b.expr))
    used no_use u = all
    used (one i) u = let h = split_single b over p.typed i u in record { names = (scopes i).0; scope = (scopes i).1; typed = nodes_faultless _ _ h.1; nodes = h.0 }
    used many u = all

pub struct_parts_partable : StructPartsPartable
struct_parts_partable b p st = choose (chosen_directly b.scope b.expr)
  where
    choose : (o : Option Choice) → PartsPartable (direct_or o b.scope b.expr)
    choose None = items_partable b p st
    choose (Some c) = tt

pub kept_parts_partable : KeptPartsPartable
kept_parts_partable b p x = all_partable (kept b.scope) (λ i e. (p.names, p.scope)) (groups_of (cuts b.expr)) (kept_cuts b.scope b.expr p.nodes (typed_nodes b.scope b.expr p.typed))

-- ---- by rows
row_scope : (s : DataType) (i : Item) → dtype_fault s ≡ None → depth_of s ≤ 64 → IsScope (item_type (struct_fields (numbered_scope s)) i)
row_scope s i n w = item_scope (struct_fields (numbered_scope s)) i (ap (λ f. or_else f None) n) (omega (arith, w))

pub number_partable : (b : Bound) → IsPartable b → uses_root b.expr ≡ false → IsPartable (bound_of number_type (over_number b.expr))
number_partable b p h = part_partable number_type (over_number b.expr) (refl, lit≤ tt) (number_part b.scope b.expr h p.nodes, number_typed b.scope b.expr h (typed_nodes b.scope b.expr p.typed))

pub both_partable : (b : Bound) → IsPartable b → ArePartable (map (group_part (stepped (numbered_scope b.scope))) (groups_of (cuts (lift b.expr))))
both_partable b p = all_partable (stepped (numbered_scope b.scope)) (λ i e. row_scope b.scope i p.names p.scope) (groups_of (cuts (lift b.expr))) (row_parts_are b (partable_over_rows b p) p.typed)

pub row_parts_partable : RowPartsArePartable
row_parts_partable b p = go (uses_row_index b.expr) (uses_root b.expr) refl
  where
    go : (r c : Bool) → uses_root b.expr ≡ c → RowPartsPartable (row_split_by r c b.scope b.expr)
    go true false h = number_partable b p h
    go false true h = record { names = p.names; scope = p.scope; typed = p.typed; nodes = p.nodes }
    go true true h = both_partable b p
    go false false h = both_partable b p

-- ---- expanded, and over lists
pub expanded_partable : ExpandedIsPartable
expanded_partable b p st =
    let o = partable_over b p st in
    part_partable b.scope (expand b.scope b.expr) (p.names, p.scope) (expand_is_part b.scope b.expr st o.distinct p.nodes, expand_nodes b.scope b.expr st o.distinct p.typed)

pub validity_partable : ValidityIsPartable
validity_partable b p c = part_partable _ _ (refl, lit≤ tt) (validity_part b.scope b.expr c p.nodes, validity_typed b.scope (same_type b.scope) b.expr c (typed_nodes b.scope b.expr p.typed))

-- ---- stepping in: what may be null plays no part in names and depth
mutual
  names-bare : (d : DataType) → dtype_fault (bare d) ≡ dtype_fault d
  names-bare (bool_type n) = refl
  names-bare (int_type p n) = refl
  names-bare (utf8_type n) = refl
  names-bare (list_type d n) = names-bare d
  names-bare (struct_type fs n) = λ i. or_else (names_fault [] (field_names-bare fs i)) (fields-bare fs i)

  fields-bare : (fs : Fields) → fields_fault (bare_all fs) ≡ fields_fault fs
  fields-bare no_fields = refl
  fields-bare (field n d fs) = λ i. or_else (names-bare d i) (fields-bare fs i)

  field_names-bare : (fs : Fields) → field_names (bare_all fs) ≡ field_names fs
  field_names-bare no_fields = refl
  field_names-bare (field n d fs) = ap (λ ns. n ∷ ns) (field_names-bare fs)

bare_scope : (d e : DataType) → bare d ≡ bare e → IsScope e → IsScope d
bare_scope d e h s = (sym (names-bare d) ∙ ap dtype_fault h ∙ names-bare e ∙ s.0, as_deep 64 d e h s.1)

spelled_scope : (s : DataType) (i : Item) → IsScope s → IsScope (infer s (spelled i))
spelled_scope s Validity h = (refl, lit≤ tt)
spelled_scope s (Field f) h = bare_scope (infer s (spelled (Field f))) (field_type f (struct_fields s)) (bare-with _ (field_type f (struct_fields s))) (of_fields s h)
  where
    of_fields : (d : DataType) → IsScope d → IsScope (field_type f (struct_fields d))
    of_fields (bool_type n) q = (refl, lit≤ tt)
    of_fields (int_type p n) q = (refl, lit≤ tt)
    of_fields (utf8_type n) q = (refl, lit≤ tt)
    of_fields (list_type d n) q = (refl, lit≤ tt)
    of_fields (struct_type fs n) q = (field_names_ok f fs (second_of_two (names_fault [] (field_names fs)) (fields_fault fs) q.0), field_within f fs (omega (arith, q.1)))

pub stepped_partable : SteppedIsPartable
stepped_partable b i d p x a t =
    part_partable d (step_into b.expr) (bare_scope d (infer b.scope (spelled i)) (tighter-bare d (infer b.scope (spelled i)) t) (spelled_scope b.scope i (p.names, p.scope)))
    (step_into_part b.scope d i (tighter-bare d (infer b.scope (spelled i)) t) b.expr x a p.nodes, stepped_typed b.scope d i b.expr x a t p.typed)

pub lengths_partable : LengthsArePartable
lengths_partable b d p c t =
    part_partable d (rewrite_offsets b.expr) (bare_scope d (infer b.scope (unary ListLength root)) (tighter-bare d (infer b.scope (unary ListLength root)) t) (refl, lit≤ tt))
    (length_part b.scope d t b.expr c p.nodes, length_nodes b.scope d t b.expr c p.typed)

-- ---- for callers
pub bound_partable : (s : DataType) (e : Expr) (b : Bound) → Ok b ≡ typed (bind_fault s e) (bound_of s e) → IsPartable b
bound_partable s e b h =
    let r = one_bound (bind_fault s e) b (bound_of s e) h in
    subst IsPartable (sym r.1) (bound_is_partable s e (infer s e) (ap (λ (f : Fault). typed f (infer s e)) r.0))

pub bound_structure : (s : DataType) (e : Expr) (b : Bound) → Ok b ≡ typed (bind_fault s e) (bound_of s e) → IsStruct s → IsStruct b.scope
bound_structure s e b h st = subst (λ (x : Bound). IsStruct x.scope) (sym (one_bound (bind_fault s e) b (bound_of s e) h).1) st

-- one of some parts
pub one_partable : (bs : List Bound) (i : ℕ) (b : Bound) → ArePartable bs → Some b ≡ slice_get bs i → IsPartable b
one_partable [] i b a h = cc
one_partable (x ∷ xs) zero b a h = subst IsPartable (same h) a.0
  where
    same : ◌≡◌ {A = Option Bound} (Some b) (Some x) → x ≡ b
    same q = cc
one_partable (x ∷ xs) (suc i) b a h = one_partable xs i b a.1 h
