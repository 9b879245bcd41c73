-- Partitioning over a struct: nothing too deep, and the value of the whole.
use Rattle.std.proofs.Common.{◌≡◌, ◌<◌, ◌^◌, ℕ, true, None, [], length, refl, ap, sym, subst, ◌∙◌}
use Rattle.std.proofs.lemmas.List.{append-nil}
use Rattle.scan_values.specs.DataType.{DataType, struct_type, Fields, nullability_of}
use Rattle.scan_values.specs.declared.ptype.Nullability.{Nullability}
use Rattle.scan_values.specs.Marked.{Marked, boolean, struct}
use Rattle.scan_expr.specs.Bound.{Bound, bound_of}
use Rattle.scan_expr.specs.Infer.{struct_fields}
use Rattle.scan_expr.specs.Eval.{eval, pick}
use Rattle.scan_expr.specs.Expr.{Expr}
use Rattle.scan_partition.specs.declared.item.Item.{Item}
use Rattle.scan_partition.specs.declared.item.Item.TheVariants.{Field, Validity}
use Rattle.scan_partition.specs.declared.struct_.Partitioned.TheVariants.{Single, Multi}
use Rattle.scan_partition.specs.Items.{AtMost, one, use_of}
use Rattle.scan_partition.specs.Expand.{expand}
use Rattle.scan_partition.specs.Partition.{cuts, groups_of, root_of, joined_type, stepped_type, step_into}
use Rattle.scan_partition.specs.Rewrite.{NodesHold}
use Rattle.scan_partition.specs.Rows.{Distinct, IsRow, Agrees, item_type, AllPlain}
use Rattle.scan_partition.specs.Found.{NamesFound, NoneReserved}
use Rattle.scan_partition.specs.Shallow.{IsPart}
use Rattle.scan_partition.specs.Conditions.{IsOverStruct}
use Rattle.scan_partition.specs.Divided.{divided, stepped, type_of_part}
use Rattle.scan_partition.specs.Dividing.{GroupsFit}
use Rattle.scan_partition.specs.Split.{KeepsWhole}
use Rattle.scan_partition.proofs.Through.{Seen, seen, step_into-through}
use Rattle.scan_partition.proofs.Expanded.{expand-expanded, expand_seen, struct_partition, blank, blank-even}
use Rattle.scan_partition.proofs.StructOverflows.{parts_joined, several_overflow, alone_overflow}
use Rattle.scan_partition.proofs.Having.{cuts_plain, cuts_items, expand-items}
use Rattle.scan_partition.proofs.Bare.{item-bare}
use Rattle.scan_partition.proofs.Part.{expand_part, part_fits, step_into_part, ThroughPart, part_through}
use Rattle.scan_partition.proofs.Dividing.{IsTypedPart, AllParts, stepped_cuts, parts_fit, part_root_fits}
use Rattle.scan_expr.specs.Typing.{typing_fault}
use Rattle.scan_partition.proofs.Typed.{NodesTyped, ThroughTyped, typed_nodes, step_typed}
use Rattle.scan_partition.proofs.ExpandTyped.{expand_through}

-- ---- what is read of a struct, to speak of dtypes alone
abbrev some_reads : Fields → Item → Marked
some_reads fs (Field f) = pick f fs (blank fs)
some_reads fs Validity = boolean true

reads_agree : (fs : Fields) → Agrees fs (struct (blank fs)) (some_reads fs)
reads_agree fs = record { fields = λ f. refl; here = refl }

module _ (fs : Fields) (n : Nullability) (e : Expr) (d : Distinct fs) (free : NoneReserved fs) (found : NamesFound fs e) where
  abbrev s : DataType
  s = struct_type fs n

  plain : AllPlain (cuts (expand (struct_type fs n) e))
  plain = cuts_plain fs n (cuts (expand (struct_type fs n) e)) free (cuts_items fs n (expand (struct_type fs n) e) (expand-items fs n e found))

  several : length (cuts (expand (struct_type fs n) e)) < 2 ^ 64 → KeepsWhole (bound_of (struct_type fs n) e) (Multi (divided (stepped (struct_type fs n)) (expand (struct_type fs n) e)))
  several few = record {
    dtype = ap (λ (x : Seen). x.0) (struct_partition fs n e (struct (blank fs)) (some_reads fs) 0 d (blank-even fs) (reads_agree fs) plain few);
    values = λ v w k r a.
        ap (λ ms. eval (joined_type (stepped_type (item_type fs)) (cuts (expand (struct_type fs n) e))) (root_of (cuts (expand (struct_type fs n) e)) [] (expand (struct_type fs n) e)) (struct ms) k) (parts_joined (struct_type fs n) w k (groups_of (cuts (expand (struct_type fs n) e))))
        ∙ ap (λ (x : Seen). x.1) (struct_partition fs n e v w k d r a plain few);
    overflow = several_overflow fs n e d plain few;
  }

  alone_seen : (i : Item) (v : Marked) (w : Item → Marked) (k : ℕ) → use_of (expand (struct_type fs n) e) ≡ one i → IsRow fs n v → Agrees fs v w → seen (item_type fs i) (w i) k (step_into (expand (struct_type fs n) e)) ≡ seen (struct_type fs n) v k e
  alone_seen i v w k u r a =
      step_into-through (λ j. (item_type fs j, w j)) k i (expand (struct_type fs n) e) (expand-expanded (struct_type fs n) e) (subst (AtMost i) (sym u) refl) ∙ expand_seen fs w k n v d r a e

  alone : (i : Item) → use_of (expand (struct_type fs n) e) ≡ one i → KeepsWhole (bound_of (struct_type fs n) e) (Single i (stepped (struct_type fs n) i (expand (struct_type fs n) e)))
  alone i u = record {
    dtype = ap (λ (x : Seen). x.0) (alone_seen i (struct (blank fs)) (some_reads fs) 0 u (blank-even fs) (reads_agree fs));
    values = λ v w k r a. ap (λ (x : Seen). x.1) (alone_seen i v w k u r a);
    overflow = alone_overflow fs n e d i u;
  }

  through_nodes : NodesTyped (struct_type fs n) e → ThroughTyped (λ i. (item_type fs i, some_reads fs i)) 0 (expand (struct_type fs n) e)
  through_nodes t = expand_through fs (some_reads fs) 0 n (struct (blank fs)) d (blank-even fs) (reads_agree fs) e t

  within_items : IsPart (struct_type fs n) e → ThroughPart (λ i. (item_type fs i, some_reads fs i)) 0 (expand (struct_type fs n) e)
  within_items h = part_through (struct_type fs n) (λ i. (item_type fs i, some_reads fs i)) 0 (item-bare fs n) (expand (struct_type fs n) e) (expand-expanded (struct_type fs n) e) (expand_part fs n d e h)

  parts_are : IsPart (struct_type fs n) e → NodesTyped (struct_type fs n) e → AllParts (stepped (struct_type fs n)) (groups_of (cuts (expand (struct_type fs n) e)))
  parts_are h t = stepped_cuts (struct_type fs n) (some_reads fs) 0 (expand (struct_type fs n) e) (expand-expanded (struct_type fs n) e) (within_items h) (through_nodes t)

  root_fit : IsPart (struct_type fs n) e → NodesTyped (struct_type fs n) e → length (cuts (expand (struct_type fs n) e)) < 2 ^ 64
      → NodesHold (joined_type (type_of_part (stepped (struct_type fs n))) (cuts (expand (struct_type fs n) e)))
      (root_of (cuts (expand (struct_type fs n) e)) [] (expand (struct_type fs n) e))
  root_fit h t few =
      part_root_fits (λ i. (item_type fs i, some_reads fs i)) 0 (cuts (expand (struct_type fs n) e)) plain few (expand (struct_type fs n) e) [] [] (expand-expanded (struct_type fs n) e) (sym (append-nil (cuts (expand (struct_type fs n) e))))
      (within_items h) (through_nodes t)

  alone_part : (i : Item) → use_of (expand (struct_type fs n) e) ≡ one i → IsPart (struct_type fs n) e → NodesTyped (struct_type fs n) e → IsTypedPart (item_type fs i) (step_into (expand (struct_type fs n) e))
  alone_part i u h t =
      let a : AtMost i (use_of (expand (struct_type fs n) e)) = subst (AtMost i) (sym u) refl in (
        step_into_part (struct_type fs n) (item_type fs i) i (item-bare fs n i) (expand (struct_type fs n) e) (expand-expanded (struct_type fs n) e) a (expand_part fs n d e h),
        step_typed (λ j. (item_type fs j, some_reads fs j)) 0 i (expand (struct_type fs n) e) (expand-expanded (struct_type fs n) e) a (through_nodes t),
      )

-- ---- over any struct
module _ (b : Bound) (o : IsOverStruct b) (typed : typing_fault b.scope b.expr ≡ None) where
  at_struct : (P : DataType → Type 0) → P (struct_type (struct_fields b.scope) (nullability_of b.scope)) → P b.scope
  at_struct P h = subst P o.structure h

  part_here : IsPart (struct_type (struct_fields b.scope) (nullability_of b.scope)) b.expr
  part_here = subst (λ (t : DataType). IsPart t b.expr) (sym o.structure) o.nodes

  typed_here : NodesTyped (struct_type (struct_fields b.scope) (nullability_of b.scope)) b.expr
  typed_here = subst (λ (t : DataType). NodesTyped t b.expr) (sym o.structure) (typed_nodes b.scope b.expr typed)

  pub multi_keeps : length (cuts (expand b.scope b.expr)) < 2 ^ 64 → KeepsWhole b (Multi (divided (stepped b.scope) (expand b.scope b.expr)))
  multi_keeps =
      at_struct (λ (t : DataType). length (cuts (expand t b.expr)) < 2 ^ 64 → KeepsWhole (bound_of t b.expr) (Multi (divided (stepped t) (expand t b.expr))))
      (several (struct_fields b.scope) (nullability_of b.scope) b.expr o.distinct o.free o.found)

  pub single_keeps : (i : Item) → use_of (expand b.scope b.expr) ≡ one i → KeepsWhole b (Single i (stepped b.scope i (expand b.scope b.expr)))
  single_keeps i =
      at_struct (λ (t : DataType). use_of (expand t b.expr) ≡ one i → KeepsWhole (bound_of t b.expr) (Single i (stepped t i (expand t b.expr))))
      (alone (struct_fields b.scope) (nullability_of b.scope) b.expr o.distinct o.free o.found i)

  pub split_parts : AllParts (stepped b.scope) (groups_of (cuts (expand b.scope b.expr)))
  split_parts =
      at_struct (λ (t : DataType). AllParts (stepped t) (groups_of (cuts (expand t b.expr)))) (parts_are (struct_fields b.scope) (nullability_of b.scope) b.expr o.distinct o.free o.found part_here typed_here)

  pub split_parts_fit : GroupsFit (stepped b.scope) (groups_of (cuts (expand b.scope b.expr)))
  split_parts_fit = parts_fit (stepped b.scope) (groups_of (cuts (expand b.scope b.expr))) split_parts

  pub split_root_fits : length (cuts (expand b.scope b.expr)) < 2 ^ 64 → NodesHold (joined_type (type_of_part (stepped b.scope)) (cuts (expand b.scope b.expr))) (root_of (cuts (expand b.scope b.expr)) [] (expand b.scope b.expr))
  split_root_fits =
      at_struct (λ (t : DataType). length (cuts (expand t b.expr)) < 2 ^ 64 → NodesHold (joined_type (type_of_part (stepped t)) (cuts (expand t b.expr))) (root_of (cuts (expand t b.expr)) [] (expand t b.expr)))
      (root_fit (struct_fields b.scope) (nullability_of b.scope) b.expr o.distinct o.free o.found part_here typed_here)

  pub split_single : (i : Item) → use_of (expand b.scope b.expr) ≡ one i → IsTypedPart (item_type (struct_fields b.scope) i) (step_into (expand b.scope b.expr))
  split_single i =
      at_struct (λ (t : DataType). use_of (expand t b.expr) ≡ one i → IsTypedPart (item_type (struct_fields t) i) (step_into (expand t b.expr)))
      (λ u. alone_part (struct_fields b.scope) (nullability_of b.scope) b.expr o.distinct o.free o.found i u part_here typed_here)

  pub split_single_fits : (i : Item) → use_of (expand b.scope b.expr) ≡ one i → NodesHold (item_type (struct_fields b.scope) i) (step_into (expand b.scope b.expr))
  split_single_fits i u = let h = split_single i u in part_fits (item_type (struct_fields b.scope) i) (step_into (expand b.scope b.expr)) h.0 h.1
