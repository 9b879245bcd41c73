-- Partitioning by the row's number and the child: nothing too deep, and the value of the whole.
use Rattle.std.proofs.Common.{◌≡◌, ◌<◌, ◌≤◌, ◌^◌, ℕ, Bool, true, false, cond, ◌||◌, Option, Some, None, List, [], ◌∷◌, length, map, refl, ap, sym, subst, ◌∙◌, arith, lit≤}
use Rattle.std.specs.Prelude.{pos}
use Rattle.std.proofs.lemmas.List.{append-nil}
use Rattle.scan_values.specs.DataType.{DataType, struct_type, field, depth_of}
use Rattle.scan_values.specs.declared.ptype.Nullability.{Nullability}
use Rattle.scan_values.specs.Marked.{Marked, null, integer, struct, more}
use Rattle.scan_expr.specs.Bound.{Bound, bound_of}
use Rattle.scan_expr.specs.Infer.{struct_fields, unary_type, binary_type, infer, infer_all}
use Rattle.scan_expr.specs.Eval.{eval}
use Rattle.scan_expr.specs.Typing.{typing_fault, unary_fault, binary_fault}
use Rattle.scan_expr.specs.Expr.{is_root, Expr, root, row_index, literal, unary, binary, pack, Parts, no_parts, part}
use Rattle.scan_partition.specs.declared.item.Item.{Item}
use Rattle.scan_partition.specs.declared.rewrite.Rewriting.TheVariants.{Number, Lift}
use Rattle.scan_partition.specs.declared.row_idx.Partition.{Partition}
use Rattle.scan_partition.specs.Items.{item_of, ItemOr}
use Rattle.scan_partition.specs.Lift.{lift, lift_all}
use Rattle.scan_partition.specs.Partition.{Reads, Group, cuts, groups_of, part_of, root_of, joined_values, joined_type, stepped_type, stepped_value, step_into}
use Rattle.scan_partition.specs.Rewrite.{rewritten, all_rewritten, or_kept, NodesHold, AllNodesHold}
use Rattle.scan_partition.specs.Rewritings.{rules_of}
use Rattle.scan_partition.specs.Rows.{item_type, AllPlain}
use Rattle.scan_partition.specs.Found.{NamesFound, AllNamesFound, FoundAt, FoundBy}
use Rattle.scan_partition.specs.Shallow.{NodesWithin, AllNodesWithin, IsPart}
use Rattle.scan_partition.specs.Divided.{Divided, divided, stepped, type_of_part, group_part}
use Rattle.scan_partition.specs.Dividing.{GroupsFit}
use Rattle.scan_partition.specs.RowDivided.{uses_root, any_uses_root, number_type, over_number, all_over_number, numbered_scope, partition_of, RowDivided, by_partitions, row_divided}
use Rattle.scan_partition.specs.RowSplit.{IsOverRows, read_value, row_values}
use Rattle.scan_partition.proofs.Through.{Seen, seen, seen_all, seen_unary, seen_pack, same_binary, same_part, through, through_all}
use Rattle.scan_partition.proofs.Lifted.{lift-expanded}
use Rattle.scan_partition.proofs.Expanded.{not_root, through-under}
use Rattle.scan_partition.proofs.Parted.{with_own, partition_seen}
use Rattle.scan_partition.proofs.Keeping.{plain_cuts}
use Rattle.scan_partition.proofs.Depths.{ThroughWithin, AllThroughWithin}
use Rattle.scan_partition.proofs.Part.{shallow_part, part_depth, part_fits, ThroughPart}
use Rattle.scan_partition.proofs.Dividing.{AllParts, stepped_cuts, parts_fit, part_root_fits}
use Rattle.scan_partition.proofs.Typed.{NodesTyped, AllNodesTyped, ThroughTyped, AllThroughTyped, typed_nodes}

-- ---- by rewriting
kept_unary : (b : Bool) (e f : Expr) → e ≡ f → or_kept (cond b None None) e ≡ f
kept_unary true e f h = h
kept_unary false e f h = h

mutual
  pub numbers : (s : DataType) (e : Expr) → rewritten (rules_of Number s) e ≡ over_number e
  numbers s root = refl
  numbers s row_index = refl
  numbers s (literal d v) = refl
  numbers s (unary u e) = kept_unary (is_root e) (unary u (rewritten (rules_of Number s) e)) (unary u (over_number e)) (ap (unary u) (numbers s e))
  numbers s (binary b x y) = λ i. binary b (numbers s x i) (numbers s y i)
  numbers s (pack ps n) = ap (λ qs. pack qs n) (all_numbers s ps)

  all_numbers : (s : DataType) (ps : Parts) → all_rewritten (rules_of Number s) ps ≡ all_over_number ps
  all_numbers s no_parts = refl
  all_numbers s (part n e ps) = λ i. part n (numbers s e i) (all_numbers s ps i)

mutual
  pub lifts : (s : DataType) (e : Expr) → rewritten (rules_of Lift s) e ≡ lift e
  lifts s root = refl
  lifts s row_index = refl
  lifts s (literal d v) = refl
  lifts s (unary u e) = kept_unary (is_root e) (unary u (rewritten (rules_of Lift s) e)) (unary u (lift e)) (ap (unary u) (lifts s e))
  lifts s (binary b x y) = λ i. binary b (lifts s x i) (lifts s y i)
  lifts s (pack ps n) = ap (λ qs. pack qs n) (all_lifts s ps)

  all_lifts : (s : DataType) (ps : Parts) → all_rewritten (rules_of Lift s) ps ≡ lift_all ps
  all_lifts s no_parts = refl
  all_lifts s (part n e ps) = λ i. part n (lifts s e i) (all_lifts s ps i)

-- ---- over the row's number
pub neither : (a b : Bool) → a || b ≡ false → (a ≡ false) × (b ≡ false)
neither true b h = ((cc), (cc))
neither false b h = (refl, h)

module _ (s : DataType) (v : Marked) (k j : ℕ) where
  mutual
    pub number_seen : (e : Expr) → uses_root e ≡ false → seen number_type (integer (pos k)) j (over_number e) ≡ seen s v k e
    number_seen root h = cc
    number_seen row_index h = refl
    number_seen (literal d m) h = refl
    number_seen (unary u e) h = ap (seen_unary u) (number_seen e h)
    number_seen (binary b x y) h = let a = neither (uses_root x) (uses_root y) h in same_binary b _ _ _ _ (number_seen x a.0) (number_seen y a.1)
    number_seen (pack ps n) h = ap (seen_pack n) (all_number_seen ps h)

    all_number_seen : (ps : Parts) → any_uses_root ps ≡ false → seen_all number_type (integer (pos k)) j (all_over_number ps) ≡ seen_all s v k ps
    all_number_seen no_parts h = refl
    all_number_seen (part n e ps) h = let a = neither (uses_root e) (any_uses_root ps) h in same_part n _ _ _ _ (number_seen e a.0) (all_number_seen ps a.1)

module _ (s : DataType) where
  pub number_infers : (e : Expr) → uses_root e ≡ false → infer number_type (over_number e) ≡ infer s e
  number_infers e h = ap (λ (x : Seen). x.0) (number_seen s null 0 0 e h)

  number_depth : (e : Expr) → uses_root e ≡ false → depth_of (infer s e) ≤ 64 → depth_of (infer number_type (over_number e)) ≤ 64
  number_depth e h w = subst (λ (d : DataType). depth_of d ≤ 64) (sym (number_infers e h)) w

  mutual
    number_within : (e : Expr) → uses_root e ≡ false → NodesWithin 64 s e → NodesWithin 64 number_type (over_number e)
    number_within root h w = lit≤ tt
    number_within row_index h w = lit≤ tt
    number_within (literal d m) h w = w
    number_within (unary u e) h w = (number_depth (unary u e) h w.0, number_within e h w.1)
    number_within (binary b x y) h w = let a = neither (uses_root x) (uses_root y) h in (number_depth (binary b x y) h w.0, number_within x a.0 w.1, number_within y a.1 w.2)
    number_within (pack ps n) h w = (number_depth (pack ps n) h w.0, all_number_within ps h w.1)

    all_number_within : (ps : Parts) → any_uses_root ps ≡ false → AllNodesWithin 64 s ps → AllNodesWithin 64 number_type (all_over_number ps)
    all_number_within no_parts h w = tt
    all_number_within (part n e ps) h w = let a = neither (uses_root e) (any_uses_root ps) h in (number_within e a.0 w.0, all_number_within ps a.1 w.1)

  number_shallow : (e : Expr) → uses_root e ≡ false → NodesWithin 64 s e → IsPart number_type (over_number e)
  number_shallow e h w = shallow_part number_type (over_number e) (number_within e h w)

  pub number_part : (e : Expr) → uses_root e ≡ false → IsPart s e → IsPart number_type (over_number e)
  number_part root h w = number_shallow root h w
  number_part row_index h w = number_shallow row_index h w
  number_part (literal d m) h w = w
  number_part (unary u e) h w = number_shallow (unary u e) h w
  number_part (binary b x y) h w = number_shallow (binary b x y) h w
  number_part (pack ps n) h w = all_number_within ps h w

  mutual
    pub number_typed : (e : Expr) → uses_root e ≡ false → NodesTyped s e → NodesTyped number_type (over_number e)
    number_typed root h t = tt
    number_typed row_index h t = tt
    number_typed (literal d m) h t = t
    number_typed (unary u e) h t = (ap (unary_fault u) (number_infers e h) ∙ t.0, number_typed e h t.1)
    number_typed (binary b x y) h t = let a = neither (uses_root x) (uses_root y) h in ((λ i. binary_fault b (number_infers x a.0 i) (number_infers y a.1 i)) ∙ t.0, number_typed x a.0 t.1, number_typed y a.1 t.2)
    number_typed (pack ps n) h t = all_number_typed ps h t

    all_number_typed : (ps : Parts) → any_uses_root ps ≡ false → AllNodesTyped s ps → AllNodesTyped number_type (all_over_number ps)
    all_number_typed no_parts h t = tt
    all_number_typed (part n e ps) h t = let a = neither (uses_root e) (any_uses_root ps) h in (number_typed e a.0 t.0, all_number_typed ps a.1 t.1)

-- ---- over both
under : (o : Option Item) (P : Type 0) → P → ItemOr o P
under None P p = p
under (Some i) P p = tt

found_under : (b : Bool) (P : Type 0) → b ≡ false → FoundAt b P
found_under true P h = absurd (clash h)
  where
    clash : true ≡ false → ⊥
    clash h = cc
found_under false P h = tt

module _ (s : DataType) where
  mutual
    lift_infers : (e : Expr) → infer (numbered_scope s) (lift e) ≡ infer s e
    lift_infers root = with_own s
    lift_infers row_index = refl
    lift_infers (literal d m) = refl
    lift_infers (unary u e) = ap (unary_type u) (lift_infers e)
    lift_infers (binary b x y) = λ i. binary_type b (lift_infers x i) (lift_infers y i)
    lift_infers (pack ps n) = ap (λ fs. struct_type fs n) (lift_all_infers ps)

    lift_all_infers : (ps : Parts) → infer_all (numbered_scope s) (lift_all ps) ≡ infer_all s ps
    lift_all_infers no_parts = refl
    lift_all_infers (part n e ps) = λ i. field n (lift_infers e i) (lift_all_infers ps i)

  pack_depth : (ps : Parts) (n : Nullability) → AllNodesWithin 64 s ps → depth_of (infer (numbered_scope s) (lift (pack ps n))) ≤ 66
  pack_depth ps n w = let h : depth_of (infer (numbered_scope s) (lift (pack ps n))) ≤ 65 = subst (λ (d : DataType). depth_of d ≤ 65) (sym (lift_infers (pack ps n))) (part_depth s (pack ps n) w) in omega arith

  mutual
    lift_holds : (e : Expr) → NodesWithin 64 s e → NodesTyped s e → NodesHold (numbered_scope s) (lift e)
    lift_holds root w t = (refl, tt)
    lift_holds row_index w t = (refl, tt)
    lift_holds (literal d m) w t = t
    lift_holds (unary u e) w t = (ap (unary_fault u) (lift_infers e) ∙ t.0, lift_holds e w.1 t.1)
    lift_holds (binary b x y) w t = ((λ i. binary_fault b (lift_infers x i) (lift_infers y i)) ∙ t.0, lift_holds x w.1 t.1, lift_holds y w.2 t.2)
    lift_holds (pack ps n) w t = (pack_depth ps n w.1, lift_all_hold ps w.1 t)

    lift_all_hold : (ps : Parts) → AllNodesWithin 64 s ps → AllNodesTyped s ps → AllNodesHold (numbered_scope s) (lift_all ps)
    lift_all_hold no_parts w t = tt
    lift_all_hold (part n e ps) w t = (lift_holds e w.0 t.0, lift_all_hold ps w.1 t.1)

  lift_part_holds : (e : Expr) → IsPart s e → NodesTyped s e → NodesHold (numbered_scope s) (lift e)
  lift_part_holds root w t = lift_holds root w t
  lift_part_holds row_index w t = lift_holds row_index w t
  lift_part_holds (literal d m) w t = lift_holds (literal d m) w t
  lift_part_holds (unary u e) w t = lift_holds (unary u e) w t
  lift_part_holds (binary b x y) w t = lift_holds (binary b x y) w t
  lift_part_holds (pack ps n) w t = (pack_depth ps n w, lift_all_hold ps w t)

  mutual
    lift_found : (e : Expr) → NamesFound (struct_fields (numbered_scope s)) (lift e)
    lift_found root = (refl, tt)
    lift_found row_index = (refl, tt)
    lift_found (literal d m) = tt
    lift_found (unary u e) = (found_under (is_root (lift e)) (FoundBy (struct_fields (numbered_scope s)) u) (not_root (lift e) (lift-expanded e)), lift_found e)
    lift_found (binary b x y) = (lift_found x, lift_found y)
    lift_found (pack ps n) = lift_all_found ps

    lift_all_found : (ps : Parts) → AllNamesFound (struct_fields (numbered_scope s)) (lift_all ps)
    lift_all_found no_parts = tt
    lift_all_found (part n e ps) = (lift_found e, lift_all_found ps)

  pub lift_plain : (e : Expr) → AllPlain (cuts (lift e))
  lift_plain e = plain_cuts (struct_fields (numbered_scope s)) (lift e) refl (lift_found e)

module _ (s : DataType) (v : Marked) (k j : ℕ) where
  abbrev pub row_reads : Reads
  row_reads i = (item_type (struct_fields (numbered_scope s)) i, read_value v k (partition_of i))

  mutual
    pub lift_through : (e : Expr) → through row_reads j (lift e) ≡ seen s v k e
    lift_through root = refl
    lift_through row_index = refl
    lift_through (literal d m) = refl
    lift_through (unary u e) = through-under row_reads j u (lift e) (lift-expanded e) ∙ ap (seen_unary u) (lift_through e)
    lift_through (binary b x y) = same_binary b _ _ _ _ (lift_through x) (lift_through y)
    lift_through (pack ps n) = ap (seen_pack n) (lift_all_through ps)

    lift_all_through : (ps : Parts) → through_all row_reads j (lift_all ps) ≡ seen_all s v k ps
    lift_all_through no_parts = refl
    lift_all_through (part n e ps) = same_part n _ _ _ _ (lift_through e) (lift_all_through ps)

  through_depth : (e : Expr) → depth_of (infer s e) ≤ 64 → depth_of (through row_reads j (lift e)).0 ≤ 64
  through_depth e w = subst (λ (x : Seen). depth_of x.0 ≤ 64) (sym (lift_through e)) w

  mutual
    lift_within : (e : Expr) → NodesWithin 64 s e → ThroughWithin row_reads j (lift e)
    lift_within root w = (w, tt)
    lift_within row_index w = (lit≤ tt, tt)
    lift_within (literal d m) w = w
    lift_within (unary u e) w = (through_depth (unary u e) w.0, under (item_of u (lift e)) (ThroughWithin row_reads j (lift e)) (lift_within e w.1))
    lift_within (binary b x y) w = (through_depth (binary b x y) w.0, lift_within x w.1, lift_within y w.2)
    lift_within (pack ps n) w = (through_depth (pack ps n) w.0, lift_all_within ps w.1)

    lift_all_within : (ps : Parts) → AllNodesWithin 64 s ps → AllThroughWithin row_reads j (lift_all ps)
    lift_all_within no_parts w = tt
    lift_all_within (part n e ps) w = (lift_within e w.0, lift_all_within ps w.1)

  -- what `lift` gives is never `$`, and a pack where a pack was
  lift_part : (e : Expr) → IsPart s e → ThroughPart row_reads j (lift e)
  lift_part root w = lift_within root w
  lift_part row_index w = lift_within row_index w
  lift_part (literal d m) w = lift_within (literal d m) w
  lift_part (unary u e) w = lift_within (unary u e) w
  lift_part (binary b x y) w = lift_within (binary b x y) w
  lift_part (pack ps n) w = lift_all_within ps w

  mutual
    lift_typed : (e : Expr) → NodesTyped s e → ThroughTyped row_reads j (lift e)
    lift_typed root t = tt
    lift_typed row_index t = tt
    lift_typed (literal d m) t = t
    lift_typed (unary u e) t = under (item_of u (lift e)) ((unary_fault u (through row_reads j (lift e)).0 ≡ None) × ThroughTyped row_reads j (lift e)) (ap (λ (x : Seen). unary_fault u x.0) (lift_through e) ∙ t.0, lift_typed e t.1)
    lift_typed (binary b x y) t = ((λ i. binary_fault b (lift_through x i).0 (lift_through y i).0) ∙ t.0, lift_typed x t.1, lift_typed y t.2)
    lift_typed (pack ps n) t = lift_all_typed ps t

    lift_all_typed : (ps : Parts) → AllNodesTyped s ps → AllThroughTyped row_reads j (lift_all ps)
    lift_all_typed no_parts t = tt
    lift_all_typed (part n e ps) t = (lift_typed e t.0, lift_all_typed ps t.1)

  pub rows_joined : (gs : List Group) → row_values v k j (map partition_of (map (λ (g : Group). g.0) gs)) (map (group_part (stepped (numbered_scope s))) gs)
      ≡ joined_values (stepped_value (item_type (struct_fields (numbered_scope s))) (λ i. read_value v k (partition_of i)) j) gs
  rows_joined [] = refl
  rows_joined (g ∷ gs) = ap (more (eval (item_type (struct_fields (numbered_scope s)) g.0) (step_into (part_of g.1)) (read_value v k (partition_of g.0)) j)) (rows_joined gs)

  pub both_seen : (e : Expr) → length (cuts (lift e)) < 2 ^ 64
      → seen (joined_type (stepped_type (item_type (struct_fields (numbered_scope s)))) (cuts (lift e)))
      (struct (joined_values (stepped_value (item_type (struct_fields (numbered_scope s))) (λ i. read_value v k (partition_of i)) j)
      (groups_of (cuts (lift e))))) j (root_of (cuts (lift e)) [] (lift e)) ≡ seen s v k e
  both_seen e few = partition_seen row_reads j (lift e) (lift-expanded e) (lift_plain s e) few ∙ lift_through e

-- ---- over any rows
module _ (b : Bound) (o : IsOverRows b) (typed : typing_fault b.scope b.expr ≡ None) where
  nodes : NodesTyped b.scope b.expr
  nodes = typed_nodes b.scope b.expr typed

  within : ThroughPart (row_reads b.scope null 0 0) 0 (lift b.expr)
  within = lift_part b.scope null 0 0 b.expr o.nodes

  through_nodes : ThroughTyped (row_reads b.scope null 0 0) 0 (lift b.expr)
  through_nodes = lift_typed b.scope null 0 0 b.expr nodes

  pub number_fits : uses_root b.expr ≡ false → NodesHold number_type (over_number b.expr)
  number_fits h = part_fits number_type (over_number b.expr) (number_part b.scope b.expr h o.nodes) (number_typed b.scope b.expr h nodes)

  pub lift_fits : NodesHold (numbered_scope b.scope) (lift b.expr)
  lift_fits = lift_part_holds b.scope b.expr o.nodes nodes

  pub row_parts_are : AllParts (stepped (numbered_scope b.scope)) (groups_of (cuts (lift b.expr)))
  row_parts_are = stepped_cuts (numbered_scope b.scope) (λ i. read_value null 0 (partition_of i)) 0 (lift b.expr) (lift-expanded b.expr) within through_nodes

  pub row_parts_fit : GroupsFit (stepped (numbered_scope b.scope)) (groups_of (cuts (lift b.expr)))
  row_parts_fit = parts_fit (stepped (numbered_scope b.scope)) (groups_of (cuts (lift b.expr))) row_parts_are

  pub row_root_fits : length (cuts (lift b.expr)) < 2 ^ 64 → NodesHold (joined_type (type_of_part (stepped (numbered_scope b.scope))) (cuts (lift b.expr))) (root_of (cuts (lift b.expr)) [] (lift b.expr))
  row_root_fits few =
      part_root_fits (row_reads b.scope null 0 0) 0 (cuts (lift b.expr)) (lift_plain b.scope b.expr) few (lift b.expr) [] [] (lift-expanded b.expr) (sym (append-nil (cuts (lift b.expr)))) within through_nodes

-- ---- what a contract sees of them
abbrev pub rows_of : List Partition → Divided → RowDivided
rows_of is d = record { items = is; parts = d.parts; root = d.root }

pub rows_are : (is : List Partition) (d : Divided) (b : Bound) (s : DataType) (e : Expr) → is ≡ map partition_of d.items → d ≡ divided (stepped b.scope) b.expr → b ≡ bound_of (numbered_scope s) (lift e) → rows_of is d ≡ row_divided s e
rows_are is d b s e h w q = by_items ∙ ap by_partitions (w ∙ ap (λ (y : Bound). divided (stepped y.scope) y.expr) q)
  where
    by_items : rows_of is d ≡ by_partitions d
    by_items = λ i. record { items = h i; parts = d.parts; root = d.root }
