-- Parts that are kept, and parts that are stepped in, by rewriting.
use Rattle.std.proofs.Common.{◌≡◌, Bool, true, false, cond, Option, Some, None, List, [], ◌∷◌, map, refl, ap, sym, ◌∙◌}
use Rattle.scan_values.specs.DataType.{DataType}
use Rattle.scan_expr.specs.Expr.{is_root, Expr, root, row_index, literal, unary, binary, pack, Parts, no_parts, part}
use Rattle.scan_partition.specs.declared.item.Item.{Item}
use Rattle.scan_partition.specs.declared.rewrite.Rewriting.TheVariants.{Keep, StepIn}
use Rattle.scan_partition.specs.Items.{root_item}
use Rattle.scan_partition.specs.Partition.{or_root, step_into, step_into_all}
use Rattle.scan_partition.specs.Rewrite.{rewritten, all_rewritten, or_kept}
use Rattle.scan_partition.specs.Rewritings.{rules_of, root_if}
use Rattle.std.proofs.Common.{subst, Bor}
use Rattle.scan_expr.specs.Bound.{Bound, bound_of}
use Rattle.scan_expr.specs.Infer.{struct_fields}
use Rattle.scan_partition.specs.Rewrite.{NodesHold}
use Rattle.scan_partition.specs.Rows.{item_type}
use Rattle.scan_partition.specs.Partition.{part_of}
use Rattle.scan_partition.specs.Plans.{lent_exprs, group_seen}
use Rattle.scan_partition.specs.Soles.{item_seen}
use Rattle.scan_partition.specs.Divided.{group_part}
use Rattle.scan_partition.specs.Dividing.{parting}
use Rattle.scan_partition.specs.declared.divide.Parting.{Parting}
use Rattle.scan_partition.specs.declared.divide.Parting.TheVariants.{Kept, Stepped}
use Rattle.scan_partition.specs.declared.groups.Group.{Group as LentGroup}
use Rattle.scan_partition.proofs.Dividing.{step_part}

kept_unary : (b : Bool) (e : Expr) → or_kept (cond b None None) e ≡ e
kept_unary true e = refl
kept_unary false e = refl

module _ (s : DataType) where
  mutual
    pub keeps : (e : Expr) → rewritten (rules_of Keep s) e ≡ e
    keeps root = refl
    keeps row_index = refl
    keeps (literal d v) = refl
    keeps (unary u e) = kept_unary (is_root e) (unary u (rewritten (rules_of Keep s) e)) ∙ ap (unary u) (keeps e)
    keeps (binary b x y) = λ i. binary b (keeps x i) (keeps y i)
    keeps (pack ps n) = ap (λ qs. pack qs n) (keeps_all ps)

    keeps_all : (ps : Parts) → all_rewritten (rules_of Keep s) ps ≡ ps
    keeps_all no_parts = refl
    keeps_all (part n e ps) = λ i. part n (keeps e i) (keeps_all ps i)

  pub keeps_list : (es : List Expr) → map (rewritten (rules_of Keep s)) es ≡ es
  keeps_list [] = refl
  keeps_list (e ∷ es) = λ i. keeps e i ∷ keeps_list es i

  step_unary : (b : Bool) (o : Option Item) (e f : Expr) → e ≡ f → or_kept (cond b (root_if o) None) e ≡ or_root (cond b o None) f
  step_unary true None e f h = h
  step_unary true (Some i) e f h = refl
  step_unary false o e f h = h

  mutual
    pub steps : (e : Expr) → rewritten (rules_of StepIn s) e ≡ step_into e
    steps root = refl
    steps row_index = refl
    steps (literal d v) = refl
    steps (unary u e) = step_unary (is_root e) (root_item u) (unary u (rewritten (rules_of StepIn s) e)) (unary u (step_into e)) (ap (unary u) (steps e))
    steps (binary b x y) = λ i. binary b (steps x i) (steps y i)
    steps (pack ps n) = ap (λ qs. pack qs n) (steps_all ps)

    steps_all : (ps : Parts) → all_rewritten (rules_of StepIn s) ps ≡ step_into_all ps
    steps_all no_parts = refl
    steps_all (part n e ps) = λ i. part n (steps e i) (steps_all ps i)

  pub steps_list : (es : List Expr) → map (rewritten (rules_of StepIn s)) es ≡ map step_into es
  steps_list [] = refl
  steps_list (e ∷ es) = λ i. steps e i ∷ steps_list es i

-- ---- the part of a group
pub kept_fits : (how : Parting) (s : DataType) (g : LentGroup) (xs : List (Bor Bound)) → how ≡ Kept → xs ≡ g.parts.items → NodesHold (group_part (parting how s) (group_seen g)).scope (group_part (parting how s) (group_seen g)).expr
    → NodesHold s (part_of (map (rewritten (rules_of Keep s)) (lent_exprs xs)))
kept_fits how s g xs h e f =
    subst (λ es. NodesHold s (part_of es)) (sym (keeps_list s (lent_exprs xs) ∙ ap lent_exprs e)) (subst (λ (w : Parting). NodesHold (group_part (parting w s) (group_seen g)).scope (group_part (parting w s) (group_seen g)).expr) h f)

pub kept_part : (how : Parting) (s : DataType) (g : LentGroup) (xs : List (Bor Bound)) → how ≡ Kept → xs ≡ g.parts.items → bound_of s (part_of (map (rewritten (rules_of Keep s)) (lent_exprs xs))) ≡ group_part (parting how s) (group_seen g)
kept_part how s g xs h e = ap (λ es. bound_of s (part_of es)) (keeps_list s (lent_exprs xs) ∙ ap lent_exprs e) ∙ ap (λ (w : Parting). group_part (parting w s) (group_seen g)) (sym h)

pub stepped_fits : (how : Parting) (s d : DataType) (g : LentGroup) (xs : List (Bor Bound)) → how ≡ Stepped → d ≡ item_type (struct_fields s) (item_seen g.item) → xs ≡ g.parts.items → NodesHold (group_part (parting how s) (group_seen g)).scope (group_part (parting how s) (group_seen g)).expr
    → NodesHold d (part_of (map (rewritten (rules_of StepIn d)) (lent_exprs xs)))
stepped_fits how s d g xs h t e f =
    subst (λ (w : DataType). NodesHold w (part_of (map (rewritten (rules_of StepIn w)) (lent_exprs xs)))) (sym t)
    (subst (NodesHold (item_type (struct_fields s) (item_seen g.item))) (step_part (lent_exprs g.parts.items) ∙ ap part_of (sym (steps_list (item_type (struct_fields s) (item_seen g.item)) (lent_exprs xs) ∙ ap (λ ys. map step_into (lent_exprs ys)) e)))
    (subst (λ (w : Parting). NodesHold (group_part (parting w s) (group_seen g)).scope (group_part (parting w s) (group_seen g)).expr) h f))

pub stepped_part : (how : Parting) (s d : DataType) (g : LentGroup) (xs : List (Bor Bound)) → how ≡ Stepped → d ≡ item_type (struct_fields s) (item_seen g.item)
    → xs ≡ g.parts.items → bound_of d (part_of (map (rewritten (rules_of StepIn d)) (lent_exprs xs))) ≡ group_part (parting how s) (group_seen g)
stepped_part how s d g xs h t e =
    ap (λ es. bound_of d (part_of es)) (steps_list d (lent_exprs xs) ∙ ap (λ ys. map step_into (lent_exprs ys)) e)
    ∙ ap (bound_of d) (sym (step_part (lent_exprs g.parts.items))) ∙ ap (λ w. bound_of w (step_into (part_of (lent_exprs g.parts.items)))) t
    ∙ ap (λ (w : Parting). group_part (parting w s) (group_seen g)) (sym h)
