-- The pieces of an expression that is taken apart, group by group.
use Rattle.std.proofs.Common.{◌≡◌, ℕ, ◌<◌, ◌≤◌, zero, suc, List, [], ◌∷◌, length, map, take, get_or, zip, refl, ap, sym, subst, ◌∙◌, arith}
use Rattle.std.proofs.lemmas.List.{length-map}
use Rattle.scan_values.specs.DataType.{DataType, field, fields_of}
use Rattle.scan_values.specs.NameFaults.{field_names}
use Rattle.scan_expr.specs.Bound.{Bound}
use Rattle.scan_expr.specs.Expr.{Expr}
use Rattle.scan_partition.specs.declared.item.Item.{Item}
use Rattle.scan_partition.specs.declared.groups.Group.{Group as LentGroup}
use Rattle.scan_partition.specs.Items.{item_name}
use Rattle.scan_partition.specs.Partition.{Group, part_of, joined_fields}
use Rattle.scan_partition.specs.Plans.{group_seen}
use Rattle.scan_partition.specs.Rewrite.{NodesHold}
use Rattle.scan_partition.specs.Divided.{type_of_part, group_part}
use Rattle.scan_partition.specs.Dividing.{GroupsFit}
use Rattle.scan_partition.proofs.Loops.{map_done}

pub map_map : {A B C : Type 0} (f : B → C) (g : A → B) (xs : List A) → map f (map g xs) ≡ map (λ x. f (g x)) xs
map_map f g [] = refl
map_map f g (x ∷ xs) = ap (λ ys. f (g x) ∷ ys) (map_map f g xs)

-- of all groups, after the last
pub pieces_done : {B : Type 0} (f : Group → B) (gs : List LentGroup) (ys : List B) (k : ℕ) → length gs ≤ k → ys ≡ map (λ g. f (group_seen g)) (take k gs) → ys ≡ map f (map group_seen gs)
pieces_done f gs ys k h e = map_done (λ g. f (group_seen g)) gs ys k h e ∙ sym (map_map f group_seen gs)

groups_fit : (b : Item → Expr → Bound) (gs : List LentGroup) (k : ℕ) (g : LentGroup) → k < length gs → GroupsFit b (map group_seen gs) → NodesHold (group_part b (group_seen (get_or gs k g))).scope (group_part b (group_seen (get_or gs k g))).expr
groups_fit b [] k g h a = absurd (omega arith)
groups_fit b (x ∷ xs) zero g h a = a.0.0
groups_fit b (x ∷ xs) (suc k) g h a = groups_fit b xs k g (omega arith) a.1

pub group_fits : (b : Item → Expr → Bound) (gs : List LentGroup) (k : ℕ) (g : LentGroup) → k < length gs → g ≡ get_or gs k g → GroupsFit b (map group_seen gs) → NodesHold (group_part b (group_seen g)).scope (group_part b (group_seen g)).expr
group_fits b gs k g h e a = subst (λ (x : LentGroup). NodesHold (group_part b (group_seen x)).scope (group_part b (group_seen x)).expr) (sym e) (groups_fit b gs k g h a)

pub joined_are : (b : Item → Expr → Bound) (gs : List Group) → fields_of (zip (map (λ (g : Group). item_name g.0) gs) (map (λ (g : Group). type_of_part b g.0 (part_of g.1)) gs)) ≡ joined_fields (type_of_part b) gs
joined_are b [] = refl
joined_are b (g ∷ gs) = ap (λ fs. field (item_name g.0) (type_of_part b g.0 (part_of g.1)) fs) (joined_are b gs)

pub as_many : {B C : Type 0} (f : Group → B) (h : Group → C) (gs : List Group) → length (map f gs) ≡ length (map h gs)
as_many f h gs = length-map gs f ∙ sym (length-map gs h)

pub joined_names : (t : Item → Expr → DataType) (gs : List Group) → field_names (joined_fields t gs) ≡ map (λ (g : Group). item_name g.0) gs
joined_names t [] = refl
joined_names t (g ∷ gs) = ap (λ ns. item_name g.0 ∷ ns) (joined_names t gs)
