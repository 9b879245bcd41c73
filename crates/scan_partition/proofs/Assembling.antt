-- The pieces, put together.
use Rattle.std.proofs.lemmas.List.{length-map}
use Rattle.std.proofs.Common.{◌≡◌, ◌<◌, ◌^◌, length, List, [], ◌++◌, map, zip, ap, sym, subst, ◌∙◌}
use Rattle.scan_values.specs.DataType.{DataType, Name, struct_type, fields_of}
use Rattle.scan_values.specs.declared.ptype.Nullability.TheVariants.{NonNullable}
use Rattle.scan_expr.specs.Bound.{Bound}
use Rattle.scan_expr.specs.Expr.{Expr}
use Rattle.scan_expr.specs.Infer.{infer}
use Rattle.scan_partition.specs.declared.item.Item.{Item}
use Rattle.scan_partition.specs.declared.cuts.Cut.{Cut as LentCut}
use Rattle.scan_partition.specs.declared.divide.Parting.{Parting}
use Rattle.scan_partition.specs.Items.{item_name}
use Rattle.scan_partition.specs.Partition.{Group, Leaf, cuts, groups_of, part_of, root_of, joined_fields}
use Rattle.scan_partition.specs.Planted.{Planted, planted, numbered_cuts}
use Rattle.scan_partition.specs.Rewrite.{NodesHold}
use Rattle.scan_partition.specs.Soles.{cut_seen}
use Rattle.scan_partition.specs.Divided.{Divided, IsDivided, type_of_part, group_part}
use Rattle.scan_partition.specs.Dividing.{parting}
use Rattle.scan_partition.proofs.Pieces.{map_map, as_many, joined_are}
use Rattle.scan_partition.proofs.Roots.{planted_whole}

-- the cuts that were found, from none
pub found_cuts : (e : Expr) (before after lent : List LentCut) → before ≡ [] → map cut_seen after ≡ map cut_seen before ++ cuts e → lent ≡ after → map cut_seen lent ≡ cuts e
found_cuts e before after lent b h l = ap (map cut_seen) l ∙ h ∙ ap (λ xs. map cut_seen xs ++ cuts e) b

pub assembled : (how : Parting) (s t : DataType) (e : Expr) (gs : List Group) (names : List Name) (dtypes : List DataType) → t ≡ s → gs ≡ groups_of (cuts e) → names ≡ map (λ (g : Group). item_name g.0) gs
    → dtypes ≡ map (λ (g : Group). type_of_part (parting how t) g.0 (part_of g.1)) gs → fields_of (zip names dtypes) ≡ joined_fields (type_of_part (parting how s)) (groups_of (cuts e))
assembled how s t e gs names dtypes h g n d =
    (λ i. fields_of (zip (n i) (d i))) ∙ joined_are (parting how t) gs ∙ (λ i. joined_fields (type_of_part (parting how (h i))) (g i))

pub root_planted : (e : Expr) (gs : List Group) (ls : List Leaf) → gs ≡ groups_of (cuts e) → ls ≡ numbered_cuts [] (cuts e) → (planted gs ls e).0 ≡ root_of (cuts e) [] e
root_planted e gs ls g l = (λ i. (planted (g i) (l i) e).0) ∙ ap (λ (p : Planted). p.0) (planted_whole e)

pub root_requires : (d t : DataType) (e : Expr) (gs : List Group) (ls : List Leaf) → d ≡ t → gs ≡ groups_of (cuts e) → ls ≡ numbered_cuts [] (cuts e) → NodesHold t (root_of (cuts e) [] e) → NodesHold d (planted gs ls e).0
root_requires d t e gs ls h g l f = subst (λ (x : DataType). NodesHold x (planted gs ls e).0) (sym h) (subst (NodesHold t) (sym (root_planted e gs ls g l)) f)

pub same_divided : (is js : List Item) (ps qs : List Bound) (r t : Bound) → is ≡ js → ps ≡ qs → r ≡ t → ◌≡◌ {A = Divided} (record { items = is; parts = ps; root = r }) (record { items = js; parts = qs; root = t })
same_divided is js ps qs r t h g k = λ i. record { items = h i; parts = g i; root = k i }

pub few_cuts : (e : Expr) (lent : List LentCut) → map cut_seen lent ≡ cuts e → length lent < 2 ^ 64 → length (cuts e) < 2 ^ 64
few_cuts e lent h l = subst (λ n. n < 2 ^ 64) (sym (length-map lent cut_seen) ∙ ap length h) l

-- what the root reads is the struct of the parts
pub pieces_divided : (b : Item → Expr → Bound) (gs : List Group) (is : List Item) (names : List Name) (dtypes : List DataType) (ps : List Bound) (root : Bound) → is ≡ map (λ (g : Group). g.0) gs → names ≡ map (λ (g : Group). item_name g.0) gs
    → dtypes ≡ map (λ (g : Group). type_of_part b g.0 (part_of g.1)) gs → ps ≡ map (group_part b) gs → root.scope ≡ struct_type (fields_of (zip names dtypes)) NonNullable → IsDivided is ps root
pieces_divided b gs is names dtypes ps root i n d p s = record {
  even = ap length p ∙ as_many (group_part b) (λ (g : Group). g.0) gs ∙ sym (ap length i);
  scope = s ∙ (λ j. struct_type (fields_of (zip (named j) (typed j))) NonNullable);
}
  where
    named : names ≡ map item_name is
    named = n ∙ sym (map_map item_name (λ (g : Group). g.0) gs) ∙ sym (ap (map item_name) i)

    typed : dtypes ≡ map (λ (x : Bound). infer x.scope x.expr) ps
    typed = d ∙ sym (map_map (λ (x : Bound). infer x.scope x.expr) (group_part b) gs) ∙ sym (ap (map (λ (x : Bound). infer x.scope x.expr)) p)
