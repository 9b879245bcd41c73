-- Partitioning with the parts kept over the struct: nothing too deep, and the value of the whole.
use Rattle.std.proofs.Common.{◌≡◌, ◌<◌, ◌^◌, ℕ, ◌+◌, Bool, true, false, cond, ◌||◌, None, List, [], ◌∷◌, ◌++◌, length, map, refl, ap, sym, subst, ◌∙◌}
use Rattle.std.proofs.lemmas.List.{append-nil}
use Rattle.scan_values.specs.DataType.{DataType, Name, struct_type, Fields}
use Rattle.scan_values.specs.declared.ptype.Nullability.TheVariants.{NonNullable}
use Rattle.scan_values.specs.NameFaults.{field_names, has_name}
use Rattle.scan_values.specs.Marked.{Marked, struct}
use Rattle.scan_expr.specs.Bound.{Bound}
use Rattle.scan_expr.specs.Infer.{struct_fields}
use Rattle.scan_expr.specs.declared.op.Unary.{Unary}
use Rattle.scan_expr.specs.declared.op.Unary.TheVariants.{GetItem, Select, Exclude, Not, IsNull, IsNotNull, ListLength}
use Rattle.scan_expr.specs.Expr.{is_root, Expr, root, row_index, literal, unary, binary, pack, Parts, no_parts, part}
use Rattle.scan_partition.specs.declared.item.Item.{Item}
use Rattle.scan_partition.specs.Items.{validity_name, item_name, same_item, root_item, item_of, AtMost, Use, no_use, one, many, both, or_use, use_of, uses_of, IsExpanded, AreExpanded}
use Rattle.scan_partition.specs.Partition.{Reads, Cut, Group, cut_or, cuts, all_cuts, groups_of, numbered, part_of, root_of, joined_fields, joined_type}
use Rattle.scan_partition.specs.Rewrite.{NodesHold}
use Rattle.scan_partition.specs.Rows.{IsPlain, AllPlain}
use Rattle.scan_partition.specs.Found.{NamesFound, AllNamesFound, NoneReserved, FoundAt, FoundBy}
use Rattle.scan_partition.specs.Conditions.{IsOverStruct}
use Rattle.scan_partition.specs.Divided.{divided, kept, type_of_part, group_part}
use Rattle.scan_partition.specs.Dividing.{GroupsFit}
use Rattle.scan_partition.specs.Split.{part_values, parts_overflow, KeptJoins}
use Rattle.scan_expr.specs.Overflow.{overflows}
use Rattle.scan_partition.proofs.PartOverflows.{part_overflows, step_into-overflows, through-overflows, partition_overflows}
use Rattle.scan_partition.proofs.Through.{Seen, SeenAll, seen, seen_part, own_reads, through-seen}
use Rattle.scan_partition.proofs.Parted.{joined, partition_seen, expanded_part}
use Rattle.scan_partition.proofs.Names.{same_item-refl}
use Rattle.scan_partition.proofs.Dividing.{SomeOf, AllOf, GroupsAll, CutsAll, all_by, all_append, collected_all, AllParts, kept_cuts, parts_fit, part_root_fits}
use Rattle.scan_partition.proofs.Calls.{stepped_seen, any_value}
use Rattle.scan_partition.proofs.Part.{ThroughPart, part_through}
use Rattle.scan_expr.specs.Typing.{typing_fault}
use Rattle.scan_partition.proofs.Typed.{NodesTyped, ThroughTyped, typed_nodes, own_typed}

-- ---- no item has the name that stands for validity
abbrev PlainUse : Use → Type 0
PlainUse no_use = Unit {0}
PlainUse (one i) = IsPlain i
PlainUse many = Unit {0}

both_plain : (u w : Use) → PlainUse u → PlainUse w → PlainUse (both u w)
both_plain no_use w p q = q
both_plain (one i) no_use p q = p
both_plain (one i) (one j) p q = go (same_item i j)
  where
    go : (b : Bool) → PlainUse (cond b (one i) many)
    go true = p
    go false = tt
both_plain (one i) many p q = tt
both_plain many w p q = tt

field_plain : (fs : Fields) (n : Name) → NoneReserved fs → has_name n (field_names fs) ≡ true → n ≡ validity_name → ⊥
field_plain fs n free h e = clash (sym free ∙ ap (λ m. has_name m (field_names fs)) (sym e) ∙ h)
  where
    clash : false ≡ true → ⊥
    clash q = cc

at_root_plain : (fs : Fields) (u : Unary) (b : Bool) (w : Use) → NoneReserved fs → FoundAt b (FoundBy fs u) → PlainUse w → PlainUse (or_use (cond b (root_item u) None) w)
at_root_plain fs (GetItem n) true w free f p = field_plain fs n free f
at_root_plain fs (Select ns) true w free f p = p
at_root_plain fs (Exclude ns) true w free f p = p
at_root_plain fs Not true w free f p = p
at_root_plain fs IsNull true w free f p = p
at_root_plain fs IsNotNull true w free f p = tt
at_root_plain fs ListLength true w free f p = p
at_root_plain fs u false w free f p = p

mutual
  use_plain : (fs : Fields) (e : Expr) → NoneReserved fs → NamesFound fs e → PlainUse (use_of e)
  use_plain fs root free f = tt
  use_plain fs row_index free f = tt
  use_plain fs (literal d v) free f = tt
  use_plain fs (unary u e) free f = at_root_plain fs u (is_root e) (use_of e) free f.0 (use_plain fs e free f.1)
  use_plain fs (binary b x y) free f = both_plain (use_of x) (use_of y) (use_plain fs x free f.0) (use_plain fs y free f.1)
  use_plain fs (pack ps n) free f = uses_plain fs ps free f

  uses_plain : (fs : Fields) (ps : Parts) → NoneReserved fs → AllNamesFound fs ps → PlainUse (uses_of ps)
  uses_plain fs no_parts free f = tt
  uses_plain fs (part n e ps) free f = both_plain (use_of e) (uses_of ps) (use_plain fs e free f.0) (uses_plain fs ps free f.1)

plain_append : (cs ds : List Cut) → AllPlain cs → AllPlain ds → AllPlain (cs ++ ds)
plain_append [] ds a b = b
plain_append (c ∷ cs) ds a b = (a.0, plain_append cs ds a.1 b)

plain_by : (w : Use) (e : Expr) (cs : List Cut) → PlainUse w → AllPlain cs → AllPlain (cut_or w e cs)
plain_by no_use e cs p a = a
plain_by (one i) e cs p a = (p, tt)
plain_by many e cs p a = a

mutual
  pub plain_cuts : (fs : Fields) (e : Expr) → NoneReserved fs → NamesFound fs e → AllPlain (cuts e)
  plain_cuts fs root free f = tt
  plain_cuts fs row_index free f = tt
  plain_cuts fs (literal d v) free f = tt
  plain_cuts fs (unary u e) free f = plain_by (use_of (unary u e)) (unary u e) (cuts e) (use_plain fs (unary u e) free f) (plain_cuts fs e free f.1)
  plain_cuts fs (binary b x y) free f = plain_by (use_of (binary b x y)) (binary b x y) (cuts x ++ cuts y) (use_plain fs (binary b x y) free f) (plain_append (cuts x) (cuts y) (plain_cuts fs x free f.0) (plain_cuts fs y free f.1))
  plain_cuts fs (pack ps n) free f = plain_by (use_of (pack ps n)) (pack ps n) (all_cuts ps) (use_plain fs (pack ps n) free f) (all_plain_cuts fs ps free f)

  all_plain_cuts : (fs : Fields) (ps : Parts) → NoneReserved fs → AllNamesFound fs ps → AllPlain (all_cuts ps)
  all_plain_cuts fs no_parts free f = tt
  all_plain_cuts fs (part n e ps) free f = plain_append (cuts e) (all_cuts ps) (plain_cuts fs e free f.0) (all_plain_cuts fs ps free f.1)

-- ---- a part uses its item alone
both_at_most : (i : Item) (u w : Use) → AtMost i u → AtMost i w → AtMost i (both u w)
both_at_most i no_use w p q = q
both_at_most i (one j) no_use p q = p
both_at_most i (one j) (one l) p q = go (same_item j l) refl
  where
    go : (b : Bool) → same_item j l ≡ b → AtMost i (cond b (one j) many)
    go true h = p
    go false h = absurd (clash (sym h ∙ ap (λ x. same_item x l) (sym p ∙ q) ∙ same_item-refl l))
      where
        clash : false ≡ true → ⊥
        clash r = cc
both_at_most i (one j) many p q = absurd q
both_at_most i many w p q = absurd p

abbrev AloneOk : Item → Expr → Type 0
AloneOk i e = IsExpanded e × AtMost i (use_of e)

mutual
  cuts_alone : (e : Expr) → IsExpanded e → CutsAll AloneOk (cuts e)
  cuts_alone root p = absurd p
  cuts_alone row_index p = tt
  cuts_alone (literal d v) p = tt
  cuts_alone (unary u e) p =
      all_by AloneOk (use_of (unary u e)) (unary u e) (cuts e) refl (λ i a. (p, a)) (λ n. cuts_alone e (expanded_part (item_of u e) (use_of e) (IsExpanded e) n p))
  cuts_alone (binary b x y) p =
      all_by AloneOk (use_of (binary b x y)) (binary b x y) (cuts x ++ cuts y) refl (λ i a. (p, a)) (λ _. all_append AloneOk (cuts x) (cuts y) (cuts_alone x p.0) (cuts_alone y p.1))
  cuts_alone (pack ps n) p = all_by AloneOk (use_of (pack ps n)) (pack ps n) (all_cuts ps) refl (λ i a. (p, a)) (λ _. all_cuts_alone ps p)

  all_cuts_alone : (ps : Parts) → AreExpanded ps → CutsAll AloneOk (all_cuts ps)
  all_cuts_alone no_parts p = tt
  all_cuts_alone (part n e ps) p = all_append AloneOk (cuts e) (all_cuts ps) (cuts_alone e p.0) (all_cuts_alone ps p.1)

numbered_alone : (i : Item) (k : ℕ) (es : List Expr) → AllOf AloneOk i es → AreExpanded (numbered k es) × AtMost i (uses_of (numbered k es))
numbered_alone i k [] a = (tt, tt)
numbered_alone i k (e ∷ es) a = let q = numbered_alone i (k + 1) es a.1 in ((a.0.0, q.0), both_at_most i (use_of e) (uses_of (numbered (k + 1) es)) a.0.1 q.1)

part_alone : (i : Item) (es : List Expr) → SomeOf AloneOk i es → IsExpanded (part_of es) × AtMost i (use_of (part_of es))
part_alone i [] a = absurd a
part_alone i (e ∷ []) a = (a.0.0, a.0.1)
part_alone i (e ∷ f ∷ es) a = numbered_alone i 0 (e ∷ f ∷ es) a

-- ---- kept parts are the parts stepped in, read of the struct itself
abbrev kept_joined : DataType → Marked → ℕ → List Group → SeenAll
kept_joined s v k gs = (joined_fields (type_of_part (kept s)) gs, part_values (λ i. v) k (map (λ (g : Group). g.0) gs) (map (group_part (kept s)) gs))

kept_are : (s : DataType) (v : Marked) (k : ℕ) (gs : List Group) → GroupsAll AloneOk gs → joined (own_reads s v k) k gs ≡ kept_joined s v k gs
kept_are s v k [] a = refl
kept_are s v k (g ∷ gs) a =
    let p = part_alone g.0 g.1 a.0 in
    λ i. seen_part (item_name g.0) (stepped_seen s g.0 (part_of g.1) v k p.0 p.1 i) (kept_are s v k gs a.1 i)

kept_bounds : (s : DataType) (v : Marked) (k : ℕ) (gs : List Group) → GroupsAll AloneOk gs → parts_overflow (λ i. v) k (map (λ (g : Group). g.0) gs) (map (group_part (kept s)) gs) ≡ part_overflows (own_reads s v k) k gs
kept_bounds s v k [] a = refl
kept_bounds s v k (g ∷ gs) a =
    let p = part_alone g.0 g.1 a.0 in
    let first = sym (through-overflows s v k (part_of g.1) p.0) ∙ sym (step_into-overflows (own_reads s v k) k g.0 (part_of g.1) p.0 p.1) in
    let rest = kept_bounds s v k gs a.1 in
    λ i. first i || rest i

module _ (b : Bound) (o : IsOverStruct b) (x : IsExpanded b.expr) (typed : typing_fault b.scope b.expr ≡ None) where
  abbrev own : Reads
  own = own_reads b.scope any_value 0

  nodes : NodesTyped b.scope b.expr
  nodes = typed_nodes b.scope b.expr typed

  through_nodes : ThroughTyped own 0 b.expr
  through_nodes = own_typed b.scope any_value 0 b.expr x nodes

  within : ThroughPart own 0 b.expr
  within = part_through b.scope own 0 (λ i. refl) b.expr x o.nodes

  groups_ok : GroupsAll AloneOk (groups_of (cuts b.expr))
  groups_ok = collected_all AloneOk [] (cuts b.expr) tt (cuts_alone b.expr x)

  plain : AllPlain (cuts b.expr)
  plain = plain_cuts (struct_fields b.scope) b.expr o.free o.found

  kept_seen : (v : Marked) (k : ℕ) → length (cuts b.expr) < 2 ^ 64
      → seen (struct_type (kept_joined b.scope v k (groups_of (cuts b.expr))).0 NonNullable) (struct (kept_joined b.scope v k (groups_of (cuts b.expr))).1) k (root_of (cuts b.expr) [] b.expr) ≡ seen b.scope v k b.expr
  kept_seen v k few =
      (λ i. seen (struct_type (sym (kept_are b.scope v k (groups_of (cuts b.expr)) groups_ok) i).0 NonNullable) (struct (sym (kept_are b.scope v k (groups_of (cuts b.expr)) groups_ok) i).1) k (root_of (cuts b.expr) [] b.expr))
      ∙ partition_seen (own_reads b.scope v k) k b.expr x plain few ∙ through-seen b.scope v k b.expr x

  pub kept_joins : length (cuts b.expr) < 2 ^ 64 → KeptJoins b (divided (kept b.scope) b.expr)
  kept_joins few = record {
    dtype = ap (λ (z : Seen). z.0) (kept_seen any_value 0 few);
    values = λ v k. ap (λ (z : Seen). z.1) (kept_seen v k few);
    overflow = λ v k.
        let joined = kept_are b.scope v k (groups_of (cuts b.expr)) groups_ok in
        let parts = kept_bounds b.scope v k (groups_of (cuts b.expr)) groups_ok in
        (λ i. overflows (struct_type (sym joined i).0 NonNullable) (root_of (cuts b.expr) [] b.expr) (struct (sym joined i).1) k || parts i)
        ∙ partition_overflows (own_reads b.scope v k) k b.expr x plain few ∙ through-overflows b.scope v k b.expr x;
  }

  pub kept_parts_are : AllParts (kept b.scope) (groups_of (cuts b.expr))
  kept_parts_are = kept_cuts b.scope b.expr o.nodes nodes

  pub kept_parts_fit : GroupsFit (kept b.scope) (groups_of (cuts b.expr))
  kept_parts_fit = parts_fit (kept b.scope) (groups_of (cuts b.expr)) kept_parts_are

  pub kept_root_fits : length (cuts b.expr) < 2 ^ 64 → NodesHold (joined_type (type_of_part (kept b.scope)) (cuts b.expr)) (root_of (cuts b.expr) [] b.expr)
  kept_root_fits few =
      subst (λ (fs : SeenAll). NodesHold (struct_type fs.0 NonNullable) (root_of (cuts b.expr) [] b.expr)) (kept_are b.scope any_value 0 (groups_of (cuts b.expr)) groups_ok)
      (part_root_fits own 0 (cuts b.expr) plain few b.expr [] [] x (sym (append-nil (cuts b.expr))) within through_nodes)
