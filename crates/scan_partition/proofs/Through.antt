-- Dtype and value together, and the meaning of an expression from what its items are.
use Rattle.std.proofs.Common.{◌≡◌, ℕ, Bool, true, false, cond, Option, Some, None, refl, ap, sym, subst, ◌∙◌}
use Rattle.std.specs.Prelude.{pos}
use Rattle.std.proofs.lemmas.Slice.Eq.{bytes_eq-Decides}
use Rattle.scan_values.specs.DataType.{DataType, bool_type, int_type, struct_type, Fields, no_fields, field, Name}
use Rattle.scan_values.specs.declared.ptype.Nullability.{Nullability}
use Rattle.scan_values.specs.declared.ptype.Nullability.TheVariants.{NonNullable, Nullable}
use Rattle.scan_values.specs.declared.ptype.PType.TheVariants.{U64}
use Rattle.scan_expr.specs.Infer.{unary_type, binary_type, infer, infer_all}
use Rattle.scan_values.specs.Val.{marked}
use Rattle.scan_values.specs.Marked.{Marked, null, integer, struct, Markeds, none, more}
use Rattle.scan_expr.specs.Eval.{unary_value, binary_value, eval, eval_all}
use Rattle.scan_partition.specs.declared.item.Item.{Item}
use Rattle.scan_partition.specs.declared.item.Item.TheVariants.{Field, Validity}
use Rattle.scan_partition.specs.Items.{AtMost, same_item, item_of, Use, no_use, one, many, both, or_use, use_of, uses_of, ItemOr, root_item, spelled, IsExpanded, AreExpanded}
use Rattle.scan_partition.specs.Partition.{Reads, or_root, step_into, step_into_all}
use Rattle.scan_expr.specs.declared.op.Unary.{Unary}
use Rattle.scan_expr.specs.declared.op.Unary.TheVariants.{GetItem, Select, Exclude, Not, IsNull, IsNotNull, ListLength}
use Rattle.scan_expr.specs.declared.op.Binary.{Binary}
use Rattle.scan_expr.specs.Expr.{Expr, root, row_index, literal, unary, binary, pack, Parts, no_parts, part}

abbrev pub Seen : Type 0
Seen = DataType × Marked

abbrev pub SeenAll : Type 0
SeenAll = Fields × Markeds

abbrev pub seen_unary : Unary → Seen → Seen
seen_unary u x = (unary_type u x.0, unary_value u x.0 x.1)

abbrev pub seen_binary : Binary → Seen → Seen → Seen
seen_binary b x y = (binary_type b x.0 y.0, binary_value b (binary_type b x.0 y.0) x.1 y.1)

abbrev pub seen_pack : Nullability → SeenAll → Seen
seen_pack n x = (struct_type x.0 n, struct x.1)

abbrev pub seen_part : Name → Seen → SeenAll → SeenAll
seen_part n x xs = (field n x.0 xs.0, more x.1 xs.1)

abbrev pub seen : DataType → Marked → ℕ → Expr → Seen
seen s v k e = (infer s e, eval s e v k)

abbrev pub seen_all : DataType → Marked → ℕ → Parts → SeenAll
seen_all s v k ps = (infer_all s ps, eval_all s ps v k)

abbrev pub or_read : Reads → Option Item → Seen → Seen
or_read r None x = x
or_read r (Some i) x = r i

abbrev mutual
  pub through : Reads → ℕ → Expr → Seen
  through r k root = (bool_type Nullable, null)
  through r k row_index = (int_type U64 NonNullable, integer (pos k))
  through r k (literal d m) = (d, marked m)
  through r k (unary u e) = or_read r (item_of u e) (seen_unary u (through r k e))
  through r k (binary b x y) = seen_binary b (through r k x) (through r k y)
  through r k (pack ps n) = seen_pack n (through_all r k ps)

  pub through_all : Reads → ℕ → Parts → SeenAll
  through_all r k no_parts = (no_fields, none)
  through_all r k (part n e ps) = seen_part n (through r k e) (through_all r k ps)

pub same_binary : (b : Binary) (x x' y y' : Seen) → x ≡ x' → y ≡ y' → seen_binary b x y ≡ seen_binary b x' y'
same_binary b x x' y y' p q = λ i. seen_binary b (p i) (q i)

pub same_part : (n : Name) (x x' : Seen) (y y' : SeenAll) → x ≡ x' → y ≡ y' → seen_part n x y ≡ seen_part n x' y'
same_part n x x' y y' p q = λ i. seen_part n (p i) (q i)

pub same_item-sound : (i j : Item) → same_item i j ≡ true → i ≡ j
same_item-sound (Field n) (Field m) h = ap Field ((bytes_eq-Decides n m).0 h)
same_item-sound (Field n) Validity h = cc
same_item-sound Validity (Field m) h = cc
same_item-sound Validity Validity h = refl

pub both-split : (i : Item) (u w : Use) → AtMost i (both u w) → AtMost i u × AtMost i w
both-split i no_use w h = (tt, h)
both-split i (one j) no_use h = (h, tt)
both-split i (one j) (one l) h = go (same_item j l) (same_item-sound j l) h
  where
    go : (b : Bool) → (b ≡ true → j ≡ l) → AtMost i (cond b (one j) many) → (i ≡ j) × (i ≡ l)
    go true e h = (h, h ∙ e refl)
    go false e h = absurd h
both-split i (one j) many h = absurd h
both-split i many w h = absurd h

step_unary : (r : Reads) (k : ℕ) (i : Item) (u : Unary) (e : Expr) (x : Seen) (o : Option Item) (w : Use) (P : Type 0)
    → ItemOr o P → AtMost i (or_use o w) → (P → AtMost i w → seen (r i).0 (r i).1 k e ≡ x) → seen (r i).0 (r i).1 k (or_root o (unary u e)) ≡ or_read r o (seen_unary u x)
step_unary r k i u e x None w P p h f = ap (seen_unary u) (f p h)
step_unary r k i u e x (Some j) w P p h f = ap r h

mutual
  -- stepped in by its one item, an expression has the dtype and the value that it has through the items
  pub step_into-through : (r : Reads) (k : ℕ) (i : Item) (e : Expr) → IsExpanded e → AtMost i (use_of e) → seen (r i).0 (r i).1 k (step_into e) ≡ through r k e
  step_into-through r k i root p h = absurd p
  step_into-through r k i row_index p h = refl
  step_into-through r k i (literal d m) p h = refl
  step_into-through r k i (unary u e) p h = step_unary r k i u (step_into e) (through r k e) (item_of u e) (use_of e) (IsExpanded e) p h (step_into-through r k i e)
  step_into-through r k i (binary b x y) p h =
      let hs = both-split i (use_of x) (use_of y) h in
      same_binary b _ _ _ _ (step_into-through r k i x p.0 hs.0) (step_into-through r k i y p.1 hs.1)
  step_into-through r k i (pack ps n) p h = ap (seen_pack n) (step_into_all-through r k i ps p h)

  step_into_all-through : (r : Reads) (k : ℕ) (i : Item) (ps : Parts) → AreExpanded ps → AtMost i (uses_of ps) → seen_all (r i).0 (r i).1 k (step_into_all ps) ≡ through_all r k ps
  step_into_all-through r k i no_parts p h = refl
  step_into_all-through r k i (part n e ps) p h =
      let hs = both-split i (use_of e) (uses_of ps) h in
      same_part n _ _ _ _ (step_into-through r k i e p.0 hs.0) (step_into_all-through r k i ps p.1 hs.1)

some_inj : {A : Type 0} {x y : A} → Some x ≡ Some y → x ≡ y
some_inj h = cc

-- the item that an operator on `$` is, spelled
root_item-spelled : (u : Unary) (i : Item) → root_item u ≡ Some i → spelled i ≡ unary u root
root_item-spelled (GetItem n) i h = ap spelled (sym (some_inj h))
root_item-spelled (Select ns) i h = cc
root_item-spelled (Exclude ns) i h = cc
root_item-spelled Not i h = cc
root_item-spelled IsNull i h = cc
root_item-spelled IsNotNull i h = ap spelled (sym (some_inj h))
root_item-spelled ListLength i h = cc

pub item_of-spelled : (u : Unary) (e : Expr) (i : Item) → item_of u e ≡ Some i → spelled i ≡ unary u e
item_of-spelled u root i h = root_item-spelled u i h
item_of-spelled u row_index i h = cc
item_of-spelled u (literal d m) i h = cc
item_of-spelled u (unary w e) i h = cc
item_of-spelled u (binary b x y) i h = cc
item_of-spelled u (pack ps n) i h = cc

-- what a struct itself gives for its items
abbrev pub own_reads : DataType → Marked → ℕ → Reads
own_reads s v k i = seen s v k (spelled i)

own_unary : (s : DataType) (v : Marked) (k : ℕ) (u : Unary) (e : Expr) (x : Seen) (o : Option Item) (P : Type 0) → ItemOr o P → ((i : Item) → o ≡ Some i → spelled i ≡ unary u e) → (P → x ≡ seen s v k e) → or_read (own_reads s v k) o (seen_unary u x) ≡ seen_unary u (seen s v k e)
own_unary s v k u e x None P p g f = ap (seen_unary u) (f p)
own_unary s v k u e x (Some i) P p g f = ap (seen s v k) (g i refl)

mutual
  pub through-seen : (s : DataType) (v : Marked) (k : ℕ) (e : Expr) → IsExpanded e → through (own_reads s v k) k e ≡ seen s v k e
  through-seen s v k root p = absurd p
  through-seen s v k row_index p = refl
  through-seen s v k (literal d m) p = refl
  through-seen s v k (unary u e) p = own_unary s v k u e _ (item_of u e) (IsExpanded e) p (item_of-spelled u e) (through-seen s v k e)
  through-seen s v k (binary b x y) p = same_binary b _ _ _ _ (through-seen s v k x p.0) (through-seen s v k y p.1)
  through-seen s v k (pack ps n) p = ap (seen_pack n) (through_all-seen s v k ps p)

  pub through_all-seen : (s : DataType) (v : Marked) (k : ℕ) (ps : Parts) → AreExpanded ps → through_all (own_reads s v k) k ps ≡ seen_all s v k ps
  through_all-seen s v k no_parts p = refl
  through_all-seen s v k (part n e ps) p = same_part n _ _ _ _ (through-seen s v k e p.0) (through_all-seen s v k ps p.1)

-- stepping in keeps the dtype and the value, on what the item itself is there
pub step_into-seen : (s : DataType) (i : Item) (e : Expr) (v : Marked) (k : ℕ) → IsExpanded e → use_of e ≡ one i → seen (infer s (spelled i)) (eval s (spelled i) v k) k (step_into e) ≡ seen s v k e
step_into-seen s i e v k p h = step_into-through (own_reads s v k) k i e p (subst (AtMost i) (sym h) refl) ∙ through-seen s v k e p
