-- The root over the joined parts.
use Rattle.std.proofs.Common.{◌≡◌, ℕ, ◌+◌, ◌<◌, ◌≤◌, ◌^◌, suc, Bool, true, false, cond, List, [], ◌∷◌, ◌++◌, length, Option, Some, None, refl, ap, sym, subst, ◌∙◌, bytes_eq, arith, add-zero, append_assoc, length-append}
use Rattle.std.proofs.lemmas.List.{append-nil}
use Rattle.std.specs.Fmt.{decimal}
use Rattle.scan_values.specs.DataType.{DataType, bool_type, int_type, utf8_type, list_type, struct_type, Name, nullability_of, with_nullability}
use Rattle.scan_values.specs.declared.ptype.Nullability.TheVariants.{NonNullable}
use Rattle.scan_values.specs.FieldLists.{dtype_named}
use Rattle.scan_expr.specs.Infer.{type_or_bool, field_type}
use Rattle.scan_expr.specs.Eval.{pick}
use Rattle.scan_partition.specs.declared.item.Item.{Item}
use Rattle.scan_partition.specs.Items.{item_name, same_item, item_of, Use, no_use, one, many, or_use, use_of, ItemOr, IsExpanded, AreExpanded}
use Rattle.scan_partition.specs.Partition.{Reads, Cut, cut_or, cuts, all_cuts, cuts_of, numbered, part_of, leaf_of, count_item, leaf_or, root_of, roots_of, Group, added, collected, found, groups_of, joined_fields, joined_values, stepped_type, stepped_value, step_into, step_into_all}
use Rattle.scan_expr.specs.declared.op.Unary.TheVariants.{GetItem}
use Rattle.scan_expr.specs.Expr.{Expr, root, row_index, literal, unary, binary, pack, Parts, no_parts, part}
use Rattle.scan_partition.specs.Rows.{IsPlain, AllPlain}
use Rattle.scan_partition.specs.Items.{AtMost}
use Rattle.scan_partition.proofs.Through.{Seen, SeenAll, seen, seen_all, seen_unary, seen_pack, seen_part, same_binary, same_part, or_read, through, through_all, same_item-sound, step_into-through}
use Rattle.scan_partition.proofs.Grouping.{found_collected, same_item-sym}
use Rattle.scan_partition.proofs.Names.{same_item-refl, bytes_eq-refl, decimal-apart, item_name-same}

-- ---- a field, by its name
abbrev pub look : Name → SeenAll → Seen
look n x = (field_type n x.0, pick n x.0 x.1)

pub with_own : (d : DataType) → with_nullability (nullability_of d) d ≡ d
with_own (bool_type n) = refl
with_own (int_type p n) = refl
with_own (utf8_type n) = refl
with_own (list_type d n) = refl
with_own (struct_type fs n) = refl

-- of a struct that is not nullable a field is as it stands there
pub get_here : (n : Name) (x : SeenAll) → seen_unary (GetItem n) (seen_pack NonNullable x) ≡ look n x
get_here n x = λ i. (with_own (field_type n x.0) i, pick n x.0 x.1)

pub look_here : (n m : Name) (x : Seen) (xs : SeenAll) → bytes_eq n m ≡ true → look n (seen_part m x xs) ≡ x
look_here n m x xs h = λ i. (type_or_bool (cond (h i) (Some x.0) (dtype_named n xs.0)), cond (h i) x.1 (pick n xs.0 xs.1))

pub look_past : (n m : Name) (x : Seen) (xs : SeenAll) → bytes_eq n m ≡ false → look n (seen_part m x xs) ≡ look n xs
look_past n m x xs h = λ i. (type_or_bool (cond (h i) (Some x.0) (dtype_named n xs.0)), cond (h i) x.1 (pick n xs.0 xs.1))

-- ---- lists of cuts
cuts_of-append : (i : Item) (cs ds : List Cut) → cuts_of i (cs ++ ds) ≡ cuts_of i cs ++ cuts_of i ds
cuts_of-append i [] ds = refl
cuts_of-append i (c ∷ cs) ds = go (same_item i c.0) (cuts_of-append i cs ds)
  where
    go : (b : Bool) → cuts_of i (cs ++ ds) ≡ cuts_of i cs ++ cuts_of i ds → cond b (c.1 ∷ cuts_of i (cs ++ ds)) (cuts_of i (cs ++ ds)) ≡ cond b (c.1 ∷ cuts_of i cs) (cuts_of i cs) ++ cuts_of i ds
    go true h = ap (λ x. c.1 ∷ x) h
    go false h = h

-- the expressions of an item, around one of them
cuts_of-around : (i : Item) (e : Expr) (before after : List Cut) → cuts_of i (before ++ ((i, e) ∷ after)) ≡ cuts_of i before ++ (e ∷ cuts_of i after)
cuts_of-around i e before after = cuts_of-append i before ((i, e) ∷ after) ∙ ap (λ b. cuts_of i before ++ cond b (e ∷ cuts_of i after) (cuts_of i after)) (same_item-refl i)

-- ---- what the joined struct has
abbrev pub GroupsPlain : List Group → Type 0
GroupsPlain [] = Unit {0}
GroupsPlain (g ∷ gs) = IsPlain g.0 × GroupsPlain gs

added-plain : (i : Item) (e : Expr) (gs : List Group) → IsPlain i → GroupsPlain gs → GroupsPlain (added i e gs)
added-plain i e [] p h = (p, tt)
added-plain i e (g ∷ gs) p h = go (same_item g.0 i) (added-plain i e gs p h.1)
  where
    go : (b : Bool) → GroupsPlain (added i e gs) → GroupsPlain (cond b ((g.0, g.1 ++ e ∷ []) ∷ gs) (g ∷ added i e gs))
    go true q = h
    go false q = (h.0, q)

pub collected-plain : (gs : List Group) (cs : List Cut) → GroupsPlain gs → AllPlain cs → GroupsPlain (collected gs cs)
collected-plain gs [] h p = h
collected-plain gs (c ∷ cs) h p = collected-plain (added c.0 c.1 gs) cs (added-plain c.0 c.1 gs p.0 h) p.1

abbrev pub joined : Reads → ℕ → List Group → SeenAll
joined r k gs = (joined_fields (stepped_type (λ i. (r i).0)) gs, joined_values (stepped_value (λ i. (r i).0) (λ i. (r i).1) k) gs)

abbrev pub part_seen : Reads → ℕ → Item → List Expr → Seen
part_seen r k i es = seen (r i).0 (r i).1 k (step_into (part_of es))

joined-look : (r : Reads) (k : ℕ) (i : Item) (gs : List Group) (ps : List Expr) (p : Expr) (qs : List Expr) → IsPlain i → GroupsPlain gs → found i gs ≡ ps ++ (p ∷ qs) → look (item_name i) (joined r k gs) ≡ part_seen r k i (found i gs)
joined-look r k i [] ps p qs pl gp h = absurd (none ps h)
  where
    none : (ps : List Expr) → [] ≡ ps ++ (p ∷ qs) → ⊥
    none [] q = cc
    none (x ∷ xs) q = cc
joined-look r k i (g ∷ gs) ps p qs pl gp h = go (same_item g.0 i) (item_name-same i g.0 pl gp.0 ∙ same_item-sym i g.0) (same_item-sound g.0 i) h (joined-look r k i gs ps p qs pl gp.1)
  where
    go : (b : Bool) → bytes_eq (item_name i) (item_name g.0) ≡ b → (b ≡ true → g.0 ≡ i) → cond b g.1 (found i gs) ≡ ps ++ (p ∷ qs) → (found i gs ≡ ps ++ (p ∷ qs) → look (item_name i) (joined r k gs) ≡ part_seen r k i (found i gs))
        → look (item_name i) (joined r k (g ∷ gs)) ≡ part_seen r k i (cond b g.1 (found i gs))
    go true e s h f = look_here (item_name i) (item_name g.0) (part_seen r k g.0 g.1) (joined r k gs) e ∙ ap (λ j. part_seen r k j g.1) (s refl)
    go false e s h f = look_past (item_name i) (item_name g.0) (part_seen r k g.0 g.1) (joined r k gs) e ∙ f h

-- ---- a numbered part
numbered-look : (x : Seen) (k : ℕ) (n : ℕ) (p : Expr) (before after : List Expr) → n + length (before ++ (p ∷ after)) < 2 ^ 64
    → look (decimal (n + length before)) (seen_all x.0 x.1 k (step_into_all (numbered n (before ++ (p ∷ after))))) ≡ seen x.0 x.1 k (step_into p)
numbered-look x k n p [] after h =
    look_here (decimal (n + 0)) (decimal n) (seen x.0 x.1 k (step_into p)) (seen_all x.0 x.1 k (step_into_all (numbered (n + 1) after)))
    (rw add-zero (bytes_eq-refl (decimal n)))
numbered-look x k n p (e ∷ before) after h =
    look_past (decimal (n + suc (length before))) (decimal n) (seen x.0 x.1 k (step_into e)) (seen_all x.0 x.1 k (step_into_all (numbered (n + 1) (before ++ (p ∷ after)))))
    (decimal-apart _ _ (omega (arith, length-append before (p ∷ after))) (omega arith) (λ q. absurd (omega arith)))
    ∙ subst (λ m. look (decimal m) (seen_all x.0 x.1 k (step_into_all (numbered (n + 1) (before ++ (p ∷ after))))) ≡ seen x.0 x.1 k (step_into p)) move (numbered-look x k (n + 1) p before after (omega arith))
  where
    move : n + 1 + length before ≡ n + suc (length before)
    move = omega arith

-- ---- a leaf of the root
length-cuts_of : (i : Item) (cs : List Cut) → length (cuts_of i cs) ≤ length cs
length-cuts_of i [] = omega arith
length-cuts_of i (c ∷ cs) = go (same_item i c.0) (length-cuts_of i cs)
  where
    go : (b : Bool) → length (cuts_of i cs) ≤ length cs → length (cond b (c.1 ∷ cuts_of i cs) (cuts_of i cs)) ≤ suc (length cs)
    go true h = omega arith
    go false h = omega arith

abbrev pub whole : Reads → ℕ → List Cut → Seen
whole r k all = seen_pack NonNullable (joined r k (groups_of all))

leaf_by : (x y : Seen) (k : ℕ) (i : Item) (p : Expr) (ps qs rs : List Expr) (m : ℕ) → ps ≡ qs ++ (p ∷ rs) → m ≡ length qs → length ps < 2 ^ 64
    → seen x.0 x.1 k (unary (GetItem (item_name i)) root) ≡ seen y.0 y.1 k (step_into (part_of ps)) → seen x.0 x.1 k (leaf_of ps i m) ≡ seen y.0 y.1 k (step_into p)
leaf_by x y k i p [] qs rs m e em h here = absurd (omega (arith, ap length e, length-append qs (p ∷ rs)))
leaf_by x y k i p (f ∷ []) [] rs m e em h here = here ∙ ap (λ q. seen y.0 y.1 k (step_into q)) (same e)
  where
    same : f ∷ [] ≡ p ∷ rs → f ≡ p
    same q = cc
leaf_by x y k i p (f ∷ []) (q ∷ qs) rs m e em h here = absurd (omega (arith, ap length e, length-append qs (p ∷ rs)))
leaf_by x y k i p (f ∷ g ∷ fs) qs rs m e em h here =
    ap (seen_unary (GetItem (decimal m))) here ∙ get_here (decimal m) (seen_all y.0 y.1 k (step_into_all (numbered 0 (f ∷ g ∷ fs))))
    ∙ (λ j. look (decimal (em j)) (seen_all y.0 y.1 k (step_into_all (numbered 0 (e j)))))
    ∙ subst (λ n. look (decimal n) (seen_all y.0 y.1 k (step_into_all (numbered 0 (qs ++ (p ∷ rs))))) ≡ seen y.0 y.1 k (step_into p)) zero_first (numbered-look y k 0 p qs rs (omega (arith, ap length e)))
  where
    zero_first : 0 + length qs ≡ length qs
    zero_first = omega arith

plain_at : (i : Item) (p : Expr) (cs after : List Cut) → AllPlain (cs ++ ((i, p) ∷ after)) → IsPlain i
plain_at i p [] after h = h.0
plain_at i p (c ∷ cs) after h = plain_at i p cs after h.1

pub cuts_around : (all : List Cut) (i : Item) (p : Expr) (before after : List Cut) → all ≡ before ++ ((i, p) ∷ after) → cuts_of i all ≡ cuts_of i before ++ (p ∷ cuts_of i after)
cuts_around all i p before after e = ap (cuts_of i) e ∙ cuts_of-around i p before after

-- what stands under an item's name is its part
pub item_seen : (r : Reads) (k : ℕ) (all : List Cut) (i : Item) (p : Expr) (before after : List Cut) → AllPlain all → all ≡ before ++ ((i, p) ∷ after)
    → seen (whole r k all).0 (whole r k all).1 k (unary (GetItem (item_name i)) root) ≡ seen (r i).0 (r i).1 k (step_into (part_of (cuts_of i all)))
item_seen r k all i p before after plain e =
    get_here (item_name i) (joined r k (groups_of all))
    ∙ joined-look r k i (groups_of all) (cuts_of i before) p (cuts_of i after) (plain_at i p before after (subst AllPlain e plain)) (collected-plain [] all tt plain) (found_collected i [] all ∙ cuts_around all i p before after e)
    ∙ ap (part_seen r k i) (found_collected i [] all)

leaf_seen : (r : Reads) (k : ℕ) (all : List Cut) (i : Item) (p : Expr) (before after : List Cut) → AllPlain all → length all < 2 ^ 64 → all ≡ before ++ ((i, p) ∷ after)
    → seen (whole r k all).0 (whole r k all).1 k (leaf_of (cuts_of i all) i (count_item i before)) ≡ seen (r i).0 (r i).1 k (step_into p)
leaf_seen r k all i p before after plain few e =
    leaf_by (whole r k all) (r i) k i p (cuts_of i all) (cuts_of i before) (cuts_of i after) (count_item i before) (cuts_around all i p before after e) refl (omega (arith, length-cuts_of i all)) (item_seen r k all i p before after plain e)

-- ---- the root
abbrev pub NotOne : Use → Type 0
NotOne no_use = Unit {0}
NotOne (one i) = ⊥
NotOne many = Unit {0}

no_item : (r : Reads) (o : Option Item) (w : Use) (x : Seen) → NotOne (or_use o w) → x ≡ or_read r o x
no_item r None w x h = refl
no_item r (Some i) w x h = absurd h

pub expanded_part : (o : Option Item) (w : Use) (P : Type 0) → NotOne (or_use o w) → ItemOr o P → P
expanded_part None w P h p = p
expanded_part (Some i) w P h p = absurd h

pub append_first : (all before cs ds after : List Cut) → all ≡ (before ++ (cs ++ ds)) ++ after → all ≡ (before ++ cs) ++ (ds ++ after)
append_first all before cs ds after h = h ∙ ap (λ x. x ++ after) (sym (append_assoc before cs ds)) ∙ append_assoc (before ++ cs) ds after

pub append_second : (all before cs ds after : List Cut) → all ≡ (before ++ (cs ++ ds)) ++ after → all ≡ ((before ++ cs) ++ ds) ++ after
append_second all before cs ds after h = h ∙ ap (λ x. x ++ after) (sym (append_assoc before cs ds))

module _ (r : Reads) (k : ℕ) (all : List Cut) (plain : AllPlain all) (few : length all < 2 ^ 64) where
  node : (w : Use) (e f : Expr) (cs before after : List Cut) → w ≡ use_of e → IsExpanded e → all ≡ (before ++ cut_or w e cs) ++ after
      → (NotOne w → all ≡ (before ++ cs) ++ after → seen (whole r k all).0 (whole r k all).1 k f ≡ through r k e)
      → seen (whole r k all).0 (whole r k all).1 k (leaf_or w all before f) ≡ through r k e
  node no_use e f cs before after u p h g = g tt h
  node (one i) e f cs before after u p h g =
      leaf_seen r k all i e before after plain few (h ∙ append_assoc before ((i, e) ∷ []) after) ∙ step_into-through r k i e p (subst (AtMost i) u refl)
  node many e f cs before after u p h g = g tt h

  mutual
    pub root_seen : (e : Expr) (before after : List Cut) → IsExpanded e → all ≡ (before ++ cuts e) ++ after → seen (whole r k all).0 (whole r k all).1 k (root_of all before e) ≡ through r k e
    root_seen root before after p h = absurd p
    root_seen row_index before after p h = refl
    root_seen (literal d m) before after p h = refl
    root_seen (unary u e) before after p h =
        node (use_of (unary u e)) (unary u e) (unary u (root_of all before e)) (cuts e) before after refl p h
        (λ n q. ap (seen_unary u) (root_seen e before after (expanded_part (item_of u e) (use_of e) (IsExpanded e) n p) q) ∙ no_item r (item_of u e) (use_of e) (seen_unary u (through r k e)) n)
    root_seen (binary b x y) before after p h =
        node (use_of (binary b x y)) (binary b x y) (binary b (root_of all before x) (root_of all (before ++ cuts x) y)) (cuts x ++ cuts y) before after refl p h
        (λ n q. same_binary b _ _ _ _ (root_seen x before (cuts y ++ after) p.0 (append_first all before (cuts x) (cuts y) after q)) (root_seen y (before ++ cuts x) after p.1 (append_second all before (cuts x) (cuts y) after q)))
    root_seen (pack ps n) before after p h =
        node (use_of (pack ps n)) (pack ps n) (pack (roots_of all before ps) n) (all_cuts ps) before after refl p h
        (λ _ q. ap (seen_pack n) (roots_seen ps before after p q))

    pub roots_seen : (ps : Parts) (before after : List Cut) → AreExpanded ps → all ≡ (before ++ all_cuts ps) ++ after → seen_all (whole r k all).0 (whole r k all).1 k (roots_of all before ps) ≡ through_all r k ps
    roots_seen no_parts before after p h = refl
    roots_seen (part n e ps) before after p h =
        same_part n _ _ _ _ (root_seen e before (all_cuts ps ++ after) p.0 (append_first all before (cuts e) (all_cuts ps) after h)) (roots_seen ps (before ++ cuts e) after p.1 (append_second all before (cuts e) (all_cuts ps) after h))

-- the root over the joined parts has the dtype and the value that the expression has through the items
pub partition_seen : (r : Reads) (k : ℕ) (e : Expr) → IsExpanded e → AllPlain (cuts e) → length (cuts e) < 2 ^ 64
    → seen (whole r k (cuts e)).0 (whole r k (cuts e)).1 k (root_of (cuts e) [] e) ≡ through r k e
partition_seen r k e p plain few = root_seen r k (cuts e) plain few e [] [] p (sym (append-nil (cuts e)))
