-- The parts and the root of an expression that is not deep are not too deep.
use Rattle.std.proofs.Common.{◌≡◌, ℕ, ◌+◌, ◌<◌, ◌≤◌, ◌^◌, suc, Bool, true, false, cond, is_some, Some, None, List, [], ◌∷◌, ◌++◌, length, map, refl, ap, sym, subst, ◌∙◌, bytes_eq, arith, append_assoc}
use Rattle.std.specs.Fmt.{decimal}
use Rattle.scan_values.specs.DataType.{DataType, Fields, field, Name, depth_of, fields_depth}
use Rattle.scan_values.specs.declared.ptype.Nullability.TheVariants.{NonNullable}
use Rattle.scan_values.specs.Marked.{Marked}
use Rattle.scan_expr.specs.Bound.{Bound}
use Rattle.scan_expr.specs.Infer.{infer, infer_all}
use Rattle.scan_expr.specs.Expr.{Expr, root, row_index, literal, unary, binary, pack, Parts, no_parts, part}
use Rattle.scan_expr.specs.declared.op.Unary.TheVariants.{GetItem}
use Rattle.scan_expr.specs.declared.op.BindFault.TheVariants.{NoField}
use Rattle.scan_expr.specs.Typing.{unless, has_field, unary_fault, binary_fault}
use Rattle.scan_values.specs.FieldLists.{dtype_named}
use Rattle.scan_partition.specs.declared.item.Item.{Item}
use Rattle.scan_partition.specs.Items.{item_name, same_item, item_of, Use, no_use, one, many, use_of, IsExpanded, AreExpanded}
use Rattle.scan_partition.specs.Partition.{Reads, Cut, Group, cut_or, cuts, all_cuts, cuts_of, count_item, added, collected, groups_of, found, step_into, step_into_all, numbered, part_of, leaf_of, leaf_or, root_of, roots_of, joined_fields, stepped_type}
use Rattle.scan_partition.specs.Rewrite.{NodesHold, AllNodesHold}
use Rattle.scan_partition.specs.Shallow.{NodesWithin, AllNodesWithin, IsPart}
use Rattle.scan_partition.specs.Rows.{AllPlain}
use Rattle.scan_partition.specs.Divided.{kept, stepped, type_of_part, group_part}
use Rattle.scan_partition.specs.Dividing.{GroupsFit}
use Rattle.scan_partition.specs.Items.{AtMost}
use Rattle.scan_partition.proofs.Through.{through, same_item-sound}
use Rattle.scan_partition.proofs.Parted.{NotOne, expanded_part, whole, item_seen, cuts_around, root_seen, append_first, append_second}
use Rattle.scan_partition.proofs.Grouping.{found_collected}
use Rattle.scan_partition.proofs.Names.{bytes_eq-refl}
use Rattle.scan_partition.proofs.Typed.{NodesTyped, AllNodesTyped, ThroughTyped, AllThroughTyped, step_typed}
use Rattle.scan_partition.proofs.Depths.{ThroughWithin, AllThroughWithin, through_within}
use Rattle.scan_partition.proofs.Part.{shallow_part, part_depth, part_fits, ThroughPart, through_part, pack_through}

-- ---- cuts that are not deep, each of its item alone
abbrev pub StepOk : Reads → ℕ → Item → Expr → Type 0
StepOk r k i e = IsExpanded e × AtMost i (use_of e) × ThroughWithin r k e × ThroughTyped r k e

abbrev pub KeepOk : DataType → Item → Expr → Type 0
KeepOk s i e = NodesWithin 64 s e × NodesTyped s e

abbrev pub CutsAll : (Item → Expr → Type 0) → List Cut → Type 0
CutsAll P [] = Unit {0}
CutsAll P (c ∷ cs) = P c.0 c.1 × CutsAll P cs

pub all_append : (P : Item → Expr → Type 0) (cs ds : List Cut) → CutsAll P cs → CutsAll P ds → CutsAll P (cs ++ ds)
all_append P [] ds a b = b
all_append P (c ∷ cs) ds a b = (a.0, all_append P cs ds a.1 b)

pub all_by : (P : Item → Expr → Type 0) (w : Use) (e : Expr) (cs : List Cut) → w ≡ use_of e → ((i : Item) → AtMost i (use_of e) → P i e) → (NotOne w → CutsAll P cs) → CutsAll P (cut_or w e cs)
all_by P no_use e cs u p f = f tt
all_by P (one i) e cs u p f = (p i (subst (AtMost i) u refl), tt)
all_by P many e cs u p f = f tt

mutual
  pub cuts_step : (r : Reads) (k : ℕ) (e : Expr) → IsExpanded e → ThroughWithin r k e → ThroughTyped r k e → CutsAll (StepOk r k) (cuts e)
  cuts_step r k root p h g = absurd p
  cuts_step r k row_index p h g = tt
  cuts_step r k (literal d v) p h g = tt
  cuts_step r k (unary u e) p h g =
      all_by (StepOk r k) (use_of (unary u e)) (unary u e) (cuts e) refl (λ i a. (p, a, h, g))
      (λ n. cuts_step r k e (expanded_part (item_of u e) (use_of e) (IsExpanded e) n p) (expanded_part (item_of u e) (use_of e) (ThroughWithin r k e) n h.1) (expanded_part (item_of u e) (use_of e) ((unary_fault u (through r k e).0 ≡ None) × ThroughTyped r k e) n g).1)
  cuts_step r k (binary b x y) p h g =
      all_by (StepOk r k) (use_of (binary b x y)) (binary b x y) (cuts x ++ cuts y) refl (λ i a. (p, a, h, g)) (λ _. all_append (StepOk r k) (cuts x) (cuts y) (cuts_step r k x p.0 h.1 g.1) (cuts_step r k y p.1 h.2 g.2))
  cuts_step r k (pack ps n) p h g = all_by (StepOk r k) (use_of (pack ps n)) (pack ps n) (all_cuts ps) refl (λ i a. (p, a, h, g)) (λ _. all_cuts_step r k ps p h.1 g)

  pub all_cuts_step : (r : Reads) (k : ℕ) (ps : Parts) → AreExpanded ps → AllThroughWithin r k ps → AllThroughTyped r k ps → CutsAll (StepOk r k) (all_cuts ps)
  all_cuts_step r k no_parts p h g = tt
  all_cuts_step r k (part n e ps) p h g = all_append (StepOk r k) (cuts e) (all_cuts ps) (cuts_step r k e p.0 h.0 g.0) (all_cuts_step r k ps p.1 h.1 g.1)

mutual
  pub cuts_keep : (s : DataType) (e : Expr) → NodesWithin 64 s e → NodesTyped s e → CutsAll (KeepOk s) (cuts e)
  cuts_keep s root h t = tt
  cuts_keep s row_index h t = tt
  cuts_keep s (literal d v) h t = tt
  cuts_keep s (unary u e) h t = all_by (KeepOk s) (use_of (unary u e)) (unary u e) (cuts e) refl (λ i a. (h, t)) (λ n. cuts_keep s e h.1 t.1)
  cuts_keep s (binary b x y) h t =
      all_by (KeepOk s) (use_of (binary b x y)) (binary b x y) (cuts x ++ cuts y) refl (λ i a. (h, t)) (λ _. all_append (KeepOk s) (cuts x) (cuts y) (cuts_keep s x h.1 t.1) (cuts_keep s y h.2 t.2))
  cuts_keep s (pack ps n) h t = all_by (KeepOk s) (use_of (pack ps n)) (pack ps n) (all_cuts ps) refl (λ i a. (h, t)) (λ _. all_cuts_keep s ps h.1 t)

  pub all_cuts_keep : (s : DataType) (ps : Parts) → AllNodesWithin 64 s ps → AllNodesTyped s ps → CutsAll (KeepOk s) (all_cuts ps)
  all_cuts_keep s no_parts h t = tt
  all_cuts_keep s (part n e ps) h t = all_append (KeepOk s) (cuts e) (all_cuts ps) (cuts_keep s e h.0 t.0) (all_cuts_keep s ps h.1 t.1)

-- ---- groups
abbrev pub AllOf : (Item → Expr → Type 0) → Item → List Expr → Type 0
AllOf P i [] = Unit {0}
AllOf P i (e ∷ es) = P i e × AllOf P i es

abbrev pub SomeOf : (Item → Expr → Type 0) → Item → List Expr → Type 0
SomeOf P i [] = ⊥
SomeOf P i (e ∷ es) = AllOf P i (e ∷ es)

abbrev pub GroupsAll : (Item → Expr → Type 0) → List Group → Type 0
GroupsAll P [] = Unit {0}
GroupsAll P (g ∷ gs) = SomeOf P g.0 g.1 × GroupsAll P gs

all_more : (P : Item → Expr → Type 0) (i : Item) (es : List Expr) (e : Expr) → AllOf P i es → P i e → AllOf P i (es ++ e ∷ [])
all_more P i [] e a o = (o, tt)
all_more P i (x ∷ xs) e a o = (a.0, all_more P i xs e a.1 o)

some_more : (P : Item → Expr → Type 0) (i : Item) (es : List Expr) (e : Expr) → SomeOf P i es → P i e → SomeOf P i (es ++ e ∷ [])
some_more P i [] e a o = absurd a
some_more P i (x ∷ xs) e a o = (a.0, all_more P i xs e a.1 o)

added_all : (P : Item → Expr → Type 0) (i : Item) (e : Expr) (gs : List Group) → P i e → GroupsAll P gs → GroupsAll P (added i e gs)
added_all P i e [] o a = ((o, tt), tt)
added_all P i e (g ∷ gs) o a = go (same_item g.0 i) (same_item-sound g.0 i) (added_all P i e gs o a.1)
  where
    go : (b : Bool) → (b ≡ true → g.0 ≡ i) → GroupsAll P (added i e gs) → GroupsAll P (cond b ((g.0, g.1 ++ e ∷ []) ∷ gs) (g ∷ added i e gs))
    go true h q = (some_more P g.0 g.1 e a.0 (subst (λ j. P j e) (sym (h refl)) o), a.1)
    go false h q = (a.0, q)

pub collected_all : (P : Item → Expr → Type 0) (gs : List Group) (cs : List Cut) → GroupsAll P gs → CutsAll P cs → GroupsAll P (collected gs cs)
collected_all P gs [] g h = g
collected_all P gs (c ∷ cs) g h = collected_all P (added c.0 c.1 gs) cs (added_all P c.0 c.1 gs h.0 g) h.1

-- ---- parts
abbrev AllWithin : DataType → List Expr → Type 0
AllWithin d [] = Unit {0}
AllWithin d (e ∷ es) = (NodesWithin 64 d e × NodesTyped d e) × AllWithin d es

numbered_within : (d : DataType) (k : ℕ) (es : List Expr) → AllWithin d es → AllNodesWithin 64 d (numbered k es) × AllNodesTyped d (numbered k es)
numbered_within d k [] h = (tt, tt)
numbered_within d k (e ∷ es) h = let t = numbered_within d (k + 1) es h.1 in ((h.0.0, t.0), (h.0.1, t.1))

-- a part over a dtype, each node's conditions held
abbrev pub IsTypedPart : DataType → Expr → Type 0
IsTypedPart d e = IsPart d e × NodesTyped d e

part_within : (d : DataType) (e : Expr) (es : List Expr) → AllWithin d (e ∷ es) → IsTypedPart d (part_of (e ∷ es))
part_within d e [] h = (shallow_part d e h.0.0, h.0.1)
part_within d e (f ∷ es) h = numbered_within d 0 (e ∷ f ∷ es) h

abbrev pub AllParts : (Item → Expr → Bound) → List Group → Type 0
AllParts b [] = Unit {0}
AllParts b (g ∷ gs) = IsTypedPart (group_part b g).scope (group_part b g).expr × AllParts b gs

pub parts_fit : (b : Item → Expr → Bound) (gs : List Group) → AllParts b gs → GroupsFit b gs
parts_fit b [] a = tt
parts_fit b (g ∷ gs) a = ((part_fits (group_part b g).scope (group_part b g).expr a.0.0 a.0.1, part_depth (group_part b g).scope (group_part b g).expr a.0.0), parts_fit b gs a.1)

kept_within : (s : DataType) (i : Item) (es : List Expr) → AllOf (KeepOk s) i es → AllWithin s es
kept_within s i [] a = tt
kept_within s i (e ∷ es) a = (a.0, kept_within s i es a.1)

kept_parts : (s : DataType) (gs : List Group) → GroupsAll (KeepOk s) gs → AllParts (kept s) gs
kept_parts s [] a = tt
kept_parts s (g ∷ gs) a = (go g.1 a.0, kept_parts s gs a.1)
  where
    go : (es : List Expr) → SomeOf (KeepOk s) g.0 es → IsTypedPart s (part_of es)
    go [] b = absurd b
    go (e ∷ es) b = part_within s e es (kept_within s g.0 (e ∷ es) b)

steps_numbered : (k : ℕ) (es : List Expr) → step_into_all (numbered k es) ≡ numbered k (map step_into es)
steps_numbered k [] = refl
steps_numbered k (e ∷ es) = ap (part (decimal k) (step_into e)) (steps_numbered (k + 1) es)

pub step_part : (es : List Expr) → step_into (part_of es) ≡ part_of (map step_into es)
step_part [] = refl
step_part (e ∷ []) = refl
step_part (e ∷ f ∷ es) = ap (λ ps. pack ps NonNullable) (steps_numbered 0 (e ∷ f ∷ es))

steps_within : (r : Reads) (k : ℕ) (i : Item) (es : List Expr) → AllOf (StepOk r k) i es → AllWithin (r i).0 (map step_into es)
steps_within r k i [] a = tt
steps_within r k i (e ∷ es) a = ((through_within r k i e a.0.0 a.0.1 a.0.2, step_typed r k i e a.0.0 a.0.1 a.0.3), steps_within r k i es a.1)

step_is_part : (r : Reads) (k : ℕ) (i : Item) (es : List Expr) → SomeOf (StepOk r k) i es → IsTypedPart (r i).0 (step_into (part_of es))
step_is_part r k i [] a = absurd a
step_is_part r k i (e ∷ es) a = subst (IsTypedPart (r i).0) (sym (step_part (e ∷ es))) (part_within (r i).0 (step_into e) (map step_into es) (steps_within r k i (e ∷ es) a))

stepped_parts : (s : DataType) (w : Item → Marked) (k : ℕ) (gs : List Group) → GroupsAll (StepOk (λ i. ((stepped s i root).scope, w i)) k) gs → AllParts (stepped s) gs
stepped_parts s w k [] a = tt
stepped_parts s w k (g ∷ gs) a = (step_is_part (λ i. ((stepped s i root).scope, w i)) k g.0 g.1 a.0, stepped_parts s w k gs a.1)

-- ---- the parts of a part: a pack at the top is a cut of its own, or its cuts are its parts'
kept_by : (s : DataType) (e : Expr) → NodesWithin 64 s e → NodesTyped s e → AllParts (kept s) (groups_of (cuts e))
kept_by s e h t = kept_parts s (groups_of (cuts e)) (collected_all (KeepOk s) [] (cuts e) tt (cuts_keep s e h t))

pub kept_cuts : (s : DataType) (e : Expr) → IsPart s e → NodesTyped s e → AllParts (kept s) (groups_of (cuts e))
kept_cuts s root h t = tt
kept_cuts s row_index h t = tt
kept_cuts s (literal d v) h t = tt
kept_cuts s (unary u e) h t = kept_by s (unary u e) h t
kept_cuts s (binary b x y) h t = kept_by s (binary b x y) h t
kept_cuts s (pack ps n) h t = go (use_of (pack ps n))
  where
    below : AllParts (kept s) (groups_of (all_cuts ps))
    below = kept_parts s (groups_of (all_cuts ps)) (collected_all (KeepOk s) [] (all_cuts ps) tt (all_cuts_keep s ps h t))

    go : (w : Use) → AllParts (kept s) (groups_of (cut_or w (pack ps n) (all_cuts ps)))
    go no_use = below
    go (one i) = ((h, t), tt)
    go many = below

module _ (s : DataType) (w : Item → Marked) (k : ℕ) where
  abbrev item_reads : Reads
  item_reads i = ((stepped s i root).scope, w i)

  stepped_by : (e : Expr) → IsExpanded e → ThroughWithin item_reads k e → ThroughTyped item_reads k e → AllParts (stepped s) (groups_of (cuts e))
  stepped_by e p h t = stepped_parts s w k (groups_of (cuts e)) (collected_all (StepOk item_reads k) [] (cuts e) tt (cuts_step item_reads k e p h t))

  pub stepped_cuts : (e : Expr) → IsExpanded e → ThroughPart item_reads k e → ThroughTyped item_reads k e → AllParts (stepped s) (groups_of (cuts e))
  stepped_cuts root p h t = tt
  stepped_cuts row_index p h t = tt
  stepped_cuts (literal d v) p h t = tt
  stepped_cuts (unary u e) p h t = stepped_by (unary u e) p h t
  stepped_cuts (binary b x y) p h t = stepped_by (binary b x y) p h t
  stepped_cuts (pack ps n) p h t = go (use_of (pack ps n)) refl
    where
      below : AllParts (stepped s) (groups_of (all_cuts ps))
      below = stepped_parts s w k (groups_of (all_cuts ps)) (collected_all (StepOk item_reads k) [] (all_cuts ps) tt (all_cuts_step item_reads k ps p h t))

      go : (x : Use) → use_of (pack ps n) ≡ x → AllParts (stepped s) (groups_of (cut_or x (pack ps n) (all_cuts ps)))
      go no_use u = below
      go (one i) u =
          let a : AtMost i (use_of (pack ps n)) = subst (AtMost i) (sym u) refl in
          ((through_part item_reads k i (pack ps n) p a h, step_typed item_reads k i (pack ps n) p a t), tt)
      go many u = below

pub joined_deep : (b : Item → Expr → Bound) (gs : List Group) → GroupsFit b gs → fields_depth (joined_fields (type_of_part b) gs) ≤ 65
joined_deep b [] a = omega arith
joined_deep b (g ∷ gs) a = omega (arith, a.0.1, joined_deep b gs a.1)

-- ---- the root
-- a field stands under each item's name
has_past : (n m : Name) (d : DataType) (fs : Fields) → has_field n fs ≡ true → has_field n (field m d fs) ≡ true
has_past n m d fs h = go (bytes_eq n m)
  where
    go : (b : Bool) → is_some (cond b (Some d) (dtype_named n fs)) ≡ true
    go true = refl
    go false = h

has_here : (n : Name) (d : DataType) (fs : Fields) → has_field n (field n d fs) ≡ true
has_here n d fs = ap (λ b. is_some (cond b (Some d) (dtype_named n fs))) (bytes_eq-refl n)

joined_has : (t : Item → Expr → DataType) (i : Item) (gs : List Group) (ps : List Expr) (p : Expr) (qs : List Expr) → found i gs ≡ ps ++ (p ∷ qs) → has_field (item_name i) (joined_fields t gs) ≡ true
joined_has t i [] ps p qs h = absurd (none ps h)
  where
    none : (ps : List Expr) → [] ≡ ps ++ (p ∷ qs) → ⊥
    none [] q = cc
    none (x ∷ xs) q = cc
joined_has t i (g ∷ gs) ps p qs h = go (same_item g.0 i) (same_item-sound g.0 i) h (joined_has t i gs ps p qs)
  where
    go : (b : Bool) → (b ≡ true → g.0 ≡ i) → cond b g.1 (found i gs) ≡ ps ++ (p ∷ qs) → (found i gs ≡ ps ++ (p ∷ qs) → has_field (item_name i) (joined_fields t gs) ≡ true) → has_field (item_name i) (joined_fields t (g ∷ gs)) ≡ true
    go true s h f = subst (λ j. has_field (item_name j) (joined_fields t (g ∷ gs)) ≡ true) (s refl) (has_here (item_name g.0) (t g.0 (part_of g.1)) (joined_fields t gs))
    go false s h f = has_past (item_name i) (item_name g.0) (t g.0 (part_of g.1)) (joined_fields t gs) (f h)

numbered_has : (d : DataType) (n : ℕ) (p : Expr) (before after : List Expr) → has_field (decimal (n + length before)) (infer_all d (step_into_all (numbered n (before ++ (p ∷ after))))) ≡ true
numbered_has d n p [] after = subst (λ m. has_field (decimal m) (infer_all d (step_into_all (numbered n (p ∷ after)))) ≡ true) move (has_here (decimal n) (infer d (step_into p)) (infer_all d (step_into_all (numbered (n + 1) after))))
  where
    move : n ≡ n + 0
    move = omega arith
numbered_has d n p (e ∷ before) after =
    has_past (decimal (n + suc (length before))) (decimal n) (infer d (step_into e)) (infer_all d (step_into_all (numbered (n + 1) (before ++ (p ∷ after)))))
    (subst (λ m. has_field (decimal m) (infer_all d (step_into_all (numbered (n + 1) (before ++ (p ∷ after))))) ≡ true) move (numbered_has d (n + 1) p before after))
  where
    move : n + 1 + length before ≡ n + suc (length before)
    move = omega arith

leaf_by : (d x : DataType) (i : Item) (p : Expr) (ps qs rs : List Expr) (m : ℕ) → ps ≡ qs ++ (p ∷ rs) → m ≡ length qs → unary_fault (GetItem (item_name i)) d ≡ None → infer d (unary (GetItem (item_name i)) root) ≡ infer x (step_into (part_of ps)) → NodesHold d (leaf_of ps i m)
leaf_by d x i p [] qs rs m e em h here = (h, tt)
leaf_by d x i p (f ∷ []) qs rs m e em h here = (h, tt)
leaf_by d x i p (f ∷ g ∷ fs) qs rs m e em h here = (ap (unary_fault (GetItem (decimal m))) here ∙ ap (λ b. unless b NoField) has, (h, tt))
  where
    zero_first : 0 + length qs ≡ length qs
    zero_first = omega arith

    has : has_field (decimal m) (infer_all x (step_into_all (numbered 0 (f ∷ g ∷ fs)))) ≡ true
    has =
        (λ j. has_field (decimal (em j)) (infer_all x (step_into_all (numbered 0 (e j)))))
        ∙ subst (λ n. has_field (decimal n) (infer_all x (step_into_all (numbered 0 (qs ++ (p ∷ rs))))) ≡ true) zero_first (numbered_has x 0 p qs rs)

module _ (r : Reads) (k : ℕ) (all : List Cut) (plain : AllPlain all) (few : length all < 2 ^ 64) where
  leaf_holds : (i : Item) (e : Expr) (before after : List Cut) → all ≡ before ++ ((i, e) ∷ after) → NodesHold (whole r k all).0 (leaf_of (cuts_of i all) i (count_item i before))
  leaf_holds i e before after h =
      leaf_by (whole r k all).0 (r i).0 i e (cuts_of i all) (cuts_of i before) (cuts_of i after) (count_item i before) (cuts_around all i e before after h) refl
      (ap (λ b. unless b NoField) (joined_has (stepped_type (λ j. (r j).0)) i (groups_of all) (cuts_of i before) e (cuts_of i after) (found_collected i [] all ∙ cuts_around all i e before after h)))
      (ap (λ x. x.0) (item_seen r k all i e before after plain h))

  or_leaf_holds : (w : Use) (e f : Expr) (cs before after : List Cut) → all ≡ (before ++ cut_or w e cs) ++ after → (NotOne w → all ≡ (before ++ cs) ++ after → NodesHold (whole r k all).0 f) → NodesHold (whole r k all).0 (leaf_or w all before f)
  or_leaf_holds no_use e f cs before after h g = g tt h
  or_leaf_holds (one i) e f cs before after h g = leaf_holds i e before after (h ∙ append_assoc before ((i, e) ∷ []) after)
  or_leaf_holds many e f cs before after h g = g tt h

  pack_shallow : (w : Use) (before : List Cut) (f : Expr) (d : DataType) → NotOne w → infer (whole r k all).0 (leaf_or w all before f) ≡ d → depth_of d ≤ 65 → depth_of (infer (whole r k all).0 f) ≤ 66
  pack_shallow no_use before f d n h l = omega (arith, subst (λ x. depth_of x ≤ 65) (sym h) l)
  pack_shallow (one i) before f d n h l = absurd n
  pack_shallow many before f d n h l = omega (arith, subst (λ x. depth_of x ≤ 65) (sym h) l)

  -- the dtype of a part of the root
  at : (e : Expr) (before after : List Cut) → IsExpanded e → all ≡ (before ++ cuts e) ++ after → infer (whole r k all).0 (root_of all before e) ≡ (through r k e).0
  at e before after p h = ap (λ x. x.0) (root_seen r k all plain few e before after p h)

  mutual
    pub root_fits : (e : Expr) (before after : List Cut) → IsExpanded e → all ≡ (before ++ cuts e) ++ after → ThroughWithin r k e → ThroughTyped r k e → NodesHold (whole r k all).0 (root_of all before e)
    root_fits root before after p h w t = absurd p
    root_fits row_index before after p h w t = tt
    root_fits (literal d v) before after p h w t = t
    root_fits (unary u e) before after p h w t =
        or_leaf_holds (use_of (unary u e)) (unary u e) (unary u (root_of all before e)) (cuts e) before after h
        (λ n q. let p1 = expanded_part (item_of u e) (use_of e) (IsExpanded e) n p in
        let t1 = expanded_part (item_of u e) (use_of e) ((unary_fault u (through r k e).0 ≡ None) × ThroughTyped r k e) n t in
        (ap (unary_fault u) (at e before after p1 q) ∙ t1.0, root_fits e before after p1 q (expanded_part (item_of u e) (use_of e) (ThroughWithin r k e) n w.1) t1.1))
    root_fits (binary b x y) before after p h w t =
        or_leaf_holds (use_of (binary b x y)) (binary b x y) (binary b (root_of all before x) (root_of all (before ++ cuts x) y)) (cuts x ++ cuts y) before after h
        (λ n q. let first = append_first all before (cuts x) (cuts y) after q in
        let second = append_second all before (cuts x) (cuts y) after q in (
          (λ j. binary_fault b (at x before (cuts y ++ after) p.0 first j) (at y (before ++ cuts x) after p.1 second j)) ∙ t.0,
          root_fits x before (cuts y ++ after) p.0 first w.1 t.1,
          root_fits y (before ++ cuts x) after p.1 second w.2 t.2,
        ))
    root_fits (pack ps n) before after p h w t =
        or_leaf_holds (use_of (pack ps n)) (pack ps n) (pack (roots_of all before ps) n) (all_cuts ps) before after h
        (λ m q. (
          pack_shallow (use_of (pack ps n)) before (pack (roots_of all before ps) n) (through r k (pack ps n)).0 m (at (pack ps n) before after p h) (pack_through r k ps n p w.1),
          roots_fit ps before after p q w.1 t,
        ))

    roots_fit : (ps : Parts) (before after : List Cut) → AreExpanded ps → all ≡ (before ++ all_cuts ps) ++ after → AllThroughWithin r k ps → AllThroughTyped r k ps → AllNodesHold (whole r k all).0 (roots_of all before ps)
    roots_fit no_parts before after p h w t = tt
    roots_fit (part n e ps) before after p h w t =
        (root_fits e before (all_cuts ps ++ after) p.0 (append_first all before (cuts e) (all_cuts ps) after h) w.0 t.0, roots_fit ps (before ++ cuts e) after p.1 (append_second all before (cuts e) (all_cuts ps) after h) w.1 t.1)

  -- of a part
  pub part_root_fits : (e : Expr) (before after : List Cut) → IsExpanded e → all ≡ (before ++ cuts e) ++ after → ThroughPart r k e → ThroughTyped r k e → NodesHold (whole r k all).0 (root_of all before e)
  part_root_fits root before after p h w t = absurd p
  part_root_fits row_index before after p h w t = tt
  part_root_fits (literal d v) before after p h w t = t
  part_root_fits (unary u e) before after p h w t = root_fits (unary u e) before after p h w t
  part_root_fits (binary b x y) before after p h w t = root_fits (binary b x y) before after p h w t
  part_root_fits (pack ps n) before after p h w t =
      or_leaf_holds (use_of (pack ps n)) (pack ps n) (pack (roots_of all before ps) n) (all_cuts ps) before after h
      (λ m q. (
        pack_shallow (use_of (pack ps n)) before (pack (roots_of all before ps) n) (through r k (pack ps n)).0 m (at (pack ps n) before after p h) (pack_through r k ps n p w),
        roots_fit ps before after p q w t,
      ))
