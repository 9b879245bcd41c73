-- The root or some part overflows where the whole does.
use Rattle.std.proofs.Common.{◌≡◌, ℕ, ◌+◌, ◌<◌, ◌^◌, Bool, true, false, cond, ◌||◌, List, [], ◌∷◌, ◌++◌, length, Option, Some, None, refl, ap, sym, subst, ◌∙◌}
use Rattle.std.proofs.lemmas.List.{append-nil}
use Rattle.scan_values.specs.DataType.{DataType}
use Rattle.scan_values.specs.Marked.{Marked}
use Rattle.scan_expr.specs.declared.op.Unary.{Unary}
use Rattle.scan_expr.specs.declared.op.Binary.{Binary}
use Rattle.scan_expr.specs.Infer.{binary_type}
use Rattle.scan_expr.specs.Expr.{Expr, root, row_index, literal, unary, binary, pack, Parts, no_parts, part}
use Rattle.scan_partition.specs.declared.item.Item.{Item}
use Rattle.scan_partition.specs.Items.{AtMost, same_item, item_of, Use, no_use, one, many, or_use, use_of, uses_of, ItemOr, IsExpanded, AreExpanded}
use Rattle.scan_partition.specs.Rows.{AllPlain}
use Rattle.scan_partition.specs.Partition.{Reads, Cut, cut_or, cuts, all_cuts, cuts_of, numbered, part_of, leaf_of, count_item, leaf_or, or_root, root_of, roots_of, Group, added, collected, groups_of, step_into, step_into_all}
use Rattle.scan_expr.specs.Overflow.{overflows, any_overflows, spills}
use Rattle.scan_partition.proofs.Through.{Seen, through, both-split, own_reads, through-seen, same_item-sound, step_into-through}
use Rattle.scan_partition.proofs.Parted.{whole, NotOne, expanded_part, append_first, append_second, root_seen}

-- the part of some item overflows, over what is read of the item
abbrev pub part_overflows : Reads → ℕ → List Group → Bool
part_overflows r k [] = false
part_overflows r k (g ∷ gs) = overflows (r g.0).0 (step_into (part_of g.1)) (r g.0).1 k || part_overflows r k gs

-- ---- truth values
or_nothing : (a : Bool) → (a || false) ≡ a
or_nothing true = refl
or_nothing false = refl

or_assoc : (a b c : Bool) → ((a || b) || c) ≡ (a || (b || c))
or_assoc true b c = refl
or_assoc false b c = refl

-- of a root, its operator and its cuts
or_binary : (a b t c d : Bool) → ((a || (b || t)) || (c || d)) ≡ ((a || c) || ((b || d) || t))
or_binary true b t c d = refl
or_binary false true t true d = refl
or_binary false true t false d = refl
or_binary false false true true d = refl
or_binary false false true false true = refl
or_binary false false true false false = refl
or_binary false false false true d = refl
or_binary false false false false true = refl
or_binary false false false false false = refl

or_pair : (a b c d : Bool) → ((a || b) || (c || d)) ≡ ((a || c) || (b || d))
or_pair true b c d = refl
or_pair false true true d = refl
or_pair false true false d = refl
or_pair false false c d = refl

or_last : (a b c : Bool) → ((a || b) || c) ≡ ((a || c) || b)
or_last true b c = refl
or_last false true true = refl
or_last false true false = refl
or_last false false true = refl
or_last false false false = refl

abbrev pub seen_overflows : Binary → Seen → Seen → Bool
seen_overflows b x y = spills b (binary_type b x.0 y.0) x.1 y.1

abbrev pub overflow_at : Seen → ℕ → Expr → Bool
overflow_at x k e = overflows x.0 e x.1 k

-- through what is read of the items
abbrev mutual
  pub through_overflows : Reads → ℕ → Expr → Bool
  through_overflows r k root = false
  through_overflows r k row_index = false
  through_overflows r k (literal d m) = false
  through_overflows r k (unary u e) = through_overflows r k e
  through_overflows r k (binary b x y) = through_overflows r k x || (through_overflows r k y || seen_overflows b (through r k x) (through r k y))
  through_overflows r k (pack ps n) = any_through_overflows r k ps

  pub any_through_overflows : Reads → ℕ → Parts → Bool
  any_through_overflows r k no_parts = false
  any_through_overflows r k (part n e ps) = through_overflows r k e || any_through_overflows r k ps

-- an item is an operator on `$`, which is calm
item_calm : (r : Reads) (k : ℕ) (u : Unary) (e : Expr) (i : Item) → item_of u e ≡ Some i → false ≡ through_overflows r k e
item_calm r k u root i h = refl
item_calm r k u row_index i h = cc
item_calm r k u (literal d m) i h = cc
item_calm r k u (unary w e) i h = cc
item_calm r k u (binary b x y) i h = cc
item_calm r k u (pack ps n) i h = cc

step_unary : (r : Reads) (k : ℕ) (i : Item) (u : Unary) (e : Expr) (o : Option Item) (w : Use) (P : Type 0) → ItemOr o P → AtMost i (or_use o w) → ((j : Item) → o ≡ Some j → false ≡ through_overflows r k e)
    → (P → AtMost i w → overflow_at (r i) k (step_into e) ≡ through_overflows r k e) → overflow_at (r i) k (or_root o (unary u (step_into e))) ≡ through_overflows r k e
step_unary r k i u e None w P p h c f = f p h
step_unary r k i u e (Some j) w P p h c f = c j refl

mutual
  pub step_into-overflows : (r : Reads) (k : ℕ) (i : Item) (e : Expr) → IsExpanded e → AtMost i (use_of e) → overflow_at (r i) k (step_into e) ≡ through_overflows r k e
  step_into-overflows r k i root p h = absurd p
  step_into-overflows r k i row_index p h = refl
  step_into-overflows r k i (literal d m) p h = refl
  step_into-overflows r k i (unary u e) p h = step_unary r k i u e (item_of u e) (use_of e) (IsExpanded e) p h (item_calm r k u e) (step_into-overflows r k i e)
  step_into-overflows r k i (binary b x y) p h =
      let hs = both-split i (use_of x) (use_of y) h in
      let vx = step_into-through r k i x p.0 hs.0 in
      let vy = step_into-through r k i y p.1 hs.1 in
      let fx = step_into-overflows r k i x p.0 hs.0 in
      let fy = step_into-overflows r k i y p.1 hs.1 in
      λ j. fx j || (fy j || seen_overflows b (vx j) (vy j))
  step_into-overflows r k i (pack ps n) p h = step_into_all-overflows r k i ps p h

  step_into_all-overflows : (r : Reads) (k : ℕ) (i : Item) (ps : Parts) → AreExpanded ps → AtMost i (uses_of ps) → any_overflows (r i).0 (step_into_all ps) (r i).1 k ≡ any_through_overflows r k ps
  step_into_all-overflows r k i no_parts p h = refl
  step_into_all-overflows r k i (part n e ps) p h =
      let hs = both-split i (use_of e) (uses_of ps) h in
      let fx = step_into-overflows r k i e p.0 hs.0 in
      let fy = step_into_all-overflows r k i ps p.1 hs.1 in
      λ j. fx j || fy j

-- ---- over a struct itself
own_unary : (s : DataType) (v : Marked) (k : ℕ) (u : Unary) (e : Expr) (o : Option Item) (P : Type 0) → ItemOr o P
    → ((i : Item) → o ≡ Some i → through_overflows (own_reads s v k) k e ≡ overflows s e v k)
    → (P → through_overflows (own_reads s v k) k e ≡ overflows s e v k) → through_overflows (own_reads s v k) k e ≡ overflows s e v k
own_unary s v k u e None P p g f = f p
own_unary s v k u e (Some i) P p g f = g i refl

own_item : (s : DataType) (v : Marked) (k : ℕ) (u : Unary) (e : Expr) (i : Item) → item_of u e ≡ Some i → through_overflows (own_reads s v k) k e ≡ overflows s e v k
own_item s v k u root i h = refl
own_item s v k u row_index i h = cc
own_item s v k u (literal d m) i h = cc
own_item s v k u (unary w e) i h = cc
own_item s v k u (binary b x y) i h = cc
own_item s v k u (pack ps n) i h = cc

mutual
  pub through-overflows : (s : DataType) (v : Marked) (k : ℕ) (e : Expr) → IsExpanded e → through_overflows (own_reads s v k) k e ≡ overflows s e v k
  through-overflows s v k root p = absurd p
  through-overflows s v k row_index p = refl
  through-overflows s v k (literal d m) p = refl
  through-overflows s v k (unary u e) p = own_unary s v k u e (item_of u e) (IsExpanded e) p (own_item s v k u e) (through-overflows s v k e)
  through-overflows s v k (binary b x y) p =
      let vx = through-seen s v k x p.0 in
      let vy = through-seen s v k y p.1 in
      let fx = through-overflows s v k x p.0 in
      let fy = through-overflows s v k y p.1 in
      λ j. fx j || (fy j || seen_overflows b (vx j) (vy j))
  through-overflows s v k (pack ps n) p = through_all-overflows s v k ps p

  through_all-overflows : (s : DataType) (v : Marked) (k : ℕ) (ps : Parts) → AreExpanded ps → any_through_overflows (own_reads s v k) k ps ≡ any_overflows s ps v k
  through_all-overflows s v k no_parts p = refl
  through_all-overflows s v k (part n e ps) p =
      let fx = through-overflows s v k e p.0 in
      let fy = through_all-overflows s v k ps p.1 in
      λ j. fx j || fy j

-- ---- some cut overflows
abbrev pub cut_overflows : Reads → ℕ → List Cut → Bool
cut_overflows r k [] = false
cut_overflows r k (c ∷ cs) = overflow_at (r c.0) k (step_into c.1) || cut_overflows r k cs

cuts-append : (r : Reads) (k : ℕ) (cs ds : List Cut) → cut_overflows r k (cs ++ ds) ≡ (cut_overflows r k cs || cut_overflows r k ds)
cuts-append r k [] ds = refl
cuts-append r k (c ∷ cs) ds = ap (λ b. overflow_at (r c.0) k (step_into c.1) || b) (cuts-append r k cs ds) ∙ sym (or_assoc (overflow_at (r c.0) k (step_into c.1)) (cut_overflows r k cs) (cut_overflows r k ds))

leaf_calm : (x : Seen) (k : ℕ) (ps : List Expr) (i : Item) (m : ℕ) → overflow_at x k (leaf_of ps i m) ≡ false
leaf_calm x k [] i m = refl
leaf_calm x k (e ∷ []) i m = refl
leaf_calm x k (e ∷ f ∷ es) i m = refl

module _ (r : Reads) (k : ℕ) (all : List Cut) (plain : AllPlain all) (few : length all < 2 ^ 64) where
  abbrev of_root : Expr → Bool
  of_root f = overflow_at (whole r k all) k f

  node : (w : Use) (e f : Expr) (cs before after : List Cut) → w ≡ use_of e → IsExpanded e → all ≡ (before ++ cut_or w e cs) ++ after
      → (NotOne w → all ≡ (before ++ cs) ++ after → (of_root f || cut_overflows r k cs) ≡ through_overflows r k e)
      → (of_root (leaf_or w all before f) || cut_overflows r k (cut_or w e cs)) ≡ through_overflows r k e
  node no_use e f cs before after u p h g = g tt h
  node (one i) e f cs before after u p h g =
      ap (λ b. b || (overflow_at (r i) k (step_into e) || false)) (leaf_calm (whole r k all) k (cuts_of i all) i (count_item i before))
      ∙ or_nothing (overflow_at (r i) k (step_into e)) ∙ step_into-overflows r k i e p (subst (AtMost i) u refl)
  node many e f cs before after u p h g = g tt h

  both_sides : (b : Binary) (x y : Expr) (before after : List Cut) → IsExpanded x × IsExpanded y → all ≡ (before ++ cuts x) ++ (cuts y ++ after) → all ≡ ((before ++ cuts x) ++ cuts y) ++ after
      → (of_root (root_of all before x) || cut_overflows r k (cuts x)) ≡ through_overflows r k x → (of_root (root_of all (before ++ cuts x) y) || cut_overflows r k (cuts y)) ≡ through_overflows r k y
      → (of_root (binary b (root_of all before x) (root_of all (before ++ cuts x) y)) || cut_overflows r k (cuts x ++ cuts y)) ≡ through_overflows r k (binary b x y)
  both_sides b x y before after p hx hy fx fy =
      let vx = root_seen r k all plain few x before (cuts y ++ after) p.0 hx in
      let vy = root_seen r k all plain few y (before ++ cuts x) after p.1 hy in
      (λ j. (of_root (root_of all before x) || (of_root (root_of all (before ++ cuts x) y) || seen_overflows b (vx j) (vy j))) || cuts-append r k (cuts x) (cuts y) j)
      ∙ or_binary (of_root (root_of all before x)) (of_root (root_of all (before ++ cuts x) y)) (seen_overflows b (through r k x) (through r k y)) (cut_overflows r k (cuts x)) (cut_overflows r k (cuts y))
      ∙ (λ j. fx j || (fy j || seen_overflows b (through r k x) (through r k y)))

  mutual
    pub root_overflows : (e : Expr) (before after : List Cut) → IsExpanded e → all ≡ (before ++ cuts e) ++ after → (of_root (root_of all before e) || cut_overflows r k (cuts e)) ≡ through_overflows r k e
    root_overflows root before after p h = absurd p
    root_overflows row_index before after p h = refl
    root_overflows (literal d m) before after p h = refl
    root_overflows (unary u e) before after p h =
        node (use_of (unary u e)) (unary u e) (unary u (root_of all before e)) (cuts e) before after refl p h
        (λ n q. root_overflows e before after (expanded_part (item_of u e) (use_of e) (IsExpanded e) n p) q)
    root_overflows (binary b x y) before after p h =
        node (use_of (binary b x y)) (binary b x y) (binary b (root_of all before x) (root_of all (before ++ cuts x) y)) (cuts x ++ cuts y) before after refl p h
        (λ _ q. both_sides b x y before after p (append_first all before (cuts x) (cuts y) after q) (append_second all before (cuts x) (cuts y) after q)
        (root_overflows x before (cuts y ++ after) p.0 (append_first all before (cuts x) (cuts y) after q)) (root_overflows y (before ++ cuts x) after p.1 (append_second all before (cuts x) (cuts y) after q)))
    root_overflows (pack ps n) before after p h =
        node (use_of (pack ps n)) (pack ps n) (pack (roots_of all before ps) n) (all_cuts ps) before after refl p h
        (λ _ q. roots_overflow ps before after p q)

    roots_overflow : (ps : Parts) (before after : List Cut) → AreExpanded ps → all ≡ (before ++ all_cuts ps) ++ after
        → (any_overflows (whole r k all).0 (roots_of all before ps) (whole r k all).1 k || cut_overflows r k (all_cuts ps)) ≡ any_through_overflows r k ps
    roots_overflow no_parts before after p h = refl
    roots_overflow (part n e ps) before after p h =
        let fx = root_overflows e before (all_cuts ps ++ after) p.0 (append_first all before (cuts e) (all_cuts ps) after h) in
        let fy = roots_overflow ps (before ++ cuts e) after p.1 (append_second all before (cuts e) (all_cuts ps) after h) in
        let rest = any_overflows (whole r k all).0 (roots_of all (before ++ cuts e) ps) (whole r k all).1 k in
        ap (λ b. (of_root (root_of all before e) || rest) || b) (cuts-append r k (cuts e) (all_cuts ps))
        ∙ or_pair (of_root (root_of all before e)) rest (cut_overflows r k (cuts e)) (cut_overflows r k (all_cuts ps))
        ∙ (λ j. fx j || fy j)

-- ---- from cuts to groups
abbrev pub list_overflows : Seen → ℕ → List Expr → Bool
list_overflows x k [] = false
list_overflows x k (e ∷ es) = overflow_at x k (step_into e) || list_overflows x k es

abbrev pub group_overflows : Reads → ℕ → List Group → Bool
group_overflows r k [] = false
group_overflows r k (g ∷ gs) = list_overflows (r g.0) k g.1 || group_overflows r k gs

numbered_overflows : (x : Seen) (k m : ℕ) (es : List Expr) → any_overflows x.0 (step_into_all (numbered m es)) x.1 k ≡ list_overflows x k es
numbered_overflows x k m [] = refl
numbered_overflows x k m (e ∷ es) = ap (λ b. overflow_at x k (step_into e) || b) (numbered_overflows x k (m + 1) es)

part_of-overflows : (x : Seen) (k : ℕ) (es : List Expr) → overflow_at x k (step_into (part_of es)) ≡ list_overflows x k es
part_of-overflows x k [] = refl
part_of-overflows x k (e ∷ []) = sym (or_nothing (overflow_at x k (step_into e)))
part_of-overflows x k (e ∷ f ∷ es) = numbered_overflows x k 0 (e ∷ f ∷ es)

parts_overflow : (r : Reads) (k : ℕ) (gs : List Group) → part_overflows r k gs ≡ group_overflows r k gs
parts_overflow r k [] = refl
parts_overflow r k (g ∷ gs) = λ j. part_of-overflows (r g.0) k g.1 j || parts_overflow r k gs j

list-end : (x : Seen) (k : ℕ) (es : List Expr) (e : Expr) → list_overflows x k (es ++ e ∷ []) ≡ (list_overflows x k es || overflow_at x k (step_into e))
list-end x k [] e = or_nothing (overflow_at x k (step_into e))
list-end x k (f ∷ es) e = ap (λ b. overflow_at x k (step_into f) || b) (list-end x k es e) ∙ sym (or_assoc (overflow_at x k (step_into f)) (list_overflows x k es) (overflow_at x k (step_into e)))

added_overflows : (r : Reads) (k : ℕ) (i : Item) (e : Expr) (gs : List Group) → group_overflows r k (added i e gs) ≡ (group_overflows r k gs || overflow_at (r i) k (step_into e))
added_overflows r k i e [] = or_nothing (overflow_at (r i) k (step_into e) || false) ∙ or_nothing (overflow_at (r i) k (step_into e))
added_overflows r k i e (g ∷ gs) = go (same_item g.0 i) (same_item-sound g.0 i) (added_overflows r k i e gs)
  where
    go : (b : Bool) → (b ≡ true → g.0 ≡ i) → group_overflows r k (added i e gs) ≡ (group_overflows r k gs || overflow_at (r i) k (step_into e))
        → group_overflows r k (cond b ((g.0, g.1 ++ e ∷ []) ∷ gs) (g ∷ added i e gs)) ≡ ((list_overflows (r g.0) k g.1 || group_overflows r k gs) || overflow_at (r i) k (step_into e))
    go true s h =
        ap (λ b. b || group_overflows r k gs) (list-end (r g.0) k g.1 e) ∙ or_last (list_overflows (r g.0) k g.1) (overflow_at (r g.0) k (step_into e)) (group_overflows r k gs)
        ∙ ap (λ m. (list_overflows (r g.0) k g.1 || group_overflows r k gs) || overflow_at (r m) k (step_into e)) (s refl)
    go false s h = ap (λ b. list_overflows (r g.0) k g.1 || b) h ∙ sym (or_assoc (list_overflows (r g.0) k g.1) (group_overflows r k gs) (overflow_at (r i) k (step_into e)))

collected_overflows : (r : Reads) (k : ℕ) (gs : List Group) (cs : List Cut) → group_overflows r k (collected gs cs) ≡ (group_overflows r k gs || cut_overflows r k cs)
collected_overflows r k gs [] = sym (or_nothing (group_overflows r k gs))
collected_overflows r k gs (c ∷ cs) =
    collected_overflows r k (added c.0 c.1 gs) cs ∙ ap (λ b. b || cut_overflows r k cs) (added_overflows r k c.0 c.1 gs)
    ∙ or_assoc (group_overflows r k gs) (overflow_at (r c.0) k (step_into c.1)) (cut_overflows r k cs)

-- the root over the joined parts, or some part, overflows where the expression does through the items
pub partition_overflows : (r : Reads) (k : ℕ) (e : Expr) → IsExpanded e → AllPlain (cuts e) → length (cuts e) < 2 ^ 64
    → (overflow_at (whole r k (cuts e)) k (root_of (cuts e) [] e) || part_overflows r k (groups_of (cuts e))) ≡ through_overflows r k e
partition_overflows r k e p plain few =
    ap (λ b. overflow_at (whole r k (cuts e)) k (root_of (cuts e) [] e) || b) (parts_overflow r k (groups_of (cuts e)) ∙ collected_overflows r k [] (cuts e))
    ∙ root_overflows r k (cuts e) plain few e [] [] p (sym (append-nil (cuts e)))
