-- The root by its leaves is the root by the cuts before each.
use Rattle.std.proofs.Common.{◌≡◌, ℕ, List, [], ◌∷◌, ◌++◌, refl, ap, sym, ◌∙◌, append_assoc}
use Rattle.std.proofs.lemmas.List.{append-nil}
use Rattle.scan_expr.specs.declared.op.Binary.{Binary}
use Rattle.scan_expr.specs.Expr.{Expr, root, row_index, literal, unary, binary, pack, Parts, no_parts, part}
use Rattle.scan_partition.specs.declared.item.Item.{Item}
use Rattle.scan_partition.specs.Items.{Use, no_use, one, many, use_of}
use Rattle.scan_partition.specs.Partition.{Cut, Group, Leaf, cut_or, cuts, all_cuts, cuts_of, count_item, found, groups_of, leaf_of, leaf_or, root_of, roots_of}
use Rattle.scan_partition.specs.Planted.{Planted, PartsPlanted, numbered_cuts, planted, all_planted, unary_planted, binary_planted, pack_planted, leaf_or_planted}
use Rattle.scan_partition.proofs.Parted.{NotOne}
use Rattle.scan_partition.proofs.Grouping.{found_collected}

numbered-append : (before cs ds : List Cut) → numbered_cuts before (cs ++ ds) ≡ numbered_cuts before cs ++ numbered_cuts (before ++ cs) ds
numbered-append before [] ds = ap (λ b. numbered_cuts b ds) (sym (append-nil before))
numbered-append before (c ∷ cs) ds =
    ap (λ ls. (c.0, count_item c.0 before) ∷ ls) (numbered-append (before ++ c ∷ []) cs ds ∙ ap (λ b. numbered_cuts (before ++ c ∷ []) cs ++ numbered_cuts b ds) (append_assoc before (c ∷ []) cs))

module _ (gs : List Group) (all : List Cut) (same : (i : Item) → found i gs ≡ cuts_of i all) where
  node : (w : Use) (e f : Expr) (cs before : List Cut) (rest : List Leaf) (p : List Leaf → Planted) → (NotOne w → p (numbered_cuts before cs ++ rest) ≡ (f, rest))
      → leaf_or_planted w gs (numbered_cuts before (cut_or w e cs) ++ rest) (p (numbered_cuts before (cut_or w e cs) ++ rest)) ≡ (leaf_or w all before f, rest)
  node no_use e f cs before rest p h = h tt
  node (one i) e f cs before rest p h = ap (λ es. (leaf_of es i (count_item i before), rest)) (same i)
  node many e f cs before rest p h = h tt

  split : (before cs ds : List Cut) (rest : List Leaf) → numbered_cuts before (cs ++ ds) ++ rest ≡ numbered_cuts before cs ++ (numbered_cuts (before ++ cs) ds ++ rest)
  split before cs ds rest = ap (λ ls. ls ++ rest) (numbered-append before cs ds) ∙ append_assoc (numbered_cuts before cs) (numbered_cuts (before ++ cs) ds) rest

  abbrev one_more : List ℕ → Planted → PartsPlanted → PartsPlanted
  one_more n p q = (part n p.0 q.0, q.1)

  two : (b : Binary) (x y : Expr) (ls : List Leaf) (x' y' : Expr) (ms rest : List Leaf) → planted gs ls x ≡ (x', ms) → planted gs ms y ≡ (y', rest) → binary_planted b (planted gs ls x) (planted gs (planted gs ls x).1 y) ≡ (binary b x' y', rest)
  two b x y ls x' y' ms rest p q = (λ i. binary_planted b (p i) (planted gs (p i).1 y)) ∙ ap (binary_planted b (x', ms)) q

  more : (n : List ℕ) (e : Expr) (ps : Parts) (ls : List Leaf) (e' : Expr) (ps' : Parts) (ms rest : List Leaf) → planted gs ls e ≡ (e', ms) → all_planted gs ms ps ≡ (ps', rest) → all_planted gs ls (part n e ps) ≡ (part n e' ps', rest)
  more n e ps ls e' ps' ms rest p q = (λ i. one_more n (p i) (all_planted gs (p i).1 ps)) ∙ ap (one_more n (e', ms)) q

  mutual
    planted_root : (e : Expr) (before : List Cut) (rest : List Leaf) → planted gs (numbered_cuts before (cuts e) ++ rest) e ≡ (root_of all before e, rest)
    planted_root root before rest = refl
    planted_root row_index before rest = refl
    planted_root (literal d v) before rest = refl
    planted_root (unary u e) before rest =
        node (use_of (unary u e)) (unary u e) (unary u (root_of all before e)) (cuts e) before rest (λ ls. unary_planted u (planted gs ls e)) (λ _. ap (unary_planted u) (planted_root e before rest))
    planted_root (binary b x y) before rest =
        node (use_of (binary b x y)) (binary b x y) (binary b (root_of all before x) (root_of all (before ++ cuts x) y)) (cuts x ++ cuts y) before rest (λ ls. binary_planted b (planted gs ls x) (planted gs (planted gs ls x).1 y))
        (λ _. two b x y (numbered_cuts before (cuts x ++ cuts y) ++ rest) (root_of all before x) (root_of all (before ++ cuts x) y) (numbered_cuts (before ++ cuts x) (cuts y) ++ rest) rest
        (ap (λ ls. planted gs ls x) (split before (cuts x) (cuts y) rest) ∙ planted_root x before (numbered_cuts (before ++ cuts x) (cuts y) ++ rest)) (planted_root y (before ++ cuts x) rest))
    planted_root (pack ps n) before rest =
        node (use_of (pack ps n)) (pack ps n) (pack (roots_of all before ps) n) (all_cuts ps) before rest (λ ls. pack_planted n (all_planted gs ls ps)) (λ _. ap (pack_planted n) (planted_roots ps before rest))

    planted_roots : (ps : Parts) (before : List Cut) (rest : List Leaf) → all_planted gs (numbered_cuts before (all_cuts ps) ++ rest) ps ≡ (roots_of all before ps, rest)
    planted_roots no_parts before rest = refl
    planted_roots (part n e ps) before rest =
        more n e ps (numbered_cuts before (cuts e ++ all_cuts ps) ++ rest) (root_of all before e) (roots_of all (before ++ cuts e) ps) (numbered_cuts (before ++ cuts e) (all_cuts ps) ++ rest) rest
        (ap (λ ls. planted gs ls e) (split before (cuts e) (all_cuts ps) rest) ∙ planted_root e before (numbered_cuts (before ++ cuts e) (all_cuts ps) ++ rest)) (planted_roots ps (before ++ cuts e) rest)

-- the whole
pub planted_whole : (e : Expr) → planted (groups_of (cuts e)) (numbered_cuts [] (cuts e)) e ≡ (root_of (cuts e) [] e, [])
planted_whole e =
    ap (λ ls. planted (groups_of (cuts e)) ls e) (sym (append-nil (numbered_cuts [] (cuts e)))) ∙ planted_root (groups_of (cuts e)) (cuts e) (λ i. found_collected i [] (cuts e)) e [] []
