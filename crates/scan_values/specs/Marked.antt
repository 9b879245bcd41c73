-- Marked values: what a reader knows of a value.
use Rattle.std.specs.Prelude.{◌≡◌, ℕ, zero, suc, ℤ, Bool, false, List, [], ◌∷◌, refl}
use Rattle.std.specs.Coded.{Coded, code_by}
use base.Stored.{Gv, gnil, gnum, gcons, num}
use Rattle.scan_values.specs.Trees.{bool_tree, tree_bool, tree_bool-bool_tree, int_tree, tree_int, tree_int-int_tree, text_tree, tree_text, tree_text-text_tree, itself}

mutual
  -- lost: not even known whether it is null; gone: not null, the content unknown
  pub data Marked : Type 0 where
    lost : Marked
    null : Marked
    gone : Marked
    boolean : Bool → Marked
    integer : ℤ → Marked
    text : List ℕ → Marked
    list : Markeds → Marked
    struct : Markeds → Marked

  pub data Markeds : Type 0 where
    none : Markeds
    more : Marked → Markeds → Markeds

-- the same, as a list
abbrev pub listed : Markeds → List Marked
listed none = []
listed (more m ms) = m ∷ listed ms

abbrev pub chained : List Marked → Markeds
chained [] = none
chained (m ∷ ms) = more m (chained ms)

-- whether it is the truth value true
abbrev pub is_true : Marked → Bool
is_true lost = false
is_true null = false
is_true gone = false
is_true (boolean b) = b
is_true (integer z) = false
is_true (text s) = false
is_true (list ms) = false
is_true (struct ms) = false

-- ---- how a marked value is kept
abbrev mutual
  pub tree : Marked → Gv
  tree lost = gcons (gnum 0) gnil
  tree null = gcons (gnum 1) gnil
  tree gone = gcons (gnum 2) gnil
  tree (boolean b) = gcons (gnum 3) (bool_tree b)
  tree (integer z) = gcons (gnum 4) (int_tree z)
  tree (text s) = gcons (gnum 5) (text_tree s)
  tree (list ms) = gcons (gnum 6) (trees ms)
  tree (struct ms) = gcons (gnum 7) (trees ms)

  pub trees : Markeds → Gv
  trees none = gnil
  trees (more m ms) = gcons (tree m) (trees ms)

-- by the tag, from the rest of the tree, and from the list that the rest is
abbrev pub by_tag : ℕ → Gv → Markeds → Marked
by_tag zero g ms = lost
by_tag (suc zero) g ms = null
by_tag (suc (suc zero)) g ms = gone
by_tag (suc (suc (suc zero))) g ms = boolean (tree_bool g)
by_tag (suc (suc (suc (suc zero)))) g ms = integer (tree_int g)
by_tag (suc (suc (suc (suc (suc zero))))) g ms = text (tree_text g)
by_tag (suc (suc (suc (suc (suc (suc zero)))))) g ms = list ms
by_tag (suc (suc (suc (suc (suc (suc (suc n))))))) g ms = struct ms

abbrev pub read : Gv → Marked × Markeds
read gnil = (lost, none)
read (gnum n) = (lost, none)
read (gcons a b) = (by_tag (num a) b (read b).1, more (read a).0 (read b).1)

mutual
  pub read-tree : (m : Marked) → (read (tree m)).0 ≡ m
  read-tree lost = refl
  read-tree null = refl
  read-tree gone = refl
  read-tree (boolean b) = λ i. boolean (tree_bool-bool_tree b i)
  read-tree (integer z) = λ i. integer (tree_int-int_tree z i)
  read-tree (text s) = λ i. text (tree_text-text_tree s i)
  read-tree (list ms) = λ i. list (read-trees ms i)
  read-tree (struct ms) = λ i. struct (read-trees ms i)

  pub read-trees : (ms : Markeds) → (read (trees ms)).1 ≡ ms
  read-trees none = refl
  read-trees (more m ms) = λ i. more (read-tree m i) (read-trees ms i)

abbrev pub marked_code : Coded Marked
marked_code = code_by Gv itself tree (λ g. (read g).0) read-tree
