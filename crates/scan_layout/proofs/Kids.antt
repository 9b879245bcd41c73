-- The children of a layout, by their places.
use Rattle.std.proofs.Common.{◌≡◌, ℕ, zero, suc, ◌+◌, ◌<◌, ◌≤◌, List, [], ◌∷◌, length, get_or, drop, arith, add-one, refl, sym, ap, Bool, false, true, ◌==◌, ◌&&◌, Option, Some, None}
use Rattle.std.specs.Prelude.{slice_get, if◌then◌else◌, nat_lt, ◌^◌}
use Rattle.std.proofs.lemmas.Bool.{lt-ltb, le-ltb}
use Rattle.scan_values.specs.DataType.{Name, field_list, fields_of}
use Rattle.scan_values.specs.FieldLists.{names_of, dtypes_of as field_types}
use Rattle.scan_values.specs.Same.{same_type}
use Rattle.scan_layout.specs.declared.node.LayoutKind.{LayoutKind}
use Rattle.scan_layout.specs.declared.fault.LayoutFault.TheVariants.{ChildDType, ChildRows, RowSum}
use Rattle.std.proofs.lemmas.List.Sums.{sum_by-drop_more}
use Rattle.std.specs.declared.alloc.Global.{Global}
use Rattle.std.specs.declared.rc.Rc.{Rc}
use Rattle.scan_values.specs.DataType.{DataType}
use Rattle.scan_layout.specs.declared.fault.LayoutFault.{LayoutFault}
use Rattle.scan_layout.specs.Layout.{Layout, Nodes, node, no_nodes, child, nodes, count, rows_of}
use Rattle.scan_layout.specs.LayoutView.{layouts_of}
use Rattle.scan_layout.specs.Check.{second_is, total_rows, all_have_rows, offsets_rows, validity_rows, faults_in, fault_in, ◌then◌, leaf_fault, unless, node_fault, shape_fault}

pub second_is_short : (t : DataType) (rs : List (Rc Layout Global)) → length rs < 2 → second_is t (nodes (layouts_of rs)) ≡ true
second_is_short t [] h = refl
second_is_short t (r ∷ []) h = refl
second_is_short t (r ∷ s ∷ rs) h = absurd (omega arith)

pub total_rows_at : (xs : List (ℕ × ℕ)) (i : ℕ) (d : ℕ × ℕ) → i < length xs → total_rows (drop i xs) ≡ (get_or xs i d).1 + total_rows (drop (i + 1) xs)
total_rows_at xs i d h = sum_by-drop_more (λ s. s.1) xs i d h

pub total_rows_past : (xs : List (ℕ × ℕ)) (i : ℕ) → length xs ≤ i → total_rows (drop i xs) ≡ 0
total_rows_past [] zero h = refl
total_rows_past [] (suc i) h = refl
total_rows_past (x ∷ xs) zero h = absurd (omega arith)
total_rows_past (x ∷ xs) (suc i) h = total_rows_past xs i (omega arith)

-- the children from one on are it and those after it
pub nodes_at : (rs : List (Rc Layout Global)) (i : ℕ) (r : Rc Layout Global) → i < length rs → nodes (layouts_of (drop i rs)) ≡ child (get_or rs i r).value (nodes (layouts_of (drop (i + 1) rs)))
nodes_at [] i r h = absurd (omega arith)
nodes_at (x ∷ rs) zero r h = refl
nodes_at (x ∷ rs) (suc i) r h = let h' : i < length rs = omega arith in rw add-one (rw add-one at (nodes_at rs i r h'))

pub nodes_past : (rs : List (Rc Layout Global)) (i : ℕ) → length rs ≤ i → nodes (layouts_of (drop i rs)) ≡ no_nodes
nodes_past [] zero h = refl
nodes_past [] (suc i) h = refl
nodes_past (x ∷ rs) zero h = absurd (omega arith)
nodes_past (x ∷ rs) (suc i) h = nodes_past rs i (omega arith)

pub all_have_rows_at : (rows : ℕ) (rs : List (Rc Layout Global)) (i : ℕ) (r : Rc Layout Global) → i < length rs → r ≡ get_or rs i r → all_have_rows rows (nodes (layouts_of (drop i rs))) ≡ ((rows_of r.value == rows) && all_have_rows rows (nodes (layouts_of (drop (i + 1) rs))))
all_have_rows_at rows rs i r h e = rw (nodes_at rs i r h, ← e) refl

pub offsets_short : (rows : ℕ) (rs : List (Rc Layout Global)) → length rs < 2 → offsets_rows rows (nodes (layouts_of rs)) ≡ true
offsets_short rows [] h = refl
offsets_short rows (r ∷ []) h = refl
offsets_short rows (r ∷ s ∷ rs) h = absurd (omega arith)

pub validity_short : (rows : ℕ) (rs : List (Rc Layout Global)) → length rs < 3 → validity_rows rows (nodes (layouts_of rs)) ≡ true
validity_short rows [] h = refl
validity_short rows (r ∷ []) h = refl
validity_short rows (r ∷ s ∷ []) h = refl
validity_short rows (r ∷ s ∷ u ∷ rs) h = absurd (omega arith)

pub count_nodes : (rs : List (Rc Layout Global)) → count (nodes (layouts_of rs)) ≡ length rs
count_nodes [] = refl
count_nodes (r ∷ rs) = omega (arith, count_nodes rs)

pub nodes_first : (rs : List (Rc Layout Global)) (r : Rc Layout Global) (others : List (Rc Layout Global)) → 0 < length rs → r ≡ get_or rs 0 r → others ≡ drop 1 rs → nodes (layouts_of rs) ≡ child r.value (nodes (layouts_of others))
nodes_first [] r others h e f = absurd (omega arith)
nodes_first (x ∷ rs) r others h e f = rw (f, e) refl

pub nodes_none : (rs : List (Rc Layout Global)) → length rs < 1 → nodes (layouts_of rs) ≡ no_nodes
nodes_none [] h = refl
nodes_none (x ∷ rs) h = absurd (omega arith)

pub faults_in_none : (ls : Nodes) → faults_in ls [] ≡ None
faults_in_none no_nodes = refl
faults_in_none (child l ls) = refl

then_none : (o : Option LayoutFault) → (o then None) ≡ o
then_none None = refl
then_none (Some f) = refl

pub faults_in_one : (l : Layout) (ls : Nodes) (t : DataType) → faults_in (child l ls) (t ∷ []) ≡ fault_in l t
faults_in_one l ls t = rw (faults_in_none ls) (then_none (fault_in l t))

pub get_drop : (ts : List DataType) (i : ℕ) (t : DataType) → Some t ≡ slice_get ts i → drop i ts ≡ t ∷ drop (suc i) ts
get_drop [] zero t e = absurd cc
get_drop [] (suc i) t e = absurd cc
get_drop (u ∷ ts) zero t e = let same : t ≡ u = cc in ap (λ x. x ∷ ts) (sym same)
get_drop (u ∷ ts) (suc i) t e = get_drop ts i t e

pub none_drop : (ts : List DataType) (i : ℕ) → None ≡ slice_get ts i → drop i ts ≡ []
none_drop [] zero e = refl
none_drop [] (suc i) e = refl
none_drop (u ∷ ts) zero e = absurd cc
none_drop (u ∷ ts) (suc i) e = none_drop ts i e

pub faults_in_at : (rs : List (Rc Layout Global)) (ts : List DataType) (i : ℕ) (r : Rc Layout Global) (t : DataType) → i < length rs → r ≡ get_or rs i r → Some t ≡ slice_get ts i →
    faults_in (nodes (layouts_of (drop i rs))) (drop i ts) ≡ (fault_in r.value t then faults_in (nodes (layouts_of (drop (i + 1) rs))) (drop (i + 1) ts))
faults_in_at rs ts i r t h e g = rw (nodes_at rs i r h, add-one, get_drop ts i t g, ← e) refl

pub faults_in_short : (ls : Nodes) (ts : List DataType) (i : ℕ) → None ≡ slice_get ts i → faults_in ls (drop i ts) ≡ None
faults_in_short ls ts i e = rw (none_drop ts i e) (faults_in_none ls)

pub faults_in_past : (rs : List (Rc Layout Global)) (ts : List DataType) (i : ℕ) → length rs ≤ i → faults_in (nodes (layouts_of (drop i rs))) ts ≡ None
faults_in_past rs ts i h = rw (nodes_past rs i h) refl

-- the dtypes of fields, from the fields that they make
pub types_again : (xs : List (Name × DataType)) → field_types (field_list (fields_of xs)) ≡ field_types xs
types_again [] = refl
types_again (x ∷ xs) = ap (λ ts. x.1 ∷ ts) (types_again xs)

pub types_length : (xs : List (Name × DataType)) → length (field_types xs) ≡ length xs
types_length [] = refl
types_length (x ∷ xs) = ap suc (types_length xs)

-- the sum of a leaf's rows, within 64 bits or past them
pub total_fits : (n : ℕ) → n < 2 ^ 64 → (if nat_lt n (2 ^ 64) then Some n else None) ≡ Some n
total_fits n h = rw (lt-ltb n (2 ^ 64) h) refl

pub total_passes : (n m k : ℕ) → 2 ^ 64 ≤ n → n + m ≡ k → (if nat_lt k (2 ^ 64) then Some k else None) ≡ None
total_passes n m k h e = rw (le-ltb k (2 ^ 64) (omega arith)) refl

pub leaf_sums : (segments : List (ℕ × ℕ)) (n rows : ℕ) → Some n ≡ (if nat_lt (total_rows segments) (2 ^ 64) then Some (total_rows segments) else None) → leaf_fault segments rows ≡ unless (n == rows) ChildRows
leaf_sums segments n rows e = by_test (nat_lt (total_rows segments) (2 ^ 64)) refl
  where
    by_test : (b : Bool) → nat_lt (total_rows segments) (2 ^ 64) ≡ b → leaf_fault segments rows ≡ unless (n == rows) ChildRows
    by_test true p = let sum : Some n ≡ Some (total_rows segments) = rw p at e in let same : n ≡ total_rows segments = cc in rw (p, same) refl
    by_test false p = let none : Some n ≡ None = rw p at e in absurd cc

pub leaf_passes : (segments : List (ℕ × ℕ)) (rows : ℕ) → None ≡ (if nat_lt (total_rows segments) (2 ^ 64) then Some (total_rows segments) else None) → leaf_fault segments rows ≡ Some RowSum
leaf_passes segments rows e = by_test (nat_lt (total_rows segments) (2 ^ 64)) refl
  where
    by_test : (b : Bool) → nat_lt (total_rows segments) (2 ^ 64) ≡ b → leaf_fault segments rows ≡ Some RowSum
    by_test true p = let some : None ≡ Some (total_rows segments) = rw p at e in absurd cc
    by_test false p = rw p refl

pub names_length : (xs : List (Name × DataType)) → length (names_of xs) ≡ length (field_types (field_list (fields_of xs)))
names_length [] = refl
names_length (x ∷ xs) = ap suc (names_length xs)

-- a node of the wanted dtype, and of another
pub node_typed : (t wanted : DataType) (rows : ℕ) (kind : LayoutKind) (kids : Nodes) → same_type t wanted ≡ true → node_fault (node t rows kind kids) wanted ≡ shape_fault (node t rows kind kids)
node_typed t wanted rows kind kids e = rw e refl

pub node_other : (t wanted : DataType) (rows : ℕ) (kind : LayoutKind) (kids : Nodes) → same_type t wanted ≡ false → node_fault (node t rows kind kids) wanted ≡ Some ChildDType
node_other t wanted rows kind kids e = rw e refl

pub sum_of : (segments : List (ℕ × ℕ)) (n : ℕ) → Some n ≡ (if nat_lt (total_rows segments) (2 ^ 64) then Some (total_rows segments) else None) → (n ≡ total_rows segments) × (nat_lt (total_rows segments) (2 ^ 64) ≡ true)
sum_of segments n e = by_test (nat_lt (total_rows segments) (2 ^ 64)) refl
  where
    by_test : (b : Bool) → nat_lt (total_rows segments) (2 ^ 64) ≡ b → (n ≡ total_rows segments) × (nat_lt (total_rows segments) (2 ^ 64) ≡ true)
    by_test true p = let sum : Some n ≡ Some (total_rows segments) = rw p at e in let same : n ≡ total_rows segments = cc in (same, p)
    by_test false p = let none : Some n ≡ None = rw p at e in absurd cc

pub sum_past : (segments : List (ℕ × ℕ)) → None ≡ (if nat_lt (total_rows segments) (2 ^ 64) then Some (total_rows segments) else None) → nat_lt (total_rows segments) (2 ^ 64) ≡ false
sum_past segments e = by_test (nat_lt (total_rows segments) (2 ^ 64)) refl
  where
    by_test : (b : Bool) → nat_lt (total_rows segments) (2 ^ 64) ≡ b → nat_lt (total_rows segments) (2 ^ 64) ≡ false
    by_test true p = let some : None ≡ Some (total_rows segments) = rw p at e in absurd cc
    by_test false p = p
