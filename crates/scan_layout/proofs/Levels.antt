-- One level of a layout: the dtypes of its children.
use Rattle.std.proofs.Common.{◌≡◌, ℕ, ◌+◌, ◌<◌, ◌≤◌, List, [], ◌∷◌, length, get_or, drop, add-one, refl, Option, Some, None}
use Rattle.std.specs.Prelude.{slice_get}
use Rattle.std.specs.declared.alloc.Global.{Global}
use Rattle.std.specs.declared.rc.Rc.{Rc}
use Rattle.scan_values.specs.DataType.{DataType}
use Rattle.scan_values.specs.Same.{same_type}
use Rattle.scan_layout.specs.declared.fault.LayoutFault.{LayoutFault}
use Rattle.scan_layout.specs.declared.fault.LayoutFault.TheVariants.{ChildDType}
use Rattle.scan_layout.specs.Layout.{Layout, Nodes, no_nodes, child, nodes, dtype_of}
use Rattle.scan_layout.specs.LayoutView.{layouts_of}
use Rattle.scan_layout.specs.Check.{dtypes_fault, unless, ◌then◌}
use Rattle.scan_layout.proofs.Kids.{nodes_at, nodes_past, get_drop, none_drop}

pub dtypes_fault_none : (ls : Nodes) → dtypes_fault ls [] ≡ None
dtypes_fault_none no_nodes = refl
dtypes_fault_none (child l ls) = refl

then_none : (o : Option LayoutFault) → (o then None) ≡ o
then_none None = refl
then_none (Some f) = refl

pub dtypes_fault_one : (l : Layout) (ls : Nodes) (t : DataType) → dtypes_fault (child l ls) (t ∷ []) ≡ unless (same_type (dtype_of l) t) ChildDType
dtypes_fault_one l ls t = rw (dtypes_fault_none ls) (then_none (unless (same_type (dtype_of l) t) ChildDType))

pub dtypes_fault_at : (rs : List (Rc Layout Global)) (ts : List DataType) (i : ℕ) (r : Rc Layout Global) (t : DataType) → i < length rs → r ≡ get_or rs i r → Some t ≡ slice_get ts i →
    dtypes_fault (nodes (layouts_of (drop i rs))) (drop i ts) ≡ (unless (same_type (dtype_of r.value) t) ChildDType then dtypes_fault (nodes (layouts_of (drop (i + 1) rs))) (drop (i + 1) ts))
dtypes_fault_at rs ts i r t h e g = rw (nodes_at rs i r h, add-one, get_drop ts i t g, ← e) refl

pub dtypes_fault_short : (ls : Nodes) (ts : List DataType) (i : ℕ) → None ≡ slice_get ts i → dtypes_fault ls (drop i ts) ≡ None
dtypes_fault_short ls ts i e = rw (none_drop ts i e) (dtypes_fault_none ls)

pub dtypes_fault_past : (rs : List (Rc Layout Global)) (ts : List DataType) (i : ℕ) → length rs ≤ i → dtypes_fault (nodes (layouts_of (drop i rs))) ts ≡ None
dtypes_fault_past rs ts i h = rw (nodes_past rs i h) refl
