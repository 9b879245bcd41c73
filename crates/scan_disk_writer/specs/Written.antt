-- What a file holds that is written, and why none is.
use Rattle.std.specs.Prelude.{◌≡◌, ℕ, ◌+◌, ◌^◌, ◌≤◌, ◌<◌, List, length, Bool, true, false, None, Some, Ok, slice_get}
use Rattle.scan_values.specs.DataType.{DataType, depth_of}
use Rattle.scan_values.specs.Val.{Val, vals_of, marked}
use Rattle.scan_segments.specs.Source.{Store}
use Rattle.scan_layout.specs.Check.{first_fault}
use Rattle.scan_layout.specs.Layout.{Layout, dtype_of, rows_of}
use Rattle.scan_layout.specs.RowValue.{row_value}
use Rattle.scan_disk.specs.Contents.{content_of}
use Rattle.scan_disk.specs.Given.{step}
use Rattle.scan_disk.specs.Segments.{segment_of, store_of}
use Rattle.scan_encode.specs.Encoded.{Holds}
use Rattle.scan_disk_writer.specs.FileBytes.{joined, or_none}
use Rattle.scan_encode.specs.Rows.{all_texts_fit}
use Rattle.scan_encode.specs.declared.fault.RowsFault.TheVariants as rows_faults
use Rattle.scan_disk_writer.specs.declared.fault.WriteFault.{WriteFault}
use Rattle.scan_disk_writer.specs.declared.fault.WriteFault.TheVariants.{Depth, Layout as Unserved, Rows, Size, Failed, NoMemory}

-- An opener of the file gives a layout of the dtype, and each source of it the rows through that layout, with digests
-- checked or not.
pub record IsFileOf (dtype : DataType) (rows : List Val) (bytes : List ℕ) : Type 0 where
  pub layout : Layout
  pub opens : step {B = Layout} (λ f. Ok f.layout) (content_of bytes) ≡ Ok layout
  pub of_dtype : dtype_of layout ≡ dtype
  pub of_rows : rows_of layout ≡ length rows
  pub gives : (checks : Bool) (store : Store) → store_of checks None (Some bytes) ≡ Some store → (i : ℕ) (v : Val) → slice_get rows i ≡ Some v → row_value layout store i ≡ marked v

-- An opener of the file gives this layout, and a source of it these segments by their numbers and no other, with their
-- digests checked or not. So the rows that the layout gives over the segments are the file's.
pub record IsFile (l : Layout) (segments : List (List ℕ)) (bytes : List ℕ) : Type 0 where
  pub opens : step {B = Layout} (λ f. Ok f.layout) (content_of bytes) ≡ Ok l
  pub holds : (checks : Bool) (id : ℕ) → segment_of checks None id bytes ≡ or_none (slice_get segments id)
  pub rows : (dtype : DataType) (values : List Val) → Holds dtype values segments l → IsFileOf dtype values bytes

-- a layout that a file can have
abbrev pub IsServed : Layout → Type 0
IsServed l = (depth_of (dtype_of l) ≤ 42) × (first_fault l (dtype_of l) ≡ None)

-- why a layout and segments are no file
abbrev pub IsRefused : Layout → List (List ℕ) → Bool → WriteFault → Type 0
IsRefused l segments can_fail Depth = 42 < depth_of (dtype_of l)
IsRefused l segments can_fail (Unserved f) = (depth_of (dtype_of l) ≤ 42) × (first_fault l (dtype_of l) ≡ Some f)
IsRefused l segments can_fail (Rows f) = ⊥
IsRefused l segments can_fail Size = 2 ^ 64 ≤ 8 + length (joined segments)
IsRefused l segments can_fail Failed = can_fail ≡ true
IsRefused l segments can_fail NoMemory = Unit {0}

-- why segments have no places
abbrev pub IsTooMuch : List (List ℕ) → WriteFault → Type 0
IsTooMuch segments Depth = ⊥
IsTooMuch segments (Unserved f) = ⊥
IsTooMuch segments (Rows f) = ⊥
IsTooMuch segments Size = 2 ^ 64 ≤ 8 + length (joined segments)
IsTooMuch segments Failed = ⊥
IsTooMuch segments NoMemory = Unit {0}

-- why rows are no file, as far as the rows tell: how many segments and bytes they take is not said
abbrev pub AreRefused : DataType → List Val → Bool → WriteFault → Type 0
AreRefused d rows can_fail Depth = 42 < depth_of d
AreRefused d rows can_fail (Unserved f) = ⊥
AreRefused d rows can_fail (Rows rows_faults.TooLong) = all_texts_fit (vals_of rows) ≡ false
AreRefused d rows can_fail (Rows rows_faults.Segments) = Unit {0}
AreRefused d rows can_fail (Rows rows_faults.NoMemory) = ⊥
AreRefused d rows can_fail Size = Unit {0}
AreRefused d rows can_fail Failed = can_fail ≡ true
AreRefused d rows can_fail NoMemory = Unit {0}

-- rows that are a file, as far as the rows tell
abbrev pub AreServed : DataType → List Val → Type 0
AreServed d rows = (depth_of d ≤ 42) × (all_texts_fit (vals_of rows) ≡ true)
