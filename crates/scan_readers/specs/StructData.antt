-- What a reader of a struct or a list is.
use Rattle.std.specs.Prelude.{refl}
use Rattle.std.specs.Coded.{Coded, code_by, coded×}
use Rattle.scan_layout.specs.Form.{HasForm}
use Rattle.scan_layout.specs.Layout.{Layout, dtype_of}
use Rattle.scan_layout.specs.LayoutCode.{layout_code}
use Rattle.scan_readers.specs.Made.{Made, made_code}

-- the layout, and what of its children is made
pub record StructData : Type 0 where
  pub layout : Layout
  pub made : Made

abbrev pub struct_data : Layout → Made → StructData
struct_data l m = record { layout = l; made = m }

abbrev pub struct_code : Coded StructData
struct_code = code_by (Layout × Made) (coded× layout_code made_code) (λ a. (a.layout, a.made)) (λ p. struct_data p.0 p.1) (λ _. refl)

-- a layout of good form
pub record IsReadable (l : Layout) : Type 0 where
  pub form : HasForm l (dtype_of l)
