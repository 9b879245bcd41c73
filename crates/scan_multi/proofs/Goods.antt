-- Good layouts.
use Rattle.std.proofs.Common.{◌≡◌, Bool, true, false, refl}
use Rattle.std.specs.Prelude.{◌&&◌, Option, None, Some, IfSome}
use Rattle.std.specs.Option.{is_none}
use Rattle.scan_values.specs.DataType.{DataType}
use Rattle.scan_layout.specs.Layout.{Layout, node, dtype_of}
use Rattle.scan_layout.specs.Check.{first_fault}
use Rattle.scan_layout.specs.declared.fault.LayoutFault.{LayoutFault}
use Rattle.scan_layout.proofs.Forms.{well_formed}
use Rattle.scan_opener.specs.Opener.{Given}

pub and-left : (a b : Bool) → (a && b) ≡ true → a ≡ true
and-left true b h = refl
and-left false b h = h

pub and-right : (a b : Bool) → (a && b) ≡ true → b ≡ true
and-right true b h = h
and-right false b h = cc

-- a well-formed layout is of the dtype
pub well_typed : (l : Layout) (d : DataType) → first_fault l d ≡ None → dtype_of l ≡ d
well_typed (node t rows kind kids) d f = (well_formed (node t rows kind kids) d f).1.0

pub good-form : (d : DataType) (l : Layout) → is_none (first_fault l d) ≡ true → first_fault l d ≡ None
good-form d l e = go (first_fault l d) e where
  go : (o : Option LayoutFault) → is_none o ≡ true → o ≡ None
  go None e = refl
  go (Some f) e = cc

-- what holds of what an opener gives
pub weaker : (o : Option Given) (P Q : Given → Type 0) → ((g : Given) → P g → Q g) → IfSome o P → IfSome o Q
weaker None P Q f h = tt
weaker (Some g) P Q f h = f g h
