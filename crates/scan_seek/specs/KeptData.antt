-- What is kept of a file, as contracts see it.
use Rattle.std.specs.Prelude.{◌≡◌, Option, Some, None, refl}
use Rattle.std.specs.Coded.{Coded, code_by, coded×, coded_option}
use Rattle.scan_expr.specs.Bound.{Bound, bound_code}
use Rattle.scan_layout.specs.Layout.{Layout}
use Rattle.scan_layout.specs.LayoutCode.{layout_code}

-- nothing yet; that it was skipped; a layout that is not read; one with the expression that is read of its rows
pub data KeptData : Type 0 where
  unopened : KeptData
  skipped : KeptData
  flawed : Layout → KeptData
  ready : Layout → Bound → KeptData

-- ---- its code
abbrev Spelled : Type 0
Spelled = Option (Option (Layout × Option Bound))

abbrev spelled : KeptData → Spelled
spelled unopened = None
spelled skipped = Some None
spelled (flawed l) = Some (Some (l, None))
spelled (ready l e) = Some (Some (l, Some e))

abbrev read_with : Layout → Option Bound → KeptData
read_with l None = flawed l
read_with l (Some e) = ready l e

abbrev read : Spelled → KeptData
read None = unopened
read (Some None) = skipped
read (Some (Some s)) = read_with s.0 s.1

pub read-spelled : (k : KeptData) → read (spelled k) ≡ k
read-spelled unopened = refl
read-spelled skipped = refl
read-spelled (flawed l) = refl
read-spelled (ready l e) = refl

abbrev pub kept_code : Coded KeptData
kept_code = code_by Spelled (coded_option (coded_option (coded× layout_code (coded_option bound_code)))) spelled read read-spelled
