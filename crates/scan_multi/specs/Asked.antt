-- What a scan asks of each of its files, and what a drive over them gives, as items of an answer.
use Rattle.std.specs.Prelude.{◌≡◌, ◌≤◌, ℕ, true, List, [], ◌∷◌, cond, Option, None, Some, IfSome, option_map, map}
use Rattle.scan_values.specs.DataType.{DataType}
use Rattle.scan_values.specs.Marked.{Marked}
use Rattle.scan_values.specs.Val.{Val, is_clean, read_marked}
use Rattle.scan_expr.specs.Bound.{bound_of}
use Rattle.scan_expr.specs.Typing.{filter_fault}
use Rattle.scan_expr.specs.declared.request.ScanRequest.{ScanRequest}
use Rattle.scan_core.specs.Given.{Rises}
use Rattle.scan_drive.specs.Files as drive
use Rattle.scan_file.specs.FileAsks.{FileAsk, file_ask}
use Rattle.scan_file.specs.Openings.{part_of}
use Rattle.scan_multi.specs.Answer.{Item, ToldFile}

-- what a request over a dtype asks of each file
abbrev pub ask_of : DataType → ScanRequest → FileAsk
ask_of d request = file_ask (bound_of d request.projection) (option_map (bound_of d) request.filter) request.row_range request.selection

-- a request whose filter is over the dtype and Bool, whose range is not reversed, and whose named rows rise
pub record IsAskable (d : DataType) (request : ScanRequest) : Type 0 where
  pub filter : filter_fault d request.filter ≡ None
  pub range : IfSome request.row_range (λ r. r.start ≤ r.end)
  pub selection : Rises request.selection

-- this is what such a request asks of each file
pub record AsksFor (d : DataType) (request : ScanRequest) (a : FileAsk) : Type 0 where
  pub is : a ≡ ask_of d request
  pub askable : IsAskable d request

-- the value of a row, where it is clean
abbrev pub clean_value : Marked → Option Val
clean_value m = cond (is_clean m) (Some (read_marked m)) None

-- a row of a file, as a drive gives it
abbrev pub Row : Type 0
Row = ℕ × drive.Item

-- the item of the answer that a row of a drive is
abbrev pub item_from : Row → Item
item_from x = record { file = x.0; row = x.1.0; value = clean_value x.1.1.1 }

-- the items that rows of a drive are
abbrev pub items_from : List Row → List Item
items_from = map item_from

-- each row is clean
abbrev pub AreClean : List Row → Type 0
AreClean [] = Unit {0}
AreClean (x ∷ xs) = (is_clean x.1.1.1 ≡ true) × AreClean xs

-- ---- up to the first row that is not clean
-- items begin with this one, and this holds of the others
abbrev pub Starts : Item → (List Item → Type 0) → List Item → Type 0
Starts item P [] = ⊥
Starts item P (m ∷ ms) = (m ≡ item) × P ms

-- rows of a drive are these items, up to the first row that is not clean
abbrev pub AgreesTo : List Row → List Item → Type 0
AgreesTo [] items = items ≡ []
AgreesTo (x ∷ xs) items = is_clean x.1.1.1 ≡ true → Starts (item_from x) (AgreesTo xs) items

-- what a file's opener and its source tell a drive
abbrev pub tale_of : FileAsk → ToldFile → drive.Told drive.Item
tale_of a f = record { part = Some (part_of a f.given); store = Some f.store }
