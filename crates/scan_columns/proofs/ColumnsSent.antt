-- Columns may cross threads.
use denote.Param.Send.{IsSend, IsSync, sendable}
use denote.Model.Local.{Parts}
use Rattle.std.proofs.Crossing as cross
use Rattle.scan_values.proofs.Loose.{Loose, rows_send, rows_sync, tied_loose}
use Rattle.scan_values.proofs.DTypeSent.{DType-send, DType-sync}
use Rattle.scan_values.proofs.ValuesSent.{Value-send, Value-sync, Value-field-send, Value-field-sync, Values-send, Values-sync}
use Rattle.scan_columns.specs.contracts.bools.Bools as Bools
use Rattle.scan_columns.specs.contracts.cells.Lists as Lists
use Rattle.scan_columns.specs.contracts.cells.Lists.TheKnot as knot
use Rattle.scan_columns.specs.contracts.cells.Structs as Structs
use Rattle.scan_columns.specs.contracts.column.Column as Column
use Rattle.scan_columns.specs.contracts.constant.Constant as Constant
use Rattle.scan_columns.specs.contracts.ends.Ends as Ends
use Rattle.scan_columns.specs.contracts.ints.Ints as Ints
use Rattle.scan_columns.specs.contracts.texts.Texts as Texts
use Rattle.scan_columns.specs.declared.cells.Lists.TheDeep.{the_members, member-Lists, member-Structs}

ints_send : IsSend Ints.the_row
ints_send = search (sendable, cross.crosses) depth 40

ints_sync : IsSync Ints.the_row
ints_sync = search (sendable, cross.crosses) depth 40

bools_send : IsSend Bools.the_row
bools_send = search (sendable, cross.crosses) depth 40

bools_sync : IsSync Bools.the_row
bools_sync = search (sendable, cross.crosses) depth 40

ends_send : IsSend Ends.the_row
ends_send = search (sendable, cross.crosses) depth 40

ends_sync : IsSync Ends.the_row
ends_sync = search (sendable, cross.crosses) depth 40

texts_send : IsSend Texts.the_row
texts_send = let a = ends_send in search (sendable, cross.crosses) depth 40

texts_sync : IsSync Texts.the_row
texts_sync = let a = ends_sync in search (sendable, cross.crosses) depth 40

constant_send : IsSend Constant.the_row
constant_send = let a = Value-send in let f = Value-field-send in search (sendable, cross.crosses) depth 40

constant_sync : IsSync Constant.the_row
constant_sync = let a = Value-sync in let f = Value-field-sync in search (sendable, cross.crosses) depth 40

module _ (p : Parts knot.frame) (h : (j : the_members) (y : (knot.frame).D j) → Loose (p j y)) where
  cells_send : IsSend (knot.at-Cells p)
  cells_send =
      let a = ints_send in let b = bools_send in let g = texts_send in let c = Values-send in let d = constant_send in
      let e = rows_send knot.frame p h member-Lists in let f = rows_send knot.frame p h member-Structs in search sendable depth 40

  cells_sync : IsSync (knot.at-Cells p)
  cells_sync =
      let a = ints_sync in let b = bools_sync in let g = texts_sync in let c = Values-sync in let d = constant_sync in
      let e = rows_sync knot.frame p h member-Lists in let f = rows_sync knot.frame p h member-Structs in search sendable depth 40

  lists_send : IsSend (knot.view-Lists p)
  lists_send = let a = ends_send in let b = cross.Box-send (knot.at-Cells p) cells_send in search (sendable, cross.crosses) depth 40

  lists_sync : IsSync (knot.view-Lists p)
  lists_sync = let a = ends_sync in let b = cross.Box-sync (knot.at-Cells p) cells_sync in search (sendable, cross.crosses) depth 40

  structs_send : IsSend (knot.view-Structs p)
  structs_send = let b = cross.Vec-send (knot.at-Cells p) cells_send in search (sendable, cross.crosses) depth 40

  structs_sync : IsSync (knot.view-Structs p)
  structs_sync = let b = cross.Vec-sync (knot.at-Cells p) cells_sync in search (sendable, cross.crosses) depth 40

step_loose : (p : Parts knot.frame) → ((j : the_members) (y : (knot.frame).D j) → Loose (p j y)) → (i : the_members) (d : (knot.frame).D i) → Loose (knot.step p i d)
step_loose p h member-Lists d = ((lists_send p h).owned d, (lists_sync p h).shared d)
step_loose p h member-Structs d = ((structs_send p h).owned d, (structs_sync p h).shared d)

lists-send : IsSend Lists.the_row
lists-send = record { owned = λ x vs. (tied_loose knot.frame knot.step knot.sizes step_loose member-Lists x).0 vs; leaving = λ k x w. tt }

lists-sync : IsSync Lists.the_row
lists-sync = record { shared = λ x b o κ. (tied_loose knot.frame knot.step knot.sizes step_loose member-Lists x).1 b o κ }

structs-send : IsSend Structs.the_row
structs-send = record { owned = λ x vs. (tied_loose knot.frame knot.step knot.sizes step_loose member-Structs x).0 vs; leaving = λ k x w. tt }

structs-sync : IsSync Structs.the_row
structs-sync = record { shared = λ x b o κ. (tied_loose knot.frame knot.step knot.sizes step_loose member-Structs x).1 b o κ }

pub Column-send : IsSend Column.the_row
Column-send =
    let a = cross.Arc-send _ DType-send DType-sync in let i = ints_send in let b = bools_send in let g = texts_send in let c = Values-send in let d = constant_send in
    let e = lists-send in let f = structs-send in search sendable depth 40

pub Column-sync : IsSync Column.the_row
Column-sync =
    let a = cross.Arc-sync _ DType-send DType-sync in let i = ints_sync in let b = bools_sync in let g = texts_sync in let c = Values-sync in let d = constant_sync in
    let e = lists-sync in let f = structs-sync in search sendable depth 40
