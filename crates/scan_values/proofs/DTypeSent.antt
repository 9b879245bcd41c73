-- Dtypes may cross threads.
use denote.Param.Send.{IsSend, IsSync, sendable}
use denote.Model.Local.{Parts, rows}
use Rattle.std.proofs.Crossing as cross
use Rattle.std.proofs.MapsCrossing as maps
use Rattle.scan_values.specs.contracts.dtype.DType as DType
use Rattle.scan_values.specs.contracts.field_names.FieldNames as FieldNames
use Rattle.scan_values.specs.contracts.dtype.DType.TheKnot as knot
use Rattle.scan_values.specs.declared.dtype.DType.TheDeep.{the_members, member-DType, member-StructFields, member-FieldList}
use Rattle.scan_values.proofs.Loose.{Loose, rows_send, rows_sync, tied_loose}

names_send : IsSend FieldNames.the_row
names_send = search (sendable, maps.crosses, cross.crosses) depth 40

names_sync : IsSync FieldNames.the_row
names_sync = search (sendable, maps.crosses, cross.crosses) depth 40

module _ (p : Parts knot.frame) (h : (j : the_members) (y : (knot.frame).D j) → Loose (p j y)) where
  s1 : IsSend (rows knot.frame p member-DType)
  s1 = rows_send knot.frame p h member-DType

  s2 : IsSend (rows knot.frame p member-StructFields)
  s2 = rows_send knot.frame p h member-StructFields

  s3 : IsSend (rows knot.frame p member-FieldList)
  s3 = rows_send knot.frame p h member-FieldList

  y1 : IsSync (rows knot.frame p member-DType)
  y1 = rows_sync knot.frame p h member-DType

  y2 : IsSync (rows knot.frame p member-StructFields)
  y2 = rows_sync knot.frame p h member-StructFields

  y3 : IsSync (rows knot.frame p member-FieldList)
  y3 = rows_sync knot.frame p h member-FieldList

  kind_send : IsSend (knot.at-Kind p)
  kind_send = let b = cross.Arc-send (rows knot.frame p member-DType) s1 y1 in let c = s2 in search sendable depth 20

  held_send : IsSend (knot.at-Held p)
  held_send = let b = cross.Arc-send (rows knot.frame p member-FieldList) s3 y3 in let c = s3 in search sendable depth 20

  list_send : IsSend (knot.at-FieldList p)
  list_send = let b = names_send in let c = cross.Vec-send (rows knot.frame p member-DType) s1 in search sendable depth 20

  fields_send : IsSend (knot.at-StructFields p)
  fields_send = let b = held_send in search sendable depth 20

  dtype_send : IsSend (knot.at-DType p)
  dtype_send = let b = kind_send in search sendable depth 20

  view_dtype_send : IsSend (knot.view-DType p)
  view_dtype_send = let b = dtype_send in search sendable depth 20

  view_fields_send : IsSend (knot.view-StructFields p)
  view_fields_send = let b = fields_send in search sendable depth 20

  view_list_send : IsSend (knot.view-FieldList p)
  view_list_send = let b = list_send in search sendable depth 20

  kind_sync : IsSync (knot.at-Kind p)
  kind_sync = let b = cross.Arc-sync (rows knot.frame p member-DType) s1 y1 in let c = y2 in search sendable depth 20

  held_sync : IsSync (knot.at-Held p)
  held_sync = let b = cross.Arc-sync (rows knot.frame p member-FieldList) s3 y3 in let c = y3 in search sendable depth 20

  list_sync : IsSync (knot.at-FieldList p)
  list_sync = let b = names_sync in let c = cross.Vec-sync (rows knot.frame p member-DType) y1 in search sendable depth 20

  fields_sync : IsSync (knot.at-StructFields p)
  fields_sync = let b = held_sync in search sendable depth 20

  dtype_sync : IsSync (knot.at-DType p)
  dtype_sync = let b = kind_sync in search sendable depth 20

  view_dtype_sync : IsSync (knot.view-DType p)
  view_dtype_sync = let b = dtype_sync in search sendable depth 20

  view_fields_sync : IsSync (knot.view-StructFields p)
  view_fields_sync = let b = fields_sync in search sendable depth 20

  view_list_sync : IsSync (knot.view-FieldList p)
  view_list_sync = let b = list_sync in search sendable depth 20

step_loose : (p : Parts knot.frame) → ((j : the_members) (y : (knot.frame).D j) → Loose (p j y)) → (i : the_members) (d : (knot.frame).D i) → Loose (knot.step p i d)
step_loose p h member-DType d = ((view_dtype_send p h).owned d, (view_dtype_sync p h).shared d)
step_loose p h member-StructFields d = ((view_fields_send p h).owned d, (view_fields_sync p h).shared d)
step_loose p h member-FieldList d = ((view_list_send p h).owned d, (view_list_sync p h).shared d)

pub DType-send : IsSend DType.the_row
DType-send = record { owned = λ x vs. (tied_loose knot.frame knot.step knot.sizes step_loose member-DType x).0 vs; leaving = λ k x w. tt }

pub DType-sync : IsSync DType.the_row
DType-sync = record { shared = λ x b o κ. (tied_loose knot.frame knot.step knot.sizes step_loose member-DType x).1 b o κ }
