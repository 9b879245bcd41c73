-- Values may cross threads.
use denote.Param.Send.{IsSend, IsSync, sendable}
use denote.Model.Local.{Parts}
use Rattle.std.proofs.Crossing as cross
use Rattle.scan_values.specs.contracts.value.Values as Values
use Rattle.scan_values.specs.contracts.value.Value as Value
use Rattle.scan_values.specs.contracts.value.Values.TheKnot as knot
use Rattle.scan_values.specs.declared.value.Values.TheDeep.{the_members, member-Values}
use Rattle.scan_values.specs.contracts.text.Text as Text
use Rattle.scan_values.proofs.Loose.{Loose, rows_send, rows_sync, tied_loose}

module _ (p : Parts knot.frame) (h : (j : the_members) (y : (knot.frame).D j) → Loose (p j y)) where
  value_send : IsSend (knot.at-Value p)
  value_send = let a = rows_send knot.frame p h member-Values in let t : IsSend Text.the_row = search (sendable, cross.crosses) depth 20 in search sendable depth 20

  value_sync : IsSync (knot.at-Value p)
  value_sync = let a = rows_sync knot.frame p h member-Values in let t : IsSync Text.the_row = search (sendable, cross.crosses) depth 20 in search sendable depth 20

  view_send : IsSend (knot.view-Values p)
  view_send = let b = cross.Vec-send (knot.at-Value p) value_send in search sendable depth 20

  view_sync : IsSync (knot.view-Values p)
  view_sync = let b = cross.Vec-sync (knot.at-Value p) value_sync in search sendable depth 20

step_loose : (p : Parts knot.frame) → ((j : the_members) (y : (knot.frame).D j) → Loose (p j y)) → (i : the_members) (d : (knot.frame).D i) → Loose (knot.step p i d)
step_loose p h member-Values d = ((view_send p h).owned d, (view_sync p h).shared d)

pub Values-send : IsSend Values.the_row
Values-send = record { owned = λ x vs. (tied_loose knot.frame knot.step knot.sizes step_loose member-Values x).0 vs; leaving = λ k x w. tt }

pub Values-sync : IsSync Values.the_row
Values-sync = record { shared = λ x b o κ. (tied_loose knot.frame knot.step knot.sizes step_loose member-Values x).1 b o κ }

pub Value-send : IsSend Value.the_row
Value-send = let a = Values-send in let t : IsSend Text.the_row = search (sendable, cross.crosses) depth 20 in search sendable depth 20

pub Value-sync : IsSync Value.the_row
Value-sync = let a = Values-sync in let t : IsSync Text.the_row = search (sendable, cross.crosses) depth 20 in search sendable depth 20

-- as a field of an enum has it
pub Value-field-send : IsSend (Value.the_field).row
Value-field-send = let a = Values-send in let t : IsSend Text.the_row = search (sendable, cross.crosses) depth 20 in search sendable depth 20

pub Value-field-sync : IsSync (Value.the_field).row
Value-field-sync = let a = Values-sync in let t : IsSync Text.the_row = search (sendable, cross.crosses) depth 20 in search sendable depth 20
