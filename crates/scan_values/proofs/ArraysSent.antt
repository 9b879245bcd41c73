-- Arrays may cross threads.
use denote.Param.Send.{IsSend, IsSync, sendable}
use Rattle.scan_values.specs.contracts.array.Array as Array
use Rattle.scan_values.proofs.DTypeSent.{DType-send, DType-sync}
use Rattle.scan_values.proofs.ValuesSent.{Values-send, Values-sync}

pub Array-send : IsSend Array.the_row
Array-send = let a = DType-send in let b = Values-send in search sendable depth 40

pub Array-sync : IsSync Array.the_row
Array-sync = let a = DType-sync in let b = Values-sync in search sendable depth 40
