-- Splits of files, and rows with their values, may cross threads.
use denote.Param.Send.{IsSend, IsSync, sendable}
use Rattle.std.proofs.Crossing as cross
use Rattle.scan_columns.proofs.ColumnsSent.{Column-send, Column-sync}
use Rattle.scan_plans.proofs.PlansSent.{ArrayFuture-send, ArrayFuture-sync}
use Rattle.scan_file.specs.contracts.rows.FileRows as FileRows
use Rattle.scan_file.specs.contracts.split.FileSplit as FileSplit

pub FileRows-send : IsSend FileRows.the_row
FileRows-send = let a = Column-send in search (sendable, cross.crosses) depth 40

pub FileRows-sync : IsSync FileRows.the_row
FileRows-sync = let a = Column-sync in search (sendable, cross.crosses) depth 40

pub FileSplit-send : IsSend FileSplit.the_row
FileSplit-send = let a = ArrayFuture-send in search sendable depth 20

pub FileSplit-sync : IsSync FileSplit.the_row
FileSplit-sync = let a = ArrayFuture-sync in search sendable depth 20
