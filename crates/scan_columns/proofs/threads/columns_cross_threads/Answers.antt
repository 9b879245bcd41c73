use denote.Param.Send.{sendable}
use Rattle.scan_columns.proofs.ColumnsSent.{Column-send, Column-sync}
use Rattle.scan_columns.proofs.threads.columns_cross_threads.Goals as goal

pub crosses-requires-send-T : goal.crosses-requires-send-T
crosses-requires-send-T c κs = let a = Column-send in search sendable depth 20

pub crosses-requires-sync-T : goal.crosses-requires-sync-T
crosses-requires-sync-T c κs = let a = Column-sync in search sendable depth 20
