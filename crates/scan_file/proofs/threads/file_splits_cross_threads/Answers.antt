use denote.Param.Send.{sendable}
use Rattle.scan_file.proofs.FilesSent.{FileRows-send, FileRows-sync, FileSplit-send, FileSplit-sync}
use Rattle.scan_file.proofs.threads.file_splits_cross_threads.Goals as goal

pub crosses-requires-send-T : goal.crosses-requires-send-T
crosses-requires-send-T c κs = let a = FileSplit-send in search sendable depth 20

pub crosses-requires-sync-T : goal.crosses-requires-sync-T
crosses-requires-sync-T c κs = let a = FileSplit-sync in search sendable depth 20

pub crosses-requires-2-send-T : goal.crosses-requires-2-send-T
crosses-requires-2-send-T c κs = let a = FileRows-send in search sendable depth 20

pub crosses-requires-2-sync-T : goal.crosses-requires-2-sync-T
crosses-requires-2-sync-T c κs = let a = FileRows-sync in search sendable depth 20
