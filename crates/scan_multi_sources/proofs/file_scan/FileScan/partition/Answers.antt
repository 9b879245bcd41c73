use Rattle.std.proofs.Common.{◌≡◌, Some, rules}
use Rattle.scan_multi_sources.specs.FileFaults.{file_fault}
use Rattle.scan_multi_sources.proofs.Standing.{first_wrong}
use Rattle.scan_multi_sources.proofs.file_scan.FileScan.partition.Goals as goal

pub returns-in-Some : goal.returns-in-Some
returns-in-Some g c =
    let h : Some c.in-Some.fault ≡ file_fault c.args.self.now.source.dtype c.args.self.now.request.row_range c.args.place c.args.layout.now.value = search rules in
    first_wrong c.args.self.now c.args.place c.args.layout.now.value c.in-Some.fault h
