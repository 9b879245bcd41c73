use Rattle.std.proofs.Common.{rules, ◌≡◌, List, ap, ◌∙◌}
use Rattle.scan_opener.specs.declared.opener.MemoryOpener.{MemoryOpener}
use Rattle.scan_drive.specs.declared.files.ScanFile.{ScanFile}
use Rattle.scan_widened.specs.Sources.{UnionState}
use Rattle.scan_union.specs.Made.{inner_in}
use Rattle.scan_union.specs.Under.{fault_over}
use Rattle.scan_union.proofs.scan.scan_made.Goals as goal

pub returns-in-Err-clause-err : goal.returns-in-Err-clause-err
returns-in-Err-clause-err g c =
    let same : c.as_slice.result.now ≡ c.scan_columns_of.new.files.items = search rules in
    record {
      why = c.in-Err.fault;
      refused = c.in-Err.ensures.err;
      is = c.fault_behind.ensures ∙ ap (λ (ms : List (ScanFile MemoryOpener (UnionState g.row.S.Denot))). fault_over (inner_in ms) c.in-Err.fault) same;
    }
