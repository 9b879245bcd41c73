use Rattle.std.proofs.Common.{◌≡◌, ◌<◌, ◌≤◌, ℕ, length, get_or}
use Rattle.scan_drive.specs.Desks.{IsAwaited}
use Rattle.std.specs.Prelude.{All}
use Rattle.scan_drive.specs.Drives.{desk_at, DesksAgree, SourcesMove, IsIdle, NoneOf}
use Rattle.scan_drive.specs.Ledger.{FilesKeepLedger, KeepsAllBalance}
use Rattle.scan_drive.specs.Wants.{Cache}
use Rattle.scan_drive.specs.declared.files.ScanFile.{ScanFile}
use Rattle.scan_drive.proofs.drive.close_all.Given as goal

abbrev pub invariant-loop-i : goal.invariant-loop-i
invariant-loop-i g l = record {
  end : length l.files.items ≡ l.i-end;
  agree : DesksAgree g.S.SegmentSource.state l.files.items l.desks.items;
  idle : (k : ℕ) (f : ScanFile g.row.O.Denot g.row.S.Denot) → k < l.i → IsIdle g.S.SegmentSource.state (get_or l.files.items k f);
  rest : (k : ℕ) (f : ScanFile g.row.O.Denot g.row.S.Denot) → l.i ≤ k → get_or l.files.items k f ≡ get_or l.fn.files.items k f;
  desks : (k : ℕ) → l.i ≤ k → desk_at l.desks.items k ≡ desk_at l.fn.desks.items k;
  awaited : (k : ℕ) → k < l.i → IsAwaited (desk_at l.fn.desks.items k);
  ledger : (c : Cache) → FilesKeepLedger g.S.SegmentSource.state l.fn.files.items l.files.items c c;
  balance : All (IsIdle g.S.SegmentSource.state) l.fn.files.items → KeepsAllBalance g.S.SegmentSource.state l.fn.files.items l.files.items;
  moves : SourcesMove g.S.SegmentSource.state NoneOf l.fn.files.items l.files.items;
}
