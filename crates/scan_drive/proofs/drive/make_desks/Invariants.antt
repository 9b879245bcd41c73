use Rattle.std.proofs.Common.{◌≡◌, ℕ, [], length}
use Rattle.scan_drive.specs.Drives.{desk_at}
use Rattle.scan_drive.proofs.drive.make_desks.Given as goal

abbrev pub invariant-loop-file : goal.invariant-loop-file
invariant-loop-file g l = record {
  len : length l.desks.items ≡ l.file;
  none : (k : ℕ) → desk_at l.desks.items k ≡ [];
}
