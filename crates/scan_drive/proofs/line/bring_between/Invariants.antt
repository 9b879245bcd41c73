use Rattle.std.proofs.Common.{◌≡◌, ◌≤◌, length}
use Rattle.scan_drive.specs.Forward.{BringsForward}
use Rattle.scan_drive.proofs.line.bring_between.Given as goal

abbrev pub invariant-loop-place : goal.invariant-loop-place
invariant-loop-place g l = record {
  brings : BringsForward l.last l.fn.exchanges.items l.exchanges.items l.fn.files.items l.files.items l.fn.desks.items l.desks.items l.fn.drive l.drive;
  phases : length l.drive.phases.items ≡ length l.fn.drive.phases.items;
  files : length l.files.items ≡ length l.fn.files.items;
  desks : length l.desks.items ≡ length l.fn.desks.items;
  to : l.front ≤ l.place;
}
