use Rattle.std.proofs.Common.{ℕ, ◌<◌, ◌≤◌, ◌≡◌, slice_index_or}
use Rattle.std.specs.Prelude.{option_copied}
use Rattle.scan_drive.specs.Claimed.{JobWorked}
use Rattle.scan_drive.proofs.workers.work.Given as goal

-- the splits before were worked on, and the others are as they were
abbrev pub invariant-loop-i : goal.invariant-loop-i
invariant-loop-i g l = record {
  worked : (k : ℕ) (d : _) → k < l.i → JobWorked g.W.SplitWork.split g.W.SplitWork.comes g.W.SplitWork.items (option_copied l.fn.limit) (slice_index_or l.initial.jobs k d) (slice_index_or l.jobs k d);
  others : (k : ℕ) (d : _) → l.i ≤ k → slice_index_or l.jobs k d ≡ slice_index_or l.initial.jobs k d;
}
