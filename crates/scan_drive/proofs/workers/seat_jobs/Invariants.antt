use Rattle.std.proofs.Common.{ℕ, ◌<◌, ◌≤◌, ◌≡◌, slice_index_or}
use Rattle.std.specs.Prelude.{◌*◌}
use Rattle.scan_limit.specs.Seats.{after_split}
use Rattle.scan_drive.specs.Claimed.{seated}
use Rattle.scan_drive.proofs.workers.seat_jobs.Given as goal

-- the splits before have seats, and the others are as they were
abbrev pub invariant-loop-i : goal.invariant-loop-i
invariant-loop-i g l = record {
  seat : l.seat ≡ after_split (l.fn.room * l.i) l.initial.seat;
  given : (k : ℕ) (d : _) → k < l.i → slice_index_or l.jobs k d ≡ seated l.fn.limit l.fn.room (slice_index_or l.initial.jobs k d);
  others : (k : ℕ) (d : _) → l.i ≤ k → slice_index_or l.jobs k d ≡ slice_index_or l.initial.jobs k d;
}
