use Rattle.std.proofs.Common.{ℕ, ◌<◌, ◌≤◌, ◌≡◌, drop, slice_index_or}
use Rattle.scan_drive.specs.Claimed.{all_joined}
use Rattle.scan_drive.proofs.Claiming.{IsJoined}
use Rattle.scan_drive.proofs.workers.join_jobs.Given as goal

-- the seats of the splits before are joined, and the others are as they were
abbrev pub invariant-loop-i : goal.invariant-loop-i
invariant-loop-i g l = record {
  own : l.seat.budget ≡ l.initial.seat.budget;
  seat : all_joined (drop l.i l.initial.jobs) l.seat ≡ all_joined l.initial.jobs l.initial.seat;
  joined : (k : ℕ) (d : _) → k < l.i → IsJoined (slice_index_or l.initial.jobs k d) (slice_index_or l.jobs k d);
  others : (k : ℕ) (d : _) → l.i ≤ k → slice_index_or l.jobs k d ≡ slice_index_or l.initial.jobs k d;
}
