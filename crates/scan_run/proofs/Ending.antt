-- What the status of a run tells, at each of its ends.
use Rattle.std.proofs.Common.{◌≡◌, ◌⊎◌, inl, inr, ℕ, refl, arith}
use Rattle.scan_run.specs.Io.{InputState, OutputState, OutputFailed}
use Rattle.scan_run.specs.Run.{WroteNone}
use Rattle.scan_run.specs.Stops.{Ends}
use Rattle.scan_run.specs.Ran.{StatusTells}
use Rattle.scan_run.proofs.Generating.{other}
use Rattle.scan_run.proofs.Running.{end_words, end_refused, end_unbound, end_unreadable, end_failing, end_io}

-- words that are not `scan`
pub tells_other : (s : ℕ) (i : InputState) (o o' : OutputState) → (s ≡ 0) ⊎ (s ≡ 1) ⊎ (s ≡ 6) ⊎ (s ≡ 7) → (s ≡ 6 → OutputFailed o o') → (s ≡ 1 → WroteNone o o') → StatusTells s i i o o'
tells_other s i o o' ends io none =
    let k = other s ends in
    record {
      unread = λ e. refl;
      refused = λ e. absurd (k.0 e);
      unbound = λ e. absurd (k.1 e);
      unreadable = λ e. absurd (k.2 e);
      failing = λ e. absurd (k.3 e);
      io = λ e. inl (inr (io e));
      nothing = λ h l. none (k.5 h l);
      unwritten = λ e. inl (io e);
    }

-- an end before anything is written
pub tells_end : (s : ℕ) (i i' : InputState) (o : OutputState) → Ends s i i' → StatusTells s i i' o o
tells_end s i i' o h = record {
  unread = λ e. absurd (end_words s i i' h e);
  refused = end_refused s i i' h;
  unbound = end_unbound s i i' h;
  unreadable = end_unreadable s i i' h;
  failing = end_failing s i i' h;
  io = end_io s i i' o o h;
  nothing = λ a b. refl;
  unwritten = λ e. inr refl;
}

module _ (i i' : InputState) (o o' : OutputState) where
  -- the lines were written
  pub tells_done : StatusTells 0 i i' o o'
  tells_done = record {
    unread = λ e. absurd (omega arith);
    refused = λ e. absurd (omega arith);
    unbound = λ e. absurd (omega arith);
    unreadable = λ e. absurd (omega arith);
    failing = λ e. absurd (omega arith);
    io = λ e. absurd (omega arith);
    nothing = λ h k. absurd (omega arith);
    unwritten = λ e. absurd (omega arith);
  }

  -- the output failed
  pub tells_failed : OutputFailed o o' → StatusTells 6 i i' o o'
  tells_failed r = record {
    unread = λ e. absurd (omega arith);
    refused = λ e. absurd (omega arith);
    unbound = λ e. absurd (omega arith);
    unreadable = λ e. absurd (omega arith);
    failing = λ e. absurd (omega arith);
    io = λ e. inl (inr r);
    nothing = λ h k. absurd (omega arith);
    unwritten = λ e. inl r;
  }

  -- there was no memory
  pub tells_short : StatusTells 7 i i' o o'
  tells_short = record {
    unread = λ e. absurd (omega arith);
    refused = λ e. absurd (omega arith);
    unbound = λ e. absurd (omega arith);
    unreadable = λ e. absurd (omega arith);
    failing = λ e. absurd (omega arith);
    io = λ e. absurd (omega arith);
    nothing = λ h k. absurd (omega arith);
    unwritten = λ e. absurd (omega arith);
  }
