-- What a writer of lines does.
use Rattle.std.specs.Prelude.{◌≡◌, List, ℕ, ◌++◌, true, Result, Err, OnOk, OnErr, option_map}
use Rattle.scan_segments.specs.Faults.{Rose}
use Rattle.scan_run.specs.Io.{OutputState}
use Rattle.scan_run.specs.WriteAll.{WroteFront, Sends}
use Rattle.scan_run.specs.declared.output.WriteFault.{WriteFault}
use Rattle.scan_run.specs.declared.output.WriteFault.TheVariants.{Failed}

-- a text was made behind what a piece kept
pub record Writes (text kept left : List ℕ) (old new : OutputState) (result : Result (Unit {0}) WriteFault) : Type 0 where
  -- all of both was sent, or is kept
  pub ok : OnOk result (Sends text kept left old new)
  -- after a fault a front of both was written
  pub err : OnErr result (WroteFront (kept ++ text) old new)
  -- `Failed` comes only where the output's count of faults rose, of one that may fail
  pub failed : result ≡ Err Failed → Rose old.faults new.faults
  pub able : result ≡ Err Failed → old.can_fail ≡ true

-- a text was written
pub record WritesAll (text : List ℕ) (old new : OutputState) (result : Result (Unit {0}) WriteFault) : Type 0 where
  -- a front of it, whatever the answer
  pub front : WroteFront text old new
  -- the whole of it
  pub ok : OnOk result (new.written ≡ option_map (λ before. before ++ text) old.written)
  -- `Failed` comes only where the output's count of faults rose, of one that may fail
  pub failed : result ≡ Err Failed → Rose old.faults new.faults
  pub able : result ≡ Err Failed → old.can_fail ≡ true
