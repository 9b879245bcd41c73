use Rattle.std.proofs.Common.{◌≡◌, ◌++◌, length, take, Some, List, ℕ, sym, ap, ◌∙◌, arith, rules}
use Rattle.std.proofs.Math.Nat.{le_refl}
use Rattle.scan_run.specs.Io.{OutputState}
use Rattle.scan_segments.specs.Script.{ScriptState, has_number}
use Rattle.scan_run.specs.Memory.{memory_output}
use Rattle.scan_run.proofs.MemoryPieces.{took_all, taken_by}
use Rattle.scan_run.proofs.memory_output.MemoryOutputOutput.write_some.Goals as goal

pub returns-in-Ok : goal.returns-in-Ok
returns-in-Ok c =
    let all : c.extend_from_slice.new.self.items ≡ c.args.self.now.bytes.items ++ take (length c.args.bytes.now) c.args.bytes.now = c.in-Ok.ensures.items ∙ took_all c.args.self.now.bytes.items c.args.bytes.now in
    record {
      written = record { some = c.requires; fits = le_refl _; written = ap Some all; faults = le_refl _; short = le_refl _; can_fail = ap (λ (z : ScriptState). has_number z.failing) c.step.ensures.after };
      answer = taken_by _ _ (λ e. c.in_default.not-Fails (c.step.ensures.outcome ∙ e));
      script = c.step.ensures.after;
      after = λ i. memory_output (all i) (c.step.ensures.after i) c.args.self.now.faults c.args.self.now.short;
    }
