-- What a run has done at each of its ends: words that are not `scan`, the lines written, a write that failed, no memory, and an end before anything is written.
use Rattle.std.proofs.Common.{Err, refl, sym, ap, ◌∙◌, inl, arith, rules}
use Rattle.scan_run.specs.Io.{OutputFailed}
use Rattle.scan_run.proofs.Running.{end_done, end_words, end_below, ready_done, ready_front, ready_chunks}
use Rattle.scan_run.proofs.Ending.{tells_other, tells_end, tells_done, tells_failed, tells_short}
use Rattle.scan_run.proofs.Generating.{clash, other}
use Rattle.scan_run.proofs.Sures.{answers_of}
use Rattle.scan_run.proofs.run.run.Goals as goal

pub write_output-requires : goal.write_output-requires
write_output-requires g c = let are = ready_chunks c.in-Ok.out.chunks (g.I.Input.input c.args.input.now) (g.I.Input.input c.take_output.new.input) c.in-Ok.ensures.ok in search (rules, are)

-- ---- words that are not `scan`
pub returns-then-not-is_scan-clause-scan : goal.returns-then-not-is_scan-clause-scan
returns-then-not-is_scan-clause-scan g c = λ s. clash _ c.is_scan.result (sym c.is_scan.ensures) s c.if-not-is_scan.true

pub returns-then-not-is_scan-clause-other : goal.returns-then-not-is_scan-clause-other
returns-then-not-is_scan-clause-other g c = λ s. record { generated = c.run_generated.ensures.done; untouched = refl; ends = c.run_generated.ensures.ends; front_of_line = c.run_generated.ensures.front }

pub returns-then-not-is_scan-clause-words : goal.returns-then-not-is_scan-clause-words
returns-then-not-is_scan-clause-words g c = (λ e. (sym c.is_scan.ensures ∙ c.if-not-is_scan.true, c.run_generated.ensures.words.0 e), λ h. c.run_generated.ensures.words.1 h.1)

pub returns-then-not-is_scan-clause-status : goal.returns-then-not-is_scan-clause-status
returns-then-not-is_scan-clause-status g c =
    tells_other c.run_generated.result (g.I.Input.input c.args.input.now) (g.O.Output.output c.args.output.now) (g.O.Output.output c.run_generated.new.output) c.run_generated.ensures.ends c.run_generated.ensures.io c.run_generated.ensures.nothing

pub returns-then-not-is_scan-clause-stops : goal.returns-then-not-is_scan-clause-stops
returns-then-not-is_scan-clause-stops g c = omega arith

pub returns-then-not-is_scan-clause-statuses : goal.returns-then-not-is_scan-clause-statuses
returns-then-not-is_scan-clause-statuses g c = (other c.run_generated.result c.run_generated.ensures.ends).4

-- ---- the lines were written
pub returns-in-Ok-write_output-clause-scan : goal.returns-in-Ok-write_output-clause-scan
returns-in-Ok-write_output-clause-scan g c =
    let i = g.I.Input.input c.args.input.now in
    let i' = g.I.Input.input c.take_output.new.input in
    let o = g.O.Output.output c.args.output.now in
    let o' = g.O.Output.output c.write_output.new.output in
    let done = ready_done c.in-Ok.out.chunks i i' o o' c.in-Ok.ensures.ok c.in-Ok-write_output.ensures.ok in
    λ s. record {
      done = λ e. done;
      answers = λ bytes on. answers_of bytes i i' o o' on 0 (tells_done i i' o o') (λ e. done) (λ e. omega arith) (omega arith);
      front = ready_front c.in-Ok.out.chunks i i' o o' c.in-Ok.ensures.ok c.write_output.ensures.front;
    }

pub returns-in-Ok-write_output-clause-other : goal.returns-in-Ok-write_output-clause-other
returns-in-Ok-write_output-clause-other g c = λ s. clash c.is_scan.result _ c.is_scan.ensures c.if-not-is_scan.false s

pub returns-in-Ok-write_output-clause-words : goal.returns-in-Ok-write_output-clause-words
returns-in-Ok-write_output-clause-words g c = (λ e. absurd (omega arith), λ h. clash c.is_scan.result _ c.is_scan.ensures c.if-not-is_scan.false h.0)

pub returns-in-Ok-write_output-clause-status : goal.returns-in-Ok-write_output-clause-status
returns-in-Ok-write_output-clause-status g c = tells_done _ _ _ _

pub returns-in-Ok-write_output-clause-stops : goal.returns-in-Ok-write_output-clause-stops
returns-in-Ok-write_output-clause-stops g c = c.take_output.ensures.stops

pub returns-in-Ok-write_output-clause-statuses : goal.returns-in-Ok-write_output-clause-statuses
returns-in-Ok-write_output-clause-statuses g c = omega arith

-- ---- a write failed
pub returns-in-Err-Failed-clause-scan : goal.returns-in-Err-Failed-clause-scan
returns-in-Err-Failed-clause-scan g c =
    let i = g.I.Input.input c.args.input.now in
    let i' = g.I.Input.input c.take_output.new.input in
    let o = g.O.Output.output c.args.output.now in
    let o' = g.O.Output.output c.write_output.new.output in
    let failed : OutputFailed o o' = (c.in-Err-Failed.ensures.failed (ap Err c.in-Err-Failed.field-0-is), c.in-Err-Failed.ensures.able (ap Err c.in-Err-Failed.field-0-is)) in
    λ s. record {
      done = λ e. absurd (omega arith);
      answers = λ bytes on. answers_of bytes i i' o o' on 6 (tells_failed i i' o o' failed) (λ e. absurd (omega arith)) (λ e. omega arith) (omega arith);
      front = ready_front c.in-Ok.out.chunks i i' o o' c.in-Ok.ensures.ok c.write_output.ensures.front;
    }

pub returns-in-Err-Failed-clause-other : goal.returns-in-Err-Failed-clause-other
returns-in-Err-Failed-clause-other g c = λ s. clash c.is_scan.result _ c.is_scan.ensures c.if-not-is_scan.false s

pub returns-in-Err-Failed-clause-words : goal.returns-in-Err-Failed-clause-words
returns-in-Err-Failed-clause-words g c = (λ e. absurd (omega arith), λ h. clash c.is_scan.result _ c.is_scan.ensures c.if-not-is_scan.false h.0)

pub returns-in-Err-Failed-clause-status : goal.returns-in-Err-Failed-clause-status
returns-in-Err-Failed-clause-status g c = tells_failed _ _ _ _ (c.in-Err-Failed.ensures.failed (ap Err c.in-Err-Failed.field-0-is), c.in-Err-Failed.ensures.able (ap Err c.in-Err-Failed.field-0-is))

pub returns-in-Err-Failed-clause-stops : goal.returns-in-Err-Failed-clause-stops
returns-in-Err-Failed-clause-stops g c = c.take_output.ensures.stops

pub returns-in-Err-Failed-clause-statuses : goal.returns-in-Err-Failed-clause-statuses
returns-in-Err-Failed-clause-statuses g c = omega arith

-- ---- no memory
pub returns-in-Ok-clause-scan : goal.returns-in-Ok-clause-scan
returns-in-Ok-clause-scan g c =
    let i = g.I.Input.input c.args.input.now in
    let i' = g.I.Input.input c.take_output.new.input in
    let o = g.O.Output.output c.args.output.now in
    let o' = g.O.Output.output c.write_output.new.output in
    λ s. record {
      done = λ e. absurd (omega arith);
      answers = λ bytes on. answers_of bytes i i' o o' on 7 (tells_short i i' o o') (λ e. absurd (omega arith)) (λ e. omega arith) (omega arith);
      front = ready_front c.in-Ok.out.chunks i i' o o' c.in-Ok.ensures.ok c.write_output.ensures.front;
    }

pub returns-in-Ok-clause-other : goal.returns-in-Ok-clause-other
returns-in-Ok-clause-other g c = λ s. clash c.is_scan.result _ c.is_scan.ensures c.if-not-is_scan.false s

pub returns-in-Ok-clause-words : goal.returns-in-Ok-clause-words
returns-in-Ok-clause-words g c = (λ e. absurd (omega arith), λ h. clash c.is_scan.result _ c.is_scan.ensures c.if-not-is_scan.false h.0)

pub returns-in-Ok-clause-status : goal.returns-in-Ok-clause-status
returns-in-Ok-clause-status g c = tells_short _ _ _ _

pub returns-in-Ok-clause-stops : goal.returns-in-Ok-clause-stops
returns-in-Ok-clause-stops g c = c.take_output.ensures.stops

pub returns-in-Ok-clause-statuses : goal.returns-in-Ok-clause-statuses
returns-in-Ok-clause-statuses g c = omega arith

-- ---- an end before anything is written
pub returns-clause-scan : goal.returns-clause-scan
returns-clause-scan g c =
    let i = g.I.Input.input c.args.input.now in
    let i' = g.I.Input.input c.take_output.new.input in
    let o = g.O.Output.output c.args.output.now in
    let end = c.in-Err.ensures.end in
    λ s. record {
      done = λ e. absurd (end_done c.in-Err.status i i' end e);
      answers = λ bytes on. answers_of bytes i i' o o on c.in-Err.status (tells_end c.in-Err.status i i' o end) (λ e. absurd (end_done c.in-Err.status i i' end e)) (end_words c.in-Err.status i i' end) (end_below c.in-Err.status i i' end);
      front = inl refl;
    }

pub returns-clause-other : goal.returns-clause-other
returns-clause-other g c = λ s. clash c.is_scan.result _ c.is_scan.ensures c.if-not-is_scan.false s

pub returns-clause-words : goal.returns-clause-words
returns-clause-words g c =
    (λ e. absurd (end_words c.in-Err.status (g.I.Input.input c.args.input.now) (g.I.Input.input c.take_output.new.input) c.in-Err.ensures.end e), λ h. clash c.is_scan.result _ c.is_scan.ensures c.if-not-is_scan.false h.0)

pub returns-clause-status : goal.returns-clause-status
returns-clause-status g c = tells_end c.in-Err.status (g.I.Input.input c.args.input.now) (g.I.Input.input c.take_output.new.input) (g.O.Output.output c.args.output.now) c.in-Err.ensures.end

pub returns-clause-stops : goal.returns-clause-stops
returns-clause-stops g c = c.take_output.ensures.stops

pub returns-clause-statuses : goal.returns-clause-statuses
returns-clause-statuses g c = end_below c.in-Err.status (g.I.Input.input c.args.input.now) (g.I.Input.input c.take_output.new.input) c.in-Err.ensures.end
