-- What a run has done at each of its ends: other words, the lines written, a write that failed, no memory, and an end before anything is written.
use Rattle.std.proofs.Common.{Err, refl, sym, ap, ◌∙◌, arith, rules}
use Rattle.scan_union_run.proofs.Answering.{end_answers, ready_answers, short_answers}
use Rattle.scan_union_run.proofs.Running.{clash, done_writes, end_below, end_done, end_union, end_words, failed_end, failed_writes, no_end, ready_chunks, ready_done, ready_front, short_writes, still_writes}
use Rattle.scan_union_run.proofs.program.run_union.Goals as goal

pub write_output-requires : goal.write_output-requires
write_output-requires g c = let are = ready_chunks c.in-Ok.out.chunks (g.I.Input.input c.args.input.now) (g.I.Input.input c.take_output.new.input) c.in-Ok.ensures.ok in search (rules, are)

-- ---- other words
pub returns-then-not-is_union-clause-words : goal.returns-then-not-is_union-clause-words
returns-then-not-is_union-clause-words g c = (λ e. sym c.is_union.ensures ∙ c.if-not-is_union.true, λ h. refl)

pub returns-then-not-is_union-clause-unread : goal.returns-then-not-is_union-clause-unread
returns-then-not-is_union-clause-unread g c = λ e. refl

pub returns-then-not-is_union-clause-done : goal.returns-then-not-is_union-clause-done
returns-then-not-is_union-clause-done g c = λ e. absurd (omega arith)

pub returns-then-not-is_union-clause-end : goal.returns-then-not-is_union-clause-end
returns-then-not-is_union-clause-end g c = no_end (g.I.Input.input c.args.input.now) (g.I.Input.input c.args.input.now) (g.O.Output.output c.args.output.now) (g.O.Output.output c.args.output.now) 1 (λ lo hi. omega (arith, lo, hi))

pub returns-then-not-is_union-clause-writes : goal.returns-then-not-is_union-clause-writes
returns-then-not-is_union-clause-writes g c = still_writes 1 (g.I.Input.input c.args.input.now) (g.I.Input.input c.args.input.now) (g.O.Output.output c.args.output.now)

pub returns-then-not-is_union-clause-answers : goal.returns-then-not-is_union-clause-answers
returns-then-not-is_union-clause-answers g c = λ h. clash _ c.is_union.result (sym c.is_union.ensures) h c.if-not-is_union.true

pub returns-then-not-is_union-clause-stops : goal.returns-then-not-is_union-clause-stops
returns-then-not-is_union-clause-stops g c = omega arith

pub returns-then-not-is_union-clause-statuses : goal.returns-then-not-is_union-clause-statuses
returns-then-not-is_union-clause-statuses g c = omega arith

-- ---- the lines were written
pub returns-in-Ok-write_output-clause-words : goal.returns-in-Ok-write_output-clause-words
returns-in-Ok-write_output-clause-words g c = (λ e. absurd (omega arith), λ h. clash c.is_union.result _ c.is_union.ensures c.if-not-is_union.false h)

pub returns-in-Ok-write_output-clause-unread : goal.returns-in-Ok-write_output-clause-unread
returns-in-Ok-write_output-clause-unread g c = λ e. absurd (omega arith)

pub returns-in-Ok-write_output-clause-done : goal.returns-in-Ok-write_output-clause-done
returns-in-Ok-write_output-clause-done g c =
    let i = g.I.Input.input c.args.input.now in
    let i' = g.I.Input.input c.take_output.new.input in
    let o = g.O.Output.output c.args.output.now in
    let o' = g.O.Output.output c.write_output.new.output in
    λ e. ready_done c.in-Ok.out.chunks i i' o o' c.in-Ok.ensures.ok c.in-Ok-write_output.ensures.ok

pub returns-in-Ok-write_output-clause-end : goal.returns-in-Ok-write_output-clause-end
returns-in-Ok-write_output-clause-end g c =
    let i = g.I.Input.input c.args.input.now in
    let i' = g.I.Input.input c.take_output.new.input in
    let o = g.O.Output.output c.args.output.now in
    let o' = g.O.Output.output c.write_output.new.output in
    no_end i i' o o' 0 (λ lo hi. omega (arith, lo, hi))

pub returns-in-Ok-write_output-clause-writes : goal.returns-in-Ok-write_output-clause-writes
returns-in-Ok-write_output-clause-writes g c =
    let i = g.I.Input.input c.args.input.now in
    let i' = g.I.Input.input c.take_output.new.input in
    let o = g.O.Output.output c.args.output.now in
    let o' = g.O.Output.output c.write_output.new.output in
    done_writes i i' o o' (ready_front c.in-Ok.out.chunks i i' o o' c.in-Ok.ensures.ok c.write_output.ensures.front)

pub returns-in-Ok-write_output-clause-answers : goal.returns-in-Ok-write_output-clause-answers
returns-in-Ok-write_output-clause-answers g c =
    let i = g.I.Input.input c.args.input.now in
    let i' = g.I.Input.input c.take_output.new.input in
    let o = g.O.Output.output c.args.output.now in
    let o' = g.O.Output.output c.write_output.new.output in
    λ h bytes w. ready_answers bytes i i' o o' w c.in-Ok.out.chunks c.in-Ok.ensures.ok

pub returns-in-Ok-write_output-clause-stops : goal.returns-in-Ok-write_output-clause-stops
returns-in-Ok-write_output-clause-stops g c = c.take_output.ensures.stops

pub returns-in-Ok-write_output-clause-statuses : goal.returns-in-Ok-write_output-clause-statuses
returns-in-Ok-write_output-clause-statuses g c = omega arith

-- ---- a write failed
pub returns-in-Err-Failed-clause-words : goal.returns-in-Err-Failed-clause-words
returns-in-Err-Failed-clause-words g c = (λ e. absurd (omega arith), λ h. clash c.is_union.result _ c.is_union.ensures c.if-not-is_union.false h)

pub returns-in-Err-Failed-clause-unread : goal.returns-in-Err-Failed-clause-unread
returns-in-Err-Failed-clause-unread g c = λ e. absurd (omega arith)

pub returns-in-Err-Failed-clause-done : goal.returns-in-Err-Failed-clause-done
returns-in-Err-Failed-clause-done g c = λ e. absurd (omega arith)

pub returns-in-Err-Failed-clause-end : goal.returns-in-Err-Failed-clause-end
returns-in-Err-Failed-clause-end g c =
    let i = g.I.Input.input c.args.input.now in
    let i' = g.I.Input.input c.take_output.new.input in
    let o = g.O.Output.output c.args.output.now in
    let o' = g.O.Output.output c.write_output.new.output in
    failed_end i i' o o' (c.in-Err-Failed.ensures.failed (ap Err c.in-Err-Failed.field-0-is))

pub returns-in-Err-Failed-clause-writes : goal.returns-in-Err-Failed-clause-writes
returns-in-Err-Failed-clause-writes g c =
    let i = g.I.Input.input c.args.input.now in
    let i' = g.I.Input.input c.take_output.new.input in
    let o = g.O.Output.output c.args.output.now in
    let o' = g.O.Output.output c.write_output.new.output in
    failed_writes i i' o o' (c.in-Err-Failed.ensures.failed (ap Err c.in-Err-Failed.field-0-is)) (ready_front c.in-Ok.out.chunks i i' o o' c.in-Ok.ensures.ok c.write_output.ensures.front)

pub returns-in-Err-Failed-clause-answers : goal.returns-in-Err-Failed-clause-answers
returns-in-Err-Failed-clause-answers g c = λ h bytes w. absurd (w.written (c.in-Err-Failed.ensures.failed (ap Err c.in-Err-Failed.field-0-is)))

pub returns-in-Err-Failed-clause-stops : goal.returns-in-Err-Failed-clause-stops
returns-in-Err-Failed-clause-stops g c = c.take_output.ensures.stops

pub returns-in-Err-Failed-clause-statuses : goal.returns-in-Err-Failed-clause-statuses
returns-in-Err-Failed-clause-statuses g c = omega arith

-- ---- no memory
pub returns-in-Ok-clause-words : goal.returns-in-Ok-clause-words
returns-in-Ok-clause-words g c = (λ e. absurd (omega arith), λ h. clash c.is_union.result _ c.is_union.ensures c.if-not-is_union.false h)

pub returns-in-Ok-clause-unread : goal.returns-in-Ok-clause-unread
returns-in-Ok-clause-unread g c = λ e. absurd (omega arith)

pub returns-in-Ok-clause-done : goal.returns-in-Ok-clause-done
returns-in-Ok-clause-done g c = λ e. absurd (omega arith)

pub returns-in-Ok-clause-end : goal.returns-in-Ok-clause-end
returns-in-Ok-clause-end g c =
    let i = g.I.Input.input c.args.input.now in
    let i' = g.I.Input.input c.take_output.new.input in
    let o = g.O.Output.output c.args.output.now in
    let o' = g.O.Output.output c.write_output.new.output in
    no_end i i' o o' 7 (λ lo hi. omega (arith, lo, hi))

pub returns-in-Ok-clause-writes : goal.returns-in-Ok-clause-writes
returns-in-Ok-clause-writes g c =
    let i = g.I.Input.input c.args.input.now in
    let i' = g.I.Input.input c.take_output.new.input in
    let o = g.O.Output.output c.args.output.now in
    let o' = g.O.Output.output c.write_output.new.output in
    short_writes i i' o o' (ready_front c.in-Ok.out.chunks i i' o o' c.in-Ok.ensures.ok c.write_output.ensures.front)

pub returns-in-Ok-clause-answers : goal.returns-in-Ok-clause-answers
returns-in-Ok-clause-answers g c = λ h bytes w. short_answers bytes

pub returns-in-Ok-clause-stops : goal.returns-in-Ok-clause-stops
returns-in-Ok-clause-stops g c = c.take_output.ensures.stops

pub returns-in-Ok-clause-statuses : goal.returns-in-Ok-clause-statuses
returns-in-Ok-clause-statuses g c = omega arith

-- ---- an end before anything is written
pub returns-clause-words : goal.returns-clause-words
returns-clause-words g c = (λ e. absurd (end_words c.in-Err.status (g.I.Input.input c.args.input.now) (g.I.Input.input c.take_output.new.input) c.in-Err.ensures.end e), λ h. clash c.is_union.result _ c.is_union.ensures c.if-not-is_union.false h)

pub returns-clause-unread : goal.returns-clause-unread
returns-clause-unread g c = λ e. absurd (end_words c.in-Err.status (g.I.Input.input c.args.input.now) (g.I.Input.input c.take_output.new.input) c.in-Err.ensures.end e)

pub returns-clause-done : goal.returns-clause-done
returns-clause-done g c = λ e. absurd (end_done c.in-Err.status (g.I.Input.input c.args.input.now) (g.I.Input.input c.take_output.new.input) c.in-Err.ensures.end e)

pub returns-clause-end : goal.returns-clause-end
returns-clause-end g c = end_union c.in-Err.status (g.I.Input.input c.args.input.now) (g.I.Input.input c.take_output.new.input) (g.O.Output.output c.args.output.now) (g.O.Output.output c.args.output.now) c.in-Err.ensures.end

pub returns-clause-writes : goal.returns-clause-writes
returns-clause-writes g c = still_writes c.in-Err.status (g.I.Input.input c.args.input.now) (g.I.Input.input c.take_output.new.input) (g.O.Output.output c.args.output.now)

pub returns-clause-answers : goal.returns-clause-answers
returns-clause-answers g c = λ h bytes w. end_answers bytes (g.I.Input.input c.args.input.now) (g.I.Input.input c.take_output.new.input) (g.O.Output.output c.args.output.now) (g.O.Output.output c.args.output.now) w c.in-Err.status c.in-Err.ensures.end

pub returns-clause-stops : goal.returns-clause-stops
returns-clause-stops g c = c.take_output.ensures.stops

pub returns-clause-statuses : goal.returns-clause-statuses
returns-clause-statuses g c = end_below c.in-Err.status (g.I.Input.input c.args.input.now) (g.I.Input.input c.take_output.new.input) c.in-Err.ensures.end
