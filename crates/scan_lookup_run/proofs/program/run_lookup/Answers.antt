-- What a run has done at each of its ends: other words, the lines written, a write that failed, no memory, and an end before anything is written.
use Rattle.std.proofs.Common.{Err, refl, sym, ap, ◌∙◌, arith}
use Rattle.scan_lookup_run.proofs.Answering.{end_answers, ready_answers, short_answers}
use Rattle.scan_lookup_run.proofs.Running.{clash, done_writes, end_below, end_done, end_lookup, end_words, failed_end, failed_writes, no_end, ready_done, ready_front, short_writes, still_writes}
use Rattle.scan_lookup_run.proofs.program.run_lookup.Goals as goal

pub returns-then-not-is_lookup-clause-words : goal.returns-then-not-is_lookup-clause-words
returns-then-not-is_lookup-clause-words g c = (λ e. sym c.is_lookup.ensures ∙ c.if-not-is_lookup.true, λ h. refl)

pub returns-then-not-is_lookup-clause-unread : goal.returns-then-not-is_lookup-clause-unread
returns-then-not-is_lookup-clause-unread g c = λ e. refl

pub returns-then-not-is_lookup-clause-done : goal.returns-then-not-is_lookup-clause-done
returns-then-not-is_lookup-clause-done g c = λ e. absurd (omega arith)

pub returns-then-not-is_lookup-clause-end : goal.returns-then-not-is_lookup-clause-end
returns-then-not-is_lookup-clause-end g c = no_end (g.I.Input.input c.args.input.now) (g.I.Input.input c.args.input.now) (g.O.Output.output c.args.output.now) (g.O.Output.output c.args.output.now) 1 (λ lo hi. omega (arith, lo, hi))

pub returns-then-not-is_lookup-clause-writes : goal.returns-then-not-is_lookup-clause-writes
returns-then-not-is_lookup-clause-writes g c = still_writes 1 (g.I.Input.input c.args.input.now) (g.I.Input.input c.args.input.now) (g.O.Output.output c.args.output.now)

pub returns-then-not-is_lookup-clause-answers : goal.returns-then-not-is_lookup-clause-answers
returns-then-not-is_lookup-clause-answers g c = λ h. clash _ c.is_lookup.result (sym c.is_lookup.ensures) h c.if-not-is_lookup.true

pub returns-then-not-is_lookup-clause-stops : goal.returns-then-not-is_lookup-clause-stops
returns-then-not-is_lookup-clause-stops g c = omega arith

pub returns-then-not-is_lookup-clause-statuses : goal.returns-then-not-is_lookup-clause-statuses
returns-then-not-is_lookup-clause-statuses g c = omega arith

pub returns-in-Ok-write_all-clause-words : goal.returns-in-Ok-write_all-clause-words
returns-in-Ok-write_all-clause-words g c = (λ e. absurd (omega arith), λ h. clash c.is_lookup.result _ c.is_lookup.ensures c.if-not-is_lookup.false h)

pub returns-in-Ok-write_all-clause-unread : goal.returns-in-Ok-write_all-clause-unread
returns-in-Ok-write_all-clause-unread g c = λ e. absurd (omega arith)

pub returns-in-Ok-write_all-clause-done : goal.returns-in-Ok-write_all-clause-done
returns-in-Ok-write_all-clause-done g c =
    let input = (g.I.Input.input c.args.input.now) in
    let input' = (g.I.Input.input c.take_text.new.input) in
    let output = (g.O.Output.output c.args.output.now) in
    let output' = (g.O.Output.output c.write_all.new.output) in
    λ e. ready_done c.in-Ok.text.items c.as_slice.result.now input input' output output' c.as_slice.ensures.value c.in-Ok.ensures.ok c.in-Ok-write_all.ensures.ok

pub returns-in-Ok-write_all-clause-end : goal.returns-in-Ok-write_all-clause-end
returns-in-Ok-write_all-clause-end g c = no_end (g.I.Input.input c.args.input.now) (g.I.Input.input c.take_text.new.input) (g.O.Output.output c.args.output.now) (g.O.Output.output c.write_all.new.output) 0 (λ lo hi. omega (arith, lo, hi))

pub returns-in-Ok-write_all-clause-writes : goal.returns-in-Ok-write_all-clause-writes
returns-in-Ok-write_all-clause-writes g c =
    let input = (g.I.Input.input c.args.input.now) in
    let input' = (g.I.Input.input c.take_text.new.input) in
    let output = (g.O.Output.output c.args.output.now) in
    let output' = (g.O.Output.output c.write_all.new.output) in
    done_writes input input' output output' (ready_front c.in-Ok.text.items c.as_slice.result.now input input' output output' c.as_slice.ensures.value c.in-Ok.ensures.ok c.write_all.ensures.front)

pub returns-in-Ok-write_all-clause-answers : goal.returns-in-Ok-write_all-clause-answers
returns-in-Ok-write_all-clause-answers g c = λ h bytes w. ready_answers bytes (g.I.Input.input c.args.input.now) (g.I.Input.input c.take_text.new.input) (g.O.Output.output c.args.output.now) (g.O.Output.output c.write_all.new.output) w c.in-Ok.text.items c.in-Ok.ensures.ok

pub returns-in-Ok-write_all-clause-stops : goal.returns-in-Ok-write_all-clause-stops
returns-in-Ok-write_all-clause-stops g c = c.take_text.ensures.stops

pub returns-in-Ok-write_all-clause-statuses : goal.returns-in-Ok-write_all-clause-statuses
returns-in-Ok-write_all-clause-statuses g c = omega arith

pub returns-in-Err-Failed-clause-words : goal.returns-in-Err-Failed-clause-words
returns-in-Err-Failed-clause-words g c = (λ e. absurd (omega arith), λ h. clash c.is_lookup.result _ c.is_lookup.ensures c.if-not-is_lookup.false h)

pub returns-in-Err-Failed-clause-unread : goal.returns-in-Err-Failed-clause-unread
returns-in-Err-Failed-clause-unread g c = λ e. absurd (omega arith)

pub returns-in-Err-Failed-clause-done : goal.returns-in-Err-Failed-clause-done
returns-in-Err-Failed-clause-done g c = λ e. absurd (omega arith)

pub returns-in-Err-Failed-clause-end : goal.returns-in-Err-Failed-clause-end
returns-in-Err-Failed-clause-end g c = failed_end (g.I.Input.input c.args.input.now) (g.I.Input.input c.take_text.new.input) (g.O.Output.output c.args.output.now) (g.O.Output.output c.write_all.new.output) (c.in-Err-Failed.ensures.failed (ap Err c.in-Err-Failed.field-0-is))

pub returns-in-Err-Failed-clause-writes : goal.returns-in-Err-Failed-clause-writes
returns-in-Err-Failed-clause-writes g c =
    let input = (g.I.Input.input c.args.input.now) in
    let input' = (g.I.Input.input c.take_text.new.input) in
    let output = (g.O.Output.output c.args.output.now) in
    let output' = (g.O.Output.output c.write_all.new.output) in
    failed_writes input input' output output' (c.in-Err-Failed.ensures.failed (ap Err c.in-Err-Failed.field-0-is)) (ready_front c.in-Ok.text.items c.as_slice.result.now input input' output output' c.as_slice.ensures.value c.in-Ok.ensures.ok c.write_all.ensures.front)

pub returns-in-Err-Failed-clause-answers : goal.returns-in-Err-Failed-clause-answers
returns-in-Err-Failed-clause-answers g c = λ h bytes w. absurd (w.written (c.in-Err-Failed.ensures.failed (ap Err c.in-Err-Failed.field-0-is)))

pub returns-in-Err-Failed-clause-stops : goal.returns-in-Err-Failed-clause-stops
returns-in-Err-Failed-clause-stops g c = c.take_text.ensures.stops

pub returns-in-Err-Failed-clause-statuses : goal.returns-in-Err-Failed-clause-statuses
returns-in-Err-Failed-clause-statuses g c = omega arith

pub returns-in-Ok-clause-words : goal.returns-in-Ok-clause-words
returns-in-Ok-clause-words g c = (λ e. absurd (omega arith), λ h. clash c.is_lookup.result _ c.is_lookup.ensures c.if-not-is_lookup.false h)

pub returns-in-Ok-clause-unread : goal.returns-in-Ok-clause-unread
returns-in-Ok-clause-unread g c = λ e. absurd (omega arith)

pub returns-in-Ok-clause-done : goal.returns-in-Ok-clause-done
returns-in-Ok-clause-done g c = λ e. absurd (omega arith)

pub returns-in-Ok-clause-end : goal.returns-in-Ok-clause-end
returns-in-Ok-clause-end g c = no_end (g.I.Input.input c.args.input.now) (g.I.Input.input c.take_text.new.input) (g.O.Output.output c.args.output.now) (g.O.Output.output c.write_all.new.output) 7 (λ lo hi. omega (arith, lo, hi))

pub returns-in-Ok-clause-writes : goal.returns-in-Ok-clause-writes
returns-in-Ok-clause-writes g c =
    let input = (g.I.Input.input c.args.input.now) in
    let input' = (g.I.Input.input c.take_text.new.input) in
    let output = (g.O.Output.output c.args.output.now) in
    let output' = (g.O.Output.output c.write_all.new.output) in
    short_writes input input' output output' (c.in-Err-NoMemory.ensures.memory (ap Err c.in-Err-NoMemory.field-0-is)) (ready_front c.in-Ok.text.items c.as_slice.result.now input input' output output' c.as_slice.ensures.value c.in-Ok.ensures.ok c.write_all.ensures.front)

pub returns-in-Ok-clause-answers : goal.returns-in-Ok-clause-answers
returns-in-Ok-clause-answers g c = λ h bytes w. short_answers bytes

pub returns-in-Ok-clause-stops : goal.returns-in-Ok-clause-stops
returns-in-Ok-clause-stops g c = c.take_text.ensures.stops

pub returns-in-Ok-clause-statuses : goal.returns-in-Ok-clause-statuses
returns-in-Ok-clause-statuses g c = omega arith

pub returns-clause-words : goal.returns-clause-words
returns-clause-words g c = (λ e. absurd (end_words c.in-Err.status (g.I.Input.input c.args.input.now) (g.I.Input.input c.take_text.new.input) c.in-Err.ensures.end e), λ h. clash c.is_lookup.result _ c.is_lookup.ensures c.if-not-is_lookup.false h)

pub returns-clause-unread : goal.returns-clause-unread
returns-clause-unread g c = λ e. absurd (end_words c.in-Err.status (g.I.Input.input c.args.input.now) (g.I.Input.input c.take_text.new.input) c.in-Err.ensures.end e)

pub returns-clause-done : goal.returns-clause-done
returns-clause-done g c = λ e. absurd (end_done c.in-Err.status (g.I.Input.input c.args.input.now) (g.I.Input.input c.take_text.new.input) c.in-Err.ensures.end e)

pub returns-clause-end : goal.returns-clause-end
returns-clause-end g c = end_lookup c.in-Err.status (g.I.Input.input c.args.input.now) (g.I.Input.input c.take_text.new.input) (g.O.Output.output c.args.output.now) (g.O.Output.output c.args.output.now) c.in-Err.ensures.end

pub returns-clause-writes : goal.returns-clause-writes
returns-clause-writes g c = still_writes c.in-Err.status (g.I.Input.input c.args.input.now) (g.I.Input.input c.take_text.new.input) (g.O.Output.output c.args.output.now)

pub returns-clause-answers : goal.returns-clause-answers
returns-clause-answers g c = λ h bytes w. end_answers bytes (g.I.Input.input c.args.input.now) (g.I.Input.input c.take_text.new.input) (g.O.Output.output c.args.output.now) (g.O.Output.output c.args.output.now) w c.in-Err.status c.in-Err.ensures.end

pub returns-clause-stops : goal.returns-clause-stops
returns-clause-stops g c = c.take_text.ensures.stops

pub returns-clause-statuses : goal.returns-clause-statuses
returns-clause-statuses g c = end_below c.in-Err.status (g.I.Input.input c.args.input.now) (g.I.Input.input c.take_text.new.input) c.in-Err.ensures.end
