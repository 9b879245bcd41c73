-- What a run over generated files has done at each of its ends: words that ask for nothing, the line written, a write that failed, and no memory.
use Rattle.std.proofs.Common.{Err, refl, ap, inl, inr, map, arith}
use Rattle.std.specs.Prelude.{string_bytes}
use Rattle.scan_run.proofs.Generating.{none_of, rows_most, line_written, line_begun}
use Rattle.scan_run.proofs.run.run_generated.Goals as goal

pub returns-in_default-clause-done : goal.returns-in_default-clause-done
returns-in_default-clause-done g c = λ e. absurd (omega arith)

pub returns-in_default-clause-words : goal.returns-in_default-clause-words
returns-in_default-clause-words g c = (λ e. c.generated_of.ensures.none (none_of c.generated_of.result c.in_default.not-Some), λ h. refl)

pub returns-in_default-clause-io : goal.returns-in_default-clause-io
returns-in_default-clause-io g c = λ e. absurd (omega arith)

pub returns-in_default-clause-nothing : goal.returns-in_default-clause-nothing
returns-in_default-clause-nothing g c = λ e. refl

pub returns-in_default-clause-front : goal.returns-in_default-clause-front
returns-in_default-clause-front g c = inl refl

pub returns-in_default-clause-ends : goal.returns-in_default-clause-ends
returns-in_default-clause-ends g c = inr (inl refl)

pub generated_text-requires-after_bounds : goal.generated_text-requires-after_bounds
generated_text-requires-after_bounds g c κs within = (rows_most _ c.in-Some.rows c.in-Some.spelling c.in-Some.ensures.some)

pub returns-in-Ok-write_all-clause-done : goal.returns-in-Ok-write_all-clause-done
returns-in-Ok-write_all-clause-done g c = λ e. line_written (map string_bytes c.args.words.now) c.in-Some.rows c.in-Some.spelling c.in-Ok.text.items c.as_slice.result.now
    (g.O.Output.output c.args.output.now) (g.O.Output.output c.write_all.new.output) c.as_slice.ensures.value c.in-Some.ensures.some c.in-Ok.ensures c.in-Ok-write_all.ensures.ok

pub returns-in-Ok-write_all-clause-words : goal.returns-in-Ok-write_all-clause-words
returns-in-Ok-write_all-clause-words g c = (λ e. absurd (omega arith), λ h. absurd (h c.in-Some.rows c.in-Some.spelling c.in-Some.ensures.some))

pub returns-in-Ok-write_all-clause-io : goal.returns-in-Ok-write_all-clause-io
returns-in-Ok-write_all-clause-io g c = λ e. absurd (omega arith)

pub returns-in-Ok-write_all-clause-nothing : goal.returns-in-Ok-write_all-clause-nothing
returns-in-Ok-write_all-clause-nothing g c = λ e. absurd (omega arith)

pub returns-in-Ok-write_all-clause-front : goal.returns-in-Ok-write_all-clause-front
returns-in-Ok-write_all-clause-front g c = line_begun (map string_bytes c.args.words.now) c.in-Some.rows c.in-Some.spelling c.in-Ok.text.items c.as_slice.result.now
    (g.O.Output.output c.args.output.now) (g.O.Output.output c.write_all.new.output) c.as_slice.ensures.value c.in-Some.ensures.some c.in-Ok.ensures c.write_all.ensures.front

pub returns-in-Ok-write_all-clause-ends : goal.returns-in-Ok-write_all-clause-ends
returns-in-Ok-write_all-clause-ends g c = inl refl

pub returns-in-Err-Failed-clause-done : goal.returns-in-Err-Failed-clause-done
returns-in-Err-Failed-clause-done g c = λ e. absurd (omega arith)

pub returns-in-Err-Failed-clause-words : goal.returns-in-Err-Failed-clause-words
returns-in-Err-Failed-clause-words g c = (λ e. absurd (omega arith), λ h. absurd (h c.in-Some.rows c.in-Some.spelling c.in-Some.ensures.some))

pub returns-in-Err-Failed-clause-io : goal.returns-in-Err-Failed-clause-io
returns-in-Err-Failed-clause-io g c = λ e. (c.in-Err-Failed.ensures.failed (ap Err c.in-Err-Failed.field-0-is), c.in-Err-Failed.ensures.able (ap Err c.in-Err-Failed.field-0-is))

pub returns-in-Err-Failed-clause-nothing : goal.returns-in-Err-Failed-clause-nothing
returns-in-Err-Failed-clause-nothing g c = λ e. absurd (omega arith)

pub returns-in-Err-Failed-clause-front : goal.returns-in-Err-Failed-clause-front
returns-in-Err-Failed-clause-front g c = line_begun (map string_bytes c.args.words.now) c.in-Some.rows c.in-Some.spelling c.in-Ok.text.items c.as_slice.result.now (g.O.Output.output c.args.output.now)
    (g.O.Output.output c.write_all.new.output) c.as_slice.ensures.value c.in-Some.ensures.some c.in-Ok.ensures c.write_all.ensures.front

pub returns-in-Err-Failed-clause-ends : goal.returns-in-Err-Failed-clause-ends
returns-in-Err-Failed-clause-ends g c = inr (inr (inl refl))

pub returns-in-Ok-clause-done : goal.returns-in-Ok-clause-done
returns-in-Ok-clause-done g c = λ e. absurd (omega arith)

pub returns-in-Ok-clause-words : goal.returns-in-Ok-clause-words
returns-in-Ok-clause-words g c = (λ e. absurd (omega arith), λ h. absurd (h c.in-Some.rows c.in-Some.spelling c.in-Some.ensures.some))

pub returns-in-Ok-clause-io : goal.returns-in-Ok-clause-io
returns-in-Ok-clause-io g c = λ e. absurd (omega arith)

pub returns-in-Ok-clause-nothing : goal.returns-in-Ok-clause-nothing
returns-in-Ok-clause-nothing g c = λ e. absurd (omega arith)

pub returns-in-Ok-clause-front : goal.returns-in-Ok-clause-front
returns-in-Ok-clause-front g c = line_begun (map string_bytes c.args.words.now) c.in-Some.rows c.in-Some.spelling c.in-Ok.text.items c.as_slice.result.now (g.O.Output.output c.args.output.now)
    (g.O.Output.output c.write_all.new.output) c.as_slice.ensures.value c.in-Some.ensures.some c.in-Ok.ensures c.write_all.ensures.front

pub returns-in-Ok-clause-ends : goal.returns-in-Ok-clause-ends
returns-in-Ok-clause-ends g c = inr (inr (inr refl))

pub returns-clause-done : goal.returns-clause-done
returns-clause-done g c = λ e. absurd (omega arith)

pub returns-clause-words : goal.returns-clause-words
returns-clause-words g c = (λ e. absurd (omega arith), λ h. absurd (h c.in-Some.rows c.in-Some.spelling c.in-Some.ensures.some))

pub returns-clause-io : goal.returns-clause-io
returns-clause-io g c = λ e. absurd (omega arith)

pub returns-clause-nothing : goal.returns-clause-nothing
returns-clause-nothing g c = λ e. absurd (omega arith)

pub returns-clause-front : goal.returns-clause-front
returns-clause-front g c = inl refl

pub returns-clause-ends : goal.returns-clause-ends
returns-clause-ends g c = inr (inr (inr refl))
