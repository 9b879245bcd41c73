use Rattle.std.proofs.Common.{◌≡◌, arith, sym, ap, ◌∙◌, true, false}
use Rattle.std.specs.Prelude.{bytes_eq}
use Rattle.std.specs.Fmt.{decimal}
use Rattle.std.proofs.lemmas.Slice.Eq.{bytes_eq-Decides}
use Rattle.scan_run.proofs.Wording.{is_read, same_rows}
use Rattle.scan_run.proofs.generate.words.rows_in.Goals as goal

pub returns-in_default-clause-none : goal.returns-in_default-clause-none
returns-in_default-clause-none c = λ e n h. c.in_default.not-Ok n (is_read c.args.word.now c.parse.result n c.parse.ensures.value.0 h)

pub returns-then-rows-lt1-clause-none : goal.returns-then-rows-lt1-clause-none
returns-then-rows-lt1-clause-none c = λ e n h.
    let f = same_rows c.args.word.now c.parse.result c.in-Ok.rows n c.parse.ensures.value.0 c.in-Ok.is h in
    omega (arith, f, h.some, c.if-rows-lt1.true)

pub returns-then-rows-gt-MOST_ROWS-clause-none : goal.returns-then-rows-gt-MOST_ROWS-clause-none
returns-then-rows-gt-MOST_ROWS-clause-none c = λ e n h.
    let f = same_rows c.args.word.now c.parse.result c.in-Ok.rows n c.parse.ensures.value.0 c.in-Ok.is h in
    omega (arith, f, h.most, c.if-rows-gt-MOST_ROWS.true)

pub returns-else-is_decimal-clause-none : goal.returns-else-is_decimal-clause-none
returns-else-is_decimal-clause-none c = λ e n h.
    let f = same_rows c.args.word.now c.parse.result c.in-Ok.rows n c.parse.ensures.value.0 c.in-Ok.is h in
    let same : bytes_eq c.args.word.now (decimal c.in-Ok.rows) ≡ true = (bytes_eq-Decides c.args.word.now (decimal c.in-Ok.rows)).1 (h.is ∙ ap decimal f) in
    let other : bytes_eq c.args.word.now (decimal c.in-Ok.rows) ≡ false = sym c.is_decimal.ensures ∙ c.if-is_decimal.false in
    cc
