use Rattle.std.proofs.Common.{◌≡◌, ◌<◌, ℕ, List, ◌∙◌, ap, subst, sym, length, get_or, is_some, true}
use Rattle.scan_values.specs.Val.{Val}
use Rattle.scan_values.specs.declared.dtype.DTypeKind.TheVariants as kinds
use Rattle.scan_spelling.specs.Spelling.{cells, under_flag, content}
use Rattle.scan_spelling.specs.LeafColumns.{or_none}
use Rattle.scan_spelling.specs.TextColumns.{row_flags}
use Rattle.scan_spelling.proofs.Lengths.{cells_length}
use Rattle.scan_spelling.proofs.TextColumns.{row_place, row_start, row_end, value_there, ends_length}
use Rattle.scan_spelling.proofs.TextRows.{flags_length}
use Rattle.scan_spelling.proofs.text_run.row_part.Goals as goal

pub text_at-requires-clause-within : goal.text_at-requires-clause-within
text_at-requires-clause-within c =
    let fs : List ℕ = row_flags c.args.spelling c.args.nullability c.args.rows c.args.flags.now in
    let low : c.args.i < length fs = rw (flags_length c.args.spelling c.args.nullability c.args.rows c.args.flags.now c.requires.flags) c.requires.within in
    rw (ends_length 0 fs c.args.bytes.now c.args.ends.now c.requires.ends) low

pub text_at-requires-clause-rising : goal.text_at-requires-clause-rising
text_at-requires-clause-rising c =
    let fs : List ℕ = row_flags c.args.spelling c.args.nullability c.args.rows c.args.flags.now in
    let vs : List Val = or_none (cells kinds.Utf8 fs c.args.bytes.now) in
    let low : c.args.i < length fs = rw (flags_length c.args.spelling c.args.nullability c.args.rows c.args.flags.now c.requires.flags) c.requires.within in
    row_start fs c.args.bytes.now vs c.args.ends.now c.args.i c.requires.spelled c.requires.ends low

pub text_at-requires-clause-end : goal.text_at-requires-clause-end
text_at-requires-clause-end c =
    let fs : List ℕ = row_flags c.args.spelling c.args.nullability c.args.rows c.args.flags.now in
    let vs : List Val = or_none (cells kinds.Utf8 fs c.args.bytes.now) in
    let low : c.args.i < length fs = rw (flags_length c.args.spelling c.args.nullability c.args.rows c.args.flags.now c.requires.flags) c.requires.within in
    row_end fs c.args.bytes.now vs c.args.ends.now c.args.i c.requires.spelled c.requires.ends low

pub text_part-requires : goal.text_part-requires
text_part-requires c =
    let fs : List ℕ = row_flags c.args.spelling c.args.nullability c.args.rows c.args.flags.now in
    let vs : List Val = or_none (cells kinds.Utf8 fs c.args.bytes.now) in
    let low : c.args.i < length fs = rw (flags_length c.args.spelling c.args.nullability c.args.rows c.args.flags.now c.requires.flags) c.requires.within in
    let inside : c.args.i < length vs = rw (cells_length kinds.Utf8 fs c.args.bytes.now vs c.requires.spelled) low in
    rw c.flag_of-flag.ensures
    (subst (λ s. is_some (under_flag (get_or fs c.args.i 0) (content kinds.Utf8 s)) ≡ true) (sym c.text_at.ensures)
    (value_there _ vs c.args.i (row_place fs c.args.bytes.now vs c.args.ends.now c.args.i c.requires.spelled c.requires.ends low) inside))

pub returns-clause-value : goal.returns-clause-value
returns-clause-value c =
    let fs : List ℕ = row_flags c.args.spelling c.args.nullability c.args.rows c.args.flags.now in
    let vs : List Val = or_none (cells kinds.Utf8 fs c.args.bytes.now) in
    let low : c.args.i < length fs = rw (flags_length c.args.spelling c.args.nullability c.args.rows c.args.flags.now c.requires.flags) c.requires.within in
    c.text_part.ensures.value ∙ ap (λ f. under_flag f (content kinds.Utf8 c.text_at.result.now)) c.flag_of-flag.ensures
    ∙ ap (λ s. under_flag (get_or fs c.args.i 0) (content kinds.Utf8 s)) c.text_at.ensures
    ∙ row_place fs c.args.bytes.now vs c.args.ends.now c.args.i c.requires.spelled c.requires.ends low
