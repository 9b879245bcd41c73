use Rattle.std.proofs.Common.{◌≡◌, ◌∙◌, ap, sym, is_some, true}
use Rattle.scan_spelling.specs.Spelling.{decode, are_bytes}
use Rattle.scan_spelling.specs.TextColumns.{ends_under}
use Rattle.scan_spelling.proofs.TextRows.{texts_there, gives_ok, gives_values}
use Rattle.scan_spelling.proofs.column.text_ends.Goals as goal

pub returns-clause-ends : goal.returns-clause-ends
returns-clause-ends c =
    rw (← c.nullability.ensures) (gives_ok c.known_ends.result (λ v. v) (ends_under c.args.spelling c.nullability.result c.args.rows c.args.bytes.now) c.known_ends.ensures)

pub returns-clause-exact : goal.returns-clause-exact
returns-clause-exact c =
    let small : are_bytes c.args.bytes.now ≡ true = ap are_bytes (sym c.as_slice.ensures) ∙ c.are_bytes.ensures in
    let there : is_some (decode c.args.spelling c.args.dtype.now c.args.rows c.args.bytes.now) ≡ is_some (ends_under c.args.spelling c.nullability.result c.args.rows c.args.bytes.now) =
    texts_there c.args.spelling c.args.dtype.now c.args.rows c.args.bytes.now small c.requires
    ∙ ap (λ m. is_some (ends_under c.args.spelling m c.args.rows c.args.bytes.now)) (sym c.nullability.ensures) in
    gives_values c.known_ends.result (λ v. v) (ends_under c.args.spelling c.nullability.result c.args.rows c.args.bytes.now) (decode c.args.spelling c.args.dtype.now c.args.rows c.args.bytes.now) there c.known_ends.ensures
