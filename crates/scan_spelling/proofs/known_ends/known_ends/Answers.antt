use Rattle.std.proofs.Common.{◌≡◌, ◌∙◌, ap, sym, Some}
use Rattle.scan_segments.specs.TextEnds.{ends_after}
use Rattle.scan_spelling.specs.TextColumns.{ends_under}
use Rattle.scan_spelling.proofs.KnownEnds.{ends_known}
use Rattle.scan_spelling.proofs.known_ends.known_ends.Goals as goal

pub returns-in-Some : goal.returns-in-Some
returns-in-Some c =
    ends_known c.args.spelling c.args.nullability c.args.rows c.args.bytes.now
    ∙ ap (λ g. ends_after g c.args.rows c.args.bytes.now) (sym c.flag_group-group.ensures) ∙ c.in-Some.ensures

pub keep_text_ends-requires : goal.keep_text_ends-requires
keep_text_ends-requires c =
    ap (λ g. ends_after g c.args.rows c.args.bytes.now) c.flag_group-group.ensures
    ∙ sym (ends_known c.args.spelling c.args.nullability c.args.rows c.args.bytes.now)
    ∙ ap (λ b. ends_under c.args.spelling c.args.nullability c.args.rows b) (sym c.as_slice.ensures) ∙ c.in_ok-found.ensures
    ∙ ap Some (sym c.in_ok-ends.ensures) ∙ ap Some (sym c.in_ok-try_clone.ensures)
