use Rattle.std.proofs.Common.{◌≡◌, ◌+◌, ◌∙◌, ℕ, List, ap, sym, drop, length, arith, Some, true, false, get_or, is_some, subst}
use Rattle.scan_values.specs.declared.dtype.DTypeKind.TheVariants as kinds
use Rattle.scan_spelling.specs.Spelling.{framed, under_flag, content}
use Rattle.scan_spelling.specs.TextColumns.{ends_of, row_flags}
use Rattle.scan_spelling.proofs.TextColumns.{with_ends, ends_pushed, ends_refused, frame_size}
use Rattle.scan_spelling.proofs.TextRows.{flags_length}
use Rattle.scan_spelling.proofs.texts.text_ends.Goals as goal

pub loop-row-preserved : goal.loop-row-preserved
loop-row-preserved c =
    let fs : List ℕ = row_flags c.args.spelling c.args.nullability c.args.rows c.args.flags.now in
    let long : length fs ≡ c.args.rows = flags_length c.args.spelling c.args.nullability c.args.rows c.args.flags.now c.requires in
    let read : framed c.loop-row.rest.now ≡ Some (c.in_ok-text.text.now, c.in_ok-text.after.now) = c.in_ok-text.ensures in
    let under : is_some (under_flag c.flag_of.result (content kinds.Utf8 c.in_ok-text.text.now)) ≡ true = cc in
    let here : is_some (under_flag (get_or fs c.loop-row.row 0) (content kinds.Utf8 c.in_ok-text.text.now)) ≡ true = subst (λ f. is_some (under_flag f (content kinds.Utf8 c.in_ok-text.text.now)) ≡ true) c.flag_of.ensures under in (
      ap (λ es. with_ends es (ends_of (c.loop-row.place + 4 + length c.in_ok-text.text.now) (drop (c.loop-row.row + 1) fs) c.in_ok-text.after.now)) c.in_ok-push.ensures.items
          ∙ sym (ends_pushed c.loop-row.ends.items c.loop-row.place fs c.loop-row.row c.loop-row.rest.now c.in_ok-text.text.now c.in_ok-text.after.now (omega (arith, c.loop-row-test.true, long)) read here)
          ∙ c.loop-row.invariant.0,
      omega (arith, c.loop-row.invariant.1, frame_size c.loop-row.rest.now c.in_ok-text.text.now c.in_ok-text.after.now read),
    )

pub returns-then-not-is_text : goal.returns-then-not-is_text
returns-then-not-is_text c =
    let fs : List ℕ = row_flags c.args.spelling c.args.nullability c.args.rows c.args.flags.now in
    let long : length fs ≡ c.args.rows = flags_length c.args.spelling c.args.nullability c.args.rows c.args.flags.now c.requires in
    let read : framed c.loop-row.rest.now ≡ Some (c.in_ok-text.text.now, c.in_ok-text.after.now) = c.in_ok-text.ensures in
    let under : is_some (under_flag c.flag_of.result (content kinds.Utf8 c.in_ok-text.text.now)) ≡ false = cc in
    let gone : is_some (under_flag (get_or fs c.loop-row.row 0) (content kinds.Utf8 c.in_ok-text.text.now)) ≡ false = subst (λ f. is_some (under_flag f (content kinds.Utf8 c.in_ok-text.text.now)) ≡ false) c.flag_of.ensures under in
    sym c.loop-row.invariant.0
    ∙ ends_refused c.loop-row.ends.items c.loop-row.place fs c.loop-row.row c.loop-row.rest.now c.in_ok-text.text.now c.in_ok-text.after.now (omega (arith, c.loop-row-test.true, long)) read gone
