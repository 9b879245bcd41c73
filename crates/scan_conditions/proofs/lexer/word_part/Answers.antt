use Rattle.std.proofs.Common.{length, drop, sym, vec_len, ◌∙◌}
use Rattle.std.specs.Prelude.{string_bytes}
use Rattle.scan_conditions.proofs.Places.{nonempty}
use Rattle.scan_conditions.proofs.Lexing.{word_begins}
use Rattle.scan_conditions.proofs.lexer.word_part.Goals as goal

pub returns : goal.returns
returns c =
    let some = nonempty (vec_len c.in_ok-content.content) (length c.in_ok-content.content.items) c.is_empty.result c.is_empty.ensures c.if-is_empty.false c.in_ok-content.content.ok.0 in
    word_begins (string_bytes c.in_ok-text.text) c.in_ok-content.content.items (drop c.args.at c.args.bytes.now) (drop c.in_ok-content.end c.args.bytes.now) (c.in_ok-text.ensures ∙ c.as_slice.ensures.value) some
    c.in_ok-content.ensures.0 c.in_ok-content.ensures.1 (sym c.has_word_at.ensures ∙ c.if-has_word_at.false)
