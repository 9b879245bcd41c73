use Rattle.std.proofs.Common.{drop, sym, ◌∙◌}
use Rattle.std.specs.Prelude.{string_bytes}
use Rattle.scan_conditions.proofs.Lexing.{quoted_ends}
use Rattle.scan_conditions.proofs.lexer.quoted_at.Goals as goal

pub returns : goal.returns
returns c =
    quoted_ends c.args.quote (string_bytes c.in_ok-text.text) c.in_ok-content.content.items c.args.bytes.now (drop c.args.at c.args.bytes.now) c.in_ok-content.end c.in_ok-content.ensures (c.in_ok-text.ensures ∙ c.as_slice.ensures.value)
    (sym c.is_byte_at.ensures.value ∙ c.if-not-is_byte_at.false) (sym c.is_byte_at-2.ensures.value ∙ c.if-is_byte_at.false)
