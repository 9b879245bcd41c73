use Rattle.std.proofs.Common.{◌+◌, sym, ◌∙◌}
use Rattle.std.specs.Prelude.{string_bytes}
use Rattle.scan_conditions.specs.Spelling.{is_pair}
use Rattle.scan_conditions.proofs.Lexing.{begins_some, pair_begins}
use Rattle.scan_conditions.proofs.Parted.{single_part}
use Rattle.scan_conditions.proofs.lexer.longest_sign.Goals as goal

pub returns-then-not-is_pair : goal.returns-then-not-is_pair
returns-then-not-is_pair c =
    single_part c.single_sign.result c.args.c c.args.bytes.now c.args.at c.requires.first
    (begins_some (is_pair c.args.c) c.args.bytes.now (c.args.at + 1) c.args.d c.requires.second ∙ (sym c.is_pair.ensures ∙ c.if-not-is_pair.true)) c.single_sign.ensures

pub returns : goal.returns
returns c =
    pair_begins (string_bytes c.in_ok-text.text) c.args.c c.args.d c.args.bytes.now c.args.at c.in_ok-text.ensures (sym c.is_pair.ensures ∙ c.if-not-is_pair.false) c.requires.first c.requires.second
