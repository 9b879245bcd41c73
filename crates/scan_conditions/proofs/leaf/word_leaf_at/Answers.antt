use Rattle.std.proofs.Common.{ap, map, ◌∙◌, true, false}
use Rattle.scan_expr.specs.Expr.{root}
use Rattle.scan_conditions.specs.Parts.{part_of}
use Rattle.scan_conditions.specs.Reads.{said_of}
use Rattle.scan_conditions.specs.Written.{nested, typed}
use Rattle.scan_conditions.proofs.Reading.{read_field, read_row, read_truth}
use Rattle.scan_conditions.proofs.leaf.word_leaf_at.Goals as goal

pub returns-then-is_word_at : goal.returns-then-is_word_at
returns-then-is_word_at c =
    read_truth c.args.rows.now (map part_of c.args.parts.now) c.args.at true (typed c.lit_bool-truth.result) (c.is_word_at.ensures.is c.if-is_word_at.true) (ap typed c.lit_bool-truth.ensures)

pub returns-then-is_word_at-2 : goal.returns-then-is_word_at-2
returns-then-is_word_at-2 c =
    read_truth c.args.rows.now (map part_of c.args.parts.now) c.args.at false (typed c.lit_bool-contrary.result) (c.is_word_at-2.ensures.is c.if-is_word_at-2.true) (ap typed c.lit_bool-contrary.ensures)

pub returns-then-is_word_at-3 : goal.returns-then-is_word_at-3
returns-then-is_word_at-3 c =
    read_row c.args.rows.now (map part_of c.args.parts.now) c.args.at (typed c.row_idx-row.result) (c.is_word_at-3.ensures.is c.if-is_word_at-3.true) (ap typed c.row_idx-row.ensures)

pub returns : goal.returns
returns c =
    read_field c.args.rows.now (map part_of c.args.parts.now) c.args.at c.in_ok-names.end c.in_ok-names.names.items c.in_ok-e.e (said_of c.in_ok-operand.operand) c.in_ok-names.ensures
    (c.in_ok-e.ensures ∙ ap (nested root) c.as_slice.ensures.value) c.in_ok-operand.ensures
