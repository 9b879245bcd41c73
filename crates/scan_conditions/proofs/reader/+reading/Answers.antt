use Rattle.std.proofs.Common.{◌≤◌, ap, arith, map, sym, ◌+◌, ◌∙◌}
use Rattle.scan_expr.specs.declared.op.Unary.TheVariants as un
use Rattle.scan_conditions.specs.Parts.{part_of}
use Rattle.scan_conditions.specs.Reads.{said_of}
use Rattle.scan_conditions.specs.Written.{typed, unary_of}
use Rattle.scan_conditions.proofs.Operands.{looser_read}
use Rattle.scan_conditions.proofs.Reading.{looser, not_said, read_call, read_contrary, read_grouped, read_joined}
use Rattle.scan_conditions.proofs.reader.+reading.Goals as goal

pub level_at-returns-then-level-ge6 : goal.level_at-returns-then-level-ge6
level_at-returns-then-level-ge6 t c =
    let up : c.args.level ≤ 6 = c.requires in
    looser_read c.primary_at.result c.args.rows.now c.args.level 6 (map part_of c.args.parts.now) c.args.at up c.primary_at.ensures

pub level_at-returns-then-level-eq3 : goal.level_at-returns-then-level-eq3
level_at-returns-then-level-eq3 t c =
    let up : c.args.level ≤ 3 = omega (arith, c.if-level-eq3.true) in
    looser_read c.contrary_at.result c.args.rows.now c.args.level 3 (map part_of c.args.parts.now) c.args.at up c.contrary_at.ensures

pub joined_at-joined-init : goal.joined_at-joined-init
joined_at-joined-init t c =
    let up : c.args.level ≤ c.args.level + 1 = omega arith in
    looser c.args.rows.now c.args.level (c.args.level + 1) (map part_of c.args.parts.now) c.args.at c.in_ok-first.begun (said_of c.in_ok-first.first) up c.in_ok-first.ensures

pub joined_at-joined-preserved : goal.joined_at-joined-preserved
joined_at-joined-preserved t c =
    read_joined c.args.rows.now c.args.level (map part_of c.args.parts.now) c.args.at c.joined.end c.in_ok-second.next c.in-Some.op (said_of c.joined.operand) (said_of c.in_ok-second.second) (said_of c.in_ok-both.both)
    (sym c.level-binds.ensures ∙ c.if-binds-level.false) c.in-Some.ensures.is c.joined.invariant c.in_ok-second.ensures c.in_ok-both.ensures

pub contrary_at-returns-then-not-is_word_at : goal.contrary_at-returns-then-not-is_word_at
contrary_at-returns-then-not-is_word_at t c =
    let up : 3 ≤ 4 = omega arith in
    looser_read c.level_at.result c.args.rows.now 3 4 (map part_of c.args.parts.now) c.args.at up c.level_at.ensures

pub contrary_at-returns : goal.contrary_at-returns
contrary_at-returns t c =
    read_contrary c.args.rows.now (map part_of c.args.parts.now) c.args.at c.in_ok-inner.end (said_of c.in_ok-inner.inner) (said_of c.in_ok-operand.operand) (c.is_word_at.ensures.is c.if-not-is_word_at.false) c.in_ok-inner.ensures
    (not_said un.Not (said_of c.in_ok-inner.inner) c.in_ok-e.e (said_of c.in_ok-operand.operand) c.in_ok-e.ensures (c.in_ok-operand.ensures ∙ ap typed c.in_ok-contrary.ensures))

pub grouped_at-returns-then-is_sign_at : goal.grouped_at-returns-then-is_sign_at
grouped_at-returns-then-is_sign_at t c =
    read_grouped c.args.rows.now (map part_of c.args.parts.now) c.args.at c.in_ok-operand.end (said_of c.in_ok-operand.operand) c.requires.is (c.is_sign_at.ensures.is c.if-is_sign_at.true) c.in_ok-operand.ensures

pub call_at-returns : goal.call_at-returns
call_at-returns t c =
    read_call c.args.rows.now (map part_of c.args.parts.now) c.args.at c.in_ok-inner.end c.args.function (said_of c.in_ok-inner.inner) (said_of c.in_ok-operand.operand) c.requires.is
    (c.is_sign_at.ensures.is c.if-not-is_sign_at.false) (c.is_sign_at-2.ensures.is c.if-not-is_sign_at-2.false) c.in_ok-inner.ensures
    (not_said (unary_of c.args.function) (said_of c.in_ok-inner.inner) c.in_ok-e.e (said_of c.in_ok-operand.operand) c.in_ok-e.ensures (c.in_ok-operand.ensures ∙ ap typed c.in_ok-called.ensures))
