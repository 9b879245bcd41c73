use Rattle.std.proofs.Common.{◌≡◌, ◌+◌, ◌∙◌, ap, length}
use Rattle.scan_values.specs.DataType.{fields_of}
use Rattle.scan_widen.specs.Blanks.{blank_flags, blanks_behind}
use Rattle.scan_widen.specs.Counts.{capped}
use Rattle.scan_widen.proofs.Counting.{blank_list_counted, blank_struct_counted, blanks_step}
use Rattle.scan_widen.proofs.count.+blank.Goals as goal

pub count_blank-returns-in-List-clause-count : goal.count_blank-returns-in-List-clause-count
count_blank-returns-in-List-clause-count t c =
    let flags = c.count_flags.ensures.count ∙ ap (λ n. length (blank_flags n c.args.rows)) c.nullability.ensures in
    blank_list_counted c.args.dtype.now c.element_of.result.now c.args.rows c.count_blank-elements.result c.sum.result c.count_flags.result c.sum-in-List.result
    c.element_of.ensures c.count_blank-elements.ensures.count c.sum.ensures.sum flags c.sum-in-List.ensures.sum

pub count_blank-returns-in-Struct-clause-count : goal.count_blank-returns-in-Struct-clause-count
count_blank-returns-in-Struct-clause-count t c =
    let flags = c.count_flags-flags.ensures.count ∙ ap (λ n. length (blank_flags n c.args.rows)) c.nullability-in-Struct.ensures in
    blank_struct_counted c.args.dtype.now (fields_of c.fields_of.result.now) c.args.rows c.count_flags-flags.result c.count_blanks.result c.fields_of.ensures flags c.count_blanks.ensures.count

pub count_blanks-loop-i-preserved : goal.count_blanks-loop-i-preserved
count_blanks-loop-i-preserved t c = (
  blanks_step c.args.fields.now c.loop-i.i c.in-Some.dtype.now c.args.rows c.loop-i.total c.count_blank.result c.sum-total.result
      (capped (c.args.count + length (blanks_behind (fields_of c.args.fields.now) c.args.rows))) c.in-Some.ensures c.sum-total.ensures.sum c.count_blank.ensures.count c.loop-i.invariant.0,
  c.sum-total.ensures.most,
)
