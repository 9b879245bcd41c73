use Rattle.std.proofs.Common.{◌<◌, ◌≤◌, length, arith, refl, ◌∙◌}
use Rattle.std.specs.Prelude.{string_bytes}
use Rattle.scan_conditions.specs.Written.{joined_names}
use Rattle.scan_conditions.proofs.Places.{item_at, nonempty}
use Rattle.scan_conditions.proofs.Steps.{dots_begin, dots_end, dots_step}
use Rattle.scan_conditions.proofs.selection.joined.Goals as goal

pub loop-i-init : goal.loop-i-init
loop-i-init c =
    let some = nonempty (length c.args.names.now) (length c.args.names.now) c.is_empty.result c.is_empty.ensures c.if-is_empty.false refl in
    dots_begin c.args.names.now c.index-names-0.result (string_bytes c.in_ok-text.text) some c.index-names-0.is (c.in_ok-text.ensures.ok ∙ c.as_str.ensures)

pub loop-i-preserved : goal.loop-i-preserved
loop-i-preserved c =
    let here : c.loop-i.i < length c.args.names.now = omega arith in
    dots_step c.args.names.now c.loop-i.i c.index-names-i.result (string_bytes c.loop-i.text) (string_bytes c.push_dotted.new.text) (joined_names c.args.names.now)
    (item_at c.args.names.now c.loop-i.i c.index-names-i.result here c.index-names-i.is) c.in_ok-push_dotted.ensures c.loop-i.invariant

pub returns : goal.returns
returns c =
    let past : length c.args.names.now ≤ c.loop-i.i = omega arith in
    c.new-2.ensures ∙ dots_end c.args.names.now c.loop-i.i (string_bytes c.loop-i.text) (joined_names c.args.names.now) past c.loop-i.invariant
