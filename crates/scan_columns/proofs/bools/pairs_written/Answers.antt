use Rattle.std.proofs.Common.{◌≡◌, ◌<◌, ◌≤◌, ◌+◌, ◌++◌, [], ◌∙◌, cond, drop, false, get_or, length, take, take_all, append-nil, sym, refl, arith}
use Rattle.std.proofs.Math.ListN.{set}
use Rattle.std.proofs.lemmas.Grind.{take-set_at}
use Rattle.std.proofs.lemmas.List.{drop_all, length-take-le}
use Rattle.scan_values.specs.Val.{bool_val, null_val}
use Rattle.scan_columns.specs.Typed.{typed}
use Rattle.scan_columns.specs.Evaluated.{paired}
use Rattle.scan_columns.specs.Operands.{pair_val}
use Rattle.scan_columns.proofs.TypedLemmas.{typed_get, typed_length}
use Rattle.scan_columns.proofs.KernelLemmas.{slots_step}
use Rattle.scan_columns.proofs.bools.pairs_written.Goals as goal

pub loop-i-preserved : goal.loop-i-preserved
loop-i-preserved c =
    let i = c.loop-i.i in
    let x = c.args.x.now in
    let xv = c.args.x_valid.now in
    let y = c.args.y.now in
    let yv = c.args.y_valid.now in
    let bits = c.loop-i.bits.items in
    let valid = c.loop-i.valid.items in
    let made = c.paired_slots-bit.result in
    let low : i < length x = omega (arith, c.loop-i-test.true, c.requires.first, c.len-i-end.ensures) in
    let other : i < length y = omega (arith, low, c.requires.first, c.requires.second) in
    let room : i < length bits = omega (arith, c.loop-i-test.true, c.loop-i.invariant.long) in
    let spare : i < length valid = omega (arith, c.loop-i-test.true, c.loop-i.invariant.even) in
    let even : length (take i valid) ≡ length (take i bits) = length-take-le i valid (omega (arith, spare)) ∙ sym (length-take-le i bits (omega (arith, room))) in
    let step = slots_step bool_val (pair_val c.args.op) (typed bool_val x xv) (typed bool_val y yv) i
    (cond (get_or xv i false) (bool_val (get_or x i false)) null_val) (cond (get_or yv i false) (bool_val (get_or y i false)) null_val)
    (take i bits) (take (i + 1) (set bits i made.0)) (take i valid) (take (i + 1) (set valid i made.1)) made.0 made.1
    (typed_get bool_val x xv i false false low (omega (arith, c.requires.first, c.requires.first_valid)))
    (typed_get bool_val y yv i false false other (omega (arith, c.requires.second, c.requires.second_valid)))
    (take-set_at bits i (i + 1) made.0 refl room) (take-set_at valid i (i + 1) made.1 refl spare) c.paired_slots-bit.ensures even c.loop-i.invariant.same in
    record {
      long = c.loop-i.invariant.long;
      even = c.loop-i.invariant.even;
      same = step.1;
    }

pub returns : goal.returns
returns c =
    let i = c.loop-i.i in
    let x = typed bool_val c.args.x.now c.args.x_valid.now in
    let y = typed bool_val c.args.y.now c.args.y_valid.now in
    let bits = c.loop-i.bits.items in
    let valid = c.loop-i.valid.items in
    let end : length bits ≤ i = omega (arith, c.loop-i-test.false, c.loop-i.invariant.long) in
    let same_end : length valid ≤ i = omega (arith, c.loop-i-test.false, c.loop-i.invariant.even) in
    let long : length x ≡ length c.args.x.now = typed_length bool_val c.args.x.now c.args.x_valid.now (omega (arith, c.requires.first, c.requires.first_valid)) in
    let past : length x ≤ i = omega (arith, long, c.loop-i-test.false, c.requires.first, c.len-i-end.ensures) in
    let none : drop i x ≡ [] = drop_all i x past in
    c.new.ensures
    ∙ (λ j. typed bool_val (sym (take_all i bits end) j) (sym (take_all i valid same_end) j))
    ∙ sym (append-nil (typed bool_val (take i bits) (take i valid)))
    ∙ (λ j. typed bool_val (take i bits) (take i valid) ++ paired (pair_val c.args.op) (sym none j) (drop i y))
    ∙ c.loop-i.invariant.same
