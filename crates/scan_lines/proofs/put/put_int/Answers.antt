use Rattle.std.proofs.Common.{arith, ◌≡◌, ◌+◌, ◌++◌, ◌∷◌, [], take, ap, sym, ◌∙◌, length, length-set, subst, to_z-of_z, append_assoc}
use Rattle.std.specs.Prelude.{unsigned_abs, Some, slice_set}
use Rattle.std.specs.Fmt.{decimal, signed_decimal}
use Rattle.std.proofs.lemmas.Fmt.{length-decimal-le}
use Rattle.itoa.proofs.Decimal.{minus_first}
use Rattle.scan_lines.specs.Writes.{Writes}
use Rattle.scan_lines.proofs.Puts.{writes, natural, put_one}
use Rattle.scan_lines.proofs.put.put_int.Goals as goal

pub write_count-requires : goal.write_count-requires
write_count-requires c = let l = length-decimal-le 20 c.unsigned_abs-size.result (omega arith) (omega arith) (omega arith) in omega (arith, l)

pub write_count-requires-else-n-ge0 : goal.write_count-requires-else-n-ge0
write_count-requires-else-n-ge0 c =
    let l = length-decimal-le 20 c.unsigned_abs-size.result (omega arith) (omega arith) (omega arith) in
    let s = length-set c.args.buf.now c.args.at 45 in
    omega (arith, l, s)

pub returns-then-n-ge0 : goal.returns-then-n-ge0
returns-then-n-ge0 c =
    let back = to_z-of_z c.ranges.n in
    let l = length-decimal-le 20 c.unsigned_abs-size.result (omega arith) (omega arith) (omega arith) in
    let e = ap decimal (c.unsigned_abs-size.ensures.value ∙ ap unsigned_abs back) ∙ natural c.args.n (rw back at c.if-n-ge0.true) in
    subst (λ t. Writes t c.args.at c.args.buf.now c.write_count.new.buf (Some c.write_count.result)) e
    (writes (decimal c.unsigned_abs-size.result) c.args.buf.now c.write_count.new.buf c.args.at c.write_count.result (omega arith)
    c.write_count.ensures.end (omega (arith, l, c.write_count.auto.buf)) c.write_count.ensures.written)

pub returns-else-n-ge0 : goal.returns-else-n-ge0
returns-else-n-ge0 c =
    let back = to_z-of_z c.ranges.n in
    let w = c.write_count-else-n-ge0 in
    let m = c.unsigned_abs-size.result in
    let l = length-decimal-le 20 m (omega arith) (omega arith) (omega arith) in
    let s = length-set c.args.buf.now c.args.at 45 in
    let e : 45 ∷ decimal m ≡ signed_decimal c.args.n = ap (λ k. 45 ∷ decimal k) (c.unsigned_abs-size.ensures.value ∙ ap unsigned_abs back) ∙ minus_first c.args.n (rw back at c.if-n-ge0.false) in
    let first = put_one c.args.buf.now c.args.at 45 (omega arith) in
    let whole : take w.result w.new.buf ≡ take c.args.at c.args.buf.now ++ (45 ∷ decimal m) =
    w.ensures.written ∙ ap (λ xs. xs ++ decimal m) first ∙ append_assoc (take c.args.at c.args.buf.now) (45 ∷ []) (decimal m) in
    subst (λ t. Writes t c.args.at c.args.buf.now w.new.buf (Some w.result)) e
    (writes (45 ∷ decimal m) c.args.buf.now w.new.buf c.args.at w.result (omega arith)
    (omega (arith, w.ensures.end)) (omega (arith, l, s, w.auto.buf, w.ensures.end)) whole)
