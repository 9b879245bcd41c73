use Rattle.std.proofs.Common.{◌∙◌, ap, arith, length, take, drop}
use Rattle.scan_values.specs.Values.{val_of}
use Rattle.scan_spelling.specs.Spelling.{bytes_for}
use Rattle.scan_spelling.specs.Written.{bit_in}
use Rattle.scan_spelling.proofs.Gathering.{bytes_joined}
use Rattle.scan_spelling.proofs.write.push_bits.Goals as goal

pub loop-byte-preserved : goal.loop-byte-preserved
loop-byte-preserved c =
    bytes_joined (λ v. bit_in c.args.bit (val_of v)) c.loop-byte.out.items c.push.new.self.items (bytes_for (length c.args.items.now)) c.loop-byte._byte c.byte_of.result
    c.loop-byte.rest.now c.split_at.result.0.now c.split_at.result.1.now
    (omega (arith, c.loop-byte-test.true, c.div_ceil-byte-end.ensures))
    (c.split_at.ensures.front ∙ ap (λ k. take k c.loop-byte.rest.now) c.min.ensures)
    (c.split_at.ensures.back ∙ ap (λ k. drop k c.loop-byte.rest.now) c.min.ensures)
    c.byte_of.ensures c.in_ok-push.ensures.items
    ∙ c.loop-byte.invariant
