use borrow.Author.Rules.{rules}
use Rattle.std.proofs.Common.{◌≡◌, false, get_or}
use Rattle.scan_plans.proofs.Outer.{padded_more}
use Rattle.scan_plans.proofs.future.fitted.Goals as goal

pub loop-i-preserved : goal.loop-i-preserved
loop-i-preserved c =
    let b : c.bit_at.result ≡ get_or c.args.mask.now c.loop-i.i false = search (rules, c.bit_at.ensures, c.as_slice-bits.ensures) in
    padded_more c.args.len c.loop-i.i c.args.mask.now c.loop-i.made.items c.push.new.self.items c.bit_at.result c.loop-i-test.true b c.in_ok-push.ensures.items c.loop-i.invariant
