use Rattle.std.proofs.Common.{◌<◌, length, sym, ap, ◌∙◌, arith}
use Rattle.scan_groups.specs.Running.{is_past_in}
use Rattle.scan_groups.proofs.Totalling.{tally_at}
use Rattle.scan_groups.proofs.Whole.{below_more}
use Rattle.scan_groups.proofs.groups.Groups.first_past.Goals as goal

pub returns-then-is_past : goal.returns-then-is_past
returns-then-is_past c =
    let g = c.args.self.now in
    let m = c.loop-measure.measure in
    let lt : m < length g.tallies.items = omega (arith, c.loop-measure-test.true, c.len-measure-end.ensures, g.tallies.ok.0) in
    (ap (is_past_in g.places.keys) (tally_at g.tallies.items m c.index.result.now lt c.index.ensures) ∙ sym c.is_past.ensures ∙ c.if-is_past.true, c.loop-measure.invariant)

pub loop-measure-preserved : goal.loop-measure-preserved
loop-measure-preserved c =
    let g = c.args.self.now in
    let m = c.loop-measure.measure in
    let lt : m < length g.tallies.items = omega (arith, c.loop-measure-test.true, c.len-measure-end.ensures, g.tallies.ok.0) in
    below_more g m c.loop-measure.invariant (ap (is_past_in g.places.keys) (tally_at g.tallies.items m c.index.result.now lt c.index.ensures) ∙ sym c.is_past.ensures ∙ c.if-is_past.false)

pub returns : goal.returns
returns c = λ i lt. c.loop-measure.invariant i (omega (arith, lt, c.loop-measure-test.false, c.len-measure-end.ensures, c.args.self.now.tallies.ok.0))
