use Rattle.std.proofs.Common.{◌≡◌, ◌++◌, ◌∷◌, [], ◌∙◌, ap, length, map}
use Rattle.scan_widen.specs.Under.{segment_behind, numbered}
use Rattle.scan_widen.proofs.Building.{numbers_step, numbers_end, behinds_step, behinds_end}
use Rattle.scan_widen.proofs.under.number_segments.Goals as goal

pub loop-i-preserved : goal.loop-i-preserved
loop-i-preserved c =
    let segments = c.args.segments.now in
    let i = c.loop-i.i in
    let g = c.index-segments-i.result in
    let made = c.loop-i.made.items in
    let numbers = c.loop-i.numbers.items in
    let b = segment_behind c.args.from c.args.to c.args.spelling g in
    let added : c.add.new.made.items ≡ made ++ b ∷ [] = c.in_ok-number.ensures.added ∙ ap (λ x. made ++ x ∷ []) c.behind_of-behind.ensures in
    let pushed : c.push.new.self.items ≡ numbers ++ (length made, g.1) ∷ [] = c.in_ok-push.ensures.items ∙ ap (λ n. numbers ++ (n, g.1) ∷ []) c.in_ok-number.ensures.id in (
      numbers_step segments i g numbers c.push.new.self.items (numbered (length c.args.made.now.items) segments) made c.add.new.made.items b c.loop-i-test.true c.index-segments-i.is added pushed c.loop-i.invariant.0,
      behinds_step c.args.from c.args.to c.args.spelling segments i g made c.add.new.made.items (c.args.made.now.items ++ map (segment_behind c.args.from c.args.to c.args.spelling) segments)
          c.loop-i-test.true c.index-segments-i.is added c.loop-i.invariant.1,
    )

pub returns-clause-numbered : goal.returns-clause-numbered
returns-clause-numbered c =
    numbers_end c.args.segments.now c.loop-i.i c.loop-i.numbers.items (numbered (length c.args.made.now.items) c.args.segments.now) (length c.loop-i.made.items) c.loop-i-test.false c.loop-i.invariant.0

pub returns-clause-behind : goal.returns-clause-behind
returns-clause-behind c =
    behinds_end c.args.from c.args.to c.args.spelling c.args.segments.now c.loop-i.i c.loop-i.made.items
    (c.args.made.now.items ++ map (segment_behind c.args.from c.args.to c.args.spelling) c.args.segments.now) c.loop-i-test.false c.loop-i.invariant.1
