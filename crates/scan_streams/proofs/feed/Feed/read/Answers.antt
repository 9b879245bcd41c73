use Rattle.std.proofs.Common.{◌≡◌, ◌∙◌, ◌<◌, List, ℕ, true, false, length, map, refl, subst, sym, ap}
use Rattle.scan_values.specs.Val.{marked}
use Rattle.scan_streams.specs.Desks.{live_ids}
use Rattle.scan_streams.specs.Feeds.{FeedData, feed_of}
use Rattle.scan_streams.specs.Looks.{Comes, next_items, next_dtype}
use Rattle.scan_streams.specs.Readings.{splits_of}
use Rattle.scan_streams.specs.Splits.{Goes}
use Rattle.scan_streams.specs.Streams.{LiveAs, HaltsAll, Feeds}
use Rattle.scan_streams.specs.declared.reading.Next.{Next}
use Rattle.scan_streams.proofs.Feeding.{agree_of, live_of, feed_goes, given_feeds, halted}
use Rattle.scan_streams.proofs.feed.Feed.read.Goals as goal

pub next-requires-clause-agree : goal.next-requires-clause-agree
next-requires-clause-agree g c =
    let live = (g.S.SegmentSource.state c.args.source.now).live in
    agree_of live c.self.inside.reading.desk (subst (λ (ids : List ℕ). LiveAs live ids) (sym (ap (λ (f : FeedData). f.live) c.self.view_is)) c.requires.live)

pub invariant_of-self : goal.invariant_of-self
invariant_of-self g c =
    let holds = (g.S.SegmentSource.state c.args.source.now).holds in
    let on : c.self.inside.ended ≡ false = ap (λ (f : FeedData). f.ended) c.self.view_is ∙ c.requires.going in
    feed_goes c.self.inside.reading.ordered holds (next_items c.in-Ok-Pending.field-0) c.self.inside.dtype c.self.inside.reading c.next.new.self c.self.inside.claims c.self.inside.ended on c.self.invariant c.in-Ok-Pending.ensures.stands c.in-Ok-Pending.ensures.goes

pub invariant_of-self-in-Ok-Array : goal.invariant_of-self-in-Ok-Array
invariant_of-self-in-Ok-Array g c =
    let holds = (g.S.SegmentSource.state c.args.source.now).holds in
    let on : c.self.inside.ended ≡ false = ap (λ (f : FeedData). f.ended) c.self.view_is ∙ c.requires.going in
    feed_goes c.self.inside.reading.ordered holds (next_items c.in-Ok-Array.field-0) c.self.inside.dtype c.self.inside.reading c.next.new.self c.self.inside.claims c.self.inside.ended on c.self.invariant c.in-Ok-Array.ensures.stands c.in-Ok-Array.ensures.goes

pub give-requires-clause-live : goal.give-requires-clause-live
give-requires-clause-live g c = live_of (g.S.SegmentSource.state c.next.new.source).live c.next.new.self.desk c.next.ensures.agree

pub give-requires-clause-dtype : goal.give-requires-clause-dtype
give-requires-clause-dtype g c =
    let on : c.self.inside.ended ≡ false = ap (λ (f : FeedData). f.ended) c.self.view_is ∙ c.requires.going in
    subst (λ (n : Next). next_dtype c.self.inside.dtype n) c.in-Ok-Array.field-0-is (c.in-Ok-Array.ensures.dtype c.self.inside.dtype (c.self.invariant.dtype on))

pub end-requires : goal.end-requires
end-requires g c = live_of (g.S.SegmentSource.state c.next.new.source).live c.next.new.self.desk c.next.ensures.agree

pub returns-in-Ok-Pending-clause-live : goal.returns-in-Ok-Pending-clause-live
returns-in-Ok-Pending-clause-live g c = live_of (g.S.SegmentSource.state c.next.new.source).live c.next.new.self.desk c.next.ensures.agree

pub returns-in-Ok-Array-clause-answer : goal.returns-in-Ok-Array-clause-answer
returns-in-Ok-Array-clause-answer g c =
    let s = g.S.SegmentSource.state c.args.source.now in
    let u = g.S.SegmentSource.state c.next.new.source in
    let t = g.S.SegmentSource.state c.give.new.source in
    let a = c.in-Ok-Array.array in
    let r = c.self.inside.reading in
    let on : c.self.inside.ended ≡ false = ap (λ (f : FeedData). f.ended) c.self.view_is ∙ c.requires.going in
    let goes : Goes r.ordered s.holds (map marked a.items) (splits_of r) (splits_of c.next.new.self) = subst (λ (n : Next). Goes r.ordered s.holds (next_items n) (splits_of r) (splits_of c.next.new.self)) c.in-Ok-Array.field-0-is c.in-Ok-Array.ensures.goes in
    let dtype : a.dtype ≡ c.self.inside.dtype = subst (λ (n : Next). next_dtype c.self.inside.dtype n) c.in-Ok-Array.field-0-is (c.in-Ok-Array.ensures.dtype c.self.inside.dtype (c.self.invariant.dtype on)) in
    let some : 0 < length a.items = subst (λ (n : Next). Comes n c.next.new.self s u) c.in-Ok-Array.field-0-is c.in-Ok-Array.ensures.comes in
    let old = feed_of c.self.inside.dtype r c.self.inside.claims c.self.inside.ended in
    let mid = feed_of c.self.inside.dtype c.next.new.self c.self.inside.claims c.self.inside.ended in
    subst (λ (f : FeedData). Feeds s t f c.give.new.self c.give.result) c.self.view_is (given_feeds s t old mid c.give.new.self a c.give.result on refl c.in-Ok-Array.ensures.begun goes dtype some c.give.ensures.answer)

pub returns-in-Err-clause-answer : goal.returns-in-Err-clause-answer
returns-in-Err-clause-answer g c =
    let s = g.S.SegmentSource.state c.args.source.now in
    let t = g.S.SegmentSource.state c.next.new.source in
    let u = g.S.SegmentSource.state c.close.new.source in
    let r = c.self.inside.reading in
    let on : c.self.inside.ended ≡ false = ap (λ (f : FeedData). f.ended) c.self.view_is ∙ c.requires.going in
    let old = feed_of c.self.inside.dtype r c.self.inside.claims c.self.inside.ended in
    let new = feed_of c.self.inside.dtype c.close.new.self c.self.inside.claims true in
    subst (λ (f : FeedData). HaltsAll s u f new c.in-Err.halt) c.self.view_is
    (halted s t u old new c.in-Err.halt on refl refl (ap live_ids c.close.ensures.desk) c.close.ensures.source c.in-Err.ensures.halts)
