use Rattle.std.proofs.Common.{◌-◌, ◌++◌, ◌∷◌, [], List, sym, ◌∙◌, subst, arith}
use Rattle.scan_sharing.specs.declared.holder.SharedEvent.{SharedEvent}
use Rattle.scan_sharing.specs.declared.holder.SharedEvent.TheVariants.{Arrived}
use Rattle.scan_sharing.specs.declared.holder.SharedKind.{SharedKind}
use Rattle.scan_sharing.specs.Kinds.{came}
use Rattle.scan_sharing.specs.Locks.{IsKept}
use Rattle.scan_sharing.proofs.Replays.{keeps-answer, keeps-same, arrives, no_arrival}
use Rattle.scan_sharing.proofs.locked.Locked.poll.Goals as goal

pub invariant_of-self : goal.invariant_of-self
invariant_of-self g c =
    let s = c.self.inside in
    let old = g.S.SegmentSource.state s.source in
    let new = g.S.SegmentSource.state c.poll-polled.new.source in
    let e = c.poll-polled.ensures in
    let a = arrives g.S.Fits.fits old new s.table c.poll-polled.new.self c.args.h.now.id c.in-Some.kind e.step ((λ i. came (sym c.kind-before.ensures i) (sym c.kind.ensures i)) ∙ sym c.in-Some.ensures) in
    let all = c.push_reserved.ensures.items ∙ (λ i. s.history.items ++ Arrived (c.id.ensures i) (a.1 i) ∷ []) in
    let lighter = a.0.lighter in
    let room = c.self.invariant.0.room in
    let fits = c.self.invariant.1 in (
      subst (λ (xs : List (SharedEvent SharedKind)). IsKept g.S.Fits.fits new.live c.poll-polled.new.self xs (s.spare - 1)) (sym all)
          (keeps-answer g.S.Fits.fits old.live new.live s.table c.poll-polled.new.self s.history.items s.spare c.args.h.now.id old new c.self.invariant.0 a.0 e.agree),
      omega (arith, c.push_reserved.ensures.len, c.push_reserved.ensures.capacity),
    )

pub invariant_of-self-in-None : goal.invariant_of-self-in-None
invariant_of-self-in-None g c =
    let s = c.self.inside in
    let old = g.S.SegmentSource.state s.source in
    let new = g.S.SegmentSource.state c.poll-polled.new.source in
    let e = c.poll-polled.ensures in
    let same = no_arrival g.S.Fits.fits old new s.table c.poll-polled.new.self c.args.h.now.id e.step ((λ i. came (sym c.kind-before.ensures i) (sym c.kind.ensures i)) ∙ sym c.in-None.ensures) in (
      keeps-same g.S.Fits.fits old.live new.live s.table c.poll-polled.new.self s.history.items s.spare c.self.invariant.0 same e.agree,
      c.self.invariant.1,
    )
