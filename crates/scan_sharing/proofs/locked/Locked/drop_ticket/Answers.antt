use Rattle.std.proofs.Common.{◌-◌, ◌++◌, ◌∷◌, [], List, sym, ◌∙◌, subst, arith}
use Rattle.scan_sharing.specs.declared.holder.SharedEvent.{SharedEvent}
use Rattle.scan_sharing.specs.declared.holder.SharedEvent.TheVariants.{Dropped}
use Rattle.scan_sharing.specs.declared.holder.SharedKind.{SharedKind}
use Rattle.scan_sharing.specs.Locks.{IsKept}
use Rattle.scan_sharing.proofs.Replays.{keeps-drop}
use Rattle.scan_sharing.proofs.locked.Locked.drop_ticket.Goals as goal

pub invariant_of-self : goal.invariant_of-self
invariant_of-self g c =
    let s = c.self.inside in
    let live = (g.S.SegmentSource.state c.drop_holder.new.source).live in
    let e = c.drop_holder.ensures in
    let owes = e.owed in
    let room = c.self.invariant.0.room in
    let fits = c.self.invariant.1 in
    let all = c.push_reserved.ensures.items ∙ (λ i. s.history.items ++ Dropped (c.id.ensures i) (c.number.ensures i) ∷ []) in (
      subst (λ (xs : List (SharedEvent SharedKind)). IsKept g.S.Fits.fits live c.drop_holder.new.self xs (s.spare - 1)) (sym all)
          (keeps-drop g.S.Fits.fits (g.S.SegmentSource.state s.source).live live s.table c.drop_holder.new.self s.history.items s.spare c.args.h.id c.args.h.number c.self.invariant.0 e.step (sym c.holds.ensures ∙ c.if-not-holds.false) e.agree owes),
      omega (arith, c.push_reserved.ensures.len, c.push_reserved.ensures.capacity),
    )
