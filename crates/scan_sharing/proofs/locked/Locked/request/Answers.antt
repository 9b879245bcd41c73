use Rattle.std.proofs.Common.{vec_len, vec_capacity, ◌+◌, ◌≤◌, ◌++◌, ◌∷◌, [], List, ap, sym, ◌∙◌, subst, arith, rules}
use Rattle.scan_sharing.specs.declared.holder.SharedEvent.{SharedEvent}
use Rattle.scan_sharing.specs.declared.holder.SharedEvent.TheVariants.{Requested}
use Rattle.scan_sharing.specs.declared.holder.SharedKind.{SharedKind}
use Rattle.scan_sharing.specs.Locks.{IsKept}
use Rattle.scan_sharing.proofs.Replays.{keeps-request}
use Rattle.scan_sharing.proofs.locked.Locked.request.Goals as goal

pub invariant_of-self-in-Ok : goal.invariant_of-self-in-Ok
invariant_of-self-in-Ok g c =
    let s = c.self.inside in
    let live = (g.S.SegmentSource.state c.request.new.source).live in
    let e = c.in-Ok.ensures in
    let owes = e.owed in
    let made : vec_len c.reserve.new.self + (s.spare + 3) ≤ vec_capacity c.reserve.new.self = search rules in
    let all = c.push_reserved.ensures.items ∙ ap (λ xs. xs ++ Requested c.args.id c.number.result ∷ []) c.reserve.ensures.items ∙ ap (λ n. s.history.items ++ Requested c.args.id n ∷ []) c.number.ensures in (
      subst (λ (xs : List (SharedEvent SharedKind)). IsKept g.S.Fits.fits live c.request.new.self xs (s.spare + 2)) (sym all)
          (keeps-request g.S.Fits.fits (g.S.SegmentSource.state s.source).live live s.table c.request.new.self s.history.items s.spare c.args.id c.in-Ok.holder.number c.self.invariant.0 e.step.1 e.fresh e.agree owes),
      omega (arith, c.push_reserved.ensures.len, c.push_reserved.ensures.capacity, made),
    )
