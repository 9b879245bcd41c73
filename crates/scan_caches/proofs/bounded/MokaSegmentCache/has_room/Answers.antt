use Rattle.std.proofs.Common.{◌≡◌, ◌-◌, ◌≤◌, nat_le, subst, arith}
use Rattle.scan_caches.specs.Bounded.{Bounded, fits}
use Rattle.scan_caches.proofs.UseOrder.{fits_is}
use Rattle.scan_caches.proofs.bounded.MokaSegmentCache.has_room.Goals as goal

pub returns-then-self-size : goal.returns-then-self-size
returns-then-self-size g c =
    let s = c.self.inside in
    let t = c.if-self-size.true in
    let light : s.weight ≤ s.capacity - c.args.size = omega arith in
    subst (λ (b : Bounded). nat_le c.len.result (s.max_entries - 1) ≡ fits (b.capacity - c.args.size) (b.max_entries - 1) b.pairs) c.self.view_is
    (fits_is (s.capacity - c.args.size) (s.max_entries - 1) s.weight c.len.result s.pairs.entries c.self.invariant.0 c.len.ensures.len light)
