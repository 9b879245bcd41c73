use Rattle.std.proofs.Common.{◌≡◌, ◌∙◌, false, subst, ap, arith}
use Rattle.scan_sharing.specs.Sharing.{entry_at, is_held}
use Rattle.scan_sharing.proofs.Numbers.{below_joined}
use Rattle.scan_sharing.proofs.shared.SharedTable.request.Goals as goal

pub returns-clause-fresh : goal.returns-clause-fresh
returns-clause-fresh g c i =
    ap (λ h. is_held h.number (entry_at c.args.self.now i)) c.new.ensures
    ∙ subst (λ es. is_held c.in-Some.number (entry_at es i) ≡ false) c.self.view_is (c.in-Some.ensures.free i)

pub invariant_of-self-2 : goal.invariant_of-self-2
invariant_of-self-2 g c =
    below_joined c.self.inside.next c.max-self-inside.result c.in-Some.number c.args.id c.self.inside.entries.entries c.enter.new.entries.entries
    c.self.invariant (omega arith) (omega arith) c.in_ok-enter.ensures.ok
