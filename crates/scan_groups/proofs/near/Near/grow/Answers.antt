use Rattle.std.proofs.Common.{◌≡◌, sym, subst, rules}
use Rattle.std.specs.Prelude.{All, replicate}
use Rattle.std.proofs.lemmas.List.Elements.{All-replicate}
use Rattle.scan_groups.specs.Near.{IsAt}
use Rattle.scan_groups.proofs.near.Near.grow.Goals as goal

pub returns : goal.returns
returns c = λ m is.
    let n = c.match-checked_mul-2.len.0 in
    let made : c.in_ok-self.field-0.items ≡ replicate n c.args.slot = search rules in
    subst (All (IsAt m)) (sym made) (All-replicate (IsAt m) n c.args.slot is)
