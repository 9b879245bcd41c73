use Rattle.std.proofs.Common.{◌≡◌, subst, sym, true}
use Rattle.scan_readers.specs.FieldNames.{name_fields}
use Rattle.scan_core.proofs.Asking.{same_scopes}
use Rattle.scan_core.proofs.planning.split_points.Goals as goal

pub splits-requires-clause-named : goal.splits-requires-clause-named
splits-requires-clause-named g c =
    let scope = c.requires.over.scope in
    let same = same_scopes _ c.args.projection.now c.args.filter scope c.requires.filter in
    let named : name_fields (c.args.projection.now).scope c.in_ok-masks.masks.items ≡ true = c.in_ok-masks.ensures.named same in
    subst (λ d. name_fields d c.deref.result.now ≡ true) scope (subst (λ ms. name_fields (c.args.projection.now).scope ms ≡ true) (sym c.deref.ensures.value) named)
