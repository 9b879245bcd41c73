use Rattle.std.proofs.Common.{◌≡◌, true, refl, ap, subst, ◌∙◌}
use Rattle.std.specs.Prelude.{IfSome}
use Rattle.scan_readers.specs.FieldNames.{all_lead}
use Rattle.scan_core.proofs.Leading.{more_lead, masks_lead}
use Rattle.scan_core.proofs.field_masks.referenced_field_masks.Goals as goal
use Rattle.scan_core.proofs.field_masks.referenced_field_masks.Goals.{in-Some+in_ok-add_referenced-2, in_default}

pub returns-clause-named : goal.returns-clause-named
returns-clause-named c = λ same.
    let p = c.args.projection.now in
    let first : all_lead p.scope c.add_referenced.new.paths.items ≡ true = more_lead p.scope p c.new-paths.result.items c.add_referenced.new.paths.items refl c.in_ok-add_referenced.ensures.named (ap (all_lead p.scope) c.new-paths.ensures.items) c.in_ok-add_referenced.ensures.paths in
    let all : all_lead p.scope c.match-filter.paths.items ≡ true = elim c.match-filter.branch [
      | in-Some+in_ok-add_referenced-2 w ↦
          let f = w.in-Some.filter.now in
          let over : f.scope ≡ p.scope = subst (λ o. IfSome o (λ f. f.now.scope ≡ p.scope)) w.in-Some.is same in
          ap (λ v. all_lead p.scope v.items) w.paths-is ∙ more_lead p.scope f c.add_referenced.new.paths.items w.add_referenced-in-Some.new.paths.items over w.in_ok-add_referenced-2.ensures.named first w.in_ok-add_referenced-2.ensures.paths
      | in_default w ↦ ap (λ v. all_lead p.scope v.items) w.paths-is ∙ first
    ] in
    masks_lead p.scope c.deref.result.now c.distinct_masks.result (ap (all_lead p.scope) c.deref.ensures.value ∙ all) c.distinct_masks.ensures
