use borrow.Author.Rules.{rules}
use Rattle.std.proofs.Common.{◌≡◌, ◌+◌, ◌++◌, ◌∷◌, [], List, length, drop, ap, subst, sym, ◌∙◌}
use Rattle.scan_plans.specs.Masks.{MaskData, mask_data, AreFilters, Filter as Seen}
use Rattle.scan_plans.specs.Meaning.{Within}
use Rattle.scan_plans.specs.MaskView.{filter_of, filters_of}
use Rattle.scan_plans.specs.declared.mask.Filter.{Filter}
use Rattle.scan_plans.proofs.Progressing.{more_filters, pushed_rest, pushed_within}
use Rattle.scan_plans.proofs.mask.MaskFuture.filter.Goals as goal

pub invariant_of-made : goal.invariant_of-made
invariant_of-made c =
    let fs = c.made.inside.filters.items in
    let ran = c.made.inside.ran in
    let f : Filter = record { plan = c.args.plan; first = c.args.first } in
    let pushed : c.push.new.self.items ≡ fs ++ f ∷ [] = search (rules, c.in_ok-push.ensures.items) in
    let long : length c.args.self.known ≡ length c.made.inside.known = sym (ap (λ (m : MaskData). length m.known) c.made.view_is) in
    let within = subst (λ n. Within (filter_of f).0 (c.args.first + n)) long c.requires.within in
    record {
      within = pushed_within ran fs c.push.new.self.items f c.made.invariant.within pushed;
      form = subst (λ (gs : List Seen). AreFilters (length c.made.inside.known) gs) (sym (pushed_rest ran fs c.push.new.self.items f c.made.invariant.within pushed)) (more_filters (length c.made.inside.known) (filters_of (drop ran fs)) (filter_of f) c.made.invariant.form within c.requires.dtype);
    }

pub returns : goal.returns
returns c =
    let fs = c.made.inside.filters.items in
    let ran = c.made.inside.ran in
    let f : Filter = record { plan = c.args.plan; first = c.args.first } in
    let pushed : c.push.new.self.items ≡ fs ++ f ∷ [] = search (rules, c.in_ok-push.ensures.items) in
    ap (λ (gs : List Seen). mask_data c.made.inside.known gs) (pushed_rest ran fs c.push.new.self.items f c.made.invariant.within pushed)
    ∙ ap (λ (m : MaskData). mask_data m.known (m.filters ++ filter_of f ∷ [])) c.made.view_is
