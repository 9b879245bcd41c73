use Rattle.std.proofs.Common.{rules, ◌≡◌, ◌++◌, ◌∷◌, [], ap, subst, ◌∙◌}
use Rattle.std.specs.Prelude.{Ok, filter}
use Rattle.std.proofs.lemmas.Fn.{filter_same}
use Rattle.scan_splits.specs.RowLists.{shifted, Adds, SameNumbers}
use Rattle.scan_splits.specs.RowSpans.{RowSpan, span_of}
use Rattle.scan_core.specs.Boundaries.{is_within}
use Rattle.scan_core.proofs.Owning.{own_cuts, span_is}
use Rattle.scan_core.proofs.split_by.own_splits.Goals as goal

pub returns-clause-splits : goal.returns-clause-splits
returns-clause-splits g c =
    let s = g.R.LayoutReader.state c.args.reader.now in
    let r = c.args.range.now in
    let masks = c.args.masks.now in
    let span : Ok c.unwrap-rows.result ≡ span_of 0 r = search rules in
    let rows = span_is r c.unwrap-rows.result c.requires.order span in
    let adds : Adds (shifted 0 (s.edges masks r.start r.end)) c.push.new.self c.register.new.splits = subst (λ (z : RowSpan). Adds (shifted z.offset (s.edges masks z.start z.end)) c.push.new.self c.register.new.splits) rows c.in_ok-register.ensures.pushed in
    let first : c.push.new.self ≡ r.start ∷ [] = c.in_ok-push.ensures.ok ∙ ap (λ z. z ++ r.start ∷ []) c.in_ok-splits.ensures in
    let all : c.push-2.new.self ≡ ((r.start ∷ []) ++ adds.added) ++ r.end ∷ [] = c.in_ok-push-2.ensures.ok ∙ ap (λ z. z ++ r.end ∷ []) (adds.grows ∙ ap (λ z. z ++ adds.added) first) in
    let sorted = c.into_sorted_deduped-splits.result.items in
    let kept : c.retain.new.self.items ≡ filter (is_within r) sorted = filter_same _ _ _ (λ x b f' k. search rules) _ _ c.retain.ensures.filtered in
    kept ∙ own_cuts r (s.edges masks r.start r.end) adds.added c.requires.order adds.same sorted c.into_sorted_deduped-splits.ensures.rising (subst (λ z. SameNumbers sorted z) all c.into_sorted_deduped-splits.ensures.same)
