use Rattle.std.proofs.Common.{◌≡◌, ◌++◌, ◌∷◌, [], true, cond, if◌then◌else◌, not, take, ap, ◌∙◌}
use Rattle.std.specs.BTreeSet as set
use Rattle.scan_values.specs.Same.{same_names}
use Rattle.scan_core.specs.FieldMasks.{path_mask}
use Rattle.scan_core.specs.NameSets.{path_cmp, names_in}
use Rattle.scan_core.proofs.Masking.{has_path, masks_more, seen_more}
use Rattle.scan_core.proofs.Naming.{paths_same}
use Rattle.scan_core.proofs.field_masks.distinct_masks.Goals as goal

pub loop-path-preserved : goal.loop-path-preserved
loop-path-preserved c =
    let ps = c.args.paths.now in
    let i = c.loop-path.path-index in
    let p = c.path-item.result in
    let key = c.in_ok-texts_of.field-0 in
    let had : c.in_ok-is_new.is_new ≡ not (has_path p (take i ps)) = c.in_ok-is_new.ensures.added ∙ ap not (c.loop-path.invariant.seen key ∙ ap (λ z. has_path z (take i ps)) c.in_ok-texts_of.ensures) in
    record {
      same = c.in_ok-push_new.ensures ∙ ap (λ z. z ++ (if c.in_ok-is_new.is_new then path_mask p ∷ [] else [])) c.loop-path.invariant.same ∙ masks_more ps i p c.in_ok-is_new.is_new c.loop-path-test.true c.path-item.is had;
      seen = λ q. c.in_ok-is_new.ensures.updates.0 q ∙ ap (λ b. cond b true (set.contains path_cmp c.loop-path.seen q)) (paths_same key q) ∙ ap (λ z. cond (same_names z (names_in q)) true (set.contains path_cmp c.loop-path.seen q)) c.in_ok-texts_of.ensures
          ∙ seen_more ps i p (names_in q) (set.contains path_cmp c.loop-path.seen q) c.loop-path-test.true c.path-item.is (c.loop-path.invariant.seen q);
    }
