use Rattle.std.proofs.Common.{◌≡◌, ◌++◌, option_map, sym, subst, arith}
use Rattle.scan_core.specs.FieldMasks.{demand_paths, below, ends_of, lent_names}
use Rattle.scan_core.proofs.Masking.{paths_done, path_one}
use Rattle.scan_core.proofs.field_masks.add_paths.Goals as goal

pub returns-after-loop-end : goal.returns-after-loop-end
returns-after-loop-end c =
    let ns = lent_names c.args.names.now in
    let done = paths_done ns c.in-Some.chosen.now c.args.paths.now.items c.loop-end.paths.items c.loop-end.end-index (omega arith) c.loop-end.invariant in
    subst (λ o. c.loop-end.paths.items ≡ c.args.paths.now.items ++ demand_paths (below ns (ends_of (option_map (λ s. s.now) o)))) (sym c.in-Some.is) done

pub returns-in_ok-push-in-None : goal.returns-in_ok-push-in-None
returns-in_ok-push-in-None c =
    let ns = lent_names c.args.names.now in
    let done = path_one ns c.args.paths.now.items c.push-in-None.new.self.items c.in_ok-path_to-in-None.field-0 c.in_ok-push-in-None.ensures.items c.in_ok-path_to-in-None.ensures in
    subst (λ o. c.push-in-None.new.self.items ≡ c.args.paths.now.items ++ demand_paths (below ns (ends_of (option_map (λ s. s.now) o)))) (sym c.in-None.is) done
