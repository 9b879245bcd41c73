use Rattle.std.proofs.Common.{◌-◌, sym, ap, ◌∙◌, arith}
use Rattle.serde_json.specs.View.{view}
use Rattle.scan_manifest.specs.Layouts.{layout_from, layout_within}
use Rattle.scan_manifest.proofs.Lists.{parse_same_by}
use Rattle.scan_manifest.proofs.Levels.{layout_level}
use Rattle.scan_manifest.proofs.layout.+layouts.Goals as goal

pub read_layout_within-returns-in-Some : goal.read_layout_within-returns-in-Some
read_layout_within-returns-in-Some t c =
    parse_same_by _ _ _ _ (layout_level c.args.levels c.args.dtype (view c.args.json.now) (omega arith) ∙ ap (layout_from (layout_within (c.args.levels - 1)) c.args.dtype (view c.args.json.now)) (sym c.in-Some.ensures)) c.read_leaf.ensures

pub read_layout_within-returns-in-None : goal.read_layout_within-returns-in-None
read_layout_within-returns-in-None t c =
    parse_same_by _ _ _ _ (layout_level c.args.levels c.args.dtype (view c.args.json.now) (omega arith) ∙ ap (layout_from (layout_within (c.args.levels - 1)) c.args.dtype (view c.args.json.now)) (sym c.in-None.ensures)) c.read_tree.ensures
