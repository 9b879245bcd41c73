use Rattle.std.proofs.Common.{◌-◌, sym, ap, ◌∙◌, arith, rules, Some}
use Rattle.std.proofs.lemmas.Grind.{common_steps}
use Rattle.serde_json.specs.View.{view}
use Rattle.scan_manifest.specs.Exprs.{expr_from, expr_within, part_in}
use Rattle.scan_manifest.proofs.Lists.{pairs_more, parse_same}
use Rattle.scan_manifest.proofs.Levels.{expr_level, pack_read}
use Rattle.scan_manifest.proofs.expression.+exprs.Goals as goal

pub read_expr_within-returns-in-None : goal.read_expr_within-returns-in-None
read_expr_within-returns-in-None t c =
    parse_same _ _ _ (expr_level c.args.levels (view c.args.json.now) (omega arith) ∙ ap (expr_from (expr_within (c.args.levels - 1)) (view c.args.json.now)) (sym c.in-None.ensures)) c.read_node.ensures

pub read_parts-loop-json-preserved : goal.read_parts-loop-json-preserved
read_parts-loop-json-preserved t c = record {
  lengths = let a = c.in_ok-push.ensures.len in let b = c.in_ok-push-2.ensures.len in let e = c.loop-json.invariant.lengths in search (rules, e);
  found = pairs_more (part_in (expr_within c.args.levels)) c.args.list.now c.loop-json.names.items _ c.loop-json.parts.items _ c.loop-json.json-index
      c.json-item.result c.in_ok-name.name c.in_ok-name.part
      (omega arith) c.json-item.is c.loop-json.invariant.lengths c.in_ok-push.ensures.items c.in_ok-push-2.ensures.items c.loop-json.invariant.found
      c.in_ok-name.ensures;
}

pub read_pack-returns : goal.read_pack-returns
read_pack-returns t c =
    pack_read (expr_within c.args.levels) (view c.args.json.now) (view c.args.parts.now) _ c.in_ok-names.names.items c.in_ok-names.parts.items c.in_ok-n.n (grind (arith, common_steps)) c.in_ok-read_items.ensures c.in_ok-names.ensures.parts c.in_ok-n.ensures c.in_ok-names.ensures.lengths
    ∙ ap Some (sym c.pack.ensures)
