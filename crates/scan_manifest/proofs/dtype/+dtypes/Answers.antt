use Rattle.std.proofs.Common.{◌-◌, sym, ap, ◌∙◌, arith, rules}
use Rattle.serde_json.specs.View.{view}
use Rattle.scan_manifest.specs.DTypes.{dtype_from, dtype_within, field_in}
use Rattle.scan_manifest.proofs.Lists.{pairs_more, parse_same}
use Rattle.scan_manifest.proofs.Levels.{dtype_level}
use Rattle.scan_manifest.proofs.dtype.+dtypes.Goals as goal

pub read_dtype_within-returns-in-None : goal.read_dtype_within-returns-in-None
read_dtype_within-returns-in-None t c =
    parse_same _ _ _ (dtype_level c.args.levels (view c.args.json.now) (omega arith) ∙ ap (dtype_from (dtype_within (c.args.levels - 1)) (view c.args.json.now)) (sym c.in-None.ensures)) c.read_nested.ensures

pub read_fields-loop-json-preserved : goal.read_fields-loop-json-preserved
read_fields-loop-json-preserved t c = record {
  lengths = let a = c.in_ok-push.ensures.len in let b = c.in_ok-push-2.ensures.len in let e = c.loop-json.invariant.lengths in search (rules, e);
  found = pairs_more (field_in (dtype_within c.args.levels)) c.args.list.now c.loop-json.names.items _ c.loop-json.dtypes.items _ c.loop-json.json-index
      c.json-item.result c.in_ok-name.name c.in_ok-name.dtype
      (omega arith) c.json-item.is c.loop-json.invariant.lengths c.in_ok-push.ensures.items c.in_ok-push-2.ensures.items c.loop-json.invariant.found
      c.in_ok-name.ensures;
}
