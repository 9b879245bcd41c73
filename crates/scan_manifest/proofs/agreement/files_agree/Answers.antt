use Rattle.std.proofs.Common.{◌+◌, drop, refl, sym, ap, ◌∙◌}
use Rattle.std.proofs.lemmas.Map.Text.{btree_map_updates_str}
use Rattle.scan_manifest.proofs.Firsts.{settled, looked_up, none_yet, stops, stays, joins}
use Rattle.scan_manifest.proofs.agreement.files_agree.Goals as goal
use Rattle.scan_manifest.proofs.agreement.files_agree.Goals.{in-Some+else-not-same, in-None+in_ok-insert-in-None}

pub loop-file-init : goal.loop-file-init
loop-file-init c = none_yet c.new-firsts.result c.args.files.now c.new-firsts.ensures.empty

pub returns-then-not-same : goal.returns-then-not-same
returns-then-not-same c =
    stops c.args.files.now c.loop-file.file-index c.file-item.result c.loop-file-test.true c.file-item.is c.loop-file.firsts c.loop-file.invariant
    c.as_str-id.result.now c.as_str-id.ensures c.in-Some.first.now c.in-Some.ensures.value (sym c.same.ensures ∙ c.if-not-same.true)

pub loop-file-preserved : goal.loop-file-preserved
loop-file-preserved c = elim c.match-get.branch [
  | in-Some+else-not-same w ↦
      stays c.args.files.now c.loop-file.file-index c.file-item.result c.loop-file-test.true c.file-item.is c.loop-file.firsts c.loop-file.invariant
      c.as_str-id.result.now c.as_str-id.ensures w.in-Some.first.now w.in-Some.ensures.value (sym w.same.ensures ∙ w.if-not-same.false)
      ∙ ap (λ m. settled (looked_up m) (drop (c.loop-file.file-index + 1) c.args.files.now)) (sym w.firsts-is)
  | in-None+in_ok-insert-in-None w ↦
      joins c.args.files.now c.loop-file.file-index c.file-item.result c.loop-file-test.true c.file-item.is c.loop-file.firsts c.loop-file.invariant
      c.as_str-id.result.now c.as_str-id.ensures w.insert.new.self _ w.in-None.ensures.value refl
      (btree_map_updates_str c.as_str-id.result.now c.loop-file.firsts w.insert.new.self _ w.in_ok-insert-in-None.ensures.updates)
      ∙ ap (λ m. settled (looked_up m) (drop (c.loop-file.file-index + 1) c.args.files.now)) (sym w.firsts-is)
]
