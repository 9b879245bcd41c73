use Rattle.std.proofs.Common.{length, sym, ap, ◌∙◌}
use Rattle.scan_table.proofs.Types.{own_names-length}
use Rattle.scan_table.proofs.request.projection_of.Goals as goal

pub pack-requires : goal.pack-requires
pack-requires c = sym (ap length c.in_ok-names.ensures ∙ own_names-length 0 c.as_slice.result.now ∙ ap length c.as_slice.ensures.value)
