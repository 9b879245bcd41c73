use Rattle.std.proofs.Common.{true, refl}
use Rattle.std.proofs.Output.{has_written_append, has_written_of_eq}
use Rattle.scan_layout.proofs.Showing.{indent_more}
use Rattle.scan_layout.proofs.shown.show_indent.Goals as goal

pub loop-i-preserved : goal.loop-i-preserved
loop-i-preserved g c =
    λ p.
    let so_far = c.loop-i.invariant p in
    has_written_of_eq g.W.Write.write_str_gives _ _ _ _ (indent_more c.loop-i._i) (has_written_append g.W.Write.write_str_gives _ _ _ _ _ so_far (c.in_ok-write_str.ensures.writes so_far.plain (refl {a = true})))
