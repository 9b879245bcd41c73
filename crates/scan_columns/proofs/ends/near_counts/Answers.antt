use Rattle.std.proofs.Common.{◌∙◌, ap, length}
use Rattle.std.proofs.lemmas.List.{length-map}
use Rattle.std.specs.Int.{w64, cast_signed}
use Rattle.scan_columns.proofs.ends.near_counts.Goals as goal

pub written_counts-requires-clause-length : goal.written_counts-requires-clause-length
written_counts-requires-clause-length c = ap length c.in_ok-made.ensures ∙ length-map c.args.ends.now (λ n. cast_signed w64 n)
