use Rattle.std.proofs.Common.{All, sym, subst}
use Rattle.scan_spelling.specs.Written.{TextFits}
use Rattle.scan_encode.specs.RowsIn.{rows_in}
use Rattle.scan_encode.proofs.RowsOf.{texts_short}
use Rattle.scan_encode.proofs.leaf.segment_bytes.Goals as goal

pub encoded-requires-clause-short : goal.encoded-requires-clause-short
encoded-requires-clause-short c =
    subst (λ a. All TextFits a.items) (sym c.in_ok-array.ensures) (texts_short c.args.dtype.now (rows_in c.args.rows.now) c.requires.fit)
