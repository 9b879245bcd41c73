use Rattle.std.proofs.Common.{subst, IfOk, ℕ, List, Result, Ok, Err}
use Rattle.scan_values.specs.declared.array.Array.{Array}
use Rattle.scan_values.specs.DataType.{DataType}
use Rattle.scan_spelling.specs.declared.spelling.DecodeFault.{DecodeFault}
use Rattle.scan_spelling.specs.declared.spelling.Spelling.{Spelling}
use Rattle.scan_spelling.specs.Spelling.{decode}
use Rattle.scan_spelling.specs.Decoded.{Gives}
use Rattle.scan_spelling.specs.Spells.{Spells}
use Rattle.scan_spelling.proofs.Fitting.{decode_spells, spells_decode}
use Rattle.scan_spelling.proofs.read.decode_segment.Goals as goal

spelled : (r : Result Array DecodeFault) (s : Spelling) (t : DataType) (n : ℕ) (bytes : List ℕ) → Gives (λ a. a.items) r (decode s t n bytes) → IfOk r (λ a. Spells s t n a.items bytes)
spelled (Ok a) s t n bytes e = decode_spells s t n bytes a.items e
spelled (Err f) s t n bytes e = tt

pub returns-clause-found : goal.returns-clause-found
returns-clause-found c = spelled c.read_array.result c.args.spelling c.args.dtype.now c.args.rows c.args.bytes.now c.read_array.ensures.exact

pub returns-clause-only : goal.returns-clause-only
returns-clause-only c vs h =
    subst (λ o. Gives {X = Array} (λ a. a.items) c.read_array.result o)
    (spells_decode c.args.spelling c.args.dtype.now c.args.rows c.args.bytes.now vs h) c.read_array.ensures.exact
