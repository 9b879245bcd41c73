use Rattle.scan_values.specs.Values.{val_of}
use Rattle.scan_values.specs.Val.{Val, marked}
use Rattle.scan_values.specs.Marked.{is_true}
use Rattle.scan_values.proofs.Fitting.{map-map}
use Rattle.scan_values.proofs.array.Array.to_mask.Goals as goal

pub returns : goal.returns
returns c = rw (c.from_bools.ensures, c.in_ok-bits.ensures, ← c.self.view_is, ← c.as_slice.ensures) (map-map val_of (λ (v : Val). is_true (marked v)) c.as_slice.result.now)
