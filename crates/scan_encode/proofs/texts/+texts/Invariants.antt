use Rattle.std.proofs.Common.{◌≡◌, ◌+◌, ◌*◌, drop, map}
use Rattle.scan_values.specs.Val.{val_size, vals_size, vals_of}
use Rattle.scan_values.specs.Values.{val_of}
use Rattle.scan_encode.specs.Rows.{all_texts_fit}
use Rattle.scan_encode.proofs.texts.+texts.Given as goal

abbrev pub decreases-texts_fit : goal.decreases-texts_fit
decreases-texts_fit l = 2 * val_size (val_of l.value.now)

abbrev pub decreases-all_texts_fit : goal.decreases-all_texts_fit
decreases-all_texts_fit l = 2 * vals_size (vals_of (map val_of l.values.now)) + 1

abbrev pub invariant-all_texts_fit-loop-value : goal.invariant-all_texts_fit-loop-value
invariant-all_texts_fit-loop-value l = all_texts_fit (vals_of (map val_of l.values)) ≡ all_texts_fit (vals_of (map val_of (drop l.value-index l.values)))
