-- The value that is lent, or was made.
use Rattle.scan_values.specs.Val.{Val}
use Rattle.scan_values.specs.Values.{val_of}
use Rattle.scan_expr.specs.declared.evaluate.Lent.{Lent}
use Rattle.scan_expr.specs.declared.evaluate.Lent.TheVariants.{Held, Made}

abbrev pub lent_val : Lent → Val
lent_val (Held v) = val_of v.now
lent_val (Made v) = val_of v
