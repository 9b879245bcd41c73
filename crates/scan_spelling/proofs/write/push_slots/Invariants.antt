use Rattle.std.proofs.Common.{◌≡◌, ℕ, ◌<◌, ◌++◌, drop, get_or, map}
use Rattle.scan_values.specs.declared.value.Value.{Value}
use Rattle.scan_values.specs.Values.{val_of}
use Rattle.scan_spelling.specs.Written.{slots, TextFits, IsText}
use Rattle.scan_spelling.proofs.write.push_slots.Given as goal

abbrev pub invariant-loop-item : goal.invariant-loop-item
invariant-loop-item l =
    record {
      written : l.out.items ++ slots l.kind (map val_of (drop l.item-index l.items)) ≡ l.initial.out.items ++ slots l.kind (map val_of l.items);
      short : (k : ℕ) (d : Value) → k < l.item-index → TextFits (val_of (get_or l.items k d));
      text : (k : ℕ) (d : Value) → k < l.item-index → IsText (val_of (get_or l.items k d));
    }
