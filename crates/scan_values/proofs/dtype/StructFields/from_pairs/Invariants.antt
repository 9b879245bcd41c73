use Rattle.std.proofs.Common.{◌≡◌, ◌++◌, map}
use Rattle.std.specs.Vec.Iter.{into_iter_items}
use Rattle.scan_values.proofs.dtype.StructFields.from_pairs.Given as goal

abbrev pub invariant-loop-pair : goal.invariant-loop-pair
invariant-loop-pair l =
    record {
      names : l.names.items ++ map (λ p. p.0.now) (into_iter_items l.pair-iterator) ≡ map (λ p. p.0.now) l.fn.pairs.items;
      dtypes : l.dtypes.items ++ map (λ p. p.1) (into_iter_items l.pair-iterator) ≡ map (λ p. p.1) l.fn.pairs.items;
    }
