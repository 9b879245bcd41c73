-- Conjuncts that run in turn, and as they are written.
use Rattle.std.proofs.Common.{Bool, List, map, ◌∙◌, ap}
use Rattle.scan_plans.specs.Meaning.{true_rows}
use Rattle.scan_readers.specs.Readers.{value_of}
use Rattle.scan_core.specs.SplitMeaning.{InTurnMeansWritten, in_turn}
use Rattle.scan_core.proofs.Splitting.{split_means}
use Rattle.scan_core.proofs.Turns.{turn_passes, turn_wants, turn_spoils}

pub in_turn_as_written : InTurnMeansWritten
in_turn_as_written s cs e p first mask h l =
    let split = split_means s (in_turn s cs) e p first mask h l in
    record {
      items = λ store. split.items store ∙ ap (λ (bits : List Bool). map (value_of s e store) (true_rows first bits)) (turn_passes s cs store first mask);
      wants = λ store here id k w. turn_wants s cs e store first mask id (split.wants store here id k w);
      spoils = λ store here id k w. turn_spoils s cs e store first mask id (split.spoils store here id k w);
    }
