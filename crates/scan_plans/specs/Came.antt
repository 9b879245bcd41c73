-- What has arrived, as a function, and as a store of its own.
use Rattle.std.specs.Prelude.{◌≡◌, ℕ, List, Option, Some, option_and_then, option_map}
use Rattle.std.specs.FinMap as map
use Rattle.scan_segments.specs.Source.{Store}
use Rattle.scan_splits.specs.Arrivals.{Arrivals, content}

-- of each id that has arrived its bytes, or that it is missing
abbrev pub Came : Type 0
Came = ℕ → Option (Option (List ℕ))

abbrev pub came : Arrivals → Came
came inbox id = option_map content (map.get inbox id)

-- the store of what has arrived alone
abbrev pub arrived : Came → Store
arrived here id = option_and_then (λ bytes. bytes) (here id)

-- all of a store has arrived
abbrev pub all_of : Store → Came
all_of store id = Some (store id)

-- what has arrived is what the store has
abbrev pub Holds : Store → Came → Type 0
Holds store here = (id : ℕ) (bytes : Option (List ℕ)) → here id ≡ Some bytes → store id ≡ bytes

-- what has arrived of the first has arrived of the second
abbrev pub Extends : Came → Came → Type 0
Extends here more = (id : ℕ) (bytes : Option (List ℕ)) → here id ≡ Some bytes → more id ≡ Some bytes
