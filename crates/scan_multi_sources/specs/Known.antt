-- Estimates of a sum of numbers some of which are known.
use Rattle.std.specs.Prelude.{◌==◌, ◌+◌, ◌*◌, ◌/◌, ℕ, min, List, [], ◌∷◌, length, sum, if◌then◌else◌, Option, Some, None}
use Rattle.scan_multi_sources.specs.declared.known.Known.{Known}
use Rattle.scan_sources.specs.declared.precision.Precision.{Precision}
use Rattle.scan_sources.specs.declared.precision.Precision.TheVariants.{Exact, Inexact, Absent}

-- the numbers that are known
abbrev pub known : List (Option ℕ) → List ℕ
known [] = []
known (None ∷ os) = known os
known (Some n ∷ os) = n ∷ known os

-- a number, up to the greatest u64
abbrev pub capped : ℕ → ℕ
capped n = min n 18446744073709551615

-- exactly the sum where all are known, nothing where none is; else the mean of the known times their number
abbrev pub estimate : ℕ → ℕ → ℕ → Precision ℕ
estimate total count all = if count == all then Exact total else if count == 0 then Absent else Inexact (capped (total / count * all))

-- the estimate of numbers of which some are known
abbrev pub estimate_of : List (Option ℕ) → Precision ℕ
estimate_of os = estimate (capped (sum (known os))) (length (known os)) (length os)

-- the sum of known numbers and how many they are
abbrev pub known_data : ℕ → ℕ → Known
known_data n k = record { total = n; count = k }

-- with a further number, where that is known
abbrev pub add_known : Known → Option ℕ → Known
add_known k None = k
add_known k (Some n) = known_data (capped (k.total + n)) (k.count + 1)

-- the same of several
abbrev pub known_of : List (Option ℕ) → Known
known_of os = known_data (capped (sum (known os))) (length (known os))
