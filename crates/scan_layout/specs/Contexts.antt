-- Contexts, as finite maps.
use Rattle.std.specs.Prelude.{ℕ, map, List}
use Rattle.std.specs.Arc.{arc_value}
use Rattle.std.specs.Coded.{Coded, coded_ℕ}
use Rattle.std.specs.FinMap.{FinMap, code, from_entries}
use Rattle.std.specs.Ordering.{nat_cmp}
use Rattle.std.specs.declared.alloc.Global.{Global}
use Rattle.std.specs.declared.sync.Arc.{Arc}

-- values by ids
abbrev pub Context : Type 0 → Type 0
Context V = FinMap nat_cmp V

-- a context is stored as its entries
abbrev pub context_code : {V : Type 0} → Coded V → Coded (Context V)
context_code v = code coded_ℕ v

-- what shared entries are
abbrev pub seen : {V : Type 0} → List (ℕ × Arc V Global) → Context V
seen es = from_entries (map (λ e. (e.0, arc_value e.1)) es)
