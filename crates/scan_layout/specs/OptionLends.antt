-- What an option ends as, once a reference to what it holds has ended.
use Rattle.std.specs.Prelude.{Option, Some}
use Rattle.std.specs.Borrow.{Fml, RattleType, MutBor, Lends}
use Rattle.std.specs.contracts.option.Option as option

-- an option ends with the last value written through r
abbrev pub lends_value : (M : RattleType) → MutBor (Option M.Denot) → MutBor M.Denot → Fml
lends_value M s r = Lends (option.the_row M) M s r (λ w. Some w)
