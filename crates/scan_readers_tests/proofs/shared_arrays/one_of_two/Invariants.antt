use Rattle.std.specs.Prelude.{◌≡◌, ◌⊎◌, Ok}
use Rattle.scan_readers_tests.proofs.shared_arrays.one_of_two.Given as goal

abbrev pub ghosts-computed_by_two : goal.ghosts-computed_by_two
ghosts-computed_by_two g a = record { holds = λ r. (r ≡ Ok a.one) ⊎ (r ≡ Ok a.two) }
