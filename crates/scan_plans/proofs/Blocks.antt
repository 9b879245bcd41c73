-- Rows that are looked at block by block.
use Rattle.std.proofs.Common.{◌≡◌, ◌∙◌, ◌<◌, ℕ, Bool, true, ◌||◌, List, [], ◌∷◌, length, take, drop, ap, sym, arith}
use Rattle.std.specs.List.{list_any}
use Rattle.std.proofs.lemmas.List.{take-append-drop}
use Rattle.std.proofs.lemmas.List.Folds.{list_any-append}

-- a row is true among the first so many, or among those after them
pub any_parts : (k : ℕ) (bits : List Bool) → list_any (λ b. b) bits ≡ (list_any (λ b. b) (take k bits) || list_any (λ b. b) (drop k bits))
any_parts k bits = ap (list_any (λ b. b)) (sym (take-append-drop k bits)) ∙ list_any-append (λ b. b) (take k bits) (drop k bits)

-- there is a row where one is true
pub any_long : (bits : List Bool) → list_any (λ b. b) bits ≡ true → 0 < length bits
any_long [] h = absurd cc
any_long (b ∷ bits) h = omega arith
