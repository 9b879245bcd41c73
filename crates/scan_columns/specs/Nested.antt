-- Lists and rows that are kept as the cells within them.
use Rattle.std.specs.Prelude.{◌≡◌, ◌≤◌, ℕ, zero, suc, ◌+◌, ◌-◌, Bool, List, [], ◌∷◌, ◌++◌, map, take, drop, length, replicate, refl}
use Rattle.std.specs.List.{flat_map}
use Rattle.std.specs.Coded.{Coded, code_by, coded×, coded_ℕ, coded_list}
use Rattle.scan_values.specs.Val.{Val, val_code, list_val, struct_val, vals_of}
pub use Rattle.scan_spelling.specs.Cuts.{sizes, Rises, sums, total, cuts}

-- what a contract sees of a kind that holds cells: how deep cells stand in it, and its values
pub record Deep : Type 0 where
  pub depth : ℕ
  pub items : List Val

abbrev pub deep_code : Coded Deep
deep_code = code_by (ℕ × List Val) (coded× coded_ℕ (coded_list val_code)) (λ d. (d.depth, d.items)) (λ p. record { depth = p.0; items = p.1 }) (λ _. refl)

abbrev pub of_deep : ℕ → List Val → Deep
of_deep k vs = record { depth = k; items = vs }

abbrev pub list_of : List Val → Val
list_of vs = list_val (vals_of vs)

abbrev pub struct_of : List Val → Val
struct_of vs = struct_val (vals_of vs)

-- for each element, whether its list is kept
abbrev pub spread : List Bool → List ℕ → List Bool
spread [] ns = []
spread (m ∷ ms) [] = []
spread (m ∷ ms) (n ∷ ns) = replicate n m ++ spread ms ns

-- the first item of each column
abbrev pub heads : List (List Val) → List Val
heads = flat_map (take 1)

-- the first rows of columns
abbrev pub rows_of : ℕ → List (List Val) → List (List Val)
rows_of zero cs = []
rows_of (suc n) cs = heads cs ∷ rows_of n (map (drop 1) cs)

-- each column has so many items
abbrev pub AreLong : ℕ → List (List Val) → Type 0
AreLong n [] = Unit {0}
AreLong n (c ∷ cs) = (length c ≡ n) × AreLong n cs
