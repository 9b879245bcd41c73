-- Items that stand one after another in one run, cut where each ends.
use Rattle.std.specs.Prelude.{◌≡◌, ◌≤◌, ◌+◌, ◌-◌, ℕ, List, [], ◌∷◌, take, drop, length, true}
use Rattle.std.specs.List.{list_all}
use Rattle.std.specs.Str.{is_utf8}

-- how long each is, by where each ends
abbrev pub sizes : ℕ → List ℕ → List ℕ
sizes start [] = []
sizes start (k ∷ ks) = (k - start) ∷ sizes k ks

-- none ends before it begins
abbrev pub Rises : ℕ → List ℕ → Type 0
Rises start [] = Unit {0}
Rises start (k ∷ ks) = (start ≤ k) × Rises k ks

-- where each ends, by how long each is
abbrev pub sums : ℕ → List ℕ → List ℕ
sums start [] = []
sums start (n ∷ ns) = (start + n) ∷ sums (start + n) ns

-- how long all are
abbrev pub total : List ℕ → ℕ
total [] = 0
total (n ∷ ns) = n + total ns

-- the run, cut into parts of these sizes
abbrev pub cuts : {A : Type 0} → List ℕ → List A → List (List A)
cuts [] es = []
cuts (n ∷ ns) es = take n es ∷ cuts ns (drop n es)

-- bytes that are texts of these sizes, and no more
abbrev pub AreTexts : List ℕ → List ℕ → Type 0
AreTexts ns bytes = (total ns ≡ length bytes) × (list_all is_utf8 (cuts ns bytes) ≡ true)
