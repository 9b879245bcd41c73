-- The words that ask for generated files.
use Rattle.std.specs.Prelude.{ℕ, ◌≡◌, ◌≤◌, List, [], ◌∷◌, codes}
use Rattle.std.specs.Fmt.{decimal}
use Rattle.scan_spelling.specs.declared.spelling.Spelling.{Spelling}
use Rattle.scan_spelling.specs.declared.spelling.Spelling.TheVariants.{One, Two}

-- a number of rows from 1 to 100,000, in decimal digits
pub record IsRows (text : List ℕ) (n : ℕ) : Type 0 where
  pub is : text ≡ decimal n
  pub some : 1 ≤ n
  pub most : n ≤ 100000

-- the word of a spelling
abbrev pub spelling_word : Spelling → List ℕ
spelling_word One = codes "1"
spelling_word Two = codes "2"

-- the name of the task, a number of rows, and a spelling
pub record IsAsking (first second third : List ℕ) (n : ℕ) (s : Spelling) : Type 0 where
  pub name : first ≡ codes "generate"
  pub rows : IsRows second n
  pub spelling : third ≡ spelling_word s

-- the words are these, and the spelling is 1 where none is given
abbrev pub IsGenerate : List (List ℕ) → ℕ → Spelling → Type 0
IsGenerate (name ∷ rows ∷ []) n s = IsAsking name rows (codes "1") n s
IsGenerate (name ∷ rows ∷ spelling ∷ []) n s = IsAsking name rows spelling n s
IsGenerate _ n s = ⊥
