-- The words that ask for generated files, told from all others.
use Rattle.std.proofs.Common.{◌≡◌, ℕ, ◌<◌, ◌≤◌, ◌^◌, List, [], ◌∷◌, map, length, get_or, sym, ap, ◌∙◌, arith}
use Rattle.std.specs.Prelude.{Result, Ok, codes}
use Rattle.std.specs.Str.Parse.{ParsesUnsigned}
use Rattle.std.proofs.lemmas.Fmt.{parse-decimal}
use Rattle.scan_spelling.specs.declared.spelling.Spelling.{Spelling}
use Rattle.scan_run.specs.Words.{IsRows, IsAsking, IsGenerate}

-- a word that is a number of rows is read as that number
pub is_read : {E : Type 0} (word : List ℕ) (r : Result ℕ E) (n : ℕ) → ParsesUnsigned 32 10 word r → IsRows word n → r ≡ Ok n
is_read word r n p h = let m = h.most in parse-decimal 32 n word r (omega arith) (omega arith) h.is p

pub same_rows : {E : Type 0} (word : List ℕ) (r : Result ℕ E) (rows n : ℕ) → ParsesUnsigned 32 10 word r → r ≡ Ok rows → IsRows word n → n ≡ rows
same_rows word r rows n p e h = let f : Ok n ≡ Ok rows = sym (is_read word r n p h) ∙ e in cc

module _ {A : Type 0} (f : A → List ℕ) (n : ℕ) (s : Spelling) where
  pub two_words : (ws : List A) (x y : A) (a b : List ℕ) → 2 ≤ length ws → length ws < 3 → x ≡ get_or ws 0 x → y ≡ get_or ws 1 y → a ≡ f x → b ≡ f y
      → IsGenerate (map f ws) n s → IsAsking a b (codes "1") n s
  two_words [] x y a b lo hi p q g h k = absurd (omega arith)
  two_words (v ∷ []) x y a b lo hi p q g h k = absurd (omega arith)
  two_words (v ∷ w ∷ []) x y a b lo hi p q g h k = record {
    name = g ∙ (ap f p ∙ k.name);
    rows = record { is = h ∙ (ap f q ∙ k.rows.is); some = k.rows.some; most = k.rows.most };
    spelling = k.spelling;
  }
  two_words (v ∷ w ∷ u ∷ us) x y a b lo hi p q g h k = absurd (omega arith)

  pub three_words : (ws : List A) (x y z : A) (a b d : List ℕ) → 3 ≤ length ws → length ws < 4 → x ≡ get_or ws 0 x → y ≡ get_or ws 1 y → z ≡ get_or ws 2 z → a ≡ f x → b ≡ f y → d ≡ f z
      → IsGenerate (map f ws) n s → IsAsking a b d n s
  three_words [] x y z a b d lo hi p q r g h i k = absurd (omega arith)
  three_words (v ∷ []) x y z a b d lo hi p q r g h i k = absurd (omega arith)
  three_words (v ∷ w ∷ []) x y z a b d lo hi p q r g h i k = absurd (omega arith)
  three_words (v ∷ w ∷ u ∷ []) x y z a b d lo hi p q r g h i k = record {
    name = g ∙ (ap f p ∙ k.name);
    rows = record { is = h ∙ (ap f q ∙ k.rows.is); some = k.rows.some; most = k.rows.most };
    spelling = i ∙ (ap f r ∙ k.spelling);
  }
  three_words (v ∷ w ∷ u ∷ t ∷ ts) x y z a b d lo hi p q r g h i k = absurd (omega arith)
