-- Texts that are kept in one buffer.
use Rattle.std.specs.Prelude.{ℕ, Bool, List, refl}
use Rattle.std.specs.Coded.{Coded, code_by, coded×, coded_ℕ, coded_bool, coded_list}
use Rattle.scan_values.specs.Val.{Val, text_val}
use Rattle.scan_spelling.specs.Cuts.{cuts}
use Rattle.scan_columns.specs.Typed.{typed}

-- what a contract sees of texts: how long each is, the bytes of all, and whether each is there
pub record TextData : Type 0 where
  pub lengths : List ℕ
  pub bytes : List ℕ
  pub valid : List Bool

abbrev pub text_code : Coded TextData
text_code = code_by (List ℕ × (List ℕ × List Bool)) (coded× (coded_list coded_ℕ) (coded× (coded_list coded_ℕ) (coded_list coded_bool))) (λ d. (d.lengths, (d.bytes, d.valid))) (λ p. record { lengths = p.0; bytes = p.1.0; valid = p.1.1 }) (λ _. refl)

abbrev pub of_texts : List ℕ → List ℕ → List Bool → TextData
of_texts ns bytes bs = record { lengths = ns; bytes = bytes; valid = bs }

-- the values of texts of these lengths
abbrev pub text_vals : List ℕ → List ℕ → List Bool → List Val
text_vals ns bytes bs = typed text_val (cuts ns bytes) bs

abbrev pub texts_in : TextData → List Val
texts_in d = text_vals d.lengths d.bytes d.valid
