-- What is read can be written.
use Rattle.std.proofs.Common.{◌≡◌, ℕ, zero, suc, List, [], ◌∷◌, All, Some}
use Rattle.std.specs.List.{AllByRecursion}
use Rattle.std.proofs.lemmas.List.Elements.{All-from_recursion}
use Rattle.scan_values.specs.declared.dtype.DTypeKind.{DTypeKind}
use Rattle.scan_values.specs.declared.ptype.Nullability.{Nullability}
use Rattle.scan_values.specs.declared.ptype.Nullability.TheVariants.{NonNullable, Nullable}
use Rattle.scan_values.specs.DataType.{DataType, nullability_of}
use Rattle.scan_values.specs.Kinds.{kind_of}
use Rattle.scan_values.specs.Val.{Val}
use Rattle.std.proofs.Common.{replicate, sym, subst, length, ◌∙◌}
use Rattle.scan_spelling.proofs.Lengths.{decode_length}
use Rattle.scan_spelling.specs.declared.spelling.Spelling.{Spelling}
use Rattle.scan_spelling.specs.Spelling.{decode}
use Rattle.scan_spelling.specs.Spells.{SpellsCell, SpellsCells, SpellsUnder}
use Rattle.scan_spelling.specs.Written.{TextFits}
use Rattle.scan_spelling.proofs.Fitting.{decode_spells}

text_fits : (kind : DTypeKind) (flag : ℕ) (v : Val) (bytes : List ℕ) → SpellsCell kind flag v bytes → TextFits v
text_fits kind zero v bytes h = subst TextFits (sym h.0) tt
text_fits kind (suc zero) v bytes h = h.2
text_fits kind (suc (suc flag)) v bytes h = absurd h

texts_fit_in : (kind : DTypeKind) (flags : List ℕ) (vs : List Val) (bytes : List ℕ) → SpellsCells kind flags vs bytes → AllByRecursion TextFits vs
texts_fit_in kind [] [] bytes h = tt
texts_fit_in kind [] (v ∷ vs) bytes h = absurd h
texts_fit_in kind (flag ∷ flags) [] bytes h = absurd h
texts_fit_in kind (flag ∷ flags) (v ∷ vs) bytes h = (text_fits kind flag v h.0 h.3, texts_fit_in kind flags vs h.1 h.4)

under_texts : (s : Spelling) (n' : Nullability) (kind : DTypeKind) (n : ℕ) (vs : List Val) (bytes : List ℕ) → SpellsUnder s n' kind n vs bytes → AllByRecursion TextFits vs
under_texts s NonNullable kind n vs bytes h = texts_fit_in kind (replicate n 1) vs h.0 h.2
under_texts s Nullable kind n vs bytes h = texts_fit_in kind h.3.0 vs h.3.2.0 h.3.2.2

-- no text that is read is too long
pub texts_fit : (s : Spelling) (t : DataType) (n : ℕ) (bytes : List ℕ) (vs : List Val) → decode s t n bytes ≡ Some vs → All TextFits vs
texts_fit s t n bytes vs e =
    All-from_recursion TextFits vs (under_texts s (nullability_of t) (kind_of t) n vs bytes (decode_spells s t n bytes vs e).1)

-- the same values, whichever the spelling
pub kept_as : (from to : Spelling) (t u : DataType) (n : ℕ) (bytes out : List ℕ) (vs : List Val) → u ≡ t → decode from t n bytes ≡ Some vs → decode to u (length vs) out ≡ Some vs → decode to t n out ≡ decode from t n bytes
kept_as from to t u n bytes out vs e read again = (λ i. decode to (sym e i) (sym (decode_length from t n bytes vs read) i) out) ∙ again ∙ sym read
