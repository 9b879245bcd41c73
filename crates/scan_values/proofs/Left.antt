-- A text of which some is written, and what of it is left.
use Rattle.std.proofs.Common.{◌≡◌, ℕ, List, [], ◌++◌, refl, sym, ap, ◌∙◌, append-nil, append_assoc}
use Rattle.std.specs.Fmt.{HasWritten, IsPlainFormatter}
use Rattle.std.specs.declared.fmt.Formatter.{Formatter}
use Rattle.std.proofs.Output.{writes_in_calls_nil, has_written_append, has_written_of_eq}

module _ {W : Type 0} (took : W → List ℕ → W → Type 0) where
  pub record Left (f : Formatter W) (whole rest : List ℕ) (g : Formatter W) : Type 0 where
    pub done : List ℕ
    pub wrote : HasWritten took f done g
    pub parts : done ++ rest ≡ whole

  pub begun : (f : Formatter W) (whole : List ℕ) → IsPlainFormatter f → Left f whole whole f
  begun f whole p = record { done = []; wrote = record { wrote = writes_in_calls_nil took f.writer; plain = p }; parts = refl }

  pub goes_on : (f g h : Formatter W) (whole piece rest more : List ℕ) → rest ≡ piece ++ more → Left f whole rest g → HasWritten took g piece h → Left f whole more h
  goes_on f g h whole piece rest more e l w = record {
    done = l.done ++ piece;
    wrote = has_written_append took f l.done g piece h l.wrote w;
    parts = append_assoc l.done piece more ∙ ap (λ xs. l.done ++ xs) (sym e) ∙ l.parts;
  }

  pub ended : (f g : Formatter W) (whole rest : List ℕ) → rest ≡ [] → Left f whole rest g → HasWritten took f whole g
  ended f g whole rest e l = has_written_of_eq took f l.done whole g (sym (append-nil l.done) ∙ ap (λ xs. l.done ++ xs) (sym e) ∙ l.parts) l.wrote
