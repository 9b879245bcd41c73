-- Pieces of an input and of an output, one after another.
use Rattle.std.proofs.Common.{◌≡◌, ℕ, ◌<◌, List, [], ◌++◌, length, length-append, take, drop, refl, sym, ap, ◌∙◌, append_assoc, append-nil, take-append-drop, arith, subst}
use Rattle.std.specs.Prelude.{Option, None, Some, IfSome, option_map}
use Rattle.scan_run.specs.Io.{InputState, OutputState}
use Rattle.scan_run.specs.Answers.{Wrote}
use Rattle.scan_run.specs.ReadAll.{LeftAfter, CameIn}
use Rattle.scan_run.specs.WriteAll.{WroteFront}

nothing_left : (o : Option (List ℕ)) → LeftAfter o [] o
nothing_left None = refl
nothing_left (Some all) = (all, refl, refl)

pub nothing_came : (s : InputState) → CameIn [] s s
nothing_came s = record { left = nothing_left s.left; taken = record { least = omega arith; most = omega arith }; ends = refl; faults = omega arith; can_fail = refl }

-- at the end of the input, all has come
pub all_came : (o now : Option (List ℕ)) (bytes : List ℕ) → LeftAfter o bytes now → IfSome now (λ rest. rest ≡ []) → IfSome o (λ all. bytes ≡ all)
all_came None now bytes h e = tt
all_came (Some all) now bytes (rest, is, parts) e =
    let none : rest ≡ [] = subst (λ o. IfSome o (λ rest. rest ≡ [])) is e in
    sym (parts ∙ ap (λ xs. bytes ++ xs) none ∙ append-nil bytes)

pub mapped_nil : (o : Option (List ℕ)) → o ≡ option_map (λ before. before ++ []) o
mapped_nil None = refl
mapped_nil (Some xs) = ap Some (sym (append-nil xs))

pub mapped_twice : (o : Option (List ℕ)) (a b : List ℕ) → option_map (λ before. before ++ b) (option_map (λ before. before ++ a) o) ≡ option_map (λ before. before ++ (a ++ b)) o
mapped_twice None a b = refl
mapped_twice (Some xs) a b = ap Some (append_assoc xs a b)

abbrev pub nothing_wrote : (bytes : List ℕ) (s : OutputState) → WroteFront bytes s s
nothing_wrote bytes s = record { front = []; rest = bytes; parts = refl; written = mapped_nil s.written; faults = omega arith; short = omega arith; can_fail = refl }

abbrev pub wrote_more : (bytes : List ℕ) (n : ℕ) (a b c : OutputState) (w : WroteFront bytes a b) (rest : List ℕ) → w.rest ≡ rest → Wrote n rest b c → WroteFront bytes a c
wrote_more bytes n a b c w rest e h = record {
  front = w.front ++ take n rest;
  rest = drop n rest;
  parts = w.parts ∙ ap (λ xs. w.front ++ xs) (e ∙ sym (take-append-drop n rest)) ∙ sym (append_assoc w.front (take n rest) (drop n rest));
  written = h.written ∙ ap (option_map (λ before. before ++ take n rest)) w.written ∙ mapped_twice a.written w.front (take n rest);
  faults = let f = w.faults in let g = h.faults in omega arith;
  short = let f = w.short in let g = h.short in omega arith;
  can_fail = h.can_fail ∙ w.can_fail;
}

-- what came stood in the input, where it tells its bytes
pub came_long : (o now : Option (List ℕ)) (bytes : List ℕ) (n : ℕ) → LeftAfter o bytes now → n < length bytes → IfSome o (λ all. n < length all)
came_long None now bytes n h lt = tt
came_long (Some all) now bytes n (rest, is, parts) lt =
    let both : length all ≡ length (bytes ++ rest) = ap length parts in
    let sum = length-append bytes rest in
    omega (arith, both, sum, lt)
