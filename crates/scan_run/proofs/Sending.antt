-- Texts that are written in pieces: what was sent, and what is kept.
use Rattle.std.proofs.Common.{◌≡◌, ℕ, zero, suc, ◌+◌, ◌<◌, ◌≤◌, List, [], ◌∷◌, ◌++◌, length, drop, get_or, map, zip, refl, sym, ap, ◌∙◌, append_assoc, append-nil, arith, subst, true, Some}
use Rattle.std.specs.Prelude.{option_map, Result, Ok, Err, OnOk}
use Rattle.std.specs.List.{flat_map}
use Rattle.scan_values.specs.DataType.{DataType}
use Rattle.scan_values.specs.Val.{Val, null_val}
use Rattle.scan_segments.specs.Faults.{Rose}
use Rattle.scan_multi.specs.Answer.{Item}
use Rattle.scan_multi.specs.Output.{ChunkData, IsChunk}
use Rattle.scan_lines.specs.Line.{line_of}
use Rattle.scan_lines.specs.Heads.{lines_of_rows}
use Rattle.scan_run.specs.Io.{OutputState}
use Rattle.scan_run.specs.Printed.{chunk_lines, chunks_lines}
use Rattle.scan_run.specs.Run.{item_line}
use Rattle.scan_run.specs.WriteAll.{WroteFront, Sends}
use Rattle.scan_run.specs.Writers.{Writes, WritesAll}
use Rattle.scan_run.specs.declared.output.WriteFault.{WriteFault}
use Rattle.scan_run.specs.declared.output.WriteFault.TheVariants.{Failed}
use Rattle.scan_run.proofs.Pieces.{mapped_nil, mapped_twice}

pub sends_nothing : (k : List ℕ) (s : OutputState) → Sends [] k k s s
sends_nothing k s = record { sent = []; parts = append-nil k; written = mapped_nil s.written; faults = omega arith; short = omega arith; can_fail = refl }

-- the text is kept
pub sends_kept : (x k l : List ℕ) (s : OutputState) → l ≡ k ++ x → Sends x k l s s
sends_kept x k l s e = record { sent = []; parts = sym e; written = mapped_nil s.written; faults = omega arith; short = omega arith; can_fail = refl }

-- what was kept was written, and the text is kept
pub sends_whole : (x k l : List ℕ) (a b : OutputState) → b.written ≡ option_map (λ before. before ++ k) a.written → WroteFront k a b → l ≡ x → Sends x k l a b
sends_whole x k l a b w f e = record { sent = k; parts = ap (λ t. k ++ t) (sym e); written = w; faults = f.faults; short = f.short; can_fail = f.can_fail }

pub sends_then : (x y k m l : List ℕ) (a b c : OutputState) → Sends x k m a b → Sends y m l b c → Sends (x ++ y) k l a c
sends_then x y k m l a b c p q = record {
  sent = p.sent ++ q.sent;
  parts = sym (append_assoc k x y) ∙ ap (λ t. t ++ y) p.parts ∙ append_assoc p.sent m y ∙ ap (λ t. p.sent ++ t) q.parts ∙ sym (append_assoc p.sent q.sent l);
  written = q.written ∙ ap (option_map (λ before. before ++ q.sent)) p.written ∙ mapped_twice a.written p.sent q.sent;
  faults = let f = p.faults in let g = q.faults in omega arith;
  short = let f = p.short in let g = q.short in omega arith;
  can_fail = q.can_fail ∙ p.can_fail;
}

pub sends_front : (x k l : List ℕ) (a b : OutputState) → Sends x k l a b → WroteFront (k ++ x) a b
sends_front x k l a b p = record { front = p.sent; rest = l; parts = p.parts; written = p.written; faults = p.faults; short = p.short; can_fail = p.can_fail }

pub front_then : (x y k m : List ℕ) (a b c : OutputState) → Sends x k m a b → WroteFront (m ++ y) b c → WroteFront (k ++ (x ++ y)) a c
front_then x y k m a b c p w = record {
  front = p.sent ++ w.front;
  rest = w.rest;
  parts = sym (append_assoc k x y) ∙ ap (λ t. t ++ y) p.parts ∙ append_assoc p.sent m y ∙ ap (λ t. p.sent ++ t) w.parts ∙ sym (append_assoc p.sent w.front w.rest);
  written = w.written ∙ ap (option_map (λ before. before ++ w.front)) p.written ∙ mapped_twice a.written p.sent w.front;
  faults = let f = p.faults in let g = w.faults in omega arith;
  short = let f = p.short in let g = w.short in omega arith;
  can_fail = w.can_fail ∙ p.can_fail;
}

pub front_more : (x y : List ℕ) (a b : OutputState) → WroteFront x a b → WroteFront (x ++ y) a b
front_more x y a b w = record { front = w.front; rest = w.rest ++ y; parts = ap (λ t. t ++ y) w.parts ∙ append_assoc w.front w.rest y; written = w.written; faults = w.faults; short = w.short; can_fail = w.can_fail }

-- ---- a loop over parts of a text: so much of it was sent or kept, and this is left
pub record SentSoFar (whole kept left rest : List ℕ) (old new : OutputState) : Type 0 where
  pub done : List ℕ
  pub parts : whole ≡ done ++ rest
  pub sends : Sends done kept left old new

pub sent_none : (whole kept rest : List ℕ) (s : OutputState) → rest ≡ whole → SentSoFar whole kept kept rest s s
sent_none whole kept rest s e = record { done = []; parts = sym e; sends = sends_nothing kept s }

pub sent_more : (whole k m l x rest rest' : List ℕ) (a b c : OutputState) → SentSoFar whole k m rest a b → rest ≡ x ++ rest' → Sends x m l b c → SentSoFar whole k l rest' a c
sent_more whole k m l x rest rest' a b c p e q = record {
  done = p.done ++ x;
  parts = p.parts ∙ ap (λ t. p.done ++ t) e ∙ sym (append_assoc p.done x rest');
  sends = sends_then p.done x k m l a b c p.sends q;
}

pub sent_all : (whole k l rest : List ℕ) (a b : OutputState) → SentSoFar whole k l rest a b → rest ≡ [] → Sends whole k l a b
sent_all whole k l rest a b p e =
    subst (λ t. Sends t k l a b) (sym (p.parts ∙ ap (λ t. p.done ++ t) e ∙ append-nil p.done)) p.sends

pub sent_front : (whole k m x rest rest' : List ℕ) (a b c : OutputState) → SentSoFar whole k m rest a b → rest ≡ x ++ rest' → WroteFront (m ++ x) b c → WroteFront (k ++ whole) a c
sent_front whole k m x rest rest' a b c p e w =
    let f = front_then p.done x k m a b c p.sends w in
    subst (λ t. WroteFront t a c)
    (append_assoc k (p.done ++ x) rest' ∙ ap (λ t. k ++ t) (append_assoc p.done x rest' ∙ ap (λ t. p.done ++ t) (sym e) ∙ sym p.parts))
    (front_more (k ++ (p.done ++ x)) rest' a c f)

-- ---- lines, one by one
pub rows_step : (d : DataType) (file : ℕ) (rows : List ℕ) (vs : List Val) (i : ℕ) → i < length rows → length rows ≡ length vs
    → lines_of_rows d file (drop i rows) (drop i vs) ≡ line_of d file (get_or rows i 0) (get_or vs i null_val) ++ lines_of_rows d file (drop (i + 1) rows) (drop (i + 1) vs)
rows_step d file [] vs i lt even = absurd (omega (arith, lt))
rows_step d file (r ∷ rows) [] i lt even = absurd (omega (arith, even))
rows_step d file (r ∷ rows) (v ∷ vs) zero lt even = refl
rows_step d file (r ∷ rows) (v ∷ vs) (suc i) lt even =
    let e : suc i + 1 ≡ suc (i + 1) = omega arith in
    rw e (rows_step d file rows vs i (omega (arith, lt)) (omega (arith, even)))

pub rows_over : (d : DataType) (file : ℕ) (rows : List ℕ) (vs : List Val) (i : ℕ) → length rows ≤ i → lines_of_rows d file (drop i rows) (drop i vs) ≡ []
rows_over d file [] vs zero le = refl
rows_over d file [] vs (suc i) le = refl
rows_over d file (r ∷ rows) vs zero le = absurd (omega (arith, le))
rows_over d file (r ∷ rows) [] (suc i) le = none (drop i rows)
  where
    none : (ns : List ℕ) → lines_of_rows d file ns [] ≡ []
    none [] = refl
    none (n ∷ ns) = refl
rows_over d file (r ∷ rows) (v ∷ vs) (suc i) le = rows_over d file rows vs i (omega (arith, le))

lines_each : (d : DataType) (file : ℕ) (ps : List (ℕ × Val))
    → flat_map (λ r. line_of d file r.0 r.1) ps ≡ flat_map (λ (item : Item). item_line d item.file item.row item.value) (map (λ r. record { file = file; row = r.0; value = Some r.1 }) ps)
lines_each d file [] = refl
lines_each d file (p ∷ ps) = ap (λ t. line_of d file p.0 p.1 ++ t) (lines_each d file ps)

pub chunk_is : (d : DataType) (chunk : ChunkData) (rows : List ℕ) (vs : List Val) → IsChunk d chunk → rows ≡ chunk.rows → vs ≡ chunk.values.items
    → lines_of_rows d chunk.file rows vs ≡ chunk_lines chunk
chunk_is d chunk rows vs is r v =
    (λ i. lines_of_rows (sym is.dtype i) chunk.file (r i) (v i)) ∙ lines_each chunk.values.dtype chunk.file (zip chunk.rows chunk.values.items)

pub chunks_step : (chunks : List ChunkData) (i : ℕ) (chunk : ChunkData) → i < length chunks → chunk ≡ get_or chunks i chunk → chunks_lines (drop i chunks) ≡ chunk_lines chunk ++ chunks_lines (drop (i + 1) chunks)
chunks_step [] i chunk lt is = absurd (omega (arith, lt))
chunks_step (c ∷ cs) zero chunk lt is = ap (λ (z : ChunkData). chunk_lines z ++ chunks_lines cs) (sym is)
chunks_step (c ∷ cs) (suc i) chunk lt is =
    let e : suc i + 1 ≡ suc (i + 1) = omega arith in
    rw e (chunks_step cs i chunk (omega (arith, lt)) is)

pub chunks_over : (chunks : List ChunkData) (i : ℕ) → length chunks ≤ i → chunks_lines (drop i chunks) ≡ []
chunks_over [] zero le = refl
chunks_over [] (suc i) le = refl
chunks_over (c ∷ cs) zero le = absurd (omega (arith, le))
chunks_over (c ∷ cs) (suc i) le = chunks_over cs i (omega (arith, le))

-- a count that rose later has risen
pub rose_later : (a b c : ℕ) → a ≤ b → Rose b c → Rose a c
rose_later a b c le r = omega (arith, le, r)

-- the piece that is left was written whole or in part
pub front_last : (x k m : List ℕ) (a b c : OutputState) → k ≡ [] → Sends x k m a b → WroteFront m b c → WroteFront x a c
front_last x k m a b c none p w =
    subst (λ t. WroteFront t a c) (ap (λ t. t ++ (x ++ [])) none ∙ append-nil x)
    (front_then x [] k m a b c p (subst (λ t. WroteFront t b c) (sym (append-nil m)) w))

-- ---- what a writer has done at its exits
module _ (x k l : List ℕ) (a b : OutputState) where
  pub wrote_ok : Sends x k l a b → Writes x k l a b (Ok tt)
  wrote_ok s = record { ok = s; err = tt; failed = λ e. absurd cc; able = λ e. absurd cc }

  pub wrote_err : (e : WriteFault) → WroteFront (k ++ x) a b → (◌≡◌ {A = Result (Unit {0}) WriteFault} (Err e) (Err Failed) → Rose a.faults b.faults)
      → (◌≡◌ {A = Result (Unit {0}) WriteFault} (Err e) (Err Failed) → a.can_fail ≡ true) → Writes x k l a b (Err e)
  wrote_err e w f able = record { ok = tt; err = w; failed = f; able = able }

-- the piece that is left was written, after all of a text was sent or kept
pub writes_last : (x k m : List ℕ) (a b c : OutputState) (r : Result (Unit {0}) WriteFault) → k ≡ [] → Sends x k m a b → WroteFront m b c → OnOk r (c.written ≡ option_map (λ before. before ++ m) b.written)
    → (r ≡ Err Failed → Rose b.faults c.faults) → (r ≡ Err Failed → b.can_fail ≡ true) → WritesAll x a c r
writes_last x k m a b c r none p w e f able = record {
  front = front_last x k m a b c none p w;
  ok = whole r e;
  failed = λ h. rose_later a.faults b.faults c.faults p.faults (f h);
  able = λ h. sym p.can_fail ∙ able h;
}
  where
    whole : (s : Result (Unit {0}) WriteFault) → OnOk s (c.written ≡ option_map (λ before. before ++ m) b.written) → OnOk s (c.written ≡ option_map (λ before. before ++ x) a.written)
    whole (Ok t) h =
        h ∙ ap (option_map (λ before. before ++ m)) p.written ∙ mapped_twice a.written p.sent m
        ∙ ap (λ t. option_map (λ before. before ++ t) a.written) (sym p.parts ∙ ap (λ t. t ++ x) none)
    whole (Err e) h = tt
