-- What a run has done at each of its ends.
use Rattle.std.proofs.Common.{◌≡◌, ◌≢◌, ◌⊎◌, inl, inr, ℕ, ◌<◌, List, ◌++◌, Option, None, Some, refl, sym, ap, ◌∙◌, subst, arith}
use Rattle.std.specs.Prelude.{IfSome, option_map, All}
use Rattle.scan_values.specs.DataType.{DataType}
use Rattle.scan_expr.specs.Infer.{infer}
use Rattle.scan_multi.specs.Output.{ChunkData, IsChunk}
use Rattle.scan_run.specs.Printed.{chunks_lines}
use Rattle.scan_run.proofs.Stopping.{text_printed}
use Rattle.scan_manifest.specs.declared.manifest.Manifest.{Manifest}
use Rattle.scan_run.specs.declared.run.Stop.{Stop}
use Rattle.scan_run.specs.declared.run.Stop.TheVariants.{Unbound, Unreadable, Failed, NoMemory}
use Rattle.scan_run.specs.Io.{InputState, OutputState, InputFailed, OutputFailed}
use Rattle.scan_run.specs.ReadAll.{GaveAll, IsLonger}
use Rattle.scan_run.specs.WriteAll.{WroteFront}
use Rattle.scan_manifest.specs.Manifest.{IsManifest}
use Rattle.scan_run.specs.Run.{IsDone, IsRefused, IsFound, IsUnbound, IsUnreadable, IsFailing}
use Rattle.scan_run.specs.Stops.{status_of, IsStop, IsTextOf, WroteFrontOfLines, Ends, IsReady}

told_fact : (P : List ℕ → Type 0) (left : Option (List ℕ)) (bytes : List ℕ) → IfSome left (λ all. bytes ≡ all) → P bytes → IfSome left P
told_fact P None bytes e h = tt
told_fact P (Some all) bytes e h = subst P e h

pub refused_many : (input input' : InputState) (bytes : List ℕ) → GaveAll bytes input input' → ((m : Manifest) → ¬ IsManifest bytes m) → IsRefused input input'
refused_many input input' bytes g h =
    record { read = g.read; is = told_fact (λ all. (m : Manifest) → ¬ IsManifest all m) input.left bytes g.all h }

found : (P : Manifest → Type 0) (input input' : InputState) (bytes : List ℕ) (m : Manifest) → GaveAll bytes input input' → IsManifest bytes m → P m → IsFound input input' P
found P input input' bytes m g i p = record { read = g.read; manifest = m; is = told_fact (λ all. IsManifest all m) input.left bytes g.all i; fact = p }

pub stop_unbound : (input input' : InputState) (bytes : List ℕ) (m : Manifest) (s : Stop) → GaveAll bytes input input' → IsManifest bytes m → IsStop m s → status_of s ≡ 3 → IsFound input input' IsUnbound
stop_unbound input input' bytes m Unbound g i h e = found IsUnbound input input' bytes m g i h
stop_unbound input input' bytes m Unreadable g i h e = absurd (omega arith)
stop_unbound input input' bytes m Failed g i h e = absurd (omega arith)
stop_unbound input input' bytes m NoMemory g i h e = absurd (omega arith)

pub stop_unreadable : (input input' : InputState) (bytes : List ℕ) (m : Manifest) (s : Stop) → GaveAll bytes input input' → IsManifest bytes m → IsStop m s → status_of s ≡ 4 → IsFound input input' IsUnreadable
stop_unreadable input input' bytes m Unbound g i h e = absurd (omega arith)
stop_unreadable input input' bytes m Unreadable g i h e = found IsUnreadable input input' bytes m g i h
stop_unreadable input input' bytes m Failed g i h e = absurd (omega arith)
stop_unreadable input input' bytes m NoMemory g i h e = absurd (omega arith)

pub stop_failing : (input input' : InputState) (bytes : List ℕ) (m : Manifest) (s : Stop) → GaveAll bytes input input' → IsManifest bytes m → IsStop m s → status_of s ≡ 5 → IsFound input input' IsFailing
stop_failing input input' bytes m Unbound g i h e = absurd (omega arith)
stop_failing input input' bytes m Unreadable g i h e = absurd (omega arith)
stop_failing input input' bytes m Failed g i h e = found IsFailing input input' bytes m g i h
stop_failing input input' bytes m NoMemory g i h e = absurd (omega arith)

-- a stop is one of four statuses
pub stop_status : (s : Stop) → (status_of s ≢ 0) × (status_of s ≢ 1) × (status_of s ≢ 6) × (status_of s < 8) × (status_of s ≢ 2)
stop_status Unbound = (λ e. omega arith, λ e. omega arith, λ e. omega arith, omega arith, λ e. omega arith)
stop_status Unreadable = (λ e. omega arith, λ e. omega arith, λ e. omega arith, omega arith, λ e. omega arith)
stop_status Failed = (λ e. omega arith, λ e. omega arith, λ e. omega arith, omega arith, λ e. omega arith)
stop_status NoMemory = (λ e. omega arith, λ e. omega arith, λ e. omega arith, omega arith, λ e. omega arith)

pub done_is : (input input' : InputState) (output output' : OutputState) (bytes text : List ℕ) (m : Manifest) → GaveAll bytes input input' → IsManifest bytes m → IsTextOf m text → output'.written ≡ option_map (λ before. before ++ text) output.written → IsDone input input' output output'
done_is input input' output output' bytes text m g i (chunks, s, e) w = record {
  read = g.read;
  manifest = m;
  is = told_fact (λ all. IsManifest all m) input.left bytes g.all i;
  chunks = chunks;
  scanned = s;
  written = w ∙ ap (λ t. option_map (λ before. before ++ t) output.written) e;
}

pub front_is : (input input' : InputState) (output output' : OutputState) (bytes text : List ℕ) (m : Manifest) → GaveAll bytes input input' → IsManifest bytes m → IsTextOf m text → WroteFront text output output' → WroteFrontOfLines input input' output output'
front_is input input' output output' bytes text m g i (chunks, s, e) w = inr (record {
  read = g.read;
  manifest = m;
  is = told_fact (λ all. IsManifest all m) input.left bytes g.all i;
  chunks = chunks;
  scanned = s;
  front = w.front;
  rest = w.rest;
  parts = sym e ∙ w.parts;
  written = w.written;
})

-- ---- an end before anything is written
module _ (s : ℕ) (old new : InputState) where
  pub end_done : Ends s old new → s ≢ 0
  end_done (inl (inl (e, r))) h = absurd (omega arith)
  end_done (inl (inr (inl (e, r)))) h = absurd (omega arith)
  end_done (inl (inr (inr e))) h = absurd (omega arith)
  end_done (inr (m, stop, g, i, e)) h = (stop_status stop).0 (sym e ∙ h)

  pub end_words : Ends s old new → s ≢ 1
  end_words (inl (inl (e, r))) h = absurd (omega arith)
  end_words (inl (inr (inl (e, r)))) h = absurd (omega arith)
  end_words (inl (inr (inr e))) h = absurd (omega arith)
  end_words (inr (m, stop, g, i, e)) h = (stop_status stop).1 (sym e ∙ h)

  pub end_refused : Ends s old new → s ≡ 2 → IsRefused old new
  end_refused (inl (inl (e, r))) h = r
  end_refused (inl (inr (inl (e, r)))) h = absurd (omega arith)
  end_refused (inl (inr (inr e))) h = absurd (omega arith)
  end_refused (inr (m, stop, g, i, e)) h = absurd ((stop_status stop).4 (sym e ∙ h))

  pub end_unbound : Ends s old new → s ≡ 3 → IsFound old new IsUnbound
  end_unbound (inl (inl (e, r))) h = absurd (omega arith)
  end_unbound (inl (inr (inl (e, r)))) h = absurd (omega arith)
  end_unbound (inl (inr (inr e))) h = absurd (omega arith)
  end_unbound (inr (m, stop, (bytes, g, k), i, e)) h = stop_unbound old new bytes m stop g k i (sym e ∙ h)

  pub end_unreadable : Ends s old new → s ≡ 4 → IsFound old new IsUnreadable
  end_unreadable (inl (inl (e, r))) h = absurd (omega arith)
  end_unreadable (inl (inr (inl (e, r)))) h = absurd (omega arith)
  end_unreadable (inl (inr (inr e))) h = absurd (omega arith)
  end_unreadable (inr (m, stop, (bytes, g, k), i, e)) h = stop_unreadable old new bytes m stop g k i (sym e ∙ h)

  pub end_failing : Ends s old new → s ≡ 5 → IsFound old new IsFailing
  end_failing (inl (inl (e, r))) h = absurd (omega arith)
  end_failing (inl (inr (inl (e, r)))) h = absurd (omega arith)
  end_failing (inl (inr (inr e))) h = absurd (omega arith)
  end_failing (inr (m, stop, (bytes, g, k), i, e)) h = stop_failing old new bytes m stop g k i (sym e ∙ h)

  pub end_io : (output output' : OutputState) → Ends s old new → s ≡ 6 → (InputFailed old new ⊎ OutputFailed output output') ⊎ IsLonger 67108864 old new
  end_io output output' (inl (inl (e, r))) h = absurd (omega arith)
  end_io output output' (inl (inr (inl (e, inl r)))) h = inl (inl r)
  end_io output output' (inl (inr (inl (e, inr t)))) h = inr t
  end_io output output' (inl (inr (inr e))) h = absurd (omega arith)
  end_io output output' (inr (m, stop, g, i, e)) h = absurd ((stop_status stop).2 (sym e ∙ h))

  pub end_below : Ends s old new → s < 8
  end_below (inl (inl (e, r))) = omega arith
  end_below (inl (inr (inl (e, r)))) = omega arith
  end_below (inl (inr (inr e))) = omega arith
  end_below (inr (m, stop, g, i, e)) = let k = (stop_status stop).3 in omega arith

-- ---- the lines were written, whole or in part
pub ready_chunks : (chunks : List ChunkData) (old new : InputState) → IsReady chunks old new → (d : DataType) × All (IsChunk d) chunks
ready_chunks chunks old new (m, g, s) = (infer m.dtype m.request.projection, s.admits.chunks)

module _ (chunks : List ChunkData) (old new : InputState) (output output' : OutputState) where
  pub ready_done : IsReady chunks old new → output'.written ≡ option_map (λ before. before ++ chunks_lines chunks) output.written → IsDone old new output output'
  ready_done (m, (all, g, i), s) w = done_is old new output output' all (chunks_lines chunks) m g i (text_printed m chunks (chunks_lines chunks) s refl) w

  pub ready_front : IsReady chunks old new → WroteFront (chunks_lines chunks) output output' → WroteFrontOfLines old new output output'
  ready_front (m, (all, g, i), s) w = front_is old new output output' all (chunks_lines chunks) m g i (text_printed m chunks (chunks_lines chunks) s refl) w
