-- What a run has done at each of its ends.
use Rattle.std.proofs.Common.{◌≡◌, ◌≢◌, ◌⊎◌, inl, inr, ℕ, ◌<◌, ◌≤◌, Bool, true, false, List, ◌++◌, Option, None, Some, refl, sym, ◌∙◌, subst, arith}
use Rattle.std.specs.Prelude.{All, IfSome, option_map}
use Rattle.scan_values.specs.DataType.{DataType}
use Rattle.scan_expr.specs.Infer.{infer}
use Rattle.scan_segments.specs.Faults.{Rose}
use Rattle.scan_multi.specs.Output.{ChunkData, IsChunk}
use Rattle.scan_manifest.specs.declared.manifest.Manifest.{Manifest}
use Rattle.scan_run.specs.Io.{InputState, OutputState}
use Rattle.scan_run.specs.Printed.{chunks_lines}
use Rattle.scan_run.specs.ReadAll.{GaveAll, TookMore}
use Rattle.scan_run.specs.Run.{IsUnbound}
use Rattle.scan_run.specs.Stops.{status_of}
use Rattle.scan_run.specs.WriteAll.{WroteFront}
use Rattle.scan_run.specs.declared.run.Stop.{Stop}
use Rattle.scan_run.specs.declared.run.Stop.TheVariants.{Unbound, Unreadable, Failed, NoMemory}
use Rattle.scan_run.proofs.Running.{stop_status}
use Rattle.scan_run.proofs.Stopping.{chunks_printed}
use Rattle.scan_union_run.specs.Runs.{EndsUnion, HasUnionEnd, IsFound, IsGiven, IsRefused, IsTextOf, IsUnionDone, IsUnionReady, UnionWrites, WroteFrontOfUnion}
use Rattle.scan_union_run.specs.Unions.{IsFailing, IsUnionManifest, IsUnionStop, IsUnited, IsUnreadable}

-- a test that is true is not false
pub clash : {P : Type 0} (b w : Bool) → b ≡ w → b ≡ true → w ≡ false → P
clash b w p q r = let f : true ≡ false = sym q ∙ (p ∙ r) in cc

-- ---- what was read
told_fact : (P : List ℕ → Type 0) (left : Option (List ℕ)) (bytes : List ℕ) → IfSome left (λ all. bytes ≡ all) → P bytes → IfSome left P
told_fact P None bytes e h = tt
told_fact P (Some all) bytes e h = subst P e h

pub refused : (old new : InputState) (bytes : List ℕ) → GaveAll bytes old new → ((m : Manifest) → ¬ IsUnionManifest bytes m) → IsRefused old new
refused old new bytes g h = record { read = g.read; is = told_fact (λ all. (m : Manifest) → ¬ IsUnionManifest all m) old.left bytes g.all h }

found : (P : Manifest → Type 0) (old new : InputState) (m : Manifest) → IsGiven m old new → P m → IsFound old new P
found P old new m (bytes, g, i) p = record { read = g.read; manifest = m; is = told_fact (λ all. IsUnionManifest all m) old.left bytes g.all i; fact = p }

-- ---- an end before anything is written
module _ (old new : InputState) (m : Manifest) (g : IsGiven m old new) where
  stop_unbound : (s : Stop) → IsUnionStop m s → status_of s ≡ 3 → IsFound old new IsUnbound
  stop_unbound Unbound h e = found IsUnbound old new m g h
  stop_unbound Unreadable h e = absurd (omega arith)
  stop_unbound Failed h e = absurd (omega arith)
  stop_unbound NoMemory h e = absurd (omega arith)

  stop_unreadable : (s : Stop) → IsUnionStop m s → status_of s ≡ 4 → IsFound old new IsUnreadable
  stop_unreadable Unbound h e = absurd (omega arith)
  stop_unreadable Unreadable h e = found IsUnreadable old new m g h
  stop_unreadable Failed h e = absurd (omega arith)
  stop_unreadable NoMemory h e = absurd (omega arith)

  stop_failing : (s : Stop) → IsUnionStop m s → status_of s ≡ 5 → IsFound old new IsFailing
  stop_failing Unbound h e = absurd (omega arith)
  stop_failing Unreadable h e = absurd (omega arith)
  stop_failing Failed h e = found IsFailing old new m g h
  stop_failing NoMemory h e = absurd (omega arith)

module _ (s : ℕ) (old new : InputState) where
  pub end_done : EndsUnion s old new → s ≢ 0
  end_done (inl (inl (e, r))) h = absurd (omega arith)
  end_done (inl (inr (inl (e, r)))) h = absurd (omega arith)
  end_done (inl (inr (inr e))) h = absurd (omega arith)
  end_done (inr (m, stop, g, i, e)) h = (stop_status stop).0 (sym e ∙ h)

  pub end_words : EndsUnion s old new → s ≢ 1
  end_words (inl (inl (e, r))) h = absurd (omega arith)
  end_words (inl (inr (inl (e, r)))) h = absurd (omega arith)
  end_words (inl (inr (inr e))) h = absurd (omega arith)
  end_words (inr (m, stop, g, i, e)) h = (stop_status stop).1 (sym e ∙ h)

  end_refused : EndsUnion s old new → s ≡ 2 → IsRefused old new
  end_refused (inl (inl (e, r))) h = r
  end_refused (inl (inr (inl (e, r)))) h = absurd (omega arith)
  end_refused (inl (inr (inr e))) h = absurd (omega arith)
  end_refused (inr (m, stop, g, i, e)) h = absurd ((stop_status stop).4 (sym e ∙ h))

  end_unbound : EndsUnion s old new → s ≡ 3 → IsFound old new IsUnbound
  end_unbound (inl (inl (e, r))) h = absurd (omega arith)
  end_unbound (inl (inr (inl (e, r)))) h = absurd (omega arith)
  end_unbound (inl (inr (inr e))) h = absurd (omega arith)
  end_unbound (inr (m, stop, g, i, e)) h = stop_unbound old new m g stop i (sym e ∙ h)

  end_unreadable : EndsUnion s old new → s ≡ 4 → IsFound old new IsUnreadable
  end_unreadable (inl (inl (e, r))) h = absurd (omega arith)
  end_unreadable (inl (inr (inl (e, r)))) h = absurd (omega arith)
  end_unreadable (inl (inr (inr e))) h = absurd (omega arith)
  end_unreadable (inr (m, stop, g, i, e)) h = stop_unreadable old new m g stop i (sym e ∙ h)

  end_failing : EndsUnion s old new → s ≡ 5 → IsFound old new IsFailing
  end_failing (inl (inl (e, r))) h = absurd (omega arith)
  end_failing (inl (inr (inl (e, r)))) h = absurd (omega arith)
  end_failing (inl (inr (inr e))) h = absurd (omega arith)
  end_failing (inr (m, stop, g, i, e)) h = stop_failing old new m g stop i (sym e ∙ h)

  end_io : (output output' : OutputState) → EndsUnion s old new → s ≡ 6 → (Rose old.faults new.faults ⊎ Rose output.faults output'.faults) ⊎ TookMore 67108864 old new
  end_io output output' (inl (inl (e, r))) h = absurd (omega arith)
  end_io output output' (inl (inr (inl (e, inl r)))) h = inl (inl r)
  end_io output output' (inl (inr (inl (e, inr t)))) h = inr t
  end_io output output' (inl (inr (inr e))) h = absurd (omega arith)
  end_io output output' (inr (m, stop, g, i, e)) h = absurd ((stop_status stop).2 (sym e ∙ h))

  pub end_union : (output output' : OutputState) → EndsUnion s old new → HasUnionEnd s old new output output'
  end_union output output' e = record { refused = end_refused e; unbound = end_unbound e; unreadable = end_unreadable e; failing = end_failing e; io = end_io output output' e }

  pub end_below : EndsUnion s old new → s < 8
  end_below (inl (inl (e, r))) = omega arith
  end_below (inl (inr (inl (e, r)))) = omega arith
  end_below (inl (inr (inr e))) = omega arith
  end_below (inr (m, stop, g, i, e)) = let k = (stop_status stop).3 in omega arith

-- ---- the lines were written, whole or in part
lines_of_union : (m : Manifest) (chunks : List ChunkData) → IsUnited m chunks → IsTextOf (chunks_lines chunks) m
lines_of_union m chunks u = (chunks, u, chunks_printed (infer m.dtype m.request.projection) chunks u.admits.chunks)

pub ready_chunks : (chunks : List ChunkData) (old new : InputState) → IsUnionReady chunks old new → (d : DataType) × All (IsChunk d) chunks
ready_chunks chunks old new (m, g, u) = (infer m.dtype m.request.projection, u.admits.chunks)

module _ (chunks : List ChunkData) (old new : InputState) (output output' : OutputState) where
  pub ready_done : IsUnionReady chunks old new → output'.written ≡ option_map (λ before. before ++ chunks_lines chunks) output.written → IsUnionDone old new output output'
  ready_done (m, g, u) w = record { text = chunks_lines chunks; lines = found (IsTextOf (chunks_lines chunks)) old new m g (lines_of_union m chunks u); written = w }

  pub ready_front : IsUnionReady chunks old new → WroteFront (chunks_lines chunks) output output' → WroteFrontOfUnion old new output output'
  ready_front (m, g, u) w = inr (record {
    text = chunks_lines chunks;
    lines = found (IsTextOf (chunks_lines chunks)) old new m g (lines_of_union m chunks u);
    front = w.front;
    rest = w.rest;
    parts = w.parts;
    written = w.written;
  })

-- ---- what stands at the other ends
module _ (old new : InputState) (output output' : OutputState) where
  pub no_end : (s : ℕ) → (2 ≤ s → s ≤ 6 → ⊥) → HasUnionEnd s old new output output'
  no_end s h = record {
    refused = λ e. absurd (h (omega (arith, e)) (omega (arith, e)));
    unbound = λ e. absurd (h (omega (arith, e)) (omega (arith, e)));
    unreadable = λ e. absurd (h (omega (arith, e)) (omega (arith, e)));
    failing = λ e. absurd (h (omega (arith, e)) (omega (arith, e)));
    io = λ e. absurd (h (omega (arith, e)) (omega (arith, e)));
  }

  pub failed_end : Rose output.faults output'.faults → HasUnionEnd 6 old new output output'
  failed_end r = record {
    refused = λ e. absurd (omega (arith, e));
    unbound = λ e. absurd (omega (arith, e));
    unreadable = λ e. absurd (omega (arith, e));
    failing = λ e. absurd (omega (arith, e));
    io = λ e. inl (inr r);
  }

  pub done_writes : WroteFrontOfUnion old new output output' → UnionWrites 0 old new output output'
  done_writes f = record { untouched = λ h k. absurd (omega (arith, h)); unwritten = λ e. absurd (omega (arith, e)); front = f }

  pub failed_writes : Rose output.faults output'.faults → WroteFrontOfUnion old new output output' → UnionWrites 6 old new output output'
  failed_writes r f = record { untouched = λ h k. absurd (omega (arith, k)); unwritten = λ e. inl r; front = f }

  pub short_writes : WroteFrontOfUnion old new output output' → UnionWrites 7 old new output output'
  short_writes f = record { untouched = λ h k. absurd (omega (arith, k)); unwritten = λ e. absurd (omega (arith, e)); front = f }

pub still_writes : (s : ℕ) (old new : InputState) (output : OutputState) → UnionWrites s old new output output
still_writes s old new output = record { untouched = λ h k. refl; unwritten = λ e. inr refl; front = inl refl }
