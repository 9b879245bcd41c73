-- What a run of the program has done at each of its ends.
use Rattle.std.proofs.Common.{◌≡◌, ◌≢◌, ◌⊎◌, inl, inr, ℕ, ◌<◌, ◌≤◌, Bool, true, false, List, ◌++◌, Option, None, Some, refl, sym, ◌∙◌, subst, arith}
use Rattle.std.specs.Prelude.{IfSome, option_map}
use Rattle.scan_segments.specs.Faults.{Rose}
use Rattle.scan_run.specs.Io.{InputState, OutputState}
use Rattle.scan_run.specs.ReadAll.{GaveAll, TookMore}
use Rattle.scan_run.specs.WriteAll.{WroteFront}
use Rattle.scan_lookup_run.specs.Jobs.{IsJob}
use Rattle.scan_lookup_run.specs.Runs.{EndsLookup, HasLookupEnd, IsFailed, IsGiven, IsJobFound, IsLookupDone, IsLookupReady, IsNoJob, IsUnbound, IsUnreadable, LookupWrites, WroteFrontOfLookup}
use Rattle.scan_lookup_run.specs.declared.reading.Job.{Job}

pub clash : {P : Type 0} (b w : Bool) → b ≡ w → b ≡ true → w ≡ false → P
clash b w p q r = let f : true ≡ false = sym q ∙ (p ∙ r) in cc

told_fact : (P : List ℕ → Type 0) (left : Option (List ℕ)) (bytes : List ℕ) → IfSome left (λ all. bytes ≡ all) → P bytes → IfSome left P
told_fact P None bytes e h = tt
told_fact P (Some all) bytes e h = subst P e h

pub no_job : (old new : InputState) (bytes : List ℕ) → GaveAll bytes old new → ((j : Job) → ¬ IsJob bytes j) → IsNoJob old new
no_job old new bytes g h = record { read = g.read; is = told_fact (λ all. (j : Job) → ¬ IsJob all j) old.left bytes g.all h }

found : (P : Job → Type 0) (old new : InputState) (j : Job) → IsGiven j old new → P j → IsJobFound old new P
found P old new j g p = record { read = g.all.read; job = j; is = told_fact (λ all. IsJob all j) old.left g.bytes g.all.all g.asks; fact = p }

module _ (s : ℕ) (old new : InputState) where
  pub end_done : EndsLookup s old new → s ≢ 0
  end_done (inl (inl (e, r))) h = omega (arith, e, h)
  end_done (inl (inr (inl (e, r)))) h = omega (arith, e, h)
  end_done (inl (inr (inr e))) h = omega (arith, e, h)
  end_done (inr (j, g, inl (e, r))) h = omega (arith, e, h)
  end_done (inr (j, g, inr (inl (e, r)))) h = omega (arith, e, h)
  end_done (inr (j, g, inr (inr (inl (e, r))))) h = omega (arith, e, h)
  end_done (inr (j, g, inr (inr (inr e)))) h = omega (arith, e, h)

  pub end_words : EndsLookup s old new → s ≢ 1
  end_words (inl (inl (e, r))) h = omega (arith, e, h)
  end_words (inl (inr (inl (e, r)))) h = omega (arith, e, h)
  end_words (inl (inr (inr e))) h = omega (arith, e, h)
  end_words (inr (j, g, inl (e, r))) h = omega (arith, e, h)
  end_words (inr (j, g, inr (inl (e, r)))) h = omega (arith, e, h)
  end_words (inr (j, g, inr (inr (inl (e, r))))) h = omega (arith, e, h)
  end_words (inr (j, g, inr (inr (inr e)))) h = omega (arith, e, h)

  end_refused : EndsLookup s old new → s ≡ 2 → IsNoJob old new
  end_refused (inl (inl (e, r))) h = r
  end_refused (inl (inr (inl (e, r)))) h = absurd (omega (arith, e, h))
  end_refused (inl (inr (inr e))) h = absurd (omega (arith, e, h))
  end_refused (inr (j, g, inl (e, r))) h = absurd (omega (arith, e, h))
  end_refused (inr (j, g, inr (inl (e, r)))) h = absurd (omega (arith, e, h))
  end_refused (inr (j, g, inr (inr (inl (e, r))))) h = absurd (omega (arith, e, h))
  end_refused (inr (j, g, inr (inr (inr e)))) h = absurd (omega (arith, e, h))

  end_unbound : EndsLookup s old new → s ≡ 3 → IsJobFound old new IsUnbound
  end_unbound (inl (inl (e, r))) h = absurd (omega (arith, e, h))
  end_unbound (inl (inr (inl (e, r)))) h = absurd (omega (arith, e, h))
  end_unbound (inl (inr (inr e))) h = absurd (omega (arith, e, h))
  end_unbound (inr (j, g, inl (e, r))) h = found IsUnbound old new j g r
  end_unbound (inr (j, g, inr (inl (e, r)))) h = absurd (omega (arith, e, h))
  end_unbound (inr (j, g, inr (inr (inl (e, r))))) h = absurd (omega (arith, e, h))
  end_unbound (inr (j, g, inr (inr (inr e)))) h = absurd (omega (arith, e, h))

  end_unreadable : EndsLookup s old new → s ≡ 4 → IsJobFound old new IsUnreadable
  end_unreadable (inl (inl (e, r))) h = absurd (omega (arith, e, h))
  end_unreadable (inl (inr (inl (e, r)))) h = absurd (omega (arith, e, h))
  end_unreadable (inl (inr (inr e))) h = absurd (omega (arith, e, h))
  end_unreadable (inr (j, g, inl (e, r))) h = absurd (omega (arith, e, h))
  end_unreadable (inr (j, g, inr (inl (e, r)))) h = found IsUnreadable old new j g r
  end_unreadable (inr (j, g, inr (inr (inl (e, r))))) h = absurd (omega (arith, e, h))
  end_unreadable (inr (j, g, inr (inr (inr e)))) h = absurd (omega (arith, e, h))

  end_failed : EndsLookup s old new → s ≡ 5 → IsJobFound old new IsFailed
  end_failed (inl (inl (e, r))) h = absurd (omega (arith, e, h))
  end_failed (inl (inr (inl (e, r)))) h = absurd (omega (arith, e, h))
  end_failed (inl (inr (inr e))) h = absurd (omega (arith, e, h))
  end_failed (inr (j, g, inl (e, r))) h = absurd (omega (arith, e, h))
  end_failed (inr (j, g, inr (inl (e, r)))) h = absurd (omega (arith, e, h))
  end_failed (inr (j, g, inr (inr (inl (e, r))))) h = found IsFailed old new j g r
  end_failed (inr (j, g, inr (inr (inr e)))) h = absurd (omega (arith, e, h))

  end_io : (output output' : OutputState) → EndsLookup s old new → s ≡ 6 → (Rose old.faults new.faults ⊎ Rose output.faults output'.faults) ⊎ TookMore 67108864 old new
  end_io output output' (inl (inl (e, r))) h = absurd (omega (arith, e, h))
  end_io output output' (inl (inr (inl (e, inl r)))) h = inl (inl r)
  end_io output output' (inl (inr (inl (e, inr t)))) h = inr t
  end_io output output' (inl (inr (inr e))) h = absurd (omega (arith, e, h))
  end_io output output' (inr (j, g, inl (e, r))) h = absurd (omega (arith, e, h))
  end_io output output' (inr (j, g, inr (inl (e, r)))) h = absurd (omega (arith, e, h))
  end_io output output' (inr (j, g, inr (inr (inl (e, r))))) h = absurd (omega (arith, e, h))
  end_io output output' (inr (j, g, inr (inr (inr e)))) h = absurd (omega (arith, e, h))

  pub end_lookup : (output output' : OutputState) → EndsLookup s old new → HasLookupEnd s old new output output'
  end_lookup output output' e = record { refused = end_refused e; unbound = end_unbound e; unreadable = end_unreadable e; failed = end_failed e; io = end_io output output' e }

  pub end_below : EndsLookup s old new → s < 8
  end_below (inl (inl (e, r))) = omega (arith, e)
  end_below (inl (inr (inl (e, r)))) = omega (arith, e)
  end_below (inl (inr (inr e))) = omega (arith, e)
  end_below (inr (j, g, inl (e, r))) = omega (arith, e)
  end_below (inr (j, g, inr (inl (e, r)))) = omega (arith, e)
  end_below (inr (j, g, inr (inr (inl (e, r))))) = omega (arith, e)
  end_below (inr (j, g, inr (inr (inr e)))) = omega (arith, e)

module _ (text bytes : List ℕ) (old new : InputState) (output output' : OutputState) (same : bytes ≡ text) where
  pub ready_done : IsLookupReady text old new → output'.written ≡ option_map (λ before. before ++ bytes) output.written → IsLookupDone old new output output'
  ready_done (j, g, t) w = record {
    read = g.all.read;
    job = j;
    is = told_fact (λ all. IsJob all j) old.left g.bytes g.all.all g.asks;
    text = text;
    lines = t;
    written = subst (λ xs. output'.written ≡ option_map (λ before. before ++ xs) output.written) same w;
  }

  pub ready_front : IsLookupReady text old new → WroteFront bytes output output' → WroteFrontOfLookup old new output output'
  ready_front (j, g, t) w = inr (record {
    read = g.all.read;
    job = j;
    is = told_fact (λ all. IsJob all j) old.left g.bytes g.all.all g.asks;
    text = text;
    lines = t;
    front = w.front;
    rest = w.rest;
    parts = sym same ∙ w.parts;
    written = w.written;
  })

-- ---- what stands at the other ends
module _ (old new : InputState) (output output' : OutputState) where
  pub no_end : (s : ℕ) → (2 ≤ s → s ≤ 6 → ⊥) → HasLookupEnd s old new output output'
  no_end s h = record {
    refused = λ e. absurd (h (omega (arith, e)) (omega (arith, e)));
    unbound = λ e. absurd (h (omega (arith, e)) (omega (arith, e)));
    unreadable = λ e. absurd (h (omega (arith, e)) (omega (arith, e)));
    failed = λ e. absurd (h (omega (arith, e)) (omega (arith, e)));
    io = λ e. absurd (h (omega (arith, e)) (omega (arith, e)));
  }

  pub failed_end : Rose output.faults output'.faults → HasLookupEnd 6 old new output output'
  failed_end r = record {
    refused = λ e. absurd (omega (arith, e));
    unbound = λ e. absurd (omega (arith, e));
    unreadable = λ e. absurd (omega (arith, e));
    failed = λ e. absurd (omega (arith, e));
    io = λ e. inl (inr r);
  }

  pub done_writes : WroteFrontOfLookup old new output output' → LookupWrites 0 old new output output'
  done_writes f = record { untouched = λ h k. absurd (omega (arith, h)); unwritten = λ e. absurd (omega (arith, e)); short = λ e. absurd (omega (arith, e)); front = f }

  pub failed_writes : Rose output.faults output'.faults → WroteFrontOfLookup old new output output' → LookupWrites 6 old new output output'
  failed_writes r f = record { untouched = λ h k. absurd (omega (arith, k)); unwritten = λ e. inl r; short = λ e. absurd (omega (arith, e)); front = f }

  pub short_writes : Rose output.short output'.short → WroteFrontOfLookup old new output output' → LookupWrites 7 old new output output'
  short_writes r f = record { untouched = λ h k. absurd (omega (arith, k)); unwritten = λ e. absurd (omega (arith, e)); short = λ e. inl r; front = f }

pub still_writes : (s : ℕ) (old new : InputState) (output : OutputState) → LookupWrites s old new output output
still_writes s old new output = record { untouched = λ h k. refl; unwritten = λ e. inr refl; short = λ e. inr refl; front = inl refl }
