-- What a run answers of its input, where all went well: bytes are one manifest at most.
use Rattle.std.proofs.Common.{◌≡◌, inl, inr, ℕ, zero, suc, ◌<◌, ◌≤◌, List, [], ◌∷◌, take, Bool, true, false, Option, None, Some, nat_lt, refl, sym, ◌∙◌, subst, arith}
use Rattle.std.specs.Prelude.{Contains, IfSome, slice_get}
use Rattle.std.proofs.lemmas.Bool.Decides.{nat_tests}
use Rattle.scan_multi.specs.Output.{ChunkData}
use Rattle.scan_manifest.specs.declared.manifest.FileSpec.{FileSpec}
use Rattle.scan_manifest.specs.declared.manifest.Manifest.{Manifest}
use Rattle.scan_run.specs.Io.{InputState, OutputState}
use Rattle.scan_run.specs.Run.{HasNoFault, IsUnbound}
use Rattle.scan_run.specs.Stops.{status_of}
use Rattle.scan_run.specs.declared.run.Stop.{Stop}
use Rattle.scan_run.specs.declared.run.Stop.TheVariants.{Unbound, Unreadable, Failed, NoMemory}
use Rattle.scan_union_run.specs.Runs.{Answers, EndsUnion, IsGiven, IsUnionReady, WentWell}
use Rattle.scan_union_run.specs.Unions.{CanFail, CantBeRead, IsFailing, IsMisfit, IsSound, IsUnionManifest, IsUnionStop, IsUnreadable, fault_among, has_fault, has_spoilt, of_opener, of_source, told_of}
use Rattle.scan_union_run.proofs.Reading.{one_manifest}
use Rattle.scan_union_run.proofs.Stopping.{of_all, stays_among}

-- ---- facts of one manifest that exclude one another
none_some : {A : Type 0} (x : A) → None ≡ Some x → ⊥
none_some x e = cc

both_faults : {X F : Type 0} (o : Option F) (e : F) → o ≡ None → o ≡ Some e → X
both_faults o e n s = absurd (none_some e (sym n ∙ s))

below : (a b : ℕ) → nat_lt a b ≡ true → a < b
below a b h = grind (arith, nat_tests)

not_below : (a b : ℕ) → nat_lt a b ≡ false → b ≤ a
not_below a b h = grind (arith, nat_tests)

-- the file at a place below is one of the first
among_first : (fs : List FileSpec) (place count : ℕ) (f : FileSpec) → slice_get fs place ≡ Some f → place < count → Contains (take count fs) f
among_first [] place count f e lt = absurd (none_some f e)
among_first (g ∷ fs) zero zero f e lt = absurd (omega (arith, lt))
among_first (g ∷ fs) zero (suc count) f e lt = (0, omega arith, (let c : g ≡ f = cc in c))
among_first (g ∷ fs) (suc place) zero f e lt = absurd (omega (arith, lt))
among_first (g ∷ fs) (suc place) (suc count) f e lt =
    let r = among_first fs place count f e (omega (arith, lt)) in
    let n = r.1 in
    (suc r.0, omega (arith, n), r.2)

module _ (m : Manifest) where
  -- no file has a fault where what may fail of one did, if no opener before one with a fault can fail
  fails_not : IsMisfit m → (place : ℕ) (f : FileSpec) → slice_get m.files place ≡ Some f → CanFail m place f → ⊥
  fails_not x place f at (of_source has none id named) = both_faults (fault_among m (told_of m)) x.found none (of_all m x.count (told_of m) x.found x.first)
  fails_not x place f at (of_opener has none) = by (nat_lt place x.count) refl
    where
      by : (b : Bool) → nat_lt place x.count ≡ b → ⊥
      by true lt = x.opens f (among_first m.files place x.count f at (below place x.count lt)) has
      by false ge = both_faults (fault_among m (take place (told_of m))) x.found none (stays_among m x.count place (told_of m) x.found (not_below place x.count ge) x.first)

  reads_not : IsSound m → IsUnreadable m → ⊥
  reads_not ok u = by u.why
    where
      by : CantBeRead m → ⊥
      by (has_fault e is) = both_faults (fault_among m (told_of m)) e (ok.good u.asks.room) is
      by (has_spoilt none f there bad) = ok.reads u.asks.room f there bad

  works_not : IsSound m → IsFailing m → ⊥
  works_not ok f = ok.works f.asks.room f.place f.file f.there f.failing

  binds_not : {X : Type 0} → HasNoFault m → IsUnbound m → X
  binds_not none (e, is) = both_faults _ e none is

-- ---- answers
given_is : (bytes : List ℕ) (old new : InputState) (m : Manifest) → old.left ≡ Some bytes → IsGiven m old new → IsUnionManifest bytes m
given_is bytes old new m e (read, all, i) = subst (λ xs. IsUnionManifest xs m) (subst (λ o. IfSome o (λ told. read ≡ told)) e all.all) i

told_of_left : (P : List ℕ → Type 0) (bytes : List ℕ) (left : Option (List ℕ)) → left ≡ Some bytes → IfSome left P → P bytes
told_of_left P bytes left e h = subst (λ o. IfSome o P) e h

-- want of memory answers anything
out_of_memory : (bytes : List ℕ) (s : ℕ) → s ≡ 7 → Answers bytes s
out_of_memory bytes s e = record { none = λ h. inr e; unbound = λ m i h. inr e; misfit = λ m i h. inr e; lines = λ m i h. inr e }

module _ (bytes : List ℕ) (old new : InputState) (output output' : OutputState) (w : WentWell bytes old new output output') where
  module _ (m : Manifest) (g : IsGiven m old new) where
    here : IsUnionManifest bytes m
    here = given_is bytes old new m w.told g

    -- a fact of what the bytes are is one of this manifest
    same : (P : Manifest → Type 0) (n : Manifest) → IsUnionManifest bytes n → P n → P m
    same P n i h = subst P (one_manifest bytes n m i.0 here.0) h

    stop_answers : (s : ℕ) (stop : Stop) → IsUnionStop m stop → s ≡ status_of stop → Answers bytes s
    stop_answers s Unbound h e = record {
      none = λ no. absurd (no m here);
      unbound = λ n i b. inl e;
      misfit = λ n i x. binds_not m (same IsMisfit n i x).asks.late h;
      lines = λ n i ok. binds_not m (same IsSound n i ok).passes h;
    }
    stop_answers s Unreadable h e = record {
      none = λ no. absurd (no m here);
      unbound = λ n i b. binds_not m h.asks.late (same IsUnbound n i b);
      misfit = λ n i x. inl e;
      lines = λ n i ok. absurd (reads_not m (same IsSound n i ok) h);
    }
    stop_answers s Failed h e = record {
      none = λ no. absurd (no m here);
      unbound = λ n i b. binds_not m h.asks.late (same IsUnbound n i b);
      misfit = λ n i x. absurd (fails_not m (same IsMisfit n i x) h.place h.file h.there h.failing);
      lines = λ n i ok. absurd (works_not m (same IsSound n i ok) h);
    }
    stop_answers s NoMemory h e = out_of_memory bytes s e

  pub ready_answers : (chunks : List ChunkData) → IsUnionReady chunks old new → Answers bytes 0
  ready_answers chunks (m, g, u) = record {
    none = λ no. absurd (no m (here m g));
    unbound = λ n i b. binds_not m u.passes (same m g IsUnbound n i b);
    misfit = λ n i x. by (same m g IsMisfit n i x);
    lines = λ n i ok. inl refl;
  }
    where
      by : {X : Type 0} → IsMisfit m → X
      by x = both_faults (fault_among m (told_of m)) x.found (u.files x.asks.room) (of_all m x.count (told_of m) x.found x.first)

  pub end_answers : (s : ℕ) → EndsUnion s old new → Answers bytes s
  end_answers s (inl (inl (e, r))) =
      let no = told_of_left (λ xs. (m : Manifest) → ¬ IsUnionManifest xs m) bytes old.left w.told r.is in
      record { none = λ h. inl e; unbound = λ m i h. absurd (no m i); misfit = λ m i h. absurd (no m i); lines = λ m i h. absurd (no m i) }
  end_answers s (inl (inr (inl (e, inl r)))) = absurd (w.read r)
  end_answers s (inl (inr (inl (e, inr t)))) = absurd (w.short t)
  end_answers s (inl (inr (inr e))) = out_of_memory bytes s e
  end_answers s (inr (m, stop, g, i, e)) = stop_answers m g s stop i e

pub short_answers : (bytes : List ℕ) → Answers bytes 7
short_answers bytes = out_of_memory bytes 7 refl
