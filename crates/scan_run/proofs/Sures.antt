-- What a run answers where nothing that it calls can fail: bytes are one manifest at most, and no file of a valid one is bad.
use Rattle.std.proofs.Common.{◌≡◌, ◌≢◌, ◌⊎◌, inl, inr, ℕ, zero, suc, ◌^◌, ◌<◌, List, Bool, true, false, Option, None, Some, refl, sym, ap, ◌∙◌, subst, arith, length, map}
use Rattle.std.specs.Prelude.{IfSome, All, Contains}
use Rattle.std.proofs.lemmas.List.{get_or-map, length-map}
use Rattle.scan_segments.specs.Faults.{Rose}
use Rattle.scan_multi.specs.Answer.{ToldFile}
use Rattle.scan_multi.specs.Checks.{IsGood, rows_in}
use Rattle.scan_multi.specs.Valid.{IsSound, NeverOverflows, IsValid}
use Rattle.scan_multi.specs.declared.scan.fault.ScanFault.{ScanFault}
use Rattle.scan_multi.proofs.Complete.{counted-rows, of_its_type, formed, within}
use Rattle.scan_manifest.specs.Manifest.{IsManifest, manifest_in}
use Rattle.scan_manifest.specs.declared.manifest.FileSpec.{FileSpec}
use Rattle.scan_manifest.specs.declared.manifest.Manifest.{Manifest}
use Rattle.scan_run.specs.Io.{InputState, OutputState, InputFailed, OutputFailed}
use Rattle.scan_run.specs.ReadAll.{IsLonger, TookMore}
use Rattle.scan_run.specs.Run.{HasNoFault, IsBadFile, IsDone, IsUnbound, IsUnreadable, IsFailing, given_by, told_by, of_type, of_layout, of_range, of_segment, of_overflow, of_rows}
use Rattle.scan_run.specs.Ran.{StatusTells}
use Rattle.scan_run.specs.Stops.{Halts}
use Rattle.scan_run.specs.Sure.{RunsOn, IsSure, Answers}

same_some : {A : Type 0} (x y : A) → Some x ≡ Some y → x ≡ y
same_some x y e = cc

one_manifest : (bytes : List ℕ) (m n : Manifest) → IsManifest bytes m → IsManifest bytes n → m ≡ n
one_manifest bytes m n (d, s, a) (e, t, b) =
    let here : manifest_in e ≡ Some m = subst (λ x. manifest_in x ≡ Some m) (same_some d e (sym s.1 ∙ t.1)) a in
    same_some m n (sym here ∙ b)

both : {X : Type 0} (o : Option ScanFault) (e : ScanFault) → o ≡ None → o ≡ Some e → X
both o e n s = let c : ◌≡◌ {A = Option ScanFault} None (Some e) = sym n ∙ s in absurd cc

not_both : (b : Bool) → b ≡ true → b ≡ false → ⊥
not_both b t f = let c : true ≡ false = sym t ∙ f in cc

-- an input that failed, and one that is too long, end a run with 6
pub halts_failed : (old new : InputState) → Rose old.faults new.faults → old.can_fail ≡ true → Halts 6 old new
halts_failed old new r a = inr (inl (refl, inl (r, a)))

pub halts_long : (old new : InputState) → TookMore 67108864 old new → IfSome old.left (λ all. 67108864 < length all) → Halts 6 old new
halts_long old new t l = inr (inl (refl, inr (record { took = t; told = l })))

-- ---- a valid manifest
module _ (m : Manifest) (valid : IsValid m.workers m.dtype m.request (map told_by m.files)) where
  -- what holds of what each file tells holds of that of one of them
  told_of : (P : ToldFile → Type 0) → All P (map told_by m.files) → (f : FileSpec) → Contains m.files f → P (told_by f)
  told_of P h f (k, lt, e) =
      subst P (get_or-map told_by m.files k f (told_by f) lt ∙ ap told_by e) (h k (told_by f) (rw length-map lt))

  no_bad_file : (place : ℕ) (f : FileSpec) → Contains m.files f → IsBadFile m place f → ⊥
  no_bad_file place f at (of_type u) = of_its_type m.dtype m.request (Some (given_by f)) refl u (told_of (λ t. IsGood m.dtype m.request t.given) valid.good f at)
  no_bad_file place f at (of_layout fault u) = formed m.dtype m.request fault (Some (given_by f)) refl u (told_of (λ t. IsGood m.dtype m.request t.given) valid.good f at)
  no_bad_file place f at (of_range u) = within m.dtype m.request (Some (given_by f)) refl u (told_of (λ t. IsGood m.dtype m.request t.given) valid.good f at)
  no_bad_file place f at (of_segment id u) = told_of (IsSound m.dtype m.request) valid.sound f at id u
  no_bad_file place f at (of_overflow u) = told_of (NeverOverflows m.dtype m.request) valid.no_overflow f at u
  no_bad_file place f at (of_rows h) =
      let few : rows_in (map told_by m.files) < 2 ^ 64 = valid.rows in
      let most = counted-rows m.request.ordered place (map told_by m.files) in
      omega (arith, h, few, most)

sure_reads : (m : Manifest) → IsSure m → IsUnreadable m → ⊥
sure_reads m sure u = no_bad_file m sure.valid u.there.0 u.file u.there u.bad

sure_works : (m : Manifest) → IsSure m → IsFailing m → ⊥
sure_works m sure u = sure.works u.file u.there u.failing

sure_binds : {X : Type 0} (m : Manifest) → IsSure m → IsUnbound m → X
sure_binds m sure (e, is) = both _ e sure.valid.no_fault is

unbound_late : {X : Type 0} (m : Manifest) → HasNoFault m → IsUnbound m → X
unbound_late m none (e, is) = both _ e none is

-- ---- a run
told_of_left : (P : List ℕ → Type 0) (bytes : List ℕ) (left : Option (List ℕ)) → left ≡ Some bytes → IfSome left P → P bytes
told_of_left P bytes left e h = subst (λ o. IfSome o P) e h

short_of_memory : (bytes : List ℕ) (s : ℕ) → s ≡ 7 → Answers bytes s
short_of_memory bytes s e = record { none = λ no. inr e; unbound = λ m i h. inr e; lines = λ m i h. inr e }

module _ (bytes : List ℕ) (old new : InputState) (output output' : OutputState) (on : RunsOn bytes old output) where
  module _ (m : Manifest) (is : IfSome old.left (λ all. IsManifest all m)) where
    here : IsManifest bytes m
    here = told_of_left (λ all. IsManifest all m) bytes old.left on.told is

    -- a fact of what the bytes are is one of this manifest
    same : (P : Manifest → Type 0) (n : Manifest) → IsManifest bytes n → P n → P m
    same P n i h = subst P (one_manifest bytes n m i here) h

  no_io : (s : ℕ) → StatusTells s old new output output' → s ≡ 6 → ⊥
  no_io s tells e = go (tells.io e)
    where
      go : (InputFailed old new ⊎ OutputFailed output output') ⊎ IsLonger 67108864 old new → ⊥
      go (inl (inl f)) = not_both old.can_fail f.1 on.reads
      go (inl (inr f)) = not_both output.can_fail f.1 on.writes
      go (inr l) =
          let long = told_of_left (λ all. 67108864 < length all) bytes old.left on.told l.told in
          let few = on.few in
          omega (arith, long, few)

  -- by the status
  pub answers_of : (s : ℕ) → StatusTells s old new output output' → (s ≡ 0 → IsDone old new output output') → s ≢ 1 → s < 8 → Answers bytes s
  answers_of zero tells done words below =
      let d = done refl in
      record {
        none = λ no. absurd (no d.manifest (here d.manifest d.is));
        unbound = λ n i h. unbound_late d.manifest d.scanned.passes (same d.manifest d.is IsUnbound n i h);
        lines = λ n i h. inl refl;
      }
  answers_of (suc zero) tells done words below = absurd (words refl)
  answers_of (suc (suc zero)) tells done words below =
      let r = tells.refused refl in
      let no-one = told_of_left (λ all. (n : Manifest) → ¬ IsManifest all n) bytes old.left on.told r.is in
      record { none = λ no. inl refl; unbound = λ n i h. absurd (no-one n i); lines = λ n i h. absurd (no-one n i) }
  answers_of (suc (suc (suc zero))) tells done words below =
      let f = tells.unbound refl in
      record {
        none = λ no. absurd (no f.manifest (here f.manifest f.is));
        unbound = λ n i h. inl refl;
        lines = λ n i h. sure_binds f.manifest (same f.manifest f.is IsSure n i h) f.fact;
      }
  answers_of (suc (suc (suc (suc zero)))) tells done words below =
      let f = tells.unreadable refl in
      record {
        none = λ no. absurd (no f.manifest (here f.manifest f.is));
        unbound = λ n i h. unbound_late f.manifest f.fact.late (same f.manifest f.is IsUnbound n i h);
        lines = λ n i h. absurd (sure_reads f.manifest (same f.manifest f.is IsSure n i h) f.fact);
      }
  answers_of (suc (suc (suc (suc (suc zero))))) tells done words below =
      let f = tells.failing refl in
      record {
        none = λ no. absurd (no f.manifest (here f.manifest f.is));
        unbound = λ n i h. unbound_late f.manifest f.fact.late (same f.manifest f.is IsUnbound n i h);
        lines = λ n i h. absurd (sure_works f.manifest (same f.manifest f.is IsSure n i h) f.fact);
      }
  answers_of (suc (suc (suc (suc (suc (suc zero)))))) tells done words below = absurd (no_io 6 tells refl)
  answers_of (suc (suc (suc (suc (suc (suc (suc zero))))))) tells done words below = short_of_memory bytes 7 refl
  answers_of (suc (suc (suc (suc (suc (suc (suc (suc s)))))))) tells done words below = absurd (omega (arith, below))
