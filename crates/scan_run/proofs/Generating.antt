-- Generated files: they are lawful, and the line of their scan is that of their answer.
use Rattle.std.proofs.Common.{◌≡◌, ◌≢◌, ◌⊎◌, inl, inr, ℕ, zero, suc, ◌+◌, ◌*◌, ◌<◌, ◌≤◌, List, [], ◌∷◌, ◌++◌, length, get_or, map, Bool, true, false, Option, None, Some, refl, sym, ap, ◌∙◌, subst, arith}
use Rattle.std.specs.Prelude.{IfSome, IsSome, All, unwrap_or, option_map}
use Rattle.scan_values.specs.DataType.{DataType}
use Rattle.scan_segments.specs.Source.{Store}
use Rattle.scan_segments.specs.MemorySource.{source_state}
use Rattle.scan_segments.specs.Cache.{empty_cache}
use Rattle.scan_segments.specs.declared.memory_source.MemorySource.{MemorySource}
use Rattle.scan_spelling.specs.declared.spelling.Spelling.{Spelling}
use Rattle.scan_expr.specs.Infer.{infer}
use Rattle.scan_opener.specs.Opener.{Given, skip, layout_of}
use Rattle.scan_opener.specs.declared.opener.MemoryOpener.{MemoryOpener}
use Rattle.scan_drive.specs.declared.files.ScanFile.{ScanFile}
use Rattle.scan_drive.specs.declared.report.ScanReport.{ScanReport}
use Rattle.scan_multi.specs.Answer.{ToldFile, answer}
use Rattle.scan_multi.specs.Lawful.{told, told_file, IsLawful, Tells, Agrees, IsIdle}
use Rattle.scan_multi.specs.Output.{OutputData, given}
use Rattle.scan_expr.specs.declared.request.ScanRequest.{ScanRequest}
use Rattle.scan_run.specs.Io.{OutputState}
use Rattle.scan_run.specs.FileOf.{memory_opener}
use Rattle.scan_run.specs.WriteAll.{WroteFront}
use Rattle.scan_run.specs.Words.{IsGenerate}
use Rattle.scan_run.specs.Generated.{table_type, generated_request}
use Rattle.scan_run.specs.GeneratedFiles.{layout_at, IsGeneratedFile, AreGenerated}
use Rattle.scan_run.specs.GeneratedLine.{told_at, generated_answer, totals_of, IsOutputOf, IsLineOf, IsGenerated, WroteFrontOfLine}
use Rattle.scan_run.specs.Totals.{with_chunks, no_totals, totals_line}
use Rattle.scan_run.proofs.Totalling.{chunks_total}

abbrev pub File : Type 0
File = ScanFile MemoryOpener MemorySource

-- what one file tells
told_one : (s : Spelling) (name : List ℕ) (first n : ℕ) (f : File) → IsGeneratedFile s name first n f → told_file memory_opener source_state f ≡ told_at s n first
told_one s name first n f is =
    let by : Option Given → Option Store → ToldFile = λ g h. record { given = unwrap_or g skip; store = unwrap_or h (λ id. None) } in
    ap (λ g. by g (source_state f.source).holds) is.gives.gives ∙ ap (λ h. by (Some (layout_of (layout_at s first n))) h) is.holds.holds

pub told_three : (s : Spelling) (n : ℕ) (files : List File) → AreGenerated s n files → told memory_opener source_state files ≡ map (told_at s n) (0 ∷ n ∷ 2 * n ∷ [])
told_three s n [] h = absurd h
told_three s n (a ∷ []) h = absurd h
told_three s n (a ∷ b ∷ []) h = absurd h
told_three s n (a ∷ b ∷ d ∷ []) h =
    ap (λ t. t ∷ told memory_opener source_state (b ∷ d ∷ [])) (told_one s _ 0 n a h.0)
    ∙ (ap (λ t. told_at s n 0 ∷ t ∷ told memory_opener source_state (d ∷ [])) (told_one s _ n n b h.1)
    ∙ ap (λ t. told_at s n 0 ∷ told_at s n n ∷ t ∷ []) (told_one s _ (2 * n) n d h.2))
told_three s n (a ∷ b ∷ d ∷ f ∷ fs) h = absurd h

-- a fact of each file
each_three : (P : File → Type 0) (a b d : File) → P a → P b → P d → (k : ℕ) (f : File) → k < 3 → P (get_or (a ∷ b ∷ d ∷ []) k f)
each_three P a b d p q r zero f lt = p
each_three P a b d p q r (suc zero) f lt = q
each_three P a b d p q r (suc (suc zero)) f lt = r
each_three P a b d p q r (suc (suc (suc k))) f lt = absurd (omega arith)

each_of : (P : File → Type 0) (s : Spelling) (n : ℕ) (files : List File) → ((name : List ℕ) (first : ℕ) (f : File) → IsGeneratedFile s name first n f → P f) → AreGenerated s n files → All P files
each_of P s n [] h are = absurd are
each_of P s n (a ∷ []) h are = absurd are
each_of P s n (a ∷ b ∷ []) h are = absurd are
each_of P s n (a ∷ b ∷ d ∷ []) h are = each_three P a b d (h _ 0 a are.0) (h _ n b are.1) (h _ (2 * n) d are.2)
each_of P s n (a ∷ b ∷ d ∷ f ∷ fs) h are = absurd are

pub all_idle : (s : Spelling) (n : ℕ) (files : List File) → AreGenerated s n files → All (IsIdle memory_opener source_state) files
all_idle s n files are = each_of (IsIdle memory_opener source_state) s n files (λ name first f is. is.holds.idle) are

some_of : {X : Type 0} (o : Option X) (x : X) → o ≡ Some x → IsSome o
some_of o x e = subst IsSome (sym e) refl

holds_none : {X : Type 0} (o : Option X) → IfSome o (λ x. (id : ℕ) → Unit {0})
holds_none None = tt
holds_none (Some x) = λ id. tt

same_three : (s : Spelling) (n : ℕ) (files : List File) → AreGenerated s n files → (i j : ℕ) (f : File) → i < length files → j < length files
    → (get_or files i f).source_id ≡ (get_or files j f).source_id → (source_state (get_or files i f).source).holds ≡ (source_state (get_or files j f).source).holds
same_three s n [] are i j f lt gt e = absurd are
same_three s n (a ∷ []) are i j f lt gt e = absurd are
same_three s n (a ∷ b ∷ []) are i j f lt gt e = absurd are
same_three s n (a ∷ b ∷ d ∷ []) are zero zero f lt gt e = refl
same_three s n (a ∷ b ∷ d ∷ []) are zero (suc zero) f lt gt e = let m : 48 ≡ 49 = ap (λ xs. get_or xs 3 0) (sym are.0.name ∙ (e ∙ are.1.name)) in absurd (omega (arith, m))
same_three s n (a ∷ b ∷ d ∷ []) are zero (suc (suc zero)) f lt gt e = let m : 48 ≡ 50 = ap (λ xs. get_or xs 3 0) (sym are.0.name ∙ (e ∙ are.2.name)) in absurd (omega (arith, m))
same_three s n (a ∷ b ∷ d ∷ []) are (suc zero) zero f lt gt e = let m : 49 ≡ 48 = ap (λ xs. get_or xs 3 0) (sym are.1.name ∙ (e ∙ are.0.name)) in absurd (omega (arith, m))
same_three s n (a ∷ b ∷ d ∷ []) are (suc zero) (suc zero) f lt gt e = refl
same_three s n (a ∷ b ∷ d ∷ []) are (suc zero) (suc (suc zero)) f lt gt e = let m : 49 ≡ 50 = ap (λ xs. get_or xs 3 0) (sym are.1.name ∙ (e ∙ are.2.name)) in absurd (omega (arith, m))
same_three s n (a ∷ b ∷ d ∷ []) are (suc (suc zero)) zero f lt gt e = let m : 50 ≡ 48 = ap (λ xs. get_or xs 3 0) (sym are.2.name ∙ (e ∙ are.0.name)) in absurd (omega (arith, m))
same_three s n (a ∷ b ∷ d ∷ []) are (suc (suc zero)) (suc zero) f lt gt e = let m : 50 ≡ 49 = ap (λ xs. get_or xs 3 0) (sym are.2.name ∙ (e ∙ are.1.name)) in absurd (omega (arith, m))
same_three s n (a ∷ b ∷ d ∷ []) are (suc (suc zero)) (suc (suc zero)) f lt gt e = refl
same_three s n (a ∷ b ∷ d ∷ []) are (suc (suc (suc i))) j f lt gt e = absurd (omega arith)
same_three s n (a ∷ b ∷ d ∷ []) are i (suc (suc (suc j))) f lt gt e = absurd (omega arith)
same_three s n (a ∷ b ∷ d ∷ g ∷ gs) are i j f lt gt e = absurd are

pub lawful_three : (s : Spelling) (n : ℕ) (files : List File) → AreGenerated s n files → IsLawful memory_opener source_state files empty_cache
lawful_three s n files are = record {
  tells = each_of (Tells memory_opener source_state) s n files (λ name first f is. record { gives = some_of _ _ is.gives.gives; holds = some_of _ _ is.holds.holds }) are;
  same = same_three s n files are;
  cache_tells = refl;
  agrees = each_of (Agrees memory_opener source_state empty_cache) s n files (λ name first f is. holds_none (source_state f.source).holds) are;
}

-- the line of what a scan by one worker gave
pub line_is : (s : Spelling) (n : ℕ) (old new : List File) (d : DataType) (q : ScanRequest) (out : OutputData) (text : List ℕ) → AreGenerated s n old → d ≡ table_type → q ≡ generated_request
    → IsOutputOf 1 d q old new out → text ≡ totals_line n (with_chunks no_totals out.chunks) out.report.asks → IsLineOf s n text
line_is s n old new d q out text are p r o e =
    let P : DataType → Type 0 = λ z. IsOutputOf 1 z q old new out in
    let R : ScanRequest → Type 0 = λ z. IsOutputOf 1 table_type z old new out in
    line_of s n old new out text are (subst R r (subst P p o)) e
  where
    line_of : (s : Spelling) (n : ℕ) (old new : List File) (out : OutputData) (text : List ℕ) → AreGenerated s n old
        → IsOutputOf 1 table_type generated_request old new out → text ≡ totals_line n (with_chunks no_totals out.chunks) out.report.asks → IsLineOf s n text
    line_of s n old new out text are o e =
        let a = o.scan.admits (lawful_three s n old are) in
        let t = chunks_total (infer table_type generated_request.projection) out.chunks a.chunks in
        let g : given out.chunks ≡ generated_answer s n = a.items ∙ ap (answer table_type generated_request) (told_three s n old are) in
        record {
          old = old;
          new = new;
          out = out;
          run = record { made = are; scanned = o; gave = g; asks = ap (λ (z : ScanReport). z.asks) o.scan.report.are };
          is = e ∙ ap (λ u. totals_line n u out.report.asks) t;
        }

-- ---- the ends of a run
pub other : (r : ℕ) → (r ≡ 0) ⊎ (r ≡ 1) ⊎ (r ≡ 6) ⊎ (r ≡ 7) → (r ≢ 2) × (r ≢ 3) × (r ≢ 4) × (r ≢ 5) × (r < 8) × (0 < r → r < 6 → r ≡ 1)
other r (inl e) = (λ f. omega arith, λ f. omega arith, λ f. omega arith, λ f. omega arith, omega arith, λ a b. absurd (omega arith))
other r (inr (inl e)) = (λ f. omega arith, λ f. omega arith, λ f. omega arith, λ f. omega arith, omega arith, λ a b. e)
other r (inr (inr (inl e))) = (λ f. omega arith, λ f. omega arith, λ f. omega arith, λ f. omega arith, omega arith, λ a b. absurd (omega arith))
other r (inr (inr (inr e))) = (λ f. omega arith, λ f. omega arith, λ f. omega arith, λ f. omega arith, omega arith, λ a b. absurd (omega arith))

pub none_of : {X : Type 0} (o : Option X) → ((x : X) → o ≡ Some x → ⊥) → o ≡ None
none_of None h = refl
none_of (Some x) h = absurd (h x refl)

pub rows_most : (words : List (List ℕ)) (n : ℕ) (s : Spelling) → IsGenerate words n s → n ≤ 100000
rows_most [] n s h = absurd h
rows_most (a ∷ []) n s h = absurd h
rows_most (a ∷ b ∷ []) n s h = h.rows.most
rows_most (a ∷ b ∷ d ∷ []) n s h = h.rows.most
rows_most (a ∷ b ∷ d ∷ e ∷ es) n s h = absurd h

-- a test is not both
pub clash : {P : Type 0} (b w : Bool) → b ≡ w → b ≡ true → w ≡ false → P
clash b w p q r = let f : true ≡ false = sym q ∙ (p ∙ r) in cc

module _ (words : List (List ℕ)) (n : ℕ) (s : Spelling) (text bytes : List ℕ) (old new : OutputState) (same : bytes ≡ text) (asked : IsGenerate words n s) (line : IsLineOf s n text) where
  pub line_written : new.written ≡ option_map (λ before. before ++ bytes) old.written → IsGenerated words old new
  line_written w = record { rows = n; spelling = s; asked = asked; text = text; line = line; written = subst (λ xs. new.written ≡ option_map (λ before. before ++ xs) old.written) same w }

  pub line_begun : WroteFront bytes old new → WroteFrontOfLine words old new
  line_begun w = inr (record { rows = n; spelling = s; asked = asked; text = text; line = line; front = subst (λ xs. WroteFront xs old new) same w })
