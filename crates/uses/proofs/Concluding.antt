-- What a caller concludes of what a scan says.
use Rattle.std.proofs.Common.{◌≡◌, ◌≢◌, ◌⊎◌, inl, inr, ℕ, zero, suc, ◌+◌, ◌<◌, List, [], ◌∷◌, ◌++◌, Bool, true, false, Option, None, Some, refl, sym, ap, ap₂, ◌∙◌, subst, length, get_or, map, length-append, drop_of_length-le, ◌≤◌, min, arith}
use Rattle.std.specs.Prelude.{All, take, drop, unwrap_or, Result, Ok, Err}
use Rattle.std.proofs.lemmas.List.{length-map}
use Rattle.std.proofs.lemmas.List.Concat.{flat_map-cons}
use Rattle.std.proofs.lemmas.List.Elements.{All-head, All-tail}
use Rattle.std.proofs.lemmas.Slice.Zip.{length-zip}
use Rattle.vortex_scan.specs.Values.DataType.{DataType}
use Rattle.vortex_scan.specs.Values.declared.selection.Selection.TheVariants as selection
use Rattle.vortex_scan.specs.Expr.Expr.{Expr}
use Rattle.vortex_scan.specs.Expr.declared.request.ScanRequest.{ScanRequest}
use Rattle.vortex_scan.specs.Segments.Cache.{CacheState}
use Rattle.vortex_scan.specs.Segments.Faults.{capped}
use Rattle.vortex_scan.specs.Segments.Script.{ScriptState, has_number}
use Rattle.vortex_scan.specs.Segments.Source.{SourceState}
use Rattle.vortex_scan.specs.Segments.declared.segment.SegmentKey.{SegmentKey}
use Rattle.vortex_scan.specs.Opener.Opener.{OpenerState}
use Rattle.vortex_scan.specs.Drive.declared.files.ScanFile.{ScanFile}
use Rattle.scan_manifest.specs.Manifest.{IsManifest}
use Rattle.vortex_scan.specs.Multi.Answer.{Item, answer}
use Rattle.vortex_scan.specs.Multi.Lawful.{told, told_file, IsLawful, Tells}
use Rattle.vortex_scan.specs.Multi.Moves.{EachMoves, FileMoves}
use Rattle.vortex_scan.specs.Multi.Output.{ChunkData, OutputData, IsChunk, IsGiven, chunk_items, given, limited}
use Rattle.vortex_scan.specs.Multi.Scans.{IsScan, ScanMoves}
use Rattle.vortex_scan.specs.Union.UnionAnswer.{union_answer}
use Rattle.vortex_scan.specs.Union.UnionScans.{IsUnionScan}
use Rattle.scan_manifest.specs.declared.manifest.Manifest.{Manifest}
use Rattle.scan_run.specs.Io.{InputState}
use Rattle.scan_run.specs.Memory.{memory_input, memory_output}
use Rattle.scan_run.specs.Run.{IsDone, IsRefused, printed}
use Rattle.scan_run.specs.Sure.{Answers, IsSure, RunsOn}
use Rattle.uses.specs.Uses.{rows_in, wanted, first_of, AreLinesOf}

-- ---- counting
items-long : (d : DataType) (c : ChunkData) → IsChunk d c → length (chunk_items c) ≡ length c.rows
items-long d c k =
    let n = length-zip c.rows c.values.items in
    let e = k.even in
    length-map _ _ ∙ n ∙ omega (arith, e)

pub given-long : (d : DataType) (cs : List ChunkData) → All (IsChunk d) cs → length (given cs) ≡ rows_in cs
given-long d [] all = refl
given-long d (c ∷ cs) all =
    ap length (flat_map-cons chunk_items c cs) ∙ length-append (chunk_items c) (given cs)
    ∙ ap₂ (λ a b. a + b) (items-long d c (All-head (IsChunk d) c cs all)) (given-long d cs (All-tail (IsChunk d) c cs all))

-- at the end of the chunks
pub all-counted : (cs : List ChunkData) (i n : ℕ) → length cs ≤ i → n ≤ 18446744073709551615 → capped (n + rows_in (drop i cs)) ≡ capped (rows_in cs) → n ≡ capped (rows_in cs)
all-counted cs i n at most e =
    let gone = drop_of_length-le cs at in
    let small : n ≡ capped (n + 0) = omega (arith, most) in
    small ∙ ap (λ (zs : List ChunkData). capped (n + rows_in zs)) (sym gone) ∙ e

as-many : (ordered : Bool) (limit : Option ℕ) (all items : List Item) → IsGiven ordered limit all items → length items ≡ length (limited limit all)
as-many true limit all items g = ap length g
as-many false limit all items g = g.count

module _ {O S : Type 0} (opener : O → OpenerState) (source : S → SourceState) (workers : ℕ) (d : DataType) (q : ScanRequest) (old new : List (ScanFile O S)) (c c' : CacheState SegmentKey) (out : OutputData) where
  pub counted : (n : ℕ) → n ≡ capped (rows_in out.chunks) → IsScan opener source workers d q old new c c' out → IsLawful opener source old c
      → n ≡ capped (length (wanted opener source d q old))
  counted n e s l =
      let a = s.admits l in
      e ∙ ap capped (sym (given-long _ out.chunks a.chunks) ∙ as-many q.ordered q.limit (answer d q (told opener source old)) (given out.chunks) a.items)

-- ---- the first rows
pub first-is : (r : ScanRequest) (e : Expr) (most : ℕ) → r.projection ≡ e → r.filter ≡ None → r.row_range ≡ None → r.selection ≡ selection.All → r.partition_selection ≡ selection.All → r.partition_range ≡ None
    → r.ordered ≡ true → record r { limit = Some most } ≡ first_of e most
first-is r e most p f w s t u o = rw (p, f, w, s, t, u, o) refl

module _ {O S : Type 0} (opener : O → OpenerState) (source : S → SourceState) (workers : ℕ) (d : DataType) (q : ScanRequest) (e : Expr) (most : ℕ) (is : q ≡ first_of e most)
    (old new : List (ScanFile O S)) (c c' : CacheState SegmentKey) (out : OutputData) where
  pub first_given : IsScan opener source workers d q old new c c' out → IsLawful opener source old c → given out.chunks ≡ take most (answer d (first_of e most) (told opener source old))
  first_given s l = subst (λ (z : ScanRequest). IsGiven z.ordered z.limit (answer d z (told opener source old)) (given out.chunks)) is ((s.admits l).items)

-- ---- the first rows of a union
module _ {O S : Type 0} (opener : O → OpenerState) (source : S → SourceState) (workers : ℕ) (d : DataType) (q : ScanRequest) (e : Expr) (most : ℕ) (is : q ≡ first_of e most)
    (old new : List (ScanFile O S)) (out : OutputData) where
  pub first_under : IsUnionScan opener source workers d q old new out → All (Tells opener source) old → given out.chunks ≡ take most (union_answer d (first_of e most) (told opener source old))
  first_under s l = subst (λ (z : ScanRequest). IsGiven z.ordered z.limit (union_answer d z (told opener source old)) (given out.chunks)) is ((s.admits l).items)

-- ---- in order
pub in-order : (b : Bool) (limit : Option ℕ) (all items : List Item) → b ≡ true → IsGiven b limit all items → items ≡ limited limit all
in-order true limit all items e g = g
in-order false limit all items e g = absurd (cc e)

-- ---- the same files again
module _ {O S : Type 0} (opener : O → OpenerState) (source : S → SourceState) where
  file-same : (f g : ScanFile O S) → FileMoves opener source f g → told_file opener source g ≡ told_file opener source f
  file-same f g m = rw (m.gives, m.holds) refl

  pub told-same : (old new : List (ScanFile O S)) → length new ≡ length old → EachMoves opener source old new → told opener source new ≡ told opener source old
  told-same [] [] n m = refl
  told-same [] (g ∷ gs) n m = absurd (omega (arith, n))
  told-same (f ∷ fs) [] n m = absurd (omega (arith, n))
  told-same (f ∷ fs) (g ∷ gs) n m = ap₂ (λ x xs. x ∷ xs) (file-same f g (m 0 f)) (told-same fs gs (omega (arith, n)) (λ k z. m (suc k) z))

  pub same-again : (workers : ℕ) (d : DataType) (q : ScanRequest) (old mid new : List (ScanFile O S)) (c c' c'' : CacheState SegmentKey) (first again : OutputData)
      → IsScan opener source workers d q old mid c c' first → ScanMoves opener source workers d q old mid c c' → IsScan opener source workers d q mid new c' c'' again
      → IsLawful opener source old c → q.ordered ≡ true → given again.chunks ≡ given first.chunks
  same-again workers d q old mid new c c' c'' first again s m t l o =
      in-order q.ordered q.limit (answer d q (told opener source mid)) (given again.chunks) o ((t.admits (m.lawful l)).items)
      ∙ ap (λ fs. limited q.limit (answer d q fs)) (told-same old mid m.count m.moves)
      ∙ sym (in-order q.ordered q.limit (answer d q (told opener source old)) (given first.chunks) o ((s.admits l).items))

-- ---- the program
abbrev pub code_of : {A : Type 0} → Result A ℕ → ℕ
code_of (Ok x) = 0
code_of (Err n) = n

module _ (bytes held before after : List ℕ) (script out out' : ScriptState) (at taken ends faults f s f' s' : ℕ) (input' : InputState) (same : drop at held ≡ bytes) where
  pub lines-are : before ≡ [] → IsDone (memory_input held script at taken ends faults) input' (memory_output before out f s) (memory_output after out' f' s') → AreLinesOf bytes after
  lines-are none did = record {
    manifest = did.manifest;
    is = subst (λ z. IsManifest z did.manifest) same did.is;
    chunks = did.chunks;
    scanned = did.scanned;
    written = ap (λ o. unwrap_or o []) did.written ∙ ap (λ z. z ++ printed did.manifest did.chunks) none;
  }

module _ (bytes held : List ℕ) (script : ScriptState) (at taken ends faults : ℕ) (input' : InputState) (same : drop at held ≡ bytes) where
  pub is-none : IsRefused (memory_input held script at taken ends faults) input' → (m : Manifest) → IsManifest bytes m → ⊥
  is-none none m i = none.is m (subst (λ z. IsManifest z m) (sym same) i)

  -- over an input and an output that never fail
  module _ (before : List ℕ) (out : ScriptState) (f s : ℕ) (never : script.failing ≡ []) (never' : out.failing ≡ []) (few : length bytes ≤ 67108864) where
    runs-on : RunsOn bytes (memory_input held script at taken ends faults) (memory_output before out f s)
    runs-on = record { told = ap Some same; few = few; reads = ap has_number never; writes = ap has_number never' }

    -- a valid scan whose calls never fail ends with no other status than 0 and 7
    pub no-other : (status : ℕ) → ((b : List ℕ) → RunsOn b (memory_input held script at taken ends faults) (memory_output before out f s) → Answers b status)
        → (m : Manifest) → IsManifest bytes m → IsSure m → status ≢ 0 → status ≡ 7
    no-other status answers m is sure not = by ((answers bytes runs-on).lines m is sure)
      where
        by : (status ≡ 0) ⊎ (status ≡ 7) → status ≡ 7
        by (inl e) = absurd (not e)
        by (inr e) = e
