-- One file that tells.
use Rattle.std.proofs.Common.{◌≡◌, ℕ, zero, suc, ◌<◌, List, [], ◌∷◌, Option, None, Some, refl, sym, ap, ap₂, ◌∙◌, subst, get_or, arith}
use Rattle.std.specs.Prelude.{IfSome}
use Rattle.std.specs.declared.alloc.Global.{Global}
use Rattle.std.specs.declared.rc.Rc.{Rc}
use Rattle.std.specs.declared.vec.Vec.{Vec}
use Rattle.std.proofs.lemmas.List.Elements.{All-cons, All-nil}
use Rattle.vortex_scan.specs.Values.DataType.{DataType}
use Rattle.vortex_scan.specs.Expr.declared.request.ScanRequest.{ScanRequest}
use Rattle.vortex_scan.specs.Segments.Cache.{CacheState, empty_cache}
use Rattle.vortex_scan.specs.Segments.Requests.{Requested, is_live}
use Rattle.vortex_scan.specs.Segments.Source.{SourceState, Store, none_live}
use Rattle.vortex_scan.specs.Segments.declared.segment.SegmentKey.{SegmentKey}
use Rattle.vortex_scan.specs.Layout.Layout.{Layout}
use Rattle.vortex_scan.specs.Opener.Opener.{OpenerState}
use Rattle.vortex_scan.specs.Opener.OpenerMemory.{given_of}
use Rattle.vortex_scan.specs.Opener.declared.opener.MemoryOpener.{MemoryOpener}
use Rattle.vortex_scan.specs.Drive.declared.files.ScanFile.{ScanFile}
use Rattle.vortex_scan.specs.Multi.Answer.{ToldFile, answer}
use Rattle.vortex_scan.specs.Multi.Lawful.{IsIdle, IsLawful, Tells, Agrees, told_file}
use Rattle.vortex_scan.specs.Multi.Output.{ChunkData, OutputData, IsGiven, given}
use Rattle.vortex_scan.specs.Multi.Scans.{IsScan}
use Rattle.uses.specs.Own.{AreOne, memory_opener, stored, table_file, table_source}
use Rattle.uses.specs.declared.own_source.TableSource.{TableSource}

-- a cache that keeps nothing agrees with any source
agrees-none : (o : Option Store) → IfSome o (λ store. (id : ℕ) → Unit {0})
agrees-none None = tt
agrees-none (Some store) = λ id. tt

module _ {O S : Type 0} (opener : O → OpenerState) (source : S → SourceState) where
  only : (f d : ScanFile O S) (i : ℕ) → i < 1 → get_or (f ∷ []) i d ≡ f
  only f d zero l = refl
  only f d (suc i) l = absurd (omega (arith, l))

  pub lawful_alone : (f : ScanFile O S) → Tells opener source f → IsLawful opener source (f ∷ []) empty_cache
  lawful_alone f t = record {
    tells = All-cons (Tells opener source) f [] t (All-nil (Tells opener source));
    same = λ i j d li lj e. ap (λ (x : ScanFile O S). (source x.source).holds) (only f d i li ∙ sym (only f d j lj));
    cache_tells = refl;
    agrees = All-cons (Agrees opener source empty_cache) f [] (agrees-none (source f.source).holds) (All-nil (Agrees opener source empty_cache));
  }

  pub alone : (f : ScanFile O S) (file : ToldFile) → Tells opener source f → IsIdle opener source f → told_file opener source f ≡ file → AreOne opener source file (f ∷ [])
  alone f file t idle e = record {
    idle = All-cons (IsIdle opener source) f [] idle (All-nil (IsIdle opener source));
    lawful = lawful_alone f t;
    tell = ap (λ x. x ∷ []) e;
  }

  pub given_alone : (workers : ℕ) (d : DataType) (q : ScanRequest) (old new : List (ScanFile O S)) (c : CacheState SegmentKey) (file : ToldFile) (out : OutputData) (chunks : List ChunkData)
      → chunks ≡ out.chunks → AreOne opener source file old → IsScan opener source workers d q old new empty_cache c out → IsGiven q.ordered q.limit (answer d q (file ∷ [])) (given chunks)
  given_alone workers d q old new c file out chunks e one s =
      subst (λ (cs : List ChunkData). IsGiven q.ordered q.limit (answer d q (file ∷ [])) (given cs)) (sym e)
      (subst (λ (fs : List ToldFile). IsGiven q.ordered q.limit (answer d q fs) (given out.chunks)) one.tell ((s.admits one.lawful).items))

-- no request was made
idle-none : (r : Requested) → r ≡ record { asked = []; live = [] } → is_live r ≡ none_live
idle-none r e = ap is_live e

-- the file of a table
pub table_alone : (f : ScanFile MemoryOpener TableSource) (layout : Rc Layout Global) (segments : Vec (List ℕ) Global)
    → f.opener.gives ≡ Some layout → f.source.segments ≡ segments → f.source.requests ≡ record { asked = []; live = [] }
    → AreOne memory_opener table_source (table_file layout.value segments.items) (f ∷ [])
table_alone f layout segments g s r =
    alone memory_opener table_source f (table_file layout.value segments.items) (record { gives = refl; holds = refl }) (idle-none f.source.requests r)
    (ap₂ (λ (o : Option (Rc Layout Global)) (v : Vec (List ℕ) Global). record { given = given_of o; store = stored v.items }) g s)
