-- Lawful objects, as a drive over files has them.
use Rattle.std.proofs.Common.{◌≡◌, ℕ, List, [], ◌∷◌, refl, subst, map, get_or}
use Rattle.std.specs.Prelude.{Option, None, Some, IfSome, IsSome, All, unwrap_or, option_map}
use Rattle.std.proofs.lemmas.List.Elements.{All-nil, All-cons, All-head, All-tail}
use Rattle.scan_segments.specs.Source.{SourceState, Store}
use Rattle.scan_segments.specs.Cache.{Entries, CacheState, Both}
use Rattle.scan_segments.specs.declared.segment.SegmentKey.{SegmentKey}
use Rattle.scan_opener.specs.Opener.{OpenerState, Given, skip}
use Rattle.scan_drive.specs.Files as drive
use Rattle.scan_drive.specs.Files.{Item}
use Rattle.scan_drive.specs.Moves.{tell, tells}
use Rattle.scan_drive.specs.Rounds as drive_rounds
use Rattle.scan_drive.specs.Trades.{Trusts}
use Rattle.scan_drive.specs.Traffic.{key_of}
use Rattle.scan_drive.specs.declared.files.ScanFile.{ScanFile}
use Rattle.scan_file.specs.FileAsks.{FileAsk}
use Rattle.scan_file.specs.Openings.{part_of}
use Rattle.scan_multi.specs.Asked.{tale_of}
use Rattle.scan_multi.specs.Lawful.{told_file, told, Tells, IsLawful}
use Rattle.scan_multi.proofs.Polling.{asked_state}

-- ---- what a cache keeps
trust : (name : List ℕ) (store : Store) (c : CacheState SegmentKey) (holds : Option Store) → IsSome c.entries → holds ≡ Some store
    → IfSome c.entries (λ m. IfSome holds (λ s. (id : ℕ) → IfSome (m (key_of name id)) (λ bytes. s id ≡ Some bytes))) → Trusts name store c
trust name store c holds t e h = record {
  tells = t;
  agrees = go c.entries (subst (λ o. IfSome c.entries (λ m. IfSome o (λ s. (id : ℕ) → IfSome (m (key_of name id)) (λ bytes. s id ≡ Some bytes)))) e h);
} where
  go : (o : Option (Entries SegmentKey)) → IfSome o (λ m. (id : ℕ) → IfSome (m (key_of name id)) (λ bytes. store id ≡ Some bytes)) → IfSome o (λ m. (id : ℕ) (b : List ℕ) → m (key_of name id) ≡ Some b → store id ≡ Some b)
  go None k = tt
  go (Some m) k = λ id b q. subst (λ o. IfSome o (λ bytes. store id ≡ Some bytes)) q (k id)

pub content : (name : List ℕ) (c : CacheState SegmentKey) (holds : Option Store) → ((store : Store) → holds ≡ Some store → Trusts name store c)
    → IfSome c.entries (λ m. IfSome holds (λ s. (id : ℕ) → IfSome (m (key_of name id)) (λ bytes. s id ≡ Some bytes)))
content name c holds h = go c.entries holds (λ store e. (h store e).agrees) where
  one : (o : Option (List ℕ)) (w : Option (List ℕ)) → ((b : List ℕ) → o ≡ Some b → w ≡ Some b) → IfSome o (λ bytes. w ≡ Some bytes)
  one None w k = tt
  one (Some b) w k = k b refl

  go : (o : Option (Entries SegmentKey)) (held : Option Store) → ((store : Store) → held ≡ Some store → IfSome o (λ m. (id : ℕ) (b : List ℕ) → m (key_of name id) ≡ Some b → store id ≡ Some b))
      → IfSome o (λ m. IfSome held (λ s. (id : ℕ) → IfSome (m (key_of name id)) (λ bytes. s id ≡ Some bytes)))
  go None held k = tt
  go (Some m) None k = tt
  go (Some m) (Some store) k = λ id. one (m (key_of name id)) (store id) (k store refl id)

pub still-tells : (o p : Option (Entries SegmentKey)) (P : Entries SegmentKey → Entries SegmentKey → Type 0) → Both o p P → IsSome o → IsSome p
still-tells None p P h s = cc
still-tells (Some m) None P h s = absurd h
still-tells (Some m) (Some n) P h s = refl

some-mapped : {A B : Type 0} (f : A → B) (o : Option A) → IsSome o → IsSome (option_map f o)
some-mapped f None s = cc
some-mapped f (Some x) s = refl

module _ {O S : Type 0} (opener : O → OpenerState) (source : S → SourceState) (a : FileAsk) where
  -- what a drive is told of files
  abbrev pub tale : List (ScanFile O S) → List (drive.Told Item)
  tale = tells (asked_state opener a) source

  -- lawful, as a drive has it
  abbrev pub IsLawful' : List (ScanFile O S) → CacheState SegmentKey → Type 0
  IsLawful' = drive_rounds.IsLawful (asked_state opener a) source

  tells-told : (f : ScanFile O S) → Tells opener source f → drive.Tells (tell (asked_state opener a) source f)
  tells-told f t = (some-mapped (part_of a) (opener f.opener).gives t.gives, t.holds)

  all-tell : (files : List (ScanFile O S)) → All (Tells opener source) files → drive.AllTell (tale files)
  all-tell [] h = All-nil drive.Tells
  all-tell (f ∷ fs) h = All-cons drive.Tells _ _ (tells-told f (All-head (Tells opener source) f fs h)) (all-tell fs (All-tail (Tells opener source) f fs h))

  pub lawful_drive : (files : List (ScanFile O S)) (c : CacheState SegmentKey) → IsLawful opener source files c → IsLawful' files c
  lawful_drive files c l = record {
    tell = all-tell files l.tells;
    cache = record {
      same = l.same;
      trusts = λ k f store lt e. trust (get_or files k f).source_id store c (source (get_or files k f).source).holds l.cache_tells e (l.agrees k f lt);
    };
  }

  -- ---- what is told is as the answer has it
  part-told : (o : Option Given) → IsSome o → option_map (part_of a) o ≡ Some (part_of a (unwrap_or o skip))
  part-told None s = cc
  part-told (Some g) s = refl

  store-told : (o : Option Store) → IsSome o → o ≡ Some (unwrap_or o (λ id. None))
  store-told None s = cc
  store-told (Some x) s = refl

  pub tell_is : (f : ScanFile O S) → Tells opener source f → tell (asked_state opener a) source f ≡ tale_of a (told_file opener source f)
  tell_is f t i = record { part = part-told (opener f.opener).gives t.gives i; store = store-told (source f.source).holds t.holds i }

  pub tale_is : (files : List (ScanFile O S)) → All (Tells opener source) files → tale files ≡ map (tale_of a) (told opener source files)
  tale_is [] h = refl
  tale_is (f ∷ fs) h = λ i. tell_is f (All-head (Tells opener source) f fs h) i ∷ tale_is fs (All-tail (Tells opener source) f fs h) i
