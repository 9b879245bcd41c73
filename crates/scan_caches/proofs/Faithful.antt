-- What the calls of an adapter keep, and what they tell of the source's content.
use Rattle.std.proofs.Common.{◌≡◌, ◌⊎◌, ℕ, List, Bool, true, false, nat_eq, Option, Some, None, refl, sym, ap, ◌∙◌, subst, inl, inr, arith}
use Rattle.std.specs.Prelude.{IfSome}
use Rattle.std.proofs.lemmas.Bool.Decides.{nat_tests}
use Rattle.scan_segments.specs.Source.{Store, SourceState, TellsBytes, TellsNone}
use Rattle.scan_segments.specs.Cache.{Entries, CacheState, Loses, Stores, Both}
use Rattle.scan_segments.specs.declared.source.Polled.{Polled}
use Rattle.scan_segments.specs.declared.source.Polled.TheVariants.{Pending, Bytes, Missing, Failed, NoMemory}
use Rattle.scan_caches.specs.declared.adapter.Stage.{Stage}
use Rattle.scan_caches.specs.declared.adapter.Stage.TheVariants as stage
use Rattle.scan_caches.specs.declared.adapter.Looked.{Looked}
use Rattle.scan_caches.specs.declared.adapter.Looked.TheVariants as looked
use Rattle.scan_segments.specs.declared.cache.CacheGet.{CacheGet}
use Rattle.scan_caches.specs.Adapter.{Looks, IsMissed, PollsSource, PollsBoth, GoesOn, KeepsStages, IsFaithful, GivesContent, stage_at, asked_after}

-- the source and the cache keep what a store has
abbrev Keeps : Store → CacheState ℕ → SourceState → Type 0
Keeps store c s = (s.holds ≡ Some store) × ((m : Entries ℕ) × (c.entries ≡ Some m) × ((id : ℕ) (b : List ℕ) → m id ≡ Some b → store id ≡ Some b))

-- told entries after a change
told : (P : Entries ℕ → Entries ℕ → Type 0) (o p : Option (Entries ℕ)) (m : Entries ℕ) → o ≡ Some m → Both o p P → (n : Entries ℕ) × (p ≡ Some n) × P m n
told P None p m is b = absurd (cc)
told P (Some k) None m is b = absurd b
told P (Some k) (Some n) m is b = (n, refl, subst (λ e. P e n) (let s : Some k ≡ Some m = is in cc) b)

loses : (store : Store) (c d : CacheState ℕ) (s : SourceState) → Both c.entries d.entries Loses → Keeps store c s → Keeps store d s
loses store c d s b k = let t = told Loses c.entries d.entries k.1.0 k.1.1 b in (k.0, (t.0, t.1, λ id v is. k.1.2 id v (t.2 id v is)))

stores : (store : Store) (key : ℕ) (bytes : List ℕ) (c d : CacheState ℕ) (s : SourceState) → store key ≡ Some bytes → Both c.entries d.entries (Stores key bytes) → Keeps store c s → Keeps store d s
stores store key bytes c d s content b k = let t = told (Stores key bytes) c.entries d.entries k.1.0 k.1.1 b in (
  k.0,
  (
    t.0,
    t.1,
    λ id v is. elim (t.2 id v is) [
      | inl e ↦ k.1.2 id v e
      | inr e ↦ ap store e.0 ∙ content ∙ ap Some (sym e.1)
    ],
  ),
)

held : (store : Store) (c : CacheState ℕ) (s t : SourceState) → t.holds ≡ s.holds → Keeps store c s → Keeps store c t
held store c s t e k = (e ∙ k.0, k.1)

module _ {C S : Type 0} (cache : C → CacheState ℕ) (gets : C → ℕ → C → CacheGet → Type 0) (source : S → SourceState) where
  missed : (store : Store) (id : ℕ) (c d : C) (s : S) → IsMissed cache gets source id c d → Keeps store (cache c) (source s) → Keeps store (cache d) (source s)
  missed store id c d s (inl m) k = loses store (cache c) (cache d) (source s) m.0.0.entries k
  missed store id c d s (inr m) k = loses store (cache c) (cache d) (source s) m.0.0.entries k

  looks : (store : Store) (id : ℕ) (c d : C) (s t : S) (w : Looked) → Looks cache gets source id c d s t w → Keeps store (cache c) (source s) → Keeps store (cache d) (source t)
  looks store id c d s t looked.Pending l k = held store (cache d) (source s) (source t) (ap (λ x. (source x).holds) l.1) (loses store (cache c) (cache d) (source s) l.0.0.0.entries k)
  looks store id c d s t (looked.Hit b) l k = held store (cache d) (source s) (source t) (ap (λ x. (source x).holds) l.1) (loses store (cache c) (cache d) (source s) l.0.0.0.entries k)
  looks store id c d s t looked.Asked l k = held store (cache d) (source s) (source t) l.1.holds (missed store id c d s l.0 k)
  looks store id c d s t looked.NoMemory (inl l) k = held store (cache d) (source s) (source t) (ap (λ x. (source x).holds) l.1) (loses store (cache c) (cache d) (source s) l.0.0.entries k)
  looks store id c d s t looked.NoMemory (inr l) k = held store (cache d) (source s) (source t) l.1.holds (missed store id c d s l.0 k)

-- what a hit gives is content
hit : (store : Store) (id : ℕ) (bytes : List ℕ) (c : CacheState ℕ) (s : SourceState) → IfSome c.entries (λ m. m id ≡ Some bytes) → Keeps store c s → store id ≡ Some bytes
hit store id bytes c s h k = let e : IfSome (Some k.1.0) (λ (m : Entries ℕ). m id ≡ Some bytes) = subst (λ (o : Option (Entries ℕ)). IfSome o (λ m. m id ≡ Some bytes)) k.1.1 h in k.1.2 id bytes e

content : (store : Store) (id : ℕ) (bytes : List ℕ) (s : SourceState) → TellsBytes s id bytes → s.holds ≡ Some store → store id ≡ Some bytes
content store id bytes s h is = let e : IfSome (Some store) (λ (m : Store). m id ≡ Some bytes) = subst (λ (o : Option Store). IfSome o (λ m. m id ≡ Some bytes)) is h in e

nothing : (store : Store) (id : ℕ) (s : SourceState) → TellsNone s id → s.holds ≡ Some store → store id ≡ None
nothing store id s h is = let e : IfSome (Some store) (λ (m : Store). m id ≡ None) = subst (λ (o : Option Store). IfSome o (λ m. m id ≡ None)) is h in e

same_cache : (store : Store) (c d : CacheState ℕ) (s : SourceState) → d ≡ c → Keeps store c s → Keeps store d s
same_cache store c d s e k = subst (λ (x : CacheState ℕ). Keeps store x s) (sym e) k

module _ {C S : Type 0} (cache : C → CacheState ℕ) (gets : C → ℕ → C → CacheGet → Type 0) (source : S → SourceState) (polls : S → ℕ → S → Polled → Type 0) (fits : ℕ → List ℕ → Type 0) where
  polls_source : (store : Store) (id : ℕ) (c d : C) (s t : S) (r : Polled) → PollsSource cache gets source polls fits id c d s t r → Keeps store (cache c) (source s) → Keeps store (cache d) (source t) × GivesContent store id r
  polls_source store id c d s t Pending p k = (held store (cache d) (source s) (source t) p.0.0.0.holds (same_cache store (cache c) (cache d) (source s) (ap cache p.1) k), tt)
  polls_source store id c d s t (Bytes b) p k =
      let v = content store id b (source s) p.0.0.1 k.0 in
      (held store (cache d) (source s) (source t) p.0.0.0.holds (stores store id b (cache c) (cache d) (source s) v p.1.entries k), v)
  polls_source store id c d s t Missing p k = (held store (cache d) (source s) (source t) p.0.0.0.holds (same_cache store (cache c) (cache d) (source s) (ap cache p.1) k), nothing store id (source s) p.0.0.1 k.0)
  polls_source store id c d s t Failed p k = (held store (cache d) (source s) (source t) p.0.0.0.holds (same_cache store (cache c) (cache d) (source s) (ap cache p.1) k), tt)
  polls_source store id c d s t NoMemory p k = (held store (cache d) (source s) (source t) p.0.0.holds (same_cache store (cache c) (cache d) (source s) (ap cache p.1) k), tt)

-- what stands at the id after a call is no other bytes than content
abbrev Sound : Store → ℕ → Option Stage → Type 0
Sound store id after = (b : List ℕ) → after ≡ Some (stage.Found b) → store id ≡ Some b

asked_sound : (store : Store) (id : ℕ) (r : Polled) → Sound store id (asked_after r)
asked_sound store id Pending b is = absurd (cc)
asked_sound store id NoMemory b is = absurd (cc)
asked_sound store id (Bytes v) b is = absurd (cc)
asked_sound store id Missing b is = absurd (cc)
asked_sound store id Failed b is = absurd (cc)

sound_is : (store : Store) (id : ℕ) (x y : Option Stage) → x ≡ y → Sound store id y → Sound store id x
sound_is store id x y e h b is = h b (sym e ∙ is)

none_sound : (store : Store) (id : ℕ) → Sound store id None
none_sound store id b is = absurd (cc)

looking_sound : (store : Store) (id : ℕ) → Sound store id (Some stage.Looking)
looking_sound store id b is = absurd (cc)

found_sound : (store : Store) (id : ℕ) (v : List ℕ) → store id ≡ Some v → Sound store id (Some (stage.Found v))
found_sound store id v h b is = let e : stage.Found v ≡ stage.Found b = cc in let f : v ≡ b = cc in h ∙ ap Some f

gives_is : (store : Store) (id : ℕ) (r : Polled) (q : Polled) → r ≡ q → GivesContent store id q → GivesContent store id r
gives_is store id r q e h = subst (λ (x : Polled). GivesContent store id x) (sym e) h

both_same : (store : Store) (c d : CacheState ℕ) (s t : SourceState) → d ≡ c → t ≡ s → Keeps store c s → Keeps store d t
both_same store c d s t e f k = held store d s t (ap (λ (x : SourceState). x.holds) f) (same_cache store c d s e k)

module _ {C S : Type 0} (cache : C → CacheState ℕ) (gets : C → ℕ → C → CacheGet → Type 0) (source : S → SourceState) (polls : S → ℕ → S → Polled → Type 0) (fits : ℕ → List ℕ → Type 0) where
  unchanged : (store : Store) (c d : C) (s t : S) → d ≡ c → t ≡ s → Keeps store (cache c) (source s) → Keeps store (cache d) (source t)
  unchanged store c d s t e f k = both_same store (cache c) (cache d) (source s) (source t) (ap cache e) (ap source f) k

  goes_on : (store : Store) (id : ℕ) (b c d : C) (q s t : S) (r : Polled) (after : Option Stage) (w : Looked) → Looks cache gets source id b c q s w → Keeps store (cache b) (source q)
      → GoesOn cache gets source polls fits id c d s t r after w → Keeps store (cache d) (source t) × GivesContent store id r × Sound store id after
  goes_on store id b c d q s t r after looked.Pending l k g = (unchanged store c d s t g.1 g.2 (looks cache gets source store id b c q s looked.Pending l k), gives_is store id r Pending g.0 tt, sound_is store id after _ g.3 (looking_sound store id))
  goes_on store id b c d q s t r after (looked.Hit v) l k g = (unchanged store c d s t g.1 g.2 (looks cache gets source store id b c q s (looked.Hit v) l k), gives_is store id r (Bytes v) g.0 (hit store id v (cache b) (source q) l.0.0.1 k), sound_is store id after _ g.3 (none_sound store id))
  goes_on store id b c d q s t r after looked.Asked l k g =
      let p = polls_source cache gets source polls fits store id c d s t r g.0 (looks cache gets source store id b c q s looked.Asked l k) in
      (p.0, p.1, sound_is store id after _ g.1 (asked_sound store id r))
  goes_on store id b c d q s t r after looked.NoMemory l k g = (unchanged store c d s t g.1 g.2 (looks cache gets source store id b c q s looked.NoMemory l k), gives_is store id r NoMemory g.0 tt, sound_is store id after _ g.3 (looking_sound store id))

  polls_both : (store : Store) (id : ℕ) (c d : C) (s t : S) (r : Polled) (after before : Option Stage) → PollsBoth cache gets source polls fits id c d s t r after before → Keeps store (cache c) (source s)
      → Sound store id before → Keeps store (cache d) (source t) × GivesContent store id r × Sound store id after
  polls_both store id c d s t r after None p k v = absurd p
  polls_both store id c d s t r after (Some stage.Looking) p k v = goes_on store id c p.between d s p.asked t r after p.way p.looks k p.goes_on
  polls_both store id c d s t r after (Some stage.Asked) p k v =
      let q = polls_source cache gets source polls fits store id c d s t r p.0 k in (q.0, q.1, sound_is store id after _ p.1 (asked_sound store id r))
  polls_both store id c d s t r after (Some (stage.Found b)) p k v = let w = found_gives p.2 in (unchanged store c d s t p.0 p.1 k, w.0, w.1) where
    found_gives : ((r ≡ Bytes b) × (after ≡ None)) ⊎ ((r ≡ NoMemory) × (after ≡ Some (stage.Found b))) → GivesContent store id r × Sound store id after
    found_gives (inl e) = (gives_is store id r (Bytes b) e.0 (v b refl), sound_is store id after _ e.1 (none_sound store id))
    found_gives (inr e) = (gives_is store id r NoMemory e.0 tt, sound_is store id after _ e.1 (found_sound store id b (v b refl)))

-- all stages are sound where that of the id is and the others stay
all_sound : (store : Store) (id : ℕ) (es fs : List (ℕ × Stage)) → KeepsStages id es fs → ((i : ℕ) → Sound store i (stage_at es i)) → Sound store id (stage_at fs id) → (i : ℕ) → Sound store i (stage_at fs i)
all_sound store id es fs keep old new i b is = go (nat_eq id i) refl
  where
    go : (x : Bool) → nat_eq id i ≡ x → store i ≡ Some b
    go true p = let same : id ≡ i = grind (arith, nat_tests) in ap store (sym same) ∙ new b (ap (stage_at fs) same ∙ is)
    go false p = old i b (sym (keep i p) ∙ is)

faithful : (store : Store) (c : CacheState ℕ) (s : SourceState) (es : List (ℕ × Stage)) → Keeps store c s → ((i : ℕ) → Sound store i (stage_at es i)) → IsFaithful store c s es
faithful store c s es k v = record { source = k.0; entries = k.1.0; told = k.1.1; kept = k.1.2; found = v }

keeps : (store : Store) (c : CacheState ℕ) (s : SourceState) (es : List (ℕ × Stage)) → IsFaithful store c s es → Keeps store c s
keeps store c s es f = (f.source, (f.entries, f.told, f.kept))

module _ {C S : Type 0} (cache : C → CacheState ℕ) (gets : C → ℕ → C → CacheGet → Type 0) (source : S → SourceState) (polls : S → ℕ → S → Polled → Type 0) (fits : ℕ → List ℕ → Type 0) where
  pub poll_keeps : (store : Store) (id : ℕ) (c d : C) (s t : S) (r : Polled) (es fs : List (ℕ × Stage)) → PollsBoth cache gets source polls fits id c d s t r (stage_at fs id) (stage_at es id)
      → KeepsStages id es fs → IsFaithful store (cache c) (source s) es → IsFaithful store (cache d) (source t) fs × GivesContent store id r
  poll_keeps store id c d s t r es fs p others f =
      let q = polls_both cache gets source polls fits store id c d s t r (stage_at fs id) (stage_at es id) p (keeps store (cache c) (source s) es f) (f.found id) in
      (faithful store (cache d) (source t) fs q.0 (all_sound store id es fs others f.found q.2), q.1)
