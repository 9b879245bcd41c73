-- Wants and polls at a desk keep the ledger and the counts of a scan.
use Rattle.std.proofs.Common.{◌≡◌, ℕ, List, [], ◌∷◌, ◌++◌, Bool, true, false, cond, eqb, refl, sym, ap, ◌∙◌, subst, arith, append-nil, inl, inr}
use Rattle.std.specs.Prelude.{Option, None, Some, is_some}
use Rattle.std.proofs.lemmas.Bool.Decides.{nat_tests}
use Rattle.scan_values.specs.Selections.{is_among}
use Rattle.scan_segments.specs.Source.{SourceState, Begins, Stays, none_live}
use Rattle.scan_segments.specs.Cache.{Loses}
use Rattle.scan_segments.specs.Cached.{Moves}
use Rattle.scan_segments.specs.declared.cache.CacheEvent.TheVariants.{Missed, Found}
use Rattle.scan_segments.specs.declared.segment.SegmentKey.{SegmentKey}
use Rattle.scan_splits.specs.declared.inbox.Arrival.TheVariants as arrival
use Rattle.scan_drive.specs.Desks.{Waiters, waiters_at, Agree, Asks, Replies}
use Rattle.scan_drive.specs.Desks as desk
use Rattle.scan_drive.specs.Ledger.{moved, Ledger, Balance, KeepsLedger, KeepsBalance, KeepsReport, KeepsWant, KeepsReply}
use Rattle.scan_drive.specs.Sources.{SourceMoves, NoId}
use Rattle.scan_drive.specs.Wants.{Cache, IsWanted, IsMiss, IsUnwanted, PutsWhatCame, missed_by, counted}
use Rattle.scan_drive.specs.declared.cached.Wanted.{Wanted}
use Rattle.scan_drive.specs.declared.cached.Wanted.TheVariants as wanted
use Rattle.scan_drive.specs.declared.desk.Reply.{Reply}
use Rattle.scan_drive.specs.declared.desk.Reply.TheVariants as reply
use Rattle.scan_drive.specs.declared.report.ScanReport.{ScanReport}
use Rattle.scan_drive.proofs.Books.{Rests, Stands, IsAsked, IsEnded, rests_stands, rests_ended, at_moved, moved_same, moved_moved}
use Rattle.scan_drive.proofs.Desking.{moved as moved_at}
use Rattle.scan_drive.proofs.Ledgers.{ledger_looks, ledger_asked, ledger_put, ledger_short}
use Rattle.scan_drive.proofs.Totalling.{moves_none, balance_hit, balance_shared, balance_asked, balance_stands, balance_lost, balance_missing, balance_put}
use Rattle.scan_drive.proofs.Wanting.{looks_short}

-- ---- what a desk's calls do to its source
no_ids : (ids : List ℕ) → ((id : ℕ) → is_among ids id ≡ true → ⊥) → ids ≡ []
no_ids [] h = refl
no_ids (x ∷ xs) h = absurd (h x (let on : eqb x x ≡ true = grind (arith, nat_tests) in rw on refl))

pub same_asked : (s t : SourceState) → SourceMoves NoId s t → t.asked ≡ s.asked
same_asked s t m = m.asked ∙ ap (λ xs. s.asked ++ xs) (no_ids m.ids m.may) ∙ append-nil s.asked

pub stands_self : (s : SourceState) → Stands s s
stands_self s = record { holds = refl; asked = refl; live = λ id. refl }

stands_is : (s t : SourceState) → t ≡ s → Stands s t
stands_is s t e = subst (Stands s) (sym e) (stands_self s)

stands_stays : (s t : SourceState) → Stays s t → Stands s t
stands_stays s t h = record { holds = h.holds; asked = h.asked; live = λ id. ap (λ (f : ℕ → Bool). f id) h.live }

stands_moves : (s t : SourceState) (old new : Waiters) → SourceMoves NoId s t → Agree s.live old → Agree t.live new → new ≡ old → Stands s t
stands_moves s t old new m a b e = record { holds = m.holds; asked = same_asked s t m; live = λ id. b id ∙ ap (λ (w : Waiters). is_some (waiters_at w id)) e ∙ sym (a id) }

asked_begins : (id : ℕ) (s t : SourceState) (old : Waiters) → Agree s.live old → waiters_at old id ≡ None → Begins id s t → IsAsked id s t
asked_begins id s t old a none b = record { holds = b.holds; asked = b.asked; dead = a id ∙ ap is_some none; live = λ q. ap (λ (f : ℕ → Bool). f q) b.live }

ended_moves : (id : ℕ) (s t : SourceState) (old new : Waiters) (places : List ℕ) → SourceMoves NoId s t → Agree s.live old → Agree t.live new → waiters_at old id ≡ Some places → desk.Moves id None old new → IsEnded id s t
ended_moves id s t old new places m a b there moves = record {
  holds = m.holds;
  asked = same_asked s t m;
  was = a id ∙ ap is_some there;
  live = λ q. b q ∙ ap is_some (moved_at id None old new moves q) ∙ some_at (eqb q id) (waiters_at old q) ∙ ap (cond (eqb q id) false) (sym (a q));
}
  where
    some_at : (c : Bool) (o : Option (List ℕ)) → is_some (cond c None o) ≡ cond c false (is_some o)
    some_at true o = refl
    some_at false o = refl

-- ---- a want
module _ (key : SegmentKey) (place : ℕ) (c d : Cache) (s t : SourceState) (old new : Waiters) (agree : Agree s.live old) where
  begins : (o : Option (List ℕ)) → waiters_at old key.segment ≡ o → o ≡ None → IsMiss key place c d s t old new → IsAsked key.segment s t
  begins o is none m = asked_begins key.segment s t old agree (is ∙ none) (subst (λ (p : Option (List ℕ)). Asks p key.segment s t) (is ∙ none) m.source)

  shares : (o : Option (List ℕ)) → waiters_at old key.segment ≡ o → is_some o ≡ true → Asks o key.segment s t → Stands s t
  shares None is there m = absurd cc
  shares (Some places) is there m = stands_is s t m

  shares_miss : is_some (waiters_at old key.segment) ≡ true → IsMiss key place c d s t old new → Stands s t
  shares_miss there m = shares (waiters_at old key.segment) refl there m.source

  pub want_balance : (w : Wanted) → IsWanted key place c d s t old new w → KeepsWant key.source_id s t c d w
  want_balance (wanted.Hit bytes) h report lost k bs first at = balance_hit key.source_id s t k bs at first report lost c d key (stands_is s t h.source) h.got.0
  want_balance wanted.Shared h report lost k bs first at = balance_shared key.source_id s t k bs at first report lost c d key (shares_miss h.1 h.0) h.0.looked
  want_balance wanted.Asked h report lost k bs first at = balance_asked key s t k bs at first report lost c d (begins (waiters_at old key.segment) refl h.1 h.0) h.0.looked

  pub want_ledger : (w : Wanted) → IsWanted key place c d s t old new w → KeepsLedger key.source_id s t c d
  want_ledger (wanted.Hit bytes) h k bs first at l = ledger_looks key.source_id s t k bs at first c d l (Found key ∷ []) refl (rests_stands s t (stands_is s t h.source)) h.got.0
  want_ledger wanted.Shared h k bs first at l = ledger_looks key.source_id s t k bs at first c d l (Missed key ∷ []) refl (rests_stands s t (shares_miss h.1 h.0)) h.0.looked
  want_ledger wanted.Asked h k bs first at l = ledger_asked key s t k bs at first c d l (begins (waiters_at old key.segment) refl h.1 h.0) h.0.looked

  pub unwanted_ledger : IsUnwanted c d s t old new → KeepsLedger key.source_id s t c d
  unwanted_ledger h k bs first at l = ledger_looks key.source_id s t k bs at first c d l h.cache.events h.cache.no_puts (rests_stands s t (stands_stays s t h.source)) h.cache.moves

  -- a want that the cache does not have, by whether its id was live
  pub miss_wanted : (shared : Bool) (w : Wanted) → shared ≡ is_some (waiters_at old key.segment) → w ≡ missed_by shared → IsMiss key place c d s t old new → IsWanted key place c d s t old new w
  miss_wanted true w is e m = subst (IsWanted key place c d s t old new) (sym e) (m, sym is)
  miss_wanted false w is e m = subst (IsWanted key place c d s t old new) (sym e) (m, none (waiters_at old key.segment) (sym is))
    where
      none : (o : Option (List ℕ)) → is_some o ≡ false → o ≡ None
      none None h = refl
      none (Some places) h = absurd cc

-- a lookup that did not end
pub short_ledger : (name : List ℕ) (s : SourceState) (c d : Cache) → Moves Loses c.ended c d → KeepsLedger name s s c d
short_ledger name s c d m k bs first at l = let looks = looks_short c d m in ledger_looks name s s k bs at first c d l looks.events looks.no_puts (rests_stands s s (stands_self s)) looks.moves

-- ---- a poll
module _ (key : SegmentKey) (c d : Cache) (s t : SourceState) (old new : Waiters) (was : Agree s.live old) (now : Agree t.live new) (source : SourceMoves NoId s t) where
  pub reply_balance : (r : Reply) → Replies key.segment s t old new r → PutsWhatCame key c d r → KeepsReply key.source_id s t c d r
  reply_balance reply.Pending h p report lost k bs first at b = subst (λ x. Balance (moved k t bs) first x report lost) (sym p) (balance_stands key.source_id s t k bs at first report lost c (stands_moves s t old new source was now h.0) b)
  reply_balance reply.NoMemory h p report lost k bs first at b = subst (λ x. Balance (moved k t bs) first x report lost) (sym p) (balance_stands key.source_id s t k bs at first report lost c (stands_moves s t old new source was now h) b)
  reply_balance (reply.Failed places) h p report lost k bs first at b =
      subst (λ x. Balance (moved k t bs) first x report true) (sym p) (balance_lost key.source_id s t k bs at first report lost c (rests_ended key.segment s t (ended_moves key.segment s t old new places source was now h.0 h.1)) b)
  reply_balance (reply.Came arrival.Missing places) h p report lost k bs first at b =
      subst (λ x. Balance (moved k t bs) first x report lost) (sym p) (balance_missing key.source_id s t k bs at first report lost c key.segment (ended_moves key.segment s t old new places source was now h.0 h.1) h.2 b)
  reply_balance (reply.Came (arrival.Bytes bytes) places) h p report lost k bs first at b = balance_put key s t k bs at first report lost c d bytes (ended_moves key.segment s t old new places source was now h.0 h.1) h.2 p b

  still : Rests s t → d ≡ c → KeepsLedger key.source_id s t c d
  still r e k bs first at l = subst (λ x. Ledger (moved k t bs) first x) (sym e) (ledger_looks key.source_id s t k bs at first c c l [] refl r (moves_none c))

  pub reply_ledger : (r : Reply) → Replies key.segment s t old new r → PutsWhatCame key c d r → KeepsLedger key.source_id s t c d
  reply_ledger reply.Pending h p k bs first at l = still (rests_stands s t (stands_moves s t old new source was now h.0)) p k bs first at l
  reply_ledger reply.NoMemory h p k bs first at l = still (rests_stands s t (stands_moves s t old new source was now h)) p k bs first at l
  reply_ledger (reply.Failed places) h p k bs first at l = still (rests_ended key.segment s t (ended_moves key.segment s t old new places source was now h.0 h.1)) p k bs first at l
  reply_ledger (reply.Came arrival.Missing places) h p k bs first at l = still (rests_ended key.segment s t (ended_moves key.segment s t old new places source was now h.0 h.1)) p k bs first at l
  reply_ledger (reply.Came (arrival.Bytes bytes) places) h p k bs first at l =
      let x = ended_moves key.segment s t old new places source was now h.0 h.1 in
      elim p.noted [
        | inl n ↦ ledger_put key bytes s t k bs at first c d l x h.2 p.entries p.faults p.turns n.0 n.1
        | inr n ↦ ledger_short key bytes s t k bs at first c d l x h.2 p.entries p.faults p.turns n.0 n.1
      ]

-- ---- one step after the other
pub ledger_self : (name : List ℕ) (s : SourceState) (c : Cache) → KeepsLedger name s s c c
ledger_self name s c k bs first at l = subst (λ x. Ledger x first c) (sym (moved_same k name s bs at)) l

pub ledger_then : (name : List ℕ) (s t u : SourceState) (c d e : Cache) → KeepsLedger name s t c d → KeepsLedger name t u d e → KeepsLedger name s u c e
ledger_then name s t u c d e p q k bs first at l = subst (λ x. Ledger x first e) (moved_moved k t u bs) (q k (moved k t bs) first (at_moved k name s t bs at) (p k bs first at l))

pub balance_self : (name : List ℕ) (s : SourceState) (c : Cache) (report : ScanReport) (lost : Bool) → KeepsBalance name s s c c report report lost lost
balance_self name s c report lost k bs first at b = subst (λ x. Balance x first c report lost) (sym (moved_same k name s bs at)) b

pub balance_then : (name : List ℕ) (s t u : SourceState) (c d e : Cache) (r x y : ScanReport) (a b g : Bool) → KeepsBalance name s t c d r x a b → KeepsBalance name t u d e x y b g → KeepsBalance name s u c e r y a g
balance_then name s t u c d e r x y a b g p q k bs first at l = subst (λ z. Balance z first e y g) (moved_moved k t u bs) (q k (moved k t bs) first (at_moved k name s t bs at) (p k bs first at l))

pub report_self : (name : List ℕ) (s : SourceState) (c : Cache) (report : ScanReport) → KeepsReport name s s c c report report
report_self name s c report lost = balance_self name s c report lost

pub report_then : (name : List ℕ) (s t u : SourceState) (c d e : Cache) (r x y : ScanReport) → KeepsReport name s t c d r x → KeepsReport name t u d e x y → KeepsReport name s u c e r y
report_then name s t u c d e r x y p q lost = balance_then name s t u c d e r x y lost lost lost (p lost) (q lost)

-- a want that is counted
pub report_want : (name : List ℕ) (s t : SourceState) (c d : Cache) (w : Wanted) (r x : ScanReport) → x ≡ counted w r → KeepsWant name s t c d w → KeepsReport name s t c d r x
report_want name s t c d w r x e k lost = subst (λ y. KeepsBalance name s t c d r y lost lost) (sym e) (k r lost)

-- ---- all requests are given up
pub closed_rests : (s t : SourceState) → SourceMoves NoId s t → t.live ≡ none_live → Rests s t
closed_rests s t m none = record { holds = m.holds; asked = same_asked s t m; live = λ id on. (let off : t.live id ≡ false = ap (λ (f : ℕ → Bool). f id) none in let bad : false ≡ true = sym off ∙ on in absurd cc) }

pub closed_ledger : (name : List ℕ) (s t : SourceState) (c : Cache) → SourceMoves NoId s t → t.live ≡ none_live → KeepsLedger name s t c c
closed_ledger name s t c m none k bs first at l = ledger_looks name s t k bs at first c c l [] refl (closed_rests s t m none) (moves_none c)

-- where none was live, nothing is lost
pub closed_balance : (name : List ℕ) (s t : SourceState) (c : Cache) (report : ScanReport) (lost : Bool) → SourceMoves NoId s t → s.live ≡ none_live → t.live ≡ none_live → KeepsBalance name s t c c report report lost lost
closed_balance name s t c report lost m was none k bs first at b = balance_stands name s t k bs at first report lost c (record { holds = m.holds; asked = same_asked s t m; live = λ id. ap (λ (f : ℕ → Bool). f id) (none ∙ sym was) }) b
