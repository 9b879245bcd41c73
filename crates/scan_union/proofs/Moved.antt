-- What a scan over a union does to its files, by what was done to their openers and to their sources.
use Rattle.std.proofs.Common.{◌≡◌, ◌≢◌, ℕ, zero, suc, ◌<◌, ◌≤◌, ◌+◌, List, [], ◌∷◌, ◌++◌, length, drop, arith, refl, sym, subst, ap, ◌∙◌, Option, Some, None, All, IfSome, Contains, get_or}
use Rattle.std.proofs.lemmas.List.{drop_all}
use Rattle.std.proofs.lemmas.List.Elements.{All-nil, All-cons, All-head, All-tail}
use Rattle.scan_values.specs.DataType.{DataType}
use Rattle.scan_expr.specs.declared.request.ScanRequest.{ScanRequest}
use Rattle.scan_segments.specs.Faults.{Rose}
use Rattle.scan_segments.specs.Source.{SourceState}
use Rattle.scan_opener.specs.Opener.{OpenerState}
use Rattle.scan_drive.specs.Traffic.{asked_since}
use Rattle.scan_drive.specs.declared.files.ScanFile.{ScanFile}
use Rattle.scan_multi.specs.Lawful.{told_file, Tells, IsIdle}
use Rattle.scan_multi.specs.Moves.{EachMoves, FileMoves, NoneAsked}
use Rattle.scan_multi.specs.Request.{first_request_fault}
use Rattle.scan_multi.specs.declared.scan.fault.ScanFault.{ScanFault}
use Rattle.scan_union.specs.Seats.{Pairs, IsPolledFile, OpensFront}
use Rattle.scan_union.specs.UnionCauses.{named_behind}
use Rattle.scan_union.specs.UnionScans.{UnionMoves}

-- ---- pairs of two lists
pub pairs_at : {A : Type 0} (P : A → A → Type 0) → ((x : A) → P x x) → (xs ys : List A) → Pairs P xs ys → (k : ℕ) (x : A) → P (get_or xs k x) (get_or ys k x)
pairs_at P self [] [] h k x = self x
pairs_at P self [] (y ∷ ys) h k x = absurd h
pairs_at P self (z ∷ xs) [] h k x = absurd h
pairs_at P self (z ∷ xs) (y ∷ ys) h zero x = h.0
pairs_at P self (z ∷ xs) (y ∷ ys) h (suc k) x = pairs_at P self xs ys h.1 k x

pub pairs_self : {A : Type 0} (P : A → A → Type 0) → ((x : A) → P x x) → (xs : List A) → Pairs P xs xs
pairs_self P self [] = tt
pairs_self P self (x ∷ xs) = (self x, pairs_self P self xs)

pub pairs_weaker : {A B : Type 0} (P Q : A → B → Type 0) → ((x : A) (y : B) → P x y → Q x y) → (xs : List A) (ys : List B) → Pairs P xs ys → Pairs Q xs ys
pairs_weaker P Q f [] [] h = tt
pairs_weaker P Q f [] (y ∷ ys) h = absurd h
pairs_weaker P Q f (x ∷ xs) [] h = absurd h
pairs_weaker P Q f (x ∷ xs) (y ∷ ys) h = (f x y h.0, pairs_weaker P Q f xs ys h.1)

pub pairs_append : {A B : Type 0} (P : A → B → Type 0) (xs us : List A) (ys vs : List B) → Pairs P xs ys → Pairs P us vs → Pairs P (xs ++ us) (ys ++ vs)
pairs_append P [] us [] vs h k = k
pairs_append P [] us (y ∷ ys) vs h k = absurd h
pairs_append P (x ∷ xs) us [] vs h k = absurd h
pairs_append P (x ∷ xs) us (y ∷ ys) vs h k = (h.0, pairs_append P xs us ys vs h.1 k)

pub pairs_count : {A B : Type 0} (P : A → B → Type 0) (xs : List A) (ys : List B) → Pairs P xs ys → length ys ≡ length xs
pairs_count P [] [] h = refl
pairs_count P [] (y ∷ ys) h = absurd h
pairs_count P (x ∷ xs) [] h = absurd h
pairs_count P (x ∷ xs) (y ∷ ys) h = ap suc (pairs_count P xs ys h.1)

pub all_across : {A B : Type 0} (P : A → B → Type 0) (Q : A → Type 0) (R : B → Type 0) → ((x : A) (y : B) → P x y → Q x → R y) → (xs : List A) (ys : List B) → Pairs P xs ys → All Q xs → All R ys
all_across P Q R f [] [] h q = All-nil R
all_across P Q R f [] (y ∷ ys) h q = absurd h
all_across P Q R f (x ∷ xs) [] h q = absurd h
all_across P Q R f (x ∷ xs) (y ∷ ys) h q = All-cons R y ys (f x y h.0 (All-head Q x xs q)) (all_across P Q R f xs ys h.1 (All-tail Q x xs q))

pub pairs_from : {A : Type 0} (P : A → A → Type 0) (xs ys : List A) → length ys ≡ length xs → ((k : ℕ) (x : A) → k < length xs → P (get_or xs k x) (get_or ys k x)) → Pairs P xs ys
pairs_from P [] [] n h = tt
pairs_from P [] (y ∷ ys) n h = absurd (omega (arith, n))
pairs_from P (x ∷ xs) [] n h = absurd (omega (arith, n))
pairs_from P (x ∷ xs) (y ∷ ys) n h = (h 0 x (omega arith), pairs_from P xs ys (omega (arith, n)) (λ k z lt. h (suc k) z (omega (arith, lt))))

-- ---- one file
module _ {O S : Type 0} (opener : O → OpenerState) (source : S → SourceState) where
  -- an opener that was polled to its end, or not at all
  pub record MayBePolled (f t : ScanFile O S) : Type 0 where
    pub gives : (opener t.opener).gives ≡ (opener f.opener).gives
    pub faults : (opener f.opener).faults ≤ (opener t.opener).faults
    pub turns : (opener t.opener).turns ≤ (opener f.opener).turns
    pub can_fail : (opener t.opener).can_fail ≡ (opener f.opener).can_fail
    pub grows : (opener f.opener).polled ≤ (opener t.opener).polled
    pub polls : (opener t.opener).polled + (opener t.opener).turns ≤ (opener f.opener).polled + (opener f.opener).turns + 1
    pub kept : t.source ≡ f.source
    pub named : t.source_id ≡ f.source_id

  not_polled : (f : ScanFile O S) → MayBePolled f f
  not_polled f = record { gives = refl; faults = omega arith; turns = omega arith; can_fail = refl; grows = omega arith; polls = omega arith; kept = refl; named = refl }

  was_polled : (f t : ScanFile O S) → IsPolledFile opener source f t → MayBePolled f t
  was_polled f t p = record {
    gives = (p.polls).gives;
    faults = (p.polls).faults;
    turns = (p.polls).turns;
    can_fail = (p.polls).can_fail;
    grows = (p.polls).grows;
    polls = (p.polls).polls;
    kept = p.kept;
    named = p.named;
  }

  -- a source that was used and put back, and the rest as it was
  pub record SourceGoes (t n : ScanFile O S) : Type 0 where
    pub opens : n.opener ≡ t.opener
    pub named : n.source_id ≡ t.source_id
    pub holds : (source n.source).holds ≡ (source t.source).holds
    pub faults : (source t.source).faults ≤ (source n.source).faults
    pub turns : (source n.source).turns ≤ (source t.source).turns
    pub can_fail : (source n.source).can_fail ≡ (source t.source).can_fail
    pub live : (source n.source).live ≡ (source t.source).live
    pub ids : List ℕ
    pub asked : (source n.source).asked ≡ (source t.source).asked ++ ids

  append_none : (xs : List ℕ) → xs ≡ xs ++ []
  append_none [] = refl
  append_none (x ∷ xs) = ap (λ ys. x ∷ ys) (append_none xs)

  pub stays : (f : ScanFile O S) → SourceGoes f f
  stays f = record { opens = refl; named = refl; holds = refl; faults = omega arith; turns = omega arith; can_fail = refl; live = refl; ids = []; asked = append_none (source f.source).asked }

  file_moves : (f t n : ScanFile O S) → MayBePolled f t → SourceGoes t n → FileMoves opener source f n
  file_moves f t n p s =
      let o : opener n.opener ≡ opener t.opener = ap opener s.opens in
      let k : source t.source ≡ source f.source = ap source p.kept in
      record {
        source_id = s.named ∙ p.named;
        gives = ap (λ (x : OpenerState). x.gives) o ∙ p.gives;
        opener_faults = subst (λ (x : OpenerState). (opener f.opener).faults ≤ x.faults) (sym o) p.faults;
        opener_turns = subst (λ (x : OpenerState). x.turns ≤ (opener f.opener).turns) (sym o) p.turns;
        opener_can_fail = ap (λ (x : OpenerState). x.can_fail) o ∙ p.can_fail;
        polled = subst (λ (x : OpenerState). (opener f.opener).polled ≤ x.polled) (sym o) p.grows;
        polls = subst (λ (x : OpenerState). x.polled + x.turns ≤ (opener f.opener).polled + (opener f.opener).turns + 1) (sym o) p.polls;
        holds = s.holds ∙ ap (λ (x : SourceState). x.holds) k;
        source_faults = subst (λ (x : SourceState). x.faults ≤ (source n.source).faults) k s.faults;
        source_turns = subst (λ (x : SourceState). (source n.source).turns ≤ x.turns) k s.turns;
        source_can_fail = s.can_fail ∙ ap (λ (x : SourceState). x.can_fail) k;
        live = s.live ∙ ap (λ (x : SourceState). x.live) k;
        ids = s.ids;
        asked = s.asked ∙ ap (λ (x : SourceState). x.asked ++ s.ids) k;
      }

  -- ---- the openers of the first files
  polled_of : List (ScanFile O S) → ℕ → ScanFile O S → ℕ
  polled_of fs k x = (opener (get_or fs k x).opener).polled

  first_front : (front opened rest : List (ScanFile O S)) → Pairs (IsPolledFile opener source) front opened → (i j : ℕ) (x : ScanFile O S) → i < j
      → (opener (get_or (front ++ rest) j x).opener).polled < (opener (get_or (opened ++ rest) j x).opener).polled
      → Rose (opener (get_or (front ++ rest) i x).opener).polled (opener (get_or (opened ++ rest) i x).opener).polled
  first_front [] [] rest h i j x lt more = absurd (omega (arith, more))
  first_front [] (t ∷ ts) rest h i j x lt more = absurd h
  first_front (f ∷ fs) [] rest h i j x lt more = absurd h
  first_front (f ∷ fs) (t ∷ ts) rest h zero j x lt more = ((h.0).polls).some
  first_front (f ∷ fs) (t ∷ ts) rest h (suc i) zero x lt more = absurd (omega (arith, lt))
  first_front (f ∷ fs) (t ∷ ts) rest h (suc i) (suc j) x lt more = first_front fs ts rest h.1 i j x (omega (arith, lt)) more

  -- ---- all files
  module _ (workers : ℕ) (d : DataType) (request : ScanRequest) (old mid new : List (ScanFile O S)) (opens : OpensFront opener source old mid) (goes : Pairs SourceGoes mid new) where
    all_polled : Pairs MayBePolled old mid
    all_polled = subst (λ xs. Pairs MayBePolled xs mid) (sym opens.before) (subst (λ ys. Pairs MayBePolled (opens.front ++ opens.rest) ys) (sym opens.after)
        (pairs_append MayBePolled opens.front opens.rest opens.opened opens.rest (pairs_weaker (IsPolledFile opener source) MayBePolled was_polled opens.front opens.opened opens.polled) (pairs_self MayBePolled not_polled opens.rest)))

    pub each_moves : EachMoves opener source old new
    each_moves = λ k f. file_moves (get_or old k f) (get_or mid k f) (get_or new k f) (pairs_at MayBePolled not_polled old mid all_polled k f) (pairs_at SourceGoes stays mid new goes k f)

    pub as_many : length new ≡ length old
    as_many = pairs_count SourceGoes mid new goes ∙ pairs_count MayBePolled old mid all_polled

    pub stay_idle : All (IsIdle opener source) old → All (IsIdle opener source) new
    stay_idle idle =
        let between = all_across MayBePolled (IsIdle opener source) (IsIdle opener source) (λ f t p i. ap (λ (s : S). (source s).live) p.kept ∙ i) old mid all_polled idle in
        all_across SourceGoes (IsIdle opener source) (IsIdle opener source) (λ t n s i. s.live ∙ i) mid new goes between

    pub first_polled : (i j : ℕ) (f : ScanFile O S) → i < j → (opener (get_or old j f).opener).polled < (opener (get_or new j f).opener).polled
        → Rose (opener (get_or old i f).opener).polled (opener (get_or new i f).opener).polled
    first_polled i j f lt more =
        let at : (k : ℕ) → (opener (get_or new k f).opener).polled ≡ (opener (get_or mid k f).opener).polled = λ k. ap (λ o. (opener o).polled) (pairs_at SourceGoes stays mid new goes k f).opens in
        let now : (opener (get_or old j f).opener).polled < (opener (get_or mid j f).opener).polled = subst (λ n. (opener (get_or old j f).opener).polled < n) (at j) more in
        subst (λ n. Rose (opener (get_or old i f).opener).polled n) (sym (at i))
        (subst (λ xs. Rose (opener (get_or xs i f).opener).polled (opener (get_or mid i f).opener).polled) (sym opens.before)
        (subst (λ ys. Rose (opener (get_or (opens.front ++ opens.rest) i f).opener).polled (opener (get_or ys i f).opener).polled) (sym opens.after)
        (first_front opens.front opens.opened opens.rest opens.polled i j f lt
        (subst (λ ys. (opener (get_or (opens.front ++ opens.rest) j f).opener).polled < (opener (get_or ys j f).opener).polled) opens.after
        (subst (λ xs. (opener (get_or xs j f).opener).polled < (opener (get_or mid j f).opener).polled) opens.before now)))))

    -- what is to be known of what was asked
    abbrev pub AsksBehind : Type 0
    AsksBehind = All (Tells opener source) old → (k : ℕ) (f : ScanFile O S)
        → All (Contains (named_behind d request (told_file opener source (get_or old k f)))) (asked_since (source (get_or old k f).source) (source (get_or new k f).source))

    pub moved : All (IsIdle opener source) old → first_request_fault workers d request ≡ None → request.limit ≢ Some 0 → AsksBehind → UnionMoves opener source workers d request old new
    moved idle types room named = record {
      moves = each_moves;
      count = as_many;
      idle = stay_idle idle;
      first = λ i j f lt there more. first_polled i j f lt more;
      named = named;
      untouched = subst (λ o. IfSome o (λ f. new ≡ old)) (sym types) tt;
      none = λ e. absurd (room e);
    }

  -- ---- nothing was asked
  pub none_since : (s t : SourceState) (P : ℕ → Type 0) → t.asked ≡ s.asked → All P (asked_since s t)
  none_since s t P same = subst (λ xs. All P xs) (sym (ap (λ xs. drop (length s.asked) xs) same ∙ drop_all (length s.asked) s.asked (omega arith))) (All-nil P)

  module _ (workers : ℕ) (d : DataType) (request : ScanRequest) (old mid : List (ScanFile O S)) (opens : OpensFront opener source old mid) where
    pub none_asked : (k : ℕ) (f : ScanFile O S) → NoneAsked opener source (get_or old k f) (get_or mid k f)
    none_asked k f = ap (λ (s : S). (source s).asked) (pairs_at MayBePolled not_polled old mid (all_polled workers d request old mid mid opens (pairs_self SourceGoes stays mid)) k f).kept

    -- files that were opened and no more
    pub moved_opened : All (IsIdle opener source) old → first_request_fault workers d request ≡ None → request.limit ≢ Some 0 → UnionMoves opener source workers d request old mid
    moved_opened idle types room = moved workers d request old mid mid opens (pairs_self SourceGoes stays mid) idle types room
        (λ tells k f. none_since (source (get_or old k f).source) (source (get_or mid k f).source) (Contains (named_behind d request (told_file opener source (get_or old k f)))) (none_asked k f))

  -- files that were not touched
  pub unmoved : (workers : ℕ) (d : DataType) (request : ScanRequest) (old : List (ScanFile O S)) → All (IsIdle opener source) old → UnionMoves opener source workers d request old old
  unmoved workers d request old idle =
      let opens : OpensFront opener source old old = record { front = []; opened = []; rest = old; before = refl; after = refl; polled = tt } in
      record {
        moves = each_moves workers d request old old old opens (pairs_self SourceGoes stays old);
        count = refl;
        idle = idle;
        first = λ i j f lt there more. absurd (omega (arith, more));
        named = λ tells k f. none_since (source (get_or old k f).source) (source (get_or old k f).source) (Contains (named_behind d request (told_file opener source (get_or old k f)))) refl;
        untouched = untouched (first_request_fault workers d request);
        none = λ e. refl;
      }
    where
      untouched : (o : Option ScanFault) → IfSome o (λ f. old ≡ old)
      untouched None = tt
      untouched (Some f) = refl
