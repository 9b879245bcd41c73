-- What a poll of a source under another dtype answers.
use Rattle.std.proofs.Common.{◌≡◌, ℕ, ◌<◌, ◌≤◌, ◌^◌, List, arith, refl, sym, subst, ap, ◌∙◌, Bool, true, false, nat_eq, Option, Some, None, IfSome}
use Rattle.std.specs.Prelude.{option_map, slice_get}
use Rattle.scan_segments.specs.Faults.{Rose, one_more}
use Rattle.scan_segments.specs.Polled.{IsPolled}
use Rattle.scan_segments.specs.Source.{SourceState, Store, Stays, Ends, TellsBytes, TellsNone, without_live}
use Rattle.scan_segments.specs.declared.source.Polled.{Polled}
use Rattle.scan_segments.specs.declared.source.Polled.TheVariants as plain
use Rattle.scan_widen.specs.declared.behind.Behind.{Behind}
use Rattle.scan_widen.specs.Stores.{inner_id}
use Rattle.scan_widened.specs.Identity.{union_state, beside}
use Rattle.scan_widened.specs.Follows.{IsUnion}
use Rattle.scan_widened.specs.Sources.{bytes_over, IsToldOver, IsReadOver, IsMadeOver, Rests, left_live, count_failed}
use Rattle.scan_widened.proofs.Asking.{parts, union_asked}
use Rattle.scan_widened.proofs.Told.{tells_behind, read_bytes, read_none, made_bytes, rests_union}

if_map : (o : Option Store) (P Q : Store → Type 0) → ((x : Store) → P x → Q x) → IfSome o P → IfSome o Q
if_map None P Q f h = tt
if_map (Some x) P Q f h = f x h

if_any : (o : Option Store) (P : Store → Type 0) → ((x : Store) → P x) → IfSome o P
if_any None P f = tt
if_any (Some x) P f = f x

-- ---- of one segment, by what stands behind it
pub told_nothing : (s : SourceState) (b : ℕ) → IsToldOver s b None plain.Missing
told_nothing s b = if_any s.holds (λ store. bytes_over None store ≡ None) (λ store. refl)

pub told_made : (s : SourceState) (b : ℕ) (x : Behind) (r : Polled) → inner_id x ≡ None → IsMadeOver x r → IsToldOver s b (Some x) r
told_made s b x plain.Pending e h = absurd h
told_made s b x (plain.Bytes y) e h = if_any s.holds (λ store. bytes_over (Some x) store ≡ Some y) (λ store. made_bytes x store e ∙ ap Some (sym h))
told_made s b x plain.Missing e h = absurd h
told_made s b x plain.Failed e h = absurd h
told_made s b x plain.NoMemory e h = tt

pub told_read : (s : SourceState) (b : ℕ) (x : Behind) (id : ℕ) (bytes : List ℕ) (r : Polled) → inner_id x ≡ Some id → TellsBytes s id bytes → IsReadOver x bytes r → IsToldOver s b (Some x) r
told_read s b x id bytes plain.Pending e t h = absurd h
told_read s b x id bytes (plain.Bytes y) e t h =
    if_map s.holds (λ store. store id ≡ Some bytes) (λ store. bytes_over (Some x) store ≡ Some y) (λ store at. read_bytes x id store bytes e at ∙ h) t
told_read s b x id bytes plain.Missing e t h =
    if_map s.holds (λ store. store id ≡ Some bytes) (λ store. bytes_over (Some x) store ≡ None) (λ store at. read_bytes x id store bytes e at ∙ h) t
told_read s b x id bytes plain.Failed e t h = absurd h
told_read s b x id bytes plain.NoMemory e t h = tt

pub told_missing : (s : SourceState) (b : ℕ) (x : Behind) (id : ℕ) → inner_id x ≡ Some id → TellsNone s id → IsToldOver s b (Some x) plain.Missing
told_missing s b x id e t = if_map s.holds (λ store. store id ≡ None) (λ store. bytes_over (Some x) store ≡ None) (λ store at. read_none x id store e at) t

pub rests_still : (s : SourceState) → Rests s s
rests_still s = record { holds = refl; asked = refl; faults = omega arith; turns = omega arith; can_fail = refl }

pub rests_both : (s t u : SourceState) → Rests s t → Rests t u → Rests s u
rests_both s t u a b = let f = a.faults in let g = b.faults in let x = a.turns in let y = b.turns in record {
  holds = b.holds ∙ a.holds;
  asked = b.asked ∙ a.asked;
  faults = omega (arith, f, g);
  turns = omega (arith, x, y);
  can_fail = b.can_fail ∙ a.can_fail;
}

-- ---- what is live after an answer
fewer : (id : ℕ) (live : ℕ → Bool) (k : ℕ) → without_live id live k ≡ true → live k ≡ true
fewer id live k h = go (nat_eq k id) refl h
  where
    go : (x : Bool) → nat_eq k id ≡ x → without_live id live k ≡ true → live k ≡ true
    go true p h = let bad : false ≡ true = rw p at h in absurd cc
    go false p h = rw p at h

pub fewer_by : (id : ℕ) (live live' : ℕ → Bool) → live' ≡ without_live id live → (k : ℕ) → live' k ≡ true → live k ≡ true
fewer_by id live live' e k h = fewer id live k (sym (ap (λ (f : ℕ → Bool). f k) e) ∙ h)

left_fewer : (r : Polled) (id : ℕ) (live : ℕ → Bool) (k : ℕ) → left_live r id live k ≡ true → live k ≡ true
left_fewer plain.Pending id live k h = h
left_fewer (plain.Bytes b) id live k h = fewer id live k h
left_fewer plain.Missing id live k h = fewer id live k h
left_fewer plain.Failed id live k h = fewer id live k h
left_fewer plain.NoMemory id live k h = h

-- ---- the whole source
module _ (fits : ℕ → List ℕ → Type 0) (s s1 s2 : SourceState) (b : ℕ) (behind : List Behind) (asked own : List ℕ) (live live' : ℕ → Bool) (n n' id : ℕ) (r : Polled)
    (iu : IsUnion (parts s b behind asked own live n)) (first : Rests s s1) (second : Rests s1 s2) (told : IsToldOver s1 b (slice_get behind id) r)
    (pending : r ≡ plain.Pending → s1.turns < s.turns) (lives : live' ≡ left_live r id live) (counts : n' ≡ count_failed n r) (small : id < 2 ^ 32) (bound : n < 2 ^ 64)
    (all : (bytes : List ℕ) → fits id bytes) where
  both : Rests s s2
  both = rests_both s s1 s2 first second

  same_asked : (union_state (parts s2 b behind asked own live' n')).asked ≡ (union_state (parts s b behind asked own live n)).asked
  same_asked = ap (λ xs. union_asked b behind asked own xs) both.asked

  same_holds : (union_state (parts s2 b behind asked own live' n')).holds ≡ (union_state (parts s b behind asked own live n)).holds
  same_holds = ap (λ h. option_map (beside behind) h) both.holds

  tells : (o : Option (List ℕ)) → IfSome s1.holds (λ store. bytes_over (slice_get behind id) store ≡ o) → IfSome (union_state (parts s b behind asked own live n)).holds (λ store. store id ≡ o)
  tells o h = tells_behind (parts s b behind asked own live n) id o small (subst (λ x. IfSome x (λ store. bytes_over (slice_get behind id) store ≡ o)) first.holds h)

  stays : (x : Polled) → r ≡ x → left_live x id live ≡ live → count_failed n x ≡ n → Stays (union_state (parts s b behind asked own live n)) (union_state (parts s2 b behind asked own live' n'))
  stays x e same none =
      let c : n' ≡ n = counts ∙ ap (count_failed n) e ∙ none in
      record { holds = same_holds; asked = same_asked; live = lives ∙ ap (λ y. left_live y id live) e ∙ same; faults = omega (arith, c); turns = both.turns; can_fail = both.can_fail }

  ends : (x : Polled) → r ≡ x → left_live x id live ≡ without_live id live → n ≤ count_failed n x → Ends id (union_state (parts s b behind asked own live n)) (union_state (parts s2 b behind asked own live' n'))
  ends x e same more =
      let c : n' ≡ count_failed n x = counts ∙ ap (count_failed n) e in
      record { holds = same_holds; asked = same_asked; live = lives ∙ ap (λ y. left_live y id live) e ∙ same; faults = omega (arith, c, more); turns = both.turns; can_fail = both.can_fail }

  told_as : (x : Polled) → r ≡ x → IsToldOver s1 b (slice_get behind id) x
  told_as x e = subst (IsToldOver s1 b (slice_get behind id)) e told

  answers : (x : Polled) → r ≡ x → IsPolled fits id (union_state (parts s b behind asked own live n)) (union_state (parts s2 b behind asked own live' n')) x
  answers plain.Pending e = let down = pending e in let more = second.turns in (stays plain.Pending e refl refl, omega (arith, down, more))
  answers (plain.Bytes y) e = (ends (plain.Bytes y) e refl (omega arith), tells (Some y) (told_as (plain.Bytes y) e), all y)
  answers plain.Missing e = (ends plain.Missing e refl (omega arith), tells None (told_as plain.Missing e))
  answers plain.Failed e =
      let c : n' ≡ one_more n = counts ∙ ap (count_failed n) e in
      let bad = told_as plain.Failed e in
      (ends plain.Failed e refl (omega (arith, bound)), omega (arith, c), sym first.can_fail ∙ bad.1)
  answers plain.NoMemory e = stays plain.NoMemory e refl refl

  pub polled_so : IsPolled fits id (union_state (parts s b behind asked own live n)) (union_state (parts s2 b behind asked own live' n')) r
  polled_so = answers r refl

  -- a failure that was given is one that the file's source has had
  had : (x : Polled) → r ≡ x → 0 < count_failed n x → Rose b s2.faults × (s2.can_fail ≡ true)
  had plain.Pending e some = let h = iu.failed some in let up = both.faults in (omega (arith, h.0, up), both.can_fail ∙ h.1)
  had (plain.Bytes y) e some = let h = iu.failed some in let up = both.faults in (omega (arith, h.0, up), both.can_fail ∙ h.1)
  had plain.Missing e some = let h = iu.failed some in let up = both.faults in (omega (arith, h.0, up), both.can_fail ∙ h.1)
  had plain.Failed e some = let h = told_as plain.Failed e in let up = second.faults in (omega (arith, h.0, up), second.can_fail ∙ h.1)
  had plain.NoMemory e some = let h = iu.failed some in let up = both.faults in (omega (arith, h.0, up), both.can_fail ∙ h.1)

  pub polled_union : IsUnion (parts s2 b behind asked own live' n')
  polled_union =
      let rest = rests_union s s2 b behind asked own live live' n iu both (λ k l. left_fewer r id live k (sym (ap (λ (f : ℕ → Bool). f k) lives) ∙ l)) in
      record {
        asks = rest.asks;
        behind = rest.behind;
        each = rest.each;
        since = rest.since;
        least = rest.least;
        failed = λ some. had r refl (subst (λ m. 0 < m) counts some);
      }
