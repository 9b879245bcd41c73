-- Exchanges of a log, one after the other, and back.
use Rattle.std.proofs.Common.{◌≡◌, ◌⊎◌, ℕ, zero, suc, ◌+◌, ◌-◌, ◌<◌, ◌≤◌, List, [], ◌∷◌, ◌++◌, true, ◌==◌, Result, Ok, Err, IfErr, length, take, drop, set, map, get_or, swap, inl, inr, refl, sym, ap, ◌∙◌, subst, arith}
use Rattle.std.specs.List.Sorted.{SwapsInRange}
use Rattle.std.proofs.lemmas.List.{take_more, get_or-drop, get_or_past, length-drop, take_all}
use Rattle.std.proofs.lemmas.Bool.Decides.{nat_tests}
use Rattle.std.proofs.lemmas.List.FromFn.{length-range_with_len}
use Rattle.std.specs.List.{range_with_len}
use Rattle.std.proofs.lemmas.List.Edits.{length-swap}
use Rattle.scan_drive.specs.Forward.{fault_in, split_fault_in}
use Rattle.scan_drive.specs.Line.{exchanged, restored, placed_by, renamed}
use Rattle.scan_drive.specs.declared.delivery.Chunk.{Chunk}
use Rattle.scan_drive.specs.declared.delivery.DriveFault.{DriveFault}
use Rattle.scan_drive.specs.declared.delivery.DriveFault.TheVariants as fault
use Rattle.scan_drive.specs.declared.settling.RoundFault.{RoundFault}
use Rattle.scan_drive.specs.declared.settling.RoundFault.TheVariants as why
use Rattle.scan_drive.proofs.Handing.{le_or_lt}
use Rattle.scan_drive.proofs.Exchanging.{exchanged_snoc, restored_snoc, length_exchanged, placed_behind}
use Rattle.scan_drive.proofs.ExchangedAnswer.{order_at}

-- each of two places is in range
pub range_at : (n : ℕ) (ss : List (ℕ × ℕ)) (k : ℕ) (d : ℕ × ℕ) → SwapsInRange n ss → k < length ss → ((get_or ss k d).0 < n) × ((get_or ss k d).1 < n)
range_at n [] k d r lt = absurd (omega arith)
range_at n (s ∷ ss) zero d r lt = (r.0, r.1)
range_at n (s ∷ ss) (suc k) d r lt = range_at n ss k d r.2 (omega arith)

pub range_of : (n : ℕ) (ss : List (ℕ × ℕ)) (k : ℕ) (s : ℕ × ℕ) → SwapsInRange n ss → k < length ss → s ≡ get_or ss k s → (s.0 < n) × (s.1 < n)
range_of n ss k s r lt is = subst (λ x. (x.0 < n) × (x.1 < n)) (sym is) (range_at n ss k s r lt)

module _ {X : Type 0} where
  -- the exchanges from one on are undone
  pub record Undoes (log : List (ℕ × ℕ)) (left : ℕ) (old now : List X) : Type 0 where
    pub within : left ≤ length log
    pub long : length now ≡ length old
    pub same : restored (take left log) now ≡ restored log old

  pub undoes_more : (log : List (ℕ × ℕ)) (left : ℕ) (s : ℕ × ℕ) (old now : List X) → left < length log → s ≡ get_or log left s → Undoes log (left + 1) old now → Undoes log left old (swap now s.0 s.1)
  undoes_more log left s old now lt is h = record {
    within = omega arith;
    long = length-swap now s.0 s.1 ∙ h.long;
    same = sym (restored_snoc (take left log) s now) ∙ ap (λ ss. restored ss now) (ap (λ x. take left log ++ x ∷ []) is ∙ sym (take_more log left s lt)) ∙ h.same;
  }

  -- the exchanges up to one are made
  pub makes_more : (log : List (ℕ × ℕ)) (k : ℕ) (s : ℕ × ℕ) (old now : List X) → k < length log → s ≡ get_or log k s → now ≡ exchanged (take k log) old → swap now s.0 s.1 ≡ exchanged (take (k + 1) log) old
  makes_more log k s old now lt is h =
      ap (λ xs. swap xs s.0 s.1) h ∙ sym (exchanged_snoc (take k log) s old) ∙ ap (λ ss. exchanged ss old) (ap (λ x. take k log ++ x ∷ []) is ∙ sym (take_more log k s lt))

-- the exchanges from one on
module _ (log : List (ℕ × ℕ)) (from k : ℕ) where
  pub swapped_at : (s : ℕ × ℕ) → from ≤ k → k < length log → s ≡ get_or log k s → (k - from < length (drop from log)) × (s ≡ get_or (drop from log) (k - from) s)
  swapped_at s low lt is =
      let n = length-drop from log in
      let z : from + (k - from) ≡ k = omega arith in
      (omega (arith, n), is ∙ ap (λ m. get_or log m s) (sym z) ∙ sym (get_or-drop from log (k - from) s))

  pub swapped_all : length log ≤ k → take (k - from) (drop from log) ≡ drop from log
  swapped_all le = let n = length-drop from log in take_all (k - from) (drop from log) (omega (arith, n))

pub one_on : (from k : ℕ) → from ≤ k → k - from + 1 ≡ k + 1 - from
one_on from k low = omega arith

-- one number more
pub range_snoc_at : (a n : ℕ) → range_with_len a (n + 1) ≡ range_with_len a n ++ (a + n) ∷ []
range_snoc_at a zero = ap (λ m. m ∷ []) (let z : a ≡ a + 0 = omega arith in z)
range_snoc_at a (suc n) =
    let on : suc n + 1 ≡ suc (n + 1) = omega arith in
    let z : a + 1 + n ≡ a + suc n = omega arith in
    ap (range_with_len a) on ∙ ap (λ xs. a ∷ xs) (range_snoc_at (a + 1) n ∙ ap (λ m. range_with_len (a + 1) n ++ m ∷ []) z)

pub range_pushed : (n : ℕ) (xs : List ℕ) → xs ≡ range_with_len 0 n → xs ++ n ∷ [] ≡ range_with_len 0 (n + 1)
range_pushed n xs h = ap (λ ys. ys ++ n ∷ []) h ∙ ap (λ m. range_with_len 0 n ++ m ∷ []) (let z : n ≡ 0 + n = omega arith in z) ∙ sym (range_snoc_at 0 n)

-- ---- chunks and faults, by the files
-- the file at each place, as the order list has it
pub named_by : (log : List (ℕ × ℕ)) (n : ℕ) (order : List ℕ) → SwapsInRange n log → order ≡ exchanged log (range_with_len 0 n) → ◌≡◌ {A = ℕ → ℕ} (λ k. get_or order k k) (placed_by log)
named_by log n order r e = λ i k. at k i
  where
    at : (k : ℕ) → get_or order k k ≡ placed_by log k
    at k = go (le_or_lt n k)
      where
        go : (n ≤ k) ⊎ (k < n) → get_or order k k ≡ placed_by log k
        go (inr lt) = ap (λ xs. get_or xs k k) e ∙ order_at log n k k r lt
        go (inl le) = get_or_past order k k (let l = ap length e ∙ length_exchanged log (range_with_len 0 n) ∙ length-range_with_len 0 n in omega arith) ∙ sym (placed_behind n log k r le)

pub err_named : {A B F : Type 0} (r : Result A (RoundFault F)) (done : Result B (RoundFault F)) (f g : ℕ → ℕ) → f ≡ g → IfErr r (λ e. (x : RoundFault F) × (done ≡ Err x) × (e ≡ fault_in f x)) → IfErr r (λ e. (x : RoundFault F) × (done ≡ Err x) × (e ≡ fault_in g x))
err_named (Ok a) done f g same h = tt
err_named (Err e) done f g same h = (h.0, h.1, h.2 ∙ ap (λ k. fault_in k h.0) same)
