-- How often openers were polled where two files are exchanged, the second of which alone is open.
use Rattle.std.proofs.Common.{◌≡◌, ◌≢◌, ℕ, ◌<◌, List, length, swap, sym, ap, ◌∙◌, subst, arith}
use Rattle.std.proofs.lemmas.List.Edits.{length-swap}
use Rattle.scan_segments.specs.Faults.{Rose}
use Rattle.scan_drive.specs.Forward.{Spare, Rephased}
use Rattle.scan_drive.specs.Line.{exchange}
use Rattle.scan_drive.specs.Openers.{OpenerState}
use Rattle.scan_drive.specs.Phases.{phase_at, is_unopened}
use Rattle.scan_drive.specs.Polls.{StandsIn, opener_at, PollsFirst, OpensFirst, PollsStand}
use Rattle.scan_drive.specs.declared.files.ScanFile.{ScanFile}
use Rattle.scan_drive.specs.declared.phase.Phase.{Phase}
use Rattle.scan_drive.specs.declared.phase.Phase.TheVariants as phase
use Rattle.scan_drive.specs.declared.round.Drive.{Drive}
use Rattle.scan_drive.proofs.Exchanging.{Which, which, exchange_first, exchange_second, exchange_other, swap_at, both_swapped}

module _ {O S W F I : Type 0} (state : O → OpenerState I) (i j : ℕ) (ps : List (Phase W F)) (s : Spare i j ps) (a b : List (ScanFile O S)) (l : length a ≡ length ps) (m : length b ≡ length a) (h : PollsStand state a b ps) where
  p : i < length ps
  p = let x = s.apart in let y = s.within in omega (arith, x, y)

  q : j < length ps
  q = s.within

  apart : i < j
  apart = s.apart

  -- the opener of the file at a place has been polled
  abbrev Has : ℕ → Type 0
  Has k = (f : ScanFile O S) → Rose (opener_at state a k f).polled (opener_at state b k f).polled

  has_swapped : (k n : ℕ) → exchange i j k ≡ n → Has n → (f : ScanFile O S) → Rose (opener_at state (swap a i j) k f).polled (opener_at state (swap b i j) k f).polled
  has_swapped k n is x f =
      both_swapped (λ (y z : ScanFile O S). Rose (state y.opener).polled (state z.opener).polled) a b i j k f f (omega (arith, p, l)) (omega (arith, q, l)) (omega (arith, p, l, m)) (omega (arith, q, l, m))
      (subst (λ o. Rose (opener_at state a o f).polled (opener_at state b o f).polled) (sym is) (x f))

  first_is : (k : ℕ) → k ≡ i → exchange i j k ≡ j
  first_is k e = ap (exchange i j) e ∙ exchange_first i j

  second_is : (k : ℕ) → k ≡ j → exchange i j k ≡ i
  second_is k e = ap (exchange i j) e ∙ exchange_second i j

  has_second : Has j
  has_second f = (h.at j f).rose s.opened

  -- of the files before the second
  has_before : (k : ℕ) → k < j → Has k
  has_before k lt f = h.opened k j f lt (omega (arith, q, l)) s.opened

  -- and before each open one
  opens_swapped : OpensFirst state (swap a i j) (swap b i j) (swap ps i j)
  opens_swapped k n f lt in_list on = go (which i j k) (which i j n)
    where
      was : is_unopened (phase_at ps (exchange i j n)) ≡ 0
      was = ap is_unopened (sym (swap_at ps i j n phase.Unopened p q)) ∙ on

      nt : n < length a
      nt = let z = length-swap a i j in omega arith

      -- the second place has the file that is not open
      never : n ≡ j → ⊥
      never e =
          let one : is_unopened (phase_at ps i) ≡ 1 = ap is_unopened s.shut in
          let none : is_unopened (phase_at ps i) ≡ 0 = ap (λ o. is_unopened (phase_at ps o)) (sym (second_is n e)) ∙ was in
          absurd (omega (arith, one, none))

      by : (o : ℕ) → exchange i j k ≡ o → Has o → Rose (opener_at state (swap a i j) k f).polled (opener_at state (swap b i j) k f).polled
      by o is x = has_swapped k o is x f

      go : Which i j k → Which i j n → Rose (opener_at state (swap a i j) k f).polled (opener_at state (swap b i j) k f).polled
      go (Which.first e) y = by j (first_is k e) has_second
      go (Which.second e) (Which.first f) = absurd (omega (arith, lt, apart, e, f))
      go (Which.second e) (Which.second f) = absurd (never f)
      go (Which.second e) (Which.other x y) = by i (second_is k e) (λ g. h.opened i n g (omega (arith, lt, apart, e)) nt (ap (λ o. is_unopened (phase_at ps o)) (sym (exchange_other i j n x y)) ∙ was))
      go (Which.other u v) (Which.first e) = by k (exchange_other i j k u v) (has_before k (omega (arith, lt, apart, e)))
      go (Which.other u v) (Which.second e) = absurd (never e)
      go (Which.other u v) (Which.other x y) = by k (exchange_other i j k u v) (λ g. h.opened k n g lt nt (ap (λ o. is_unopened (phase_at ps o)) (sym (exchange_other i j n x y)) ∙ was))

  first_swapped : PollsFirst state (swap a i j) (swap b i j)
  first_swapped k n f lt in_list rose = go (which i j k) (which i j n)
    where
      nt : n < length a
      nt = let z = length-swap a i j in omega arith

      by : (o : ℕ) → exchange i j k ≡ o → Has o → Rose (opener_at state (swap a i j) k f).polled (opener_at state (swap b i j) k f).polled
      by o is x = has_swapped k o is x f

      was : (opener_at state a (exchange i j n) f).polled < (opener_at state b (exchange i j n) f).polled
      was =
          subst (λ (x : ScanFile O S). (state x.opener).polled < (opener_at state b (exchange i j n) f).polled) (swap_at a i j n f (omega (arith, p, l)) (omega (arith, q, l)))
          (subst (λ (x : ScanFile O S). (opener_at state (swap a i j) n f).polled < (state x.opener).polled) (swap_at b i j n f (omega (arith, p, l, m)) (omega (arith, q, l, m))) rose)

      -- the other's opener was polled, as it is with the same default
      later : (k : ℕ) → k < n → n ≢ i → n ≢ j → Rose (opener_at state a k f).polled (opener_at state b k f).polled
      later k lt x y = h.first k n f lt nt (subst (λ o. (opener_at state a o f).polled < (opener_at state b o f).polled) (exchange_other i j n x y) was)

      at : (o : ℕ) → exchange i j k ≡ o → Rose (opener_at state a o f).polled (opener_at state b o f).polled → Rose (opener_at state (swap a i j) k f).polled (opener_at state (swap b i j) k f).polled
      at o is x =
          both_swapped (λ (y z : ScanFile O S). Rose (state y.opener).polled (state z.opener).polled) a b i j k f f (omega (arith, p, l)) (omega (arith, q, l)) (omega (arith, p, l, m)) (omega (arith, q, l, m))
          (subst (λ o. Rose (opener_at state a o f).polled (opener_at state b o f).polled) (sym is) x)

      go : Which i j k → Which i j n → Rose (opener_at state (swap a i j) k f).polled (opener_at state (swap b i j) k f).polled
      go (Which.first e) y = by j (first_is k e) has_second
      go (Which.second e) (Which.first f) = absurd (omega (arith, lt, apart, e, f))
      go (Which.second e) (Which.second f) = absurd (omega (arith, lt, e, f))
      go (Which.second e) (Which.other x y) = at i (second_is k e) (later i (omega (arith, lt, apart, e)) x y)
      go (Which.other u v) (Which.first e) = by k (exchange_other i j k u v) (has_before k (omega (arith, lt, apart, e)))
      go (Which.other u v) (Which.second e) = by k (exchange_other i j k u v) (has_before k (omega (arith, lt, e)))
      go (Which.other u v) (Which.other x y) = at k (exchange_other i j k u v) (later k lt x y)

  pub stand_swapped : PollsStand state (swap a i j) (swap b i j) (swap ps i j)
  stand_swapped = record {
    at = λ k f. subst (λ (x : Phase W F). StandsIn x (opener_at state (swap a i j) k f) (opener_at state (swap b i j) k f)) (sym (swap_at ps i j k phase.Unopened p q))
        (both_swapped (λ (y z : ScanFile O S). StandsIn (phase_at ps (exchange i j k)) (state y.opener) (state z.opener)) a b i j k f f (omega (arith, p, l)) (omega (arith, q, l)) (omega (arith, p, l, m)) (omega (arith, q, l, m)) (h.at (exchange i j k) f));
    first = first_swapped;
    opened = opens_swapped;
  }

module _ {O S W R F I : Type 0} (state : O → OpenerState I) (i j : ℕ) (v w : Drive W R F) (r : Rephased (swap v.phases.items i j) v w) (s : Spare i j v.phases.items) where
  pub swap_stand : (a b : List (ScanFile O S)) → length a ≡ length v.phases.items → length b ≡ length a → PollsStand state a b v.phases.items → PollsStand state (swap a i j) (swap b i j) w.phases.items
  swap_stand a b l m h = subst (PollsStand state (swap a i j) (swap b i j)) (sym r.phases_are) (stand_swapped state i j v.phases.items s a b l m h)
