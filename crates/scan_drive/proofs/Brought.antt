-- Files that are open are brought before those that are not.
use Rattle.std.proofs.Common.{◌≡◌, ◌≢◌, ℕ, inl, inr, ◌+◌, ◌<◌, ◌≤◌, List, [], ◌∷◌, ◌++◌, length, get_or, refl, sym, ap, ◌∙◌, subst, arith, append_assoc, append-nil}
use Rattle.std.specs.Prelude.{◌⊎◌}
use Rattle.std.specs.List.{swap}
use Rattle.std.proofs.lemmas.Bool.{cases_eq}
use Rattle.std.proofs.lemmas.List.{get_or_default}
use Rattle.scan_drive.specs.Desks.{Waiters}
use Rattle.scan_drive.specs.Forward.{Spare, AreSpare, Rephased, BringsForward}
use Rattle.scan_drive.specs.Line.{exchanged}
use Rattle.scan_drive.specs.Phases.{phase_at, is_unopened}
use Rattle.scan_drive.specs.declared.files.ScanFile.{ScanFile}
use Rattle.scan_drive.specs.declared.phase.Phase.{Phase}
use Rattle.scan_drive.specs.declared.phase.Phase.TheVariants as phase
use Rattle.scan_drive.specs.declared.round.Drive.{Drive}
use Rattle.scan_drive.proofs.Exchanging.{length_exchanged, range_more}
use Rattle.scan_drive.proofs.LinePolls.{exchanged_append, range_append}

nil_left : {X : Type 0} (xs ys : List X) → xs ++ ys ≡ [] → xs ≡ []
nil_left [] ys e = refl
nil_left (x ∷ xs) ys e = absurd cc

pub nil_right : {X : Type 0} (xs ys : List X) → xs ++ ys ≡ [] → ys ≡ []
nil_right [] ys e = e
nil_right (x ∷ xs) ys e = absurd cc

-- one exchange is one
some_place : {X : Type 0} (x : X) (P : Type 0) → x ∷ [] ≡ [] → P
some_place x P e = absurd cc

module _ {W F : Type 0} where
  spare_append : (ss ts : List (ℕ × ℕ)) (ps : List (Phase W F)) → AreSpare ss ps → AreSpare ts (exchanged ss ps) → AreSpare (ss ++ ts) ps
  spare_append [] ts ps a b = b
  spare_append (s ∷ ss) ts ps a b = (a.0, spare_append ss ts (swap ps s.0 s.1) a.1 b)

module _ {O S W R F : Type 0} where
  pub brought_none : (last : ℕ) (log log' : List (ℕ × ℕ)) (files : List (ScanFile O S)) (desks : List Waiters) (d : Drive W R F) → log' ≡ log → BringsForward last log log' files files desks desks d d
  brought_none last log log' files desks d e = record {
    places = [];
    log_is = e ∙ sym (append-nil log);
    files_are = refl;
    desks_are = refl;
    rephased = record { phases_are = refl; active = refl; chunks = refl; first = refl; tally = refl; left = refl; report = refl; ordered = refl; budget = refl; unclaimed = refl };
    spare = tt;
    within = tt;
    none = λ h. refl;
  }

  pub brought_one : (i j : ℕ) (log log' : List (ℕ × ℕ)) (files files' : List (ScanFile O S)) (desks desks' : List Waiters) (d e : Drive W R F) → log' ≡ log ++ (i, j) ∷ [] → files' ≡ swap files i j → desks' ≡ swap desks i j → Rephased (swap d.phases.items i j) d e →
      Spare i j d.phases.items → BringsForward (j + 1) log log' files files' desks desks' d e
  brought_one i j log log' files files' desks desks' d e l f k r s = record {
    places = (i, j) ∷ [];
    log_is = l;
    files_are = f;
    desks_are = k;
    rephased = r;
    spare = (s, tt);
    within = (let x = s.apart in omega (arith, x), omega arith, tt);
    none = some_place (i, j) (e ≡ d);
  }

  pub brought_then : (m last : ℕ) (log log1 log2 : List (ℕ × ℕ)) (a b c : List (ScanFile O S)) (ks ls ms : List Waiters) (d e h : Drive W R F) → m ≤ last → BringsForward last log log1 a b ks ls d e → BringsForward m log1 log2 b c ls ms e h → BringsForward last log log2 a c ks ms d h
  brought_then m last log log1 log2 a b c ks ls ms d e h le p q = record {
    places = p.places ++ q.places;
    log_is = q.log_is ∙ ap (λ l. l ++ q.places) p.log_is ∙ append_assoc log p.places q.places;
    files_are = q.files_are ∙ ap (exchanged q.places) p.files_are ∙ sym (exchanged_append p.places q.places a);
    desks_are = q.desks_are ∙ ap (exchanged q.places) p.desks_are ∙ sym (exchanged_append p.places q.places ks);
    rephased = record {
      phases_are = q.rephased.phases_are ∙ ap (exchanged q.places) p.rephased.phases_are ∙ sym (exchanged_append p.places q.places d.phases.items);
      active = q.rephased.active ∙ p.rephased.active;
      chunks = q.rephased.chunks ∙ p.rephased.chunks;
      first = q.rephased.first ∙ p.rephased.first;
      tally = q.rephased.tally ∙ p.rephased.tally;
      left = q.rephased.left ∙ p.rephased.left;
      report = q.rephased.report ∙ p.rephased.report;
      ordered = q.rephased.ordered ∙ p.rephased.ordered;
      budget = q.rephased.budget ∙ p.rephased.budget;
      unclaimed = q.rephased.unclaimed ∙ p.rephased.unclaimed;
    };
    spare = spare_append p.places q.places d.phases.items p.spare (subst (AreSpare q.places) p.rephased.phases_are q.spare);
    within = range_append last p.places q.places p.within (range_more m last q.places le q.within);
    none = λ n. q.none (nil_right p.places q.places n) ∙ p.none (nil_left p.places q.places n);
  }

  module _ (last : ℕ) (log log' : List (ℕ × ℕ)) (a b : List (ScanFile O S)) (ks ls : List Waiters) (d e : Drive W R F) (p : BringsForward last log log' a b ks ls d e) where
    pub brought_phases : length e.phases.items ≡ length d.phases.items
    brought_phases = ap length p.rephased.phases_are ∙ length_exchanged p.places d.phases.items

    pub brought_files : length b ≡ length a
    brought_files = ap length p.files_are ∙ length_exchanged p.places a

    pub brought_desks : length ls ≡ length ks
    brought_desks = ap length p.desks_are ∙ length_exchanged p.places ks

-- a place that is not open, before another that is
pub spare_by : {W F : Type 0} (i j : ℕ) (ps : List (Phase W F)) (x : Phase W F) → i ≤ j → j < length ps → x ≡ get_or ps i x → x ≡ phase.Unopened → is_unopened (phase_at ps j) ≡ 0 → Spare i j ps
spare_by i j ps x le lt e shut free = record {
  apart = apart (cases_eq i j);
  within = lt;
  shut = is;
  opened = free;
}
  where
    is : phase_at ps i ≡ phase.Unopened
    is = sym (e ∙ get_or_default ps i x phase.Unopened (omega (arith, le, lt))) ∙ shut

    apart : (i ≡ j) ⊎ (i ≢ j) → i < j
    apart (inl same) = let one : is_unopened (phase_at ps j) ≡ 1 = ap (λ k. is_unopened (phase_at ps k)) (sym same) ∙ ap is_unopened is in absurd (omega (arith, one, free))
    apart (inr ne) = omega (arith, le, ne)
