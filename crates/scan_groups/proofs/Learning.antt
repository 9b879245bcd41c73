-- What is known of keys of one value, with one more.
use Rattle.std.proofs.Common.{◌≡◌, ◌⊎◌, inl, inr, ℕ, ℤ, Bool, true, false, cond, List, [], refl, sym, ap, ◌∙◌, rules}
use Rattle.std.specs.Prelude.{Option, None, Some, string_bytes}
use Rattle.std.specs.BTreeMap.{get, get_by_text, is_at}
use Rattle.std.specs.Cmp.Lexicographic.{slice_cmp}
use Rattle.std.specs.Map.{lookup}
use Rattle.std.specs.Ordering.{int_cmp, nat_cmp}
use Rattle.std.specs.Str.{bytes_eq}
use Rattle.std.proofs.lemmas.Map.Lookups.{exact_signed}
use Rattle.std.proofs.lemmas.Slice.Eq.{bytes_eq-Decides}
use Rattle.scan_values.specs.Val.{Val, null_val, bool_val, int_val, text_val, list_val, struct_val}
use Rattle.scan_groups.specs.Places.{Learns, known}
use Rattle.scan_groups.specs.declared.known.Known.{Known}
use Rattle.scan_groups.proofs.Exact.{equal_from_test}
use Rattle.scan_groups.proofs.Placing.{some_same}

-- all but one of its parts stay
module _ (old new : Known) (place : ℕ) where
  pub learns_null : new.null ≡ Some place → new.no ≡ old.no → new.yes ≡ old.yes → new.numbers ≡ old.numbers → new.texts ≡ old.texts → Learns old new null_val place
  learns_null a b c d e null_val i h = inr (refl, some_same i place (sym h ∙ a))
  learns_null a b c d e (bool_val true) i h = inl (sym c ∙ h)
  learns_null a b c d e (bool_val false) i h = inl (sym b ∙ h)
  learns_null a b c d e (int_val z) i h = inl (ap (λ m. get int_cmp m z) (sym d) ∙ h)
  learns_null a b c d e (text_val s) i h = inl (ap (λ m. get_by_text m s) (sym e) ∙ h)
  learns_null a b c d e (list_val vs) i h = inl h
  learns_null a b c d e (struct_val vs) i h = inl h

  pub learns_yes : new.null ≡ old.null → new.no ≡ old.no → new.yes ≡ Some place → new.numbers ≡ old.numbers → new.texts ≡ old.texts → Learns old new (bool_val true) place
  learns_yes a b c d e null_val i h = inl (sym a ∙ h)
  learns_yes a b c d e (bool_val true) i h = inr (refl, some_same i place (sym h ∙ c))
  learns_yes a b c d e (bool_val false) i h = inl (sym b ∙ h)
  learns_yes a b c d e (int_val z) i h = inl (ap (λ m. get int_cmp m z) (sym d) ∙ h)
  learns_yes a b c d e (text_val s) i h = inl (ap (λ m. get_by_text m s) (sym e) ∙ h)
  learns_yes a b c d e (list_val vs) i h = inl h
  learns_yes a b c d e (struct_val vs) i h = inl h

  pub learns_no : new.null ≡ old.null → new.no ≡ Some place → new.yes ≡ old.yes → new.numbers ≡ old.numbers → new.texts ≡ old.texts → Learns old new (bool_val false) place
  learns_no a b c d e null_val i h = inl (sym a ∙ h)
  learns_no a b c d e (bool_val true) i h = inl (sym c ∙ h)
  learns_no a b c d e (bool_val false) i h = inr (refl, some_same i place (sym h ∙ b))
  learns_no a b c d e (int_val z) i h = inl (ap (λ m. get int_cmp m z) (sym d) ∙ h)
  learns_no a b c d e (text_val s) i h = inl (ap (λ m. get_by_text m s) (sym e) ∙ h)
  learns_no a b c d e (list_val vs) i h = inl h
  learns_no a b c d e (struct_val vs) i h = inl h

  pub learns_number : (n : ℤ) → new.null ≡ old.null → new.no ≡ old.no → new.yes ≡ old.yes → ((q : ℤ) → get int_cmp new.numbers q ≡ cond (is_at (int_cmp n) q) (Some place) (get int_cmp old.numbers q)) → new.texts ≡ old.texts
      → Learns old new (int_val n) place
  learns_number n a b c d e null_val i h = inl (sym a ∙ h)
  learns_number n a b c d e (bool_val true) i h = inl (sym c ∙ h)
  learns_number n a b c d e (bool_val false) i h = inl (sym b ∙ h)
  learns_number n a b c d e (int_val q) i h = go (is_at (int_cmp n) q) refl
    where
      go : (t : Bool) → is_at (int_cmp n) q ≡ t → (get int_cmp old.numbers q ≡ Some i) ⊎ ((int_val q ≡ int_val n) × (i ≡ place))
      go true t = inr (ap int_val (sym (exact_signed n q (equal_from_test (int_cmp n q) t))), some_same i place (sym h ∙ d q ∙ ap (λ x. cond x (Some place) (get int_cmp old.numbers q)) t))
      go false t = inl (sym (d q ∙ ap (λ x. cond x (Some place) (get int_cmp old.numbers q)) t) ∙ h)
  learns_number n a b c d e (text_val s) i h = inl (ap (λ m. get_by_text m s) (sym e) ∙ h)
  learns_number n a b c d e (list_val vs) i h = inl h
  learns_number n a b c d e (struct_val vs) i h = inl h

  same_bytes : (r s : List ℕ) (b : Bool) → bytes_eq r s ≡ b → b ≡ true → r ≡ s
  same_bytes r s b e f = search (rules, bytes_eq-Decides, e, f)

  pub learns_text : (s : List ℕ) → new.null ≡ old.null → new.no ≡ old.no → new.yes ≡ old.yes → new.numbers ≡ old.numbers → ((q : List ℕ) → get_by_text new.texts q ≡ cond (bytes_eq s q) (Some place) (get_by_text old.texts q))
      → Learns old new (text_val s) place
  learns_text s a b c d e null_val i h = inl (sym a ∙ h)
  learns_text s a b c d e (bool_val true) i h = inl (sym c ∙ h)
  learns_text s a b c d e (bool_val false) i h = inl (sym b ∙ h)
  learns_text s a b c d e (int_val z) i h = inl (ap (λ m. get int_cmp m z) (sym d) ∙ h)
  learns_text s a b c d e (text_val q) i h = go (bytes_eq s q) refl
    where
      go : (t : Bool) → bytes_eq s q ≡ t → (get_by_text old.texts q ≡ Some i) ⊎ ((text_val q ≡ text_val s) × (i ≡ place))
      go true t = inr (ap text_val (sym (same_bytes s q true t refl)), some_same i place (sym h ∙ e q ∙ ap (λ x. cond x (Some place) (get_by_text old.texts q)) t))
      go false t = inl (sym (e q ∙ ap (λ x. cond x (Some place) (get_by_text old.texts q)) t) ∙ h)
  learns_text s a b c d e (list_val vs) i h = inl h
  learns_text s a b c d e (struct_val vs) i h = inl h

pub none_known : (m : Known) → m.null ≡ None → m.no ≡ None → m.yes ≡ None → m.numbers.entries ≡ [] → m.texts.entries ≡ [] → (v : Val) → known m v ≡ None
none_known m a b c d e null_val = a
none_known m a b c d e (bool_val true) = c
none_known m a b c d e (bool_val false) = b
none_known m a b c d e (int_val z) = ap (lookup (is_at (int_cmp z))) d
none_known m a b c d e (text_val s) = ap (lookup (is_at (λ k. slice_cmp nat_cmp s (string_bytes k)))) e
none_known m a b c d e (list_val vs) = refl
none_known m a b c d e (struct_val vs) = refl

pub if_found : (o g : Option ℕ) → o ≡ g → (i : ℕ) → o ≡ Some i → g ≡ Some i
if_found o g e i h = sym e ∙ h
