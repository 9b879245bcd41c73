-- JSON values of a footer, and its bytes.
use Rattle.std.proofs.Common.{◌≡◌, ◌≢◌, ℕ, List, [], ◌∷◌, length, refl, ap, ◌∙◌}
use Rattle.std.specs.Prelude.{None, Some, option_and_then, ◌&&◌, string_bytes, String, IsUtf8}
use Rattle.std.specs.declared.alloc.Global.{Global}
use Rattle.std.specs.List.{list_all}
use Rattle.std.specs.Map.{keys_of}
use Rattle.std.specs.Str.{is_utf8}
use Rattle.std.proofs.lemmas.Bool.{cond-true, cond_both}
use Rattle.std.proofs.lemmas.Str.{IsUtf8-from_is_utf8, is_utf8-from_IsUtf8}
use Rattle.serde_json.specs.Data.{Data, null, boolean, number, string, array, object, Members}
use Rattle.serde_json.specs.Find.{as_object}
use Rattle.serde_json.specs.Read.{read}
use Rattle.serde_json.specs.declared.value.Value.{Value}
use Rattle.serde_json.specs.View.{items_view, members_view}
use Rattle.scan_disk.specs.Footers.{is_footer_key, has_footer_keys, is_footer_form, footer_in, footer_of}
use Rattle.scan_disk.specs.Places.{four_of}

pub four_of-not : (vs : List Value) → length vs ≢ 4 → four_of (items_view vs) ≡ None
four_of-not [] h = refl
four_of-not (a ∷ []) h = refl
four_of-not (a ∷ b ∷ []) h = refl
four_of-not (a ∷ b ∷ c ∷ []) h = refl
four_of-not (a ∷ b ∷ c ∷ d ∷ []) h = absurd (h refl)
four_of-not (a ∷ b ∷ c ∷ d ∷ e ∷ vs) h = refl

pub has_footer_keys-keys : (es : List (String Global × Value)) → has_footer_keys (members_view es) ≡ list_all (λ k. is_footer_key (string_bytes k)) (keys_of es)
has_footer_keys-keys [] = refl
has_footer_keys-keys (e ∷ es) = ap (λ b. is_footer_key (string_bytes e.0) && b) (has_footer_keys-keys es)

pub footer_form_of : (d : Data) (ms : Members) → Some ms ≡ as_object d → is_footer_form d ≡ has_footer_keys ms
footer_form_of null ms e = cc
footer_form_of (boolean b) ms e = cc
footer_form_of (number n) ms e = cc
footer_form_of (string s) ms e = cc
footer_form_of (array ds) ms e = cc
footer_form_of (object ns) ms e = let same : ns ≡ ms = cc in ap has_footer_keys same

-- bytes that are no JSON value say no footer
pub footer_of-none : (bytes : List ℕ) → (IsUtf8 bytes → read bytes ≡ None) → footer_of bytes ≡ None
footer_of-none bytes h = cond_both (is_utf8 bytes) (option_and_then footer_in (read bytes)) None (λ o. o ≡ None)
    (λ e. ap (option_and_then footer_in) (h (IsUtf8-from_is_utf8 bytes e))) (λ _. refl)

-- those that are one say what it says
pub footer_of-some : (bytes : List ℕ) (d : Data) → IsUtf8 bytes → read bytes ≡ Some d → footer_of bytes ≡ footer_in d
footer_of-some bytes d u e = cond-true (is_utf8 bytes) (option_and_then footer_in (read bytes)) None (is_utf8-from_IsUtf8 bytes u) ∙ ap (option_and_then footer_in) e
