-- A file that is written is read as what was written.
use Rattle.std.proofs.Common.{◌≡◌, ℕ, ◌+◌, ◌^◌, ◌≤◌, ◌<◌, Bool, true, cond, List, [], ◌++◌, length, refl, sym, ap, ◌∙◌, arith, codes}
use Rattle.std.specs.Prelude.{Option, None, Some, option_map, option_and_then, slice_get, Ok}
use Rattle.std.specs.Int.{w64, to_le_bytes}
use Rattle.std.specs.Result.{result_ok}
use Rattle.std.proofs.lemmas.Option.{same_Some}
use Rattle.std.specs.Str.{is_utf8}
use Rattle.serde_json.specs.Data.{Data, array, object, member, no_members}
use Rattle.serde_json.specs.Read.{read}
use Rattle.serde_json.specs.View.{items_of}
use Rattle.scan_values.specs.DataType.{DataType, depth_of}
use Rattle.scan_values.specs.Val.{Val}
use Rattle.scan_segments.specs.Source.{Store}
use Rattle.scan_layout.specs.Form.{HasForm}
use Rattle.scan_layout.specs.Layout.{Layout, node, dtype_of}
use Rattle.scan_layout.specs.RowValue.{row_value}
use Rattle.scan_manifest.specs.Layouts.{layout_in}
use Rattle.scan_disk.specs.Contents.{magic, with_places, content_of}
use Rattle.scan_disk.specs.Footers.{tree_in, footer_in, footer_of}
use Rattle.scan_disk.specs.Given.{step}
use Rattle.scan_disk.specs.Places.{place_at, segments_from}
use Rattle.scan_disk.specs.Segments.{at_place, segment_of, store_of}
use Rattle.scan_disk.specs.declared.footer.Footer.{Footer}
use Rattle.scan_disk.specs.declared.place.Place.{Place}
use Rattle.scan_disk_writer.specs.Json.{json_of_dtype, json_of_layout, json_of_places, json_of_footer}
use Rattle.scan_disk_writer.specs.FileBytes.{joined, places_from, sealed, framed, numbered, or_none, IdsFit}
use Rattle.scan_encode.specs.Encoded.{stored, Holds}
use Rattle.scan_disk_writer.specs.Written.{IsFile, IsFileOf}
use Rattle.scan_disk_writer.proofs.DTypesAgain.{dtype_again}
use Rattle.scan_disk_writer.proofs.LayoutsAgain.{levels_fit, layout_again}
use Rattle.scan_disk_writer.proofs.PlacesAgain.{places_again, at_number, digested, places_length}
use Rattle.scan_disk_writer.proofs.Frames.{segment_here, content_is, all_within}

-- ---- the text of a footer
pub footer_data : (l : Layout) (ps : List Place) (v d t s : Data) (type : DataType)
    → v ≡ object (member (codes "dtype") d (member (codes "layout") t (member (codes "segments") s no_members))) → d ≡ json_of_dtype type → type ≡ dtype_of l → t ≡ json_of_layout l
    → s ≡ array (items_of (json_of_places 0 ps)) → v ≡ json_of_footer l ps
footer_data l ps v d t s type e a b f g = rw (e, a, b, f, g) refl

pub footer_said : (bytes : List ℕ) (d : Data) (l : Layout) (ps : List Place) → is_utf8 bytes ≡ true → read bytes ≡ Some d → d ≡ json_of_footer l ps
    → footer_of bytes ≡ footer_in (json_of_footer l ps)
footer_said bytes d l ps u r e = ap (λ b. cond b (option_and_then footer_in (read bytes)) None) u ∙ (ap (option_and_then footer_in) r ∙ ap footer_in e)

-- ---- the rows of a file
none_or : (o : Option (List ℕ)) → result_ok (or_none o) ≡ o
none_or None = refl
none_or (Some bytes) = refl

dtype_is : (l : Layout) (d : DataType) → HasForm l d → dtype_of l ≡ d
dtype_is (node t rows kind kids) d h = h.0

module _ (l : Layout) (segments : List (List ℕ)) (bytes : List ℕ) (opened : step {B = Layout} (λ f. Ok f.layout) (content_of bytes) ≡ Ok l)
    (held : (checks : Bool) (id : ℕ) → segment_of checks None id bytes ≡ or_none (slice_get segments id)) where
  store_is : (checks : Bool) (store : Store) → store_of checks None (Some bytes) ≡ Some store → stored segments ≡ store
  store_is checks store e =
      let same : (λ (id : ℕ). result_ok (segment_of checks None id bytes)) ≡ store = same_Some (λ (id : ℕ). result_ok (segment_of checks None id bytes)) store e in
      (λ i id. sym (ap result_ok (held checks id) ∙ none_or (slice_get segments id)) i) ∙ same

  -- rows that the layout gives over the segments are the file's
  rows_are : (d : DataType) (values : List Val) → Holds d values segments l → IsFileOf d values bytes
  rows_are d values h = record {
    layout = l;
    opens = opened;
    of_dtype = dtype_is l d h.form;
    of_rows = h.size;
    gives = λ checks store e i v q. ap (λ s. row_value l s i) (sym (store_is checks store e)) ∙ h.gives i v q;
  }

-- ---- a file that is written
-- the footer of a layout and segments
abbrev footer_with : Layout → List (List ℕ) → Footer
footer_with l segments = record { layout = l; places = numbered 0 (places_from 8 segments) }

module _ (l : Layout) (segments : List (List ℕ)) (form : HasForm l (dtype_of l)) (shallow : depth_of (dtype_of l) ≤ 42) (ids : IdsFit l) (few : length segments ≤ 2 ^ 32) where
  tree_again : tree_in (json_of_dtype (dtype_of l)) (json_of_layout l) ≡ Some l
  tree_again =
      ap (option_and_then (λ t. layout_in t (json_of_layout l))) (dtype_again (dtype_of l) 128 (omega (arith, shallow)) (omega (arith, shallow)))
      ∙ layout_again l (dtype_of l) 127 form (levels_fit (dtype_of l) 127 (omega (arith, shallow))) ids

  places_are : segments_from [] (items_of (json_of_places 0 (places_from 8 segments))) ≡ Some (numbered 0 (places_from 8 segments))
  places_are = places_again (places_from 8 segments) 0 [] tt (omega (arith, few, places_length 8 segments)) (digested 8 segments)

  footer_again : footer_in (json_of_footer l (places_from 8 segments)) ≡ Some (footer_with l segments)
  footer_again =
      let rest : Layout → Option Footer = λ tree. option_map (λ places. record { layout = tree; places = places }) (segments_from [] (items_of (json_of_places 0 (places_from 8 segments)))) in
      ap (option_and_then rest) tree_again ∙ ap (option_map (λ places. record { layout = l; places = places })) places_are

  -- it is read as this layout and these segments
  pub file_is : (footer : List ℕ) → length footer < 2 ^ 64 → footer_of footer ≡ footer_in (json_of_footer l (places_from 8 segments)) → IsFile l segments (framed (joined segments) footer)
  file_is footer short said =
      let bytes = framed (joined segments) footer in
      let content : content_of bytes ≡ Ok (footer_with l segments) =
      content_is (joined segments) footer short ∙ (ap (with_places (8 + length (joined segments))) (said ∙ footer_again) ∙ all_within segments (footer_with l segments) refl) in
      let opened : step {B = Layout} (λ f. Ok f.layout) (content_of bytes) ≡ Ok l = ap (step (λ f. Ok f.layout)) content in
      let held : (checks : Bool) (id : ℕ) → segment_of checks None id bytes ≡ or_none (slice_get segments id) = λ checks id.
      ap (step (λ places. at_place checks bytes (place_at places id))) (ap (step (λ f. Ok f.places)) content)
      ∙ (ap (at_place checks bytes) (at_number (places_from 8 segments) 0 id id (omega arith))
      ∙ segment_here segments bytes magic (sealed footer ++ (to_le_bytes w64 (length footer) ++ magic)) 8 checks id refl refl) in
      record { opens = opened; holds = held; rows = rows_are l segments bytes opened held }
