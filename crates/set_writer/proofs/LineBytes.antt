-- The lines that a writer keeps: those of its records, and bytes.
use Rattle.std.proofs.Common.{◌≡◌, ℕ, zero, suc, ◌+◌, ◌-◌, ◌*◌, List, [], ◌∷◌, ◌++◌, length, drop, replicate, sym, ◌∙◌, subst, arith, append_assoc, append-nil}
use Rattle.std.specs.Int.{byte_at, bytes_high_first, Width, byte_len, w8}
use Rattle.std.specs.List.{AllByRecursion, fold}
use Rattle.gf_field.specs.Field.{IsByte, AreBytes}
use Rattle.smore_base.specs.BigEndian.{big_endian, Fields, spelled}
use Rattle.smore_base.specs.Room.{payload_room}
use Rattle.marker_format.specs.Marker.{bytes_of_name, name_field}
use Rattle.marker_format.specs.Zone.{blocks_of}
use Rattle.array_model.proofs.SameZones.{all-append, all-take}
use Rattle.set_digest.specs.declared.line.Line.{Line}
use Rattle.set_digest.specs.Line.{spelling_of, fields_of}
use Rattle.set_digest.specs.Lines.{spelling_of_list}
use Rattle.set_digest.specs.Records.{line_of, lines_from}
use Rattle.set_writer.specs.Entry.{Entry, HasBytes, at_index}
use Rattle.set_writer.specs.Writer.{Writer, begun, behind, written, part_of}
use Rattle.set_writer.specs.Laws.{markers_at}

-- ---- the lines of records

-- behind the lines that were there
lines_more : (index : ℕ) (es : List Entry) (v : Writer) → (fold (λ w (e : Entry). behind w e.marker) v es).lines ≡ v.lines ++ spelling_of_list (lines_from v.used (markers_at index es))
lines_more index [] v = sym (append-nil v.lines)
lines_more index (e ∷ es) v =
    lines_more index es (behind v e.marker)
    ∙ append_assoc v.lines (spelling_of (line_of v.used e.marker)) (spelling_of_list (lines_from (v.used + blocks_of e.marker) (markers_at index es)))

pub lines_written : (w : Writer) (set' index : ℕ) (es : List Entry) → (written w set' es).lines ≡ spelling_of_list (lines_from 0 (markers_at index es))
unfolding written
lines_written w set' index es = lines_more index es (begun w set')

-- ---- they are bytes

byte_is : (i n : ℕ) → IsByte (byte_at i n)
byte_is zero n = omega arith
byte_is (suc i) n = omega arith

high_first : (count n : ℕ) → AreBytes (bytes_high_first count n)
high_first zero n = tt
high_first (suc count) n = (byte_is count n, high_first count n)

number_bytes : (w : Width) (n : ℕ) → AreBytes (big_endian w n)
unfolding big_endian
number_bytes w n = high_first (byte_len w) n

spelled_bytes : (fs : Fields) → AreBytes (spelled fs)
spelled_bytes [] = tt
spelled_bytes (f ∷ fs) = all-append IsByte (big_endian f.0 f.1) (spelled fs) (number_bytes f.0 f.1) (spelled_bytes fs)

zeros_bytes : (n : ℕ) → AreBytes (replicate n 0)
zeros_bytes zero = tt
zeros_bytes (suc n) = (omega arith, zeros_bytes n)

name_field_bytes : (name : List ℕ) → AreBytes name → AreBytes (name_field name)
name_field_bytes name bytes = all-append IsByte (big_endian w8 (length name)) _ (number_bytes w8 (length name)) (all-append IsByte name (replicate (255 - length name) 0) bytes (zeros_bytes (255 - length name)))

line_bytes : (l : Line) → AreBytes (bytes_of_name l.name) → AreBytes (spelling_of l)
unfolding spelling_of
line_bytes l name = all-append IsByte (spelled (fields_of l)) _ (spelled_bytes (fields_of l)) (all-append IsByte (name_field (bytes_of_name l.name)) (replicate 23 0) (name_field_bytes (bytes_of_name l.name) name) (zeros_bytes 23))

list_bytes : (block : ℕ) (es : List Entry) → AllByRecursion HasBytes es → AreBytes (spelling_of_list (lines_from block (markers_at 0 es)))
list_bytes block [] bytes = tt
list_bytes block (e ∷ es) bytes = all-append IsByte (spelling_of (line_of block (at_index 0 e.marker))) _ (line_bytes (line_of block (at_index 0 e.marker)) bytes.0.name) (list_bytes (block + blocks_of e.marker) es bytes.1)

pub lines_bytes : (w : Writer) (set' : ℕ) (es : List Entry) → AllByRecursion HasBytes es → AreBytes (written w set' es).lines
lines_bytes w set' es bytes = subst AreBytes (sym (lines_written w set' 0 es)) (list_bytes 0 es bytes)

pub part_bytes : (w : Writer) (part : ℕ) → AreBytes w.lines → AreBytes (part_of w part)
part_bytes w part bytes =
    let from = part * payload_room w.geometry in
    all-take IsByte (payload_room w.geometry) (drop (part * payload_room w.geometry) w.lines) (all_drop (part * payload_room w.geometry) w.lines bytes)
  where
    all_drop : (n : ℕ) (xs : List ℕ) → AreBytes xs → AreBytes (drop n xs)
    all_drop zero xs all = all
    all_drop (suc n) [] all = tt
    all_drop (suc n) (x ∷ xs) all = all_drop n xs all.1
