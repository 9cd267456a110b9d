-- The frame of a message, and what bytes say.
use Rattle.std.specs.Prelude.{ℕ, ◌*◌, ◌^◌, ◌<◌, cond, ◌&&◌, List, [], ◌∷◌, ◌++◌, length, drop, Some, None, Option, ◌==◌, nat_le, slice_index}
use Rattle.content.specs.declared.rows.Read.{Read}
use Rattle.content.specs.declared.rows.Write.{Write}
use Rattle.field.specs.declared.Field.{Field}
use Rattle.field.specs.Layouts.{Passes}
use Rattle.layout.specs.declared.format.Header.{Header}
use Rattle.layout.specs.Values.{Part, Value, flag, size}
use Rattle.layout.specs.Numbers.{big, number, laid, rows_in, reading, writing, Each}
use Rattle.layout.specs.Format.{header_fields, part_fields, value_fields}

abbrev pub part_bytes : Option Part → List ℕ
part_bytes None = []
part_bytes (Some p) =
    big p.second ++ (length p.reads ∷ length p.writes ∷ (laid reading p.reads ++ laid writing p.writes))

-- the frame of a message: mark, version, the numbers, the content
abbrev pub frame : Value → List ℕ
frame v =
    let h = v.header in
    0x54 ∷ 0x4B ∷ 0x41 ∷ 0 ∷ 1
    ∷ h.kind ∷ h.transaction ∷ h.sender ∷ h.view ∷ h.code ∷ h.accepted ∷ h.accepted_view ∷ flag v.content
    ∷ part_bytes v.content

-- every number fits its bytes
abbrev pub FitRead : Read → Type 0
FitRead r = (r.key < 2 ^ 32) × (r.version.second < 2 ^ 32) × (r.version.transaction < 256)

abbrev pub FitWrite : Write → Type 0
FitWrite w = (w.key < 2 ^ 32) × (w.value < 2 ^ 32)

abbrev pub FitsPart : Option Part → Type 0
FitsPart None = Unit {0}
FitsPart (Some p) = (p.second < 2 ^ 32) × (Each FitRead p.reads × Each FitWrite p.writes)

-- a message that has a frame: every field obeys its rule, the longest frame having 87 bytes
pub record Lawful (v : Value) : Type 0 where
  pub passes : Passes 87 (value_fields v)
  pub fits : FitsPart v.content

-- the numbers that stand at the places of the header
abbrev pub header_in : List ℕ → Header
header_in b =
    record {
      kind = slice_index b 5;
      transaction = slice_index b 6;
      sender = slice_index b 7;
      view = slice_index b 8;
      code = slice_index b 9;
      accepted = slice_index b 10;
      accepted_view = slice_index b 11;
    }

abbrev pub content_in : List ℕ → Part
content_in b =
    record {
      second = number b 13;
      reads = rows_in reading (slice_index b 17) (drop 19 b);
      writes = rows_in writing (slice_index b 18) (drop (9 * slice_index b 17) (drop 19 b));
    }

abbrev pub part_in : List ℕ → Option Part
part_in b = cond (slice_index b 12 == 1) (Some (content_in b)) None

-- the message that stands in bytes, if they are a frame
abbrev pub value_in : List ℕ → Value
value_in b = record { header = header_in b; content = part_in b }

-- the mark and the version
abbrev pub mark_fields : List ℕ → List Field
mark_fields b =
    record { place = 0; width = 3; good = slice_index b 0 == 0x54 && (slice_index b 1 == 0x4B && slice_index b 2 == 0x41) }
    ∷ record { place = 3; width = 2; good = slice_index b 3 == 0 && (slice_index b 4 == 1) }
    ∷ []

-- nothing follows place e in n bytes
abbrev pub ending : ℕ → ℕ → Field
ending n e = record { place = e; width = 0; good = nat_le n e }

-- nothing follows the frame
abbrev pub end_field : List ℕ → Field
end_field b = ending (length b) (size (part_in b))

-- the fields of bytes, in order
abbrev pub byte_fields : List ℕ → List Field
byte_fields b =
    mark_fields b ++ (header_fields (header_in b) (slice_index b 12) ++ (part_fields (slice_index b 6) (part_in b) ++ (end_field b ∷ [])))
