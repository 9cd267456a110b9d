-- The bytes of a content.
use Rattle.std.specs.Prelude.{◌≡◌, ℕ, ◌<◌, ◌≤◌, ◌⊎◌, List, length, Some, None, Option}
use Rattle.layout.specs.declared.fields.ContentFields.{ContentFields}
use Rattle.layout.specs.Values.{part_given}
use Rattle.layout.specs.Frames.{part_bytes}

-- the bytes of a content, or none exactly if it has more than four rows of a kind
abbrev pub ContentBytes : ContentFields → Option (List ℕ) → Type 0
ContentBytes c None = (4 < length c.reads.now) ⊎ (4 < length c.writes.now)
ContentBytes c (Some b) =
    (length c.reads.now ≤ 4) × (length c.writes.now ≤ 4) × (b ≡ part_bytes (part_given (Some c)))
