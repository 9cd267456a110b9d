-- A content that a message carries.
use Rattle.std.specs.Prelude.{◌≡◌}
use Rattle.content.specs.Rules.{Body}
use Rattle.layout.specs.Values.{Part}
use Rattle.layout.specs.Numbers.{laid, reading, writing}
use Rattle.frame.specs.declared.encoded.EncodedContent.{EncodedContent}
use Rattle.frame.specs.declared.message.Parts.{Parts}

-- a content's part of a frame
abbrev pub part_said : Body → Part
part_said b = record { second = b.timestamp.second; reads = b.reads; writes = b.writes }

-- the second, and the bytes of the rows
pub record Encodes (e : EncodedContent) (p : Part) : Type 0 where
  pub second : e.second ≡ p.second
  pub reads : e.reads ≡ laid reading p.reads
  pub writes : e.writes ≡ laid writing p.writes

-- the parts are those of the content
pub record PartsFrom (e : EncodedContent) (p : Parts) : Type 0 where
  pub second : p.second ≡ e.second
  pub reads : p.reads.now ≡ e.reads
  pub writes : p.writes.now ≡ e.writes
