-- What a message means.
use Rattle.std.specs.Prelude.{ℕ, ◌+◌, ◌*◌, List, length, Some, None, Option}
use Rattle.content.specs.declared.rows.Read.{Read}
use Rattle.content.specs.declared.rows.Write.{Write}
use Rattle.layout.specs.declared.format.Header.{Header}
use Rattle.layout.specs.declared.fields.Fields.{Fields}
use Rattle.layout.specs.declared.fields.ContentFields.{ContentFields}

-- a content as a frame carries it; its timestamp's transaction is the message's
pub record Part : Type 0 where
  pub second : ℕ
  pub reads : List Read
  pub writes : List Write

-- a message: its numbers, and its content if it has one
pub record Value : Type 0 where
  pub header : Header
  pub content : Option Part

-- 1 where a content follows
abbrev pub flag : Option Part → ℕ
flag None = 0
flag (Some p) = 1

-- the length of the frame
abbrev pub size : Option Part → ℕ
size None = 13
size (Some p) = 19 + 9 * length p.reads + 8 * length p.writes

abbrev pub part_given : Option ContentFields → Option Part
part_given None = None
part_given (Some c) = Some (record { second = c.second; reads = c.reads.now; writes = c.writes.now })

-- what bare fields mean
abbrev pub given : Fields → Value
given f = record { header = f.header; content = part_given f.content }
