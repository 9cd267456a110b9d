-- The rows that are taken from the parts of a frame.
use Rattle.std.specs.Option.{option_map}
use Rattle.layout.specs.Values.{Part, Value}
use Rattle.frame.specs.declared.rows.ContentRows.{ContentRows}
use Rattle.frame.specs.declared.rows.PlainMessage.{PlainMessage}

-- the content that the rows are
abbrev pub part_held : ContentRows → Part
part_held c = record { second = c.second; reads = c.reads; writes = c.writes }

-- the message that plain numbers are those of
abbrev pub plain : PlainMessage → Value
plain m = record { header = m.header; content = option_map part_held m.rows }
