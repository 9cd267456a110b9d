-- How rows are written as text.
use Rattle.std.specs.Prelude.{ℕ, List, ◌++◌, codes, decimal}
use Rattle.values.specs.Words.{timestamp_words}
use Rattle.content.specs.declared.rows.Read.{Read}
use Rattle.content.specs.declared.rows.Write.{Write}

-- a read is its key and the version that it saw
abbrev pub read_words : Read → List ℕ
read_words r = decimal r.key ++ (codes "@" ++ timestamp_words r.version)

abbrev pub write_words : Write → List ℕ
write_words w = decimal w.key ++ (codes "=" ++ decimal w.value)
