-- What a hashed table means as a store.
use Rattle.store.specs.Table.{Table}
use Rattle.hashed.specs.declared.table.Hashed.{Hashed}
use Rattle.hashed.specs.Places.{find}

abbrev pub hashed_table : Hashed → Table
hashed_table h = record { look = find h.slots; held = h.held; most = h.capacity.rows }
