-- What a filter over a link means as a link.
use Rattle.std.specs.Prelude.{◌≡◌, ℕ, List, map, Option}
use Rattle.link.specs.declared.Link as link
use Rattle.link.specs.Frames.{Frame}
use Rattle.link.specs.Packets.{frame_of}
use Rattle.duplicate_filter.specs.declared.filter.DuplicateFilter.{DuplicateFilter}
use Rattle.duplicate_filter.specs.Repeats.{filtered}

-- the last frames handed out, the oldest first
abbrev pub recent_of : {L : Type 0} → DuplicateFilter L → List Frame
recent_of l = map frame_of l.recent.items

module _ {L : Type 0} (K : link.Ghosts L) where
  abbrev pub filter_waiting : DuplicateFilter L → List Frame
  filter_waiting l = K.waiting l.inner

  abbrev pub FilterPuts : DuplicateFilter L → ℕ → List ℕ → DuplicateFilter L → Type 0
  FilterPuts l a b l' = K.puts l.inner a b l'.inner × (recent_of l' ≡ recent_of l)

  -- one take of the inner link, and what is answered for its answer
  abbrev pub FilterTakes : DuplicateFilter L → ℕ → Option (List ℕ) → DuplicateFilter L → Type 0
  FilterTakes l a o l' = (i : Option (List ℕ)) × K.takes l.inner a i l'.inner × ((o, recent_of l') ≡ filtered (recent_of l) a i)
