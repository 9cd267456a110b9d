-- The fields of a frame in their order, each with the rule of its number given the ones before it.
use Rattle.std.specs.Prelude.{ℕ, ◌+◌, ◌*◌, Bool, true, cond, ◌&&◌, ◌||◌, List, [], ◌∷◌, ◌++◌, length, Some, None, Option, is_some, unwrap_or, ◌==◌, nat_le, slice_index_or}
use Rattle.values.specs.declared.timestamp.Timestamp.{Timestamp}
use Rattle.values.specs.Times.{timestamp}
use Rattle.content.specs.declared.rows.Read.{Read}
use Rattle.content.specs.declared.rows.Write.{Write}
use Rattle.content.specs.Rules.{unlike}
use Rattle.field.specs.declared.Field.{Field}
use Rattle.field.specs.Layouts.{ranged, rows}
use Rattle.layout.specs.declared.format.KindRules.{KindRules}
use Rattle.layout.specs.declared.format.Header.{Header}
use Rattle.layout.specs.Numbers.{Layout, width, reading, writing}
use Rattle.layout.specs.Values.{Part, Value, flag}

-- the seven kinds by their letters P V A B D C R, each with its limits: view, code, accepted, and the content's flag
-- where nothing of the frame is a commit, and where something is
abbrev pub rules : ℕ → Option KindRules
rules k =
    cond (k == 80) (Some (record { view = (0, 0); code = (0, 0); accepted = (0, 0); plain = (1, 1); commit = (1, 1) }))
    (cond (k == 86) (Some (record { view = (0, 0); code = (1, 2); accepted = (0, 0); plain = (0, 0); commit = (0, 0) }))
    (cond (k == 65) (Some (record { view = (0, 255); code = (1, 2); accepted = (0, 0); plain = (0, 0); commit = (1, 1) }))
    (cond (k == 66) (Some (record { view = (0, 255); code = (0, 0); accepted = (0, 0); plain = (0, 0); commit = (0, 0) }))
    (cond (k == 68) (Some (record { view = (0, 0); code = (1, 2); accepted = (0, 0); plain = (0, 0); commit = (1, 1) }))
    (cond (k == 67) (Some (record { view = (1, 255); code = (0, 0); accepted = (0, 0); plain = (0, 0); commit = (0, 0) }))
    (cond (k == 82) (Some (record { view = (1, 255); code = (0, 2); accepted = (0, 2); plain = (0, 1); commit = (1, 1) }))
    None))))))

-- a letter that names no kind leaves nothing but 0 to the numbers
abbrev pub no_kind : KindRules
no_kind = record { view = (0, 0); code = (0, 0); accepted = (0, 0); plain = (0, 0); commit = (0, 0) }

abbrev pub limits : Header → KindRules
limits h = unwrap_or (rules h.kind) no_kind

-- an accepted proposal's view is at most the frame's, and 0 where there is none
abbrev pub accepted_view_limits : Header → ℕ × ℕ
accepted_view_limits h = cond (h.accepted == 0) (0, 0) (0, h.view)

abbrev pub content_limits : Header → ℕ × ℕ
content_limits h = cond (h.code == 2 || h.accepted == 2) (limits h).commit (limits h).plain

-- the fields of a header and the content's flag
abbrev pub header_fields : Header → ℕ → List Field
header_fields h n =
    record { place = 5; width = 1; good = is_some (rules h.kind) }
    ∷ ranged 6 h.transaction (1, 32)
    ∷ ranged 7 h.sender (0, 6)
    ∷ ranged 8 h.view (limits h).view
    ∷ ranged 9 h.code (limits h).code
    ∷ ranged 10 h.accepted (limits h).accepted
    ∷ ranged 11 h.accepted_view (accepted_view_limits h)
    ∷ ranged 12 n (content_limits h)
    ∷ []

-- the second, and how many reads and writes follow: at most four of each, and one row at least
abbrev pub count_fields : ℕ → ℕ → List Field
count_fields r w =
    record { place = 13; width = 4; good = true }
    ∷ record { place = 17; width = 1; good = nat_le r 4 }
    ∷ record { place = 18; width = 1; good = nat_le w 4 && (nat_le 1 r || nat_le 1 w) }
    ∷ []

-- the key of the i-th row is none of the earlier ones
abbrev pub key_new : {X : Type 0} → Layout X → List X → ℕ → Bool
key_new l xs i = unlike (λ j. l.key (slice_index_or xs j l.blank)) (l.key (slice_index_or xs i l.blank)) i

-- the i-th of the rows that begin at base
abbrev pub row_fields : {X : Type 0} → Layout X → Timestamp → ℕ → List X → ℕ → List Field
row_fields l t base xs i =
    record { place = base + width l * i; width = 4; good = key_new l xs i }
    ∷ record { place = base + width l * i + 4; width = l.rest; good = l.lawful t (slice_index_or xs i l.blank) }
    ∷ []

abbrev pub table_fields : {X : Type 0} → Layout X → Timestamp → ℕ → List X → List Field
table_fields l t base xs = rows (row_fields l t base xs) (length xs)

-- the counts, the reads, the writes
abbrev pub content_fields : Timestamp → List Read → List Write → List Field
content_fields t rs ws =
    count_fields (length rs) (length ws) ++ (table_fields reading t 19 rs ++ table_fields writing t (19 + 9 * length rs) ws)

-- the fields of the content of transaction t
abbrev pub part_fields : ℕ → Option Part → List Field
part_fields t None = []
part_fields t (Some p) = content_fields (timestamp p.second t) p.reads p.writes

-- the fields of a message's frame
abbrev pub value_fields : Value → List Field
value_fields v = header_fields v.header (flag v.content) ++ part_fields v.header.transaction v.content
