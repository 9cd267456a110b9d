use Rattle.std.proofs.Common.{◌+◌, ◌*◌, not, eqb, [], ◌∷◌, length, ◌∙◌}
use Rattle.std.specs.List.{list_any}
use Rattle.layout.proofs.Tables.{next_row}
use Rattle.layout.proofs.row.row_fields.Goals as goal

pub returns : goal.returns
returns g c rest =
    let b = c.args.base in
    let xs = c.args.earlier.now in
    let x = c.args.row.now in
    let law = g.met.T.Row in
    let key = c.key.ensures ∙ law.keyed x in
    let has = c.has_key.ensures ∙ (λ i. list_any (λ y. eqb (law.keyed y i) (key i)) xs) in
    let w = c.REST.ensures ∙ law.rest in
    let v = c.REST-2.ensures ∙ law.rest in
    (λ i.
    record { place = b + (4 + w i) * length xs; width = 4; good = not (has i) }
    ∷ record { place = b + (4 + w i) * length xs + 4; width = v i; good = c.is_lawful.ensures i }
    ∷ [])
    ∙ next_row g.T.Row.layout c.args.timestamp b xs x rest
