use Rattle.std.proofs.Common.{◌≡◌, ◌+◌, true, false, ◌++◌, length, take, sym, ap, ◌∙◌, arith}
use Rattle.std.specs.Option.{is_some}
use Rattle.std.specs.Result.{is_ok}
use Rattle.std.proofs.lemmas.List.{length-append}
use Rattle.bounded.proofs.Room.{extended, not_extended}
use Rattle.layout.specs.Numbers.{laid}
use Rattle.layout.proofs.Length.{laid_next, laid_front}
use Rattle.layout.proofs.bytes.rows_bytes.Goals as goal

pub returns-in_err-ok : goal.returns-in_err-ok
returns-in_err-ok g c =
    let l = g.T.Row.layout in
    let rows = c.args.rows.now in
    let i = c.loop-row.row-index in
    let failed : is_ok c.extend.result ≡ false = sym c.ok.ensures.variant ∙ ap is_some c.in_err-ok.was in
    let over = not_extended g.row.N c.as_slice.result.now c.loop-row.bytes c.extend.new.self c.extend.result failed c.extend.ensures in
    let next = laid_next l rows i c.row-item.result c.loop-row-test.true c.row-item.is in
    let all = laid_front l g.met.T.Row.long rows (i + 1) (omega arith) in
    let a = length-append (laid l (take i rows)) (l.bytes c.row-item.result) in
    let b = ap length c.loop-row.invariant.0 in
    let d = ap length (c.as_slice.ensures.items ∙ c.bytes.ensures) in
    let n = ap length next in
    rw c.from_residual.ensures (omega arith)

pub loop-row-preserved : goal.loop-row-preserved
loop-row-preserved g c =
    let l = g.T.Row.layout in
    let rows = c.args.rows.now in
    let i = c.loop-row.row-index in
    let done : is_ok c.extend.result ≡ true = sym c.ok.ensures.variant ∙ ap is_some c.in_ok-ok.was in
    let more = extended g.row.N c.as_slice.result.now c.loop-row.bytes c.extend.new.self c.extend.result done c.extend.ensures in
    let n = ap length more.1 ∙ length-append c.loop-row.bytes c.as_slice.result.now in (
      more.1 ∙ (λ j. c.loop-row.invariant.0 j ++ (c.as_slice.ensures.items ∙ c.bytes.ensures) j) ∙ laid_next l rows i c.row-item.result c.loop-row-test.true c.row-item.is,
      omega (arith, more.0),
    )
